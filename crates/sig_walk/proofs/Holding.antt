-- What leaves held before a walk they hold after it, at the positions where they stood.
use Rattle.std.proofs.Common.{◌≡◌, ℕ, length, refl}
use Rattle.sig_hist.specs.Ports.{PortState}
use Rattle.sig_walk.proofs.Composing.{goes_ahead}
use Rattle.sig_walk.proofs.Staying.{same_contents}
use Rattle.sig_hist.specs.Ways.{GoesAhead, GoOn, contents_at, ways}
use Rattle.sig_walk.specs.Walking.{CanWalk, HasGone, Progress, seen_sources, sources_in}

module _ (s t : PortState) (old new : Progress) (can : CanWalk s old) (gone : HasGone s t old new) where
  -- the sources are those of the leaves that set out
  pub same_sources : sources_in t new ≡ seen_sources t old.first (length old.positions)
  same_sources = rw (gone.first, gone.leaves) refl

  -- the leaves held then what they held at the same positions
  pub held_before : contents_at (sources_in t new) old.positions ≡ contents_at (sources_in s old) old.positions
  held_before = rw same_sources (same_contents s t gone.looked old.first (length old.positions) old.positions can.within)

  pub never_back : GoOn old.positions new.positions → (leaf : ℕ) → GoesAhead (ways (sources_in t new) old.positions new.positions leaf)
  never_back = goes_ahead t new.first (length new.positions) gone.can.sound old.positions new.positions
