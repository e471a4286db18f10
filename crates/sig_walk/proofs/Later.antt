-- What leaves hold stays as their port sees more.
use Rattle.std.proofs.Common.{◌≡◌, ◌∙◌, ℕ, zero, suc, ◌+◌, List, refl, ap}
use Rattle.std.proofs.Math.Seq.{take-length}
use Rattle.sig_hist.specs.Ports.{PortState}
use Rattle.sig_walk.proofs.Staying.{same_contents, still_within}
use Rattle.sig_hist.specs.Ways.{AreWithin, contents_at}
use Rattle.sig_walk.specs.Walking.{HasSeenMore, HasLooked, seen_sources}

module _ (s t : PortState) (more : HasSeenMore s t) where
  -- the first moment with what was seen by the second
  abbrev ahead : PortState
  ahead = record s { seen = t.seen; count = t.count }

  looks_ahead : HasLooked s ahead
  looks_ahead = record {
    is_own = refl;
    source = refl;
    task = refl;
    plan = refl;
    arms = refl;
    tokens = refl;
    missed = refl;
    seen = more.seen;
    met = take-length s.met;
    rings = λ leaf. refl;
    waits = λ leaf version waits. waits;
  }

  same_sources : (first count : ℕ) → seen_sources t first count ≡ seen_sources ahead first count
  same_sources first zero = refl
  same_sources first (suc count) = rw (more.plan, more.source, same_sources (first + 1) count) refl

  pub later_within : (first count : ℕ) (positions : List ℕ) → AreWithin (seen_sources s first count) positions → AreWithin (seen_sources t first count) positions
  later_within first count positions within = rw (same_sources first count) (still_within s ahead looks_ahead first count positions within)

  -- what the leaves hold stays
  pub later_contents : (first count : ℕ) (positions : List ℕ) → AreWithin (seen_sources s first count) positions → contents_at (seen_sources t first count) positions ≡ contents_at (seen_sources s first count) positions
  later_contents first count positions within =
      ap (λ sources. contents_at sources positions) (same_sources first count) ∙ same_contents s ahead looks_ahead first count positions within
