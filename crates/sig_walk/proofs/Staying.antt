-- What a port has seen stays: after looks and fetches the leaves stand where they stood, and hold what they held.
use Rattle.std.proofs.Common.{◌≡◌, ◌∙◌, ℕ, zero, suc, ◌+◌, ◌<◌, ◌≤◌, List, [], ◌∷◌, ◌++◌, length, take, drop, get_or, refl, sym, ap, arith, le_trans}
use Rattle.std.proofs.lemmas.List.{take-append-drop, drop-append-le}
use Rattle.sig_hist.proofs.Ways.{front_on, front_shorter, same_start}
use Rattle.sig_hist.specs.Changes.{IsInOrder}
use Rattle.sig_hist.specs.Plain.{no_source}
use Rattle.sig_hist.specs.Ports.{GoesOn, IsSoundPort, PortState}
use Rattle.sig_hist.specs.declared.edits.Entry.{Entry}
use Rattle.sig_hist.specs.Ways.{state_at, AreWithin, contents_at, leaf_source}
use Rattle.sig_walk.specs.Walking.{HasLooked, met_since, seen_source, seen_sources}

-- ---- one source

module _ (s t u : PortState) (source : ℕ) where
  pub goes_on_later : GoesOn s source (t.seen source) (t.count source) → t.plan ≡ s.plan → GoesOn t source (u.seen source) (u.count source) → GoesOn s source (u.seen source) (u.count source)
  goes_on_later first same second = record {
    front = front_on (s.seen source) (t.seen source) (u.seen source) first.front second.front;
    known = le_trans first.known second.known;
    closed = λ closed. second.closed (rw (same, first.closed closed) closed) ∙ first.closed closed;
  }

pub seen_no_less : (s : PortState) (source : ℕ) (history : List Entry) (count : ℕ) → GoesOn s source history count → length (s.seen source) ≤ length history
seen_no_less s source history count goes = front_shorter (s.seen source) history goes.front

-- ---- all leaves

-- the source at the number of a leaf
pub source_of_leaf : (s : PortState) (first count leaf : ℕ) → leaf < count → get_or (seen_sources s first count) leaf no_source ≡ seen_source s (first + leaf)
source_of_leaf s first zero leaf below = absurd (omega (arith, below))
source_of_leaf s first (suc count) zero below = ap (seen_source s) (omega arith)
source_of_leaf s first (suc count) (suc leaf) below = source_of_leaf s (first + 1) count leaf (omega (arith, below)) ∙ ap (seen_source s) (omega arith)

-- the map that a sound port's source starts with, if it is one, is in order
pub seen_in_order : (s : PortState) → IsSoundPort s → (first count leaf : ℕ) → IsInOrder (leaf_source (seen_sources s first count) leaf).plan.start
seen_in_order s sound first zero leaf = tt
seen_in_order s sound first (suc count) zero = (sound (s.source first)).of_plan.in_order
seen_in_order s sound first (suc count) (suc leaf) = seen_in_order s sound (first + 1) count leaf

module _ (s t : PortState) (looked : HasLooked s t) where
  pub same_plan : (leaf : ℕ) → (seen_source t leaf).plan ≡ (seen_source s leaf).plan
  same_plan leaf = rw (looked.plan, looked.source) refl

  pub longer : (leaf : ℕ) → length (seen_source s leaf).history ≤ length (seen_source t leaf).history
  longer leaf = rw looked.source (seen_no_less s (s.source leaf) (t.seen (s.source leaf)) (t.count (s.source leaf)) (looked.seen (s.source leaf)))

  pub same_entries : (leaf position : ℕ) → position ≤ length (seen_source s leaf).history → take position (seen_source t leaf).history ≡ take position (seen_source s leaf).history
  same_entries leaf position within = rw looked.source (same_start position (s.seen (s.source leaf)) (t.seen (s.source leaf)) within (looked.seen (s.source leaf)).front)

  pub same_state : (leaf position : ℕ) → position ≤ length (seen_source s leaf).history → state_at (seen_source t leaf) position ≡ state_at (seen_source s leaf) position
  same_state leaf position within = rw (same_plan leaf, same_entries leaf position within) refl

  pub still_within : (first count : ℕ) (positions : List ℕ) → AreWithin (seen_sources s first count) positions → AreWithin (seen_sources t first count) positions
  still_within first zero [] within = tt
  still_within first (suc count) (position ∷ positions) within = (le_trans within.0 (longer first), still_within (first + 1) count positions within.1)
  still_within first zero (position ∷ positions) within = within
  still_within first (suc count) [] within = within

  held_at : (first count : ℕ) (positions : List ℕ) → AreWithin (seen_sources s first count) positions → (leaf : ℕ) →
      contents_at (seen_sources t first count) positions leaf ≡ contents_at (seen_sources s first count) positions leaf
  held_at first zero positions within leaf = refl
  held_at first (suc count) [] within leaf = absurd within
  held_at first (suc count) (position ∷ positions) within zero = same_state first position within.0
  held_at first (suc count) (position ∷ positions) within (suc leaf) = held_at (first + 1) count positions within.1 leaf

  -- the leaves hold what they held
  pub same_contents : (first count : ℕ) (positions : List ℕ) → AreWithin (seen_sources s first count) positions →
      contents_at (seen_sources t first count) positions ≡ contents_at (seen_sources s first count) positions
  same_contents first count positions within = λ i leaf. held_at first count positions within leaf i

-- ---- looks after looks

pub met_on : (s t u : PortState) → take (length s.met) t.met ≡ s.met → take (length t.met) u.met ≡ t.met → met_since s u ≡ met_since s t ++ met_since t u
met_on s t u first second =
    let parts : u.met ≡ t.met ++ drop (length t.met) u.met = rw second at (sym (take-append-drop (length t.met) u.met)) in
    ap (drop (length s.met)) parts ∙ drop-append-le (length s.met) t.met (met_since t u) (front_shorter s.met t.met first)

pub looked_again : (s t u : PortState) → HasLooked s t → HasLooked t u → HasLooked s u
looked_again s t u first second = record {
  is_own = second.is_own ∙ first.is_own;
  source = second.source ∙ first.source;
  task = second.task ∙ first.task;
  plan = second.plan ∙ first.plan;
  arms = second.arms ∙ first.arms;
  tokens = second.tokens ∙ first.tokens;
  missed = second.missed ∙ first.missed;
  seen = λ source. goes_on_later s t u source (first.seen source) first.plan (second.seen source);
  met = front_on s.met t.met u.met first.met second.met;
  rings = λ leaf. second.rings leaf ∙ first.rings leaf;
  waits = λ leaf version waits. second.waits leaf version (first.waits leaf version waits);
}
