-- How a source grows: its states are states of what it becomes, and ways along it are ways along that.
use Rattle.std.proofs.Common.{◌≡◌, ◌∙◌, ℕ, ◌≤◌, List, [], ◌∷◌, length, take, drop, refl, sym, ap, arith, le_trans, suc, slice_index}
use Rattle.std.proofs.Math.Seq.{take-length}
use Rattle.sig_hist.proofs.Ways.{front_on, front_shorter, same_start, within_each}
use Rattle.sig_hist.specs.Sources.{Source}
use Rattle.sig_hist.specs.Ways.{AllGrow, AreWithin, Grows, contents_at, state_at}
use Rattle.sig_rows.proofs.Along.{AreAlike}

pub grows_not : (source : Source) → Grows source source
grows_not source = record { plan = refl; front = take-length source.history; closed = λ closed. refl }

pub grows_on : (source later last : Source) → Grows source later → Grows later last → Grows source last
grows_on source later last first second = record {
  plan = second.plan ∙ first.plan;
  front = front_on source.history later.history last.history first.front second.front;
  closed = λ closed. second.closed (rw (first.plan, first.closed closed) closed) ∙ first.closed closed;
}

pub grows_longer : (source later : Source) → Grows source later → length source.history ≤ length later.history
grows_longer source later grows = front_shorter source.history later.history grows.front

-- the front of the later history is that of the one before
same_front : (source later : Source) (position : ℕ) → Grows source later → position ≤ length source.history → take position later.history ≡ take position source.history
same_front source later position grows within = same_start position source.history later.history within grows.front

pub same_state : (source later : Source) (position : ℕ) → Grows source later → position ≤ length source.history → state_at source position ≡ state_at later position
same_state source later position grows within = rw (grows.plan, same_front source later position grows within) refl

-- the same is passed of both
pub alike_ways : (source later : Source) (from to : ℕ) → Grows source later → from ≤ to → to ≤ length source.history →
    AreAlike (record { source = source; from = from; to = to }) (record { source = later; from = from; to = to })
alike_ways source later from to grows ahead within = record {
  cap = ap (λ plan. plan.cap) (sym grows.plan);
  before = same_state source later from grows (omega arith);
  behind = same_state source later to grows within;
  passed = ap (drop from) (sym (same_front source later to grows within));
}

-- ---- the sources of all leaves

-- no position is past the end of what a source has become
pub still_within : (sources later : List Source) → AllGrow sources later → (at : List ℕ) → AreWithin sources at → AreWithin later at
still_within [] [] grow at within = within
still_within [] (next ∷ later) grow at within = absurd (omega (arith, grow.count))
still_within (source ∷ sources) [] grow at within = absurd (omega (arith, grow.count))
still_within (source ∷ sources) (next ∷ later) grow [] within = within
still_within (source ∷ sources) (next ∷ later) grow (position ∷ at) within = (
  le_trans within.0 (grows_longer source next (grow.each 0)),
  still_within sources later (record { count = omega (arith, grow.count); each = λ leaf. grow.each (suc leaf) }) at within.1,
)

-- the leaves hold what they held
pub same_contents : (sources later : List Source) → AllGrow sources later → (at : List ℕ) → AreWithin sources at → contents_at sources at ≡ contents_at later at
same_contents sources later grow at within = λ i leaf. same_state _ _ (slice_index at leaf) (grow.each leaf) (within_each sources at within leaf) i
