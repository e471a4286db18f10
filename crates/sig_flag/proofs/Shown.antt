-- What the words of sources show.
use Rattle.std.proofs.Common.{◌≡◌, ◌∙◌, ℕ, ◌+◌, ◌*◌, ◌/◌, ◌%◌, ◌==◌, List, length, Bool, true, false, Option, None, Some, sym, ap, subst, arith}
use Rattle.std.proofs.lemmas.Bool.Decides.{nat_tests}
use Rattle.std.proofs.lemmas.Nat.{or_shifted, or_block}
use Rattle.std.specs.Int.Bits.{bit_or, or_zero_r}
use mathlib.Core.Option as slot
use Rattle.sig_flag.specs.Turns.{IsTurn}
use Rattle.sig_flag.specs.Words.{word_of, is_held}
use Rattle.sig_hist.specs.Histories.{is_closed}
use Rattle.sig_hist.specs.Sources.{writers_of}
use Rattle.sig_hist.specs.declared.edits.Entry.{Entry}
use Rattle.sig_hist.specs.declared.plans.SourcePlan.{SourcePlan}

-- a word that shows this, whether or not it is held
pub record Shows (entries : ℕ) (all_left : Bool) (word : ℕ) : Type 0 where
  pub count : word / 4 ≡ entries
  pub closed : (word / 2 % 2 == 1) ≡ all_left

pub free_shows : (count : ℕ) (closed : Bool) → Shows count closed (word_of count closed)
free_shows count true = record { count = omega arith; closed = grind (arith, nat_tests) }
free_shows count false = record { count = omega arith; closed = grind (arith, nat_tests) }

pub held_shows : (count : ℕ) (closed : Bool) → Shows count closed (word_of count closed + 1)
held_shows count true = record { count = omega arith; closed = grind (arith, nat_tests) }
held_shows count false = record { count = omega arith; closed = grind (arith, nat_tests) }

-- a source's word shows its history, whoever has the turn
pub turn_shows : {V : Type 0} (plan_of : V → SourcePlan) (history_of : V → List Entry) (plan : SourcePlan) (history : List Entry) (held : Option ℕ) (word : ℕ) (home : slot.Option (Option V)) →
    IsTurn plan_of history_of plan history held word home → Shows (length history) (is_closed (writers_of plan.allow) history) word
turn_shows plan_of history_of plan history None word home turn = subst (Shows (length history) (is_closed (writers_of plan.allow) history)) (sym turn.0) (free_shows (length history) (is_closed (writers_of plan.allow) history))
turn_shows plan_of history_of plan history (Some number) word home turn = subst (Shows (length history) (is_closed (writers_of plan.allow) history)) (sym turn.0) (held_shows (length history) (is_closed (writers_of plan.allow) history))

-- ---- a word with its last bit set

or_even : (half word : ℕ) → word ≡ half * 2 → bit_or word 1 ≡ word + 1
or_even half word is = rw is (or_shifted half 1 1 (omega arith))

or_odd : (half word : ℕ) → word ≡ half * 2 + 1 → bit_or word 1 ≡ word
or_odd half word is = rw is (or_block 1 half 0 1 1 (omega arith) (omega arith) ∙ ap (λ (high : ℕ). high * 2 + 1) (or_zero_r half))

-- what comes of a word of which the last bit is set, and whether it was set before
pub record IsSet (word next : ℕ) (was_set : Bool) : Type 0 where
  pub after : bit_or word 1 ≡ next
  pub held : is_held word ≡ was_set

pub free_set : (count : ℕ) (closed : Bool) → IsSet (word_of count closed) (word_of count closed + 1) false
free_set count true = record { after = or_even (2 * count + 1) (word_of count true) (omega arith); held = grind (arith, nat_tests) }
free_set count false = record { after = or_even (2 * count) (word_of count false) (omega arith); held = grind (arith, nat_tests) }

pub held_set : (count : ℕ) (closed : Bool) → IsSet (word_of count closed + 1) (word_of count closed + 1) true
held_set count true = record { after = or_odd (2 * count + 1) (word_of count true + 1) (omega arith); held = grind (arith, nat_tests) }
held_set count false = record { after = or_odd (2 * count) (word_of count false + 1) (omega arith); held = grind (arith, nat_tests) }
