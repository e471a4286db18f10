-- Histories that go on from one another, and what a seat knows of them.
use Rattle.std.proofs.Common.{◌≡◌, ◌∙◌, ℕ, zero, suc, ◌≤◌, List, [], ◌∷◌, length, take, refl, sym, ap, arith}
use Rattle.std.proofs.lemmas.List.{length-take, take_all}
use Rattle.sig_flag.specs.Turns.{IsKnown}
use Rattle.sig_flag.specs.declared.accounts.Knowledge.{Knowledge}
use Rattle.sig_hist.specs.Histories.{IsFront, own_entries}
use Rattle.sig_hist.specs.declared.edits.Entry.{Entry}
use Rattle.sig_hist.specs.declared.plans.SourcePlan.{SourcePlan}

front_no_longer : (front history : List Entry) → IsFront front history → length front ≤ length history
front_no_longer front history is = omega (arith, ap length is, length-take (length front) history)

-- a front as long as the history is the history
pub whole_front : (front history : List Entry) → IsFront front history → length history ≡ length front → front ≡ history
whole_front front history is long = sym is ∙ take_all (length front) history (omega arith)

pub front_of_itself : (history : List Entry) → IsFront history history
front_of_itself history = take_all (length history) history (omega arith)

taken_twice : (n m : ℕ) (entries : List Entry) → n ≤ m → take n (take m entries) ≡ take n entries
taken_twice zero m entries few = refl
taken_twice (suc n) zero entries few = absurd (omega arith)
taken_twice (suc n) (suc m) [] few = refl
taken_twice (suc n) (suc m) (entry ∷ entries) few = ap (λ (rest : List Entry). entry ∷ rest) (taken_twice n m entries (omega arith))

pub front_of_longer : (front history longer : List Entry) → IsFront front history → IsFront history longer → IsFront front longer
front_of_longer front history longer is goes_on =
    let few = front_no_longer front history is in sym (taken_twice (length front) (length history) longer few) ∙ ap (take (length front)) goes_on ∙ is

-- what a seat knows of a source it knows of a history that goes on without entries of its own
pub still_known : (number : ℕ) (plan : SourcePlan) (history longer : List Entry) (knowledge : Knowledge) → IsKnown number plan history knowledge → IsFront history longer →
    own_entries number longer ≡ own_entries number history → IsKnown number plan longer knowledge
still_known number plan history longer knowledge known goes_on own =
    let few = front_no_longer history longer goes_on in
    record {
      of_plan = known.of_plan;
      front = front_of_longer knowledge.seen history longer known.front goes_on;
      seen = known.seen;
      count = omega (arith, known.count);
      own = known.own ∙ sym own;
    }
