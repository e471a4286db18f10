-- The ready words are read one after another.
use Rattle.std.proofs.Common.{◌≡◌, ◌∙◌, ℕ, ◌+◌, ◌≤◌, ◌==◌, List, [], ◌∷◌, ◌++◌, length, Bool, false, sym, ap, arith}
use Rattle.std.proofs.lemmas.List.{length_push, get_or_push, get_or_append_left}
use mathlib.Core.Logic.{dite}
use mathlib.Core.Option.{some, some-injective}
use native.Mathlib.Decide.{ℕ_discrete}
use lib.ListN.{get_elem?}
use Rattle.sig_flag.specs.Closing.{AreReady}

-- so many are read, and there is room for the others
pub record AreReading (words : List ℕ) (first count : ℕ) (ready : List Bool) (room all : ℕ) : Type 0 where
  pub are : AreReady words first count ready
  pub enough : all ≤ room

pub no_reading : (words : List ℕ) (first : ℕ) (ready : List Bool) (room all : ℕ) → ready ≡ [] → all ≤ room → AreReading words first 0 ready room all
no_reading words first ready room all is enough = record { are = record { all = ap length is; each = λ k word few. absurd (omega arith) }; enough = enough }

pub one_reading_more : (words : List ℕ) (first count word : ℕ) (ready longer : List Bool) (room after all : ℕ) → AreReading words first count ready room all → get_elem? words (first + count) ≡ some word → longer ≡ ready ++ (word == 1) ∷ [] → after ≡ room →
    AreReading words first (count + 1) longer after all
one_reading_more words first count word ready longer room after all is read longer_is same = record {
  are = record {
    all = ap length longer_is ∙ length_push ready (word == 1) ∙ ap (λ (n : ℕ). n + 1) is.are.all;
    each = λ k other few found. rw longer_is (dite (ℕ_discrete k count)
        (λ here. get_or_push ready (word == 1) false k (is.are.all ∙ sym here) ∙ ap (λ (w : ℕ). w == 1) (some-injective word other (sym read ∙ ap (λ (n : ℕ). get_elem? words (first + n)) (sym here) ∙ found)))
        (λ before. get_or_append_left ready ((word == 1) ∷ []) false k (omega (arith, is.are.all)) ∙ is.are.each k other (omega arith) found));
  };
  enough = omega (arith, is.enough);
}
