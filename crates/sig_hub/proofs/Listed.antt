-- The numbers of those that are true, as they are listed one after another.
use Rattle.std.proofs.Common.{◌≡◌, ◌∙◌, ℕ, zero, suc, ◌+◌, ◌<◌, ◌≤◌, ◌==◌, List, [], ◌∷◌, ◌++◌, length, drop, cond, get_or, Bool, true, false, ◌||◌, All, refl, sym, ap, eq-eqb, ne_eqb, append_assoc, arith}
use Rattle.std.proofs.Math.Seq.{drop-cons}
use Rattle.std.proofs.lemmas.List.{append-nil, drop_all, length_push}
use Rattle.std.proofs.lemmas.List.Elements.{All-nil, All-cons, All-weaker}
use Rattle.std.proofs.lemmas.List.Folds.{list_any_none}
use Rattle.sig_hist.specs.Sources.{is_among}
use Rattle.sig_hub.specs.Ends.{Rises, listed}

-- so many were asked, and there is room for the others
pub record IsListing (flags : List Bool) (place : ℕ) (told : List ℕ) (room : ℕ) : Type 0 where
  pub parts : told ++ listed (drop place flags) place ≡ listed flags 0
  pub few : length told ≤ place
  pub enough : length flags ≤ room

pub none_listed : (flags : List Bool) (told : List ℕ) (room : ℕ) → told ≡ [] → length flags ≤ room → IsListing flags 0 told room
none_listed flags told room none enough = record { parts = ap (λ (front : List ℕ). front ++ listed flags 0) none; few = let empty : length told ≡ 0 = ap length none in omega (arith, empty); enough = enough }

from_here : (flags : List Bool) (place : ℕ) → place < length flags → listed (drop place flags) place ≡ cond (get_or flags place false) (place ∷ listed (drop (place + 1) flags) (place + 1)) (listed (drop (place + 1) flags) (place + 1))
from_here flags place more =
    let next : suc place ≡ place + 1 = omega arith in
    ap (λ (rest : List Bool). listed rest place) (drop-cons flags place false more)
    ∙ ap (λ (k : ℕ). cond (get_or flags place false) (place ∷ listed (drop k flags) k) (listed (drop k flags) k)) next

module _ (flags : List Bool) (place : ℕ) (told : List ℕ) (room : ℕ) (is : IsListing flags place told room) (more : place < length flags) where
  pub one_listed : (after : List ℕ) (same : ℕ) → get_or flags place false ≡ true → after ≡ told ++ place ∷ [] → same ≡ room → IsListing flags (place + 1) after same
  one_listed after same was pushed kept =
      let rest : List ℕ = listed (drop (place + 1) flags) (place + 1) in
      record {
        parts = ap (λ (front : List ℕ). front ++ rest) pushed ∙ append_assoc told (place ∷ []) rest ∙ ap (λ (back : List ℕ). told ++ back) (sym (from_here flags place more ∙ ap (λ (b : Bool). cond b (place ∷ rest) rest) was)) ∙ is.parts;
        few = let longer : length after ≡ length told + 1 = ap length pushed ∙ length_push told place in omega (arith, longer, is.few);
        enough = omega (arith, is.enough, kept);
      }

  pub none_here : get_or flags place false ≡ false → IsListing flags (place + 1) told room
  none_here isnt =
      let rest : List ℕ = listed (drop (place + 1) flags) (place + 1) in
      record {
        parts = ap (λ (back : List ℕ). told ++ back) (sym (from_here flags place more ∙ ap (λ (b : Bool). cond b (place ∷ rest) rest) isnt)) ∙ is.parts;
        few = omega (arith, is.few);
        enough = is.enough;
      }

pub all_listed : (flags : List Bool) (place : ℕ) (told : List ℕ) (room : ℕ) → IsListing flags place told room → length flags ≤ place → told ≡ listed flags 0
all_listed flags place told room is past = sym (ap (λ (rest : List Bool). told ++ listed rest place) (drop_all place flags past) ∙ append-nil told) ∙ is.parts

-- ---- what such a list is

above : (flags : List Bool) (first : ℕ) → All (λ k. first ≤ k) (listed flags first)
above [] first = All-nil (λ k. first ≤ k)
above (true ∷ flags) first = All-cons (λ k. first ≤ k) first (listed flags (suc first)) (omega arith) (All-weaker (λ k. suc first ≤ k) (λ k. first ≤ k) (λ k over. omega (arith, over)) (listed flags (suc first)) (above flags (suc first)))
above (false ∷ flags) first = All-weaker (λ k. suc first ≤ k) (λ k. first ≤ k) (λ k over. omega (arith, over)) (listed flags (suc first)) (above flags (suc first))

pub listed_rises : (flags : List Bool) (first : ℕ) → Rises (listed flags first)
listed_rises [] first = tt
listed_rises (true ∷ flags) first = (All-weaker (λ k. suc first ≤ k) (λ k. first < k) (λ k over. omega (arith, over)) (listed flags (suc first)) (above flags (suc first)), listed_rises flags (suc first))
listed_rises (false ∷ flags) first = listed_rises flags (suc first)

pub listed_within : (flags : List Bool) (first : ℕ) → All (λ k. k < first + length flags) (listed flags first)
listed_within [] first = All-nil (λ k. k < first + 0)
listed_within (is ∷ flags) first =
    let others : All (λ k. k < first + suc (length flags)) (listed flags (suc first)) =
    All-weaker (λ k. k < suc first + length flags) (λ k. k < first + suc (length flags)) (λ k under. omega (arith, under)) (listed flags (suc first)) (listed_within flags (suc first)) in
    elim is as (λ (b : Bool). All (λ k. k < first + suc (length flags)) (cond b (first ∷ listed flags (suc first)) (listed flags (suc first)))) [
      | true ↦ All-cons (λ k. k < first + suc (length flags)) first (listed flags (suc first)) (omega arith) others
      | false ↦ others
    ]

missing : (flags : List Bool) (first k : ℕ) → k < first → is_among k (listed flags first) ≡ false
missing flags first k under = list_any_none (λ (one : ℕ). one == k) (listed flags first) (λ at d within. let over = above flags first at d within in ne_eqb _ k (λ same. absurd (omega (arith, over))))

pub listed_each : (flags : List Bool) (first k : ℕ) → is_among (first + k) (listed flags first) ≡ get_or flags k false
listed_each [] first k = refl
listed_each (true ∷ flags) first zero = ap (λ (b : Bool). b || is_among (first + 0) (listed flags (suc first))) (let same : first ≡ first + 0 = omega arith in eq-eqb first (first + 0) same)
listed_each (false ∷ flags) first zero = missing flags (suc first) (first + 0) (omega arith)
listed_each (true ∷ flags) first (suc k) =
    let next : first + suc k ≡ suc first + k = omega arith in
    ap (λ (b : Bool). b || is_among (first + suc k) (listed flags (suc first))) (ne_eqb first (first + suc k) (λ same. absurd (omega (arith, same)))) ∙ ap (λ (n : ℕ). is_among n (listed flags (suc first))) next ∙ listed_each flags (suc first) k
listed_each (false ∷ flags) first (suc k) = let next : first + suc k ≡ suc first + k = omega arith in ap (λ (n : ℕ). is_among n (listed flags (suc first))) next ∙ listed_each flags (suc first) k
