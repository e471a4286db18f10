-- The first place of a name, as names are added, and what the name stands for among the first.
use Rattle.std.proofs.Common.{◌≡◌, ℕ, ◌+◌, zero, suc, List, [], ◌∷◌, ◌++◌, length, take, Bool, true, false, cond, nat_eq, Option, None, Some, option_map, Bor, refl, sym, ◌∙◌, arith, zero-add}
use Rattle.std.proofs.lemmas.Bool.Decides.{nat_tests}
use Rattle.std.proofs.lemmas.Map.Text.{btree_map_updates_str}
use Rattle.std.proofs.lemmas.Slice.Eq.{bytes_eq-Decides}
use Rattle.std.specs.BTreeMap.{BTreeMap, UpdatesBy, get_by}
use Rattle.std.specs.Cmp.Lexicographic.{pointwise, slice_cmp}
use Rattle.std.specs.List.{position_from}
use Rattle.std.specs.Option.{option_or, is_some}
use Rattle.std.specs.Ordering.{nat_cmp}
use Rattle.sig_script.specs.Names.{meaning}
use Rattle.sig_script.specs.NameTables.{FindsFirst, meaning_at, place_of}
use Rattle.sig_script.specs.declared.grammar.Meaning.{Meaning}

position-append : {A : Type 0} (test : A → Bool) (at : ℕ) (xs : List A) (x : A)
    → position_from test at (xs ++ x ∷ []) ≡ option_or (position_from test at xs) (cond (test x) (Some (at + length xs)) None)
position-append test at [] x = grind arith
position-append test at (y ∷ ys) x = grind (arith, position-append test (at + 1) ys x)

old_place : (found : Option ℕ) (same : Bool) (place : ℕ) → (same ≡ true → is_some found ≡ true) → option_or found (cond same (Some place) None) ≡ found
old_place (Some at) same place known = refl
old_place None true place known = absurd (cc (known refl))
old_place None false place known = refl

new_place : (found : Option ℕ) (same : Bool) (place : ℕ) → (same ≡ true → is_some found ≡ false) → option_or found (cond same (Some place) None) ≡ cond same (Some place) found
new_place None same place unknown = refl
new_place (Some at) true place unknown = absurd (cc (unknown refl))
new_place (Some at) false place unknown = refl

pub stays_first : (names : List (List ℕ × Meaning)) (places : BTreeMap (Bor (List ℕ)) ℕ) (name : List ℕ) (stands : Meaning)
    → FindsFirst names places → is_some (get_by (λ key. slice_cmp nat_cmp name key.now) places) ≡ true → FindsFirst (names ++ (name, stands) ∷ []) places
stays_first names places name stands finds known = record {
  first = λ q.
      finds.first q ∙ sym (position-append _ 0 names (name, stands) ∙ old_place _ _ _ (λ same. let e : name ≡ q = (bytes_eq-Decides name q).0 same in rw (← e, ← finds.first name) known));
}

pub comes_first : (names : List (List ℕ × Meaning)) (places grown : BTreeMap (Bor (List ℕ)) ℕ) (name : List ℕ) (stands : Meaning) (place : ℕ)
    → FindsFirst names places → is_some (get_by (λ key. slice_cmp nat_cmp name key.now) places) ≡ false → place ≡ length names
    → UpdatesBy (λ x y. slice_cmp nat_cmp x.now y.now) (λ key. slice_cmp nat_cmp name key.now) places grown (Some place)
    → FindsFirst (names ++ (name, stands) ∷ []) grown
comes_first names places grown name stands place finds unknown end updates = record {
  first = λ q.
      btree_map_updates_str name places grown _ updates q ∙ rw (finds.first q, position-append, zero-add, end)
      (sym (new_place _ _ _ (λ same. let e : name ≡ q = (bytes_eq-Decides name q).0 same in rw (← e, ← finds.first name) unknown)));
}

shifted : {A : Type 0} (test : A → Bool) (at : ℕ) (xs : List A) → position_from test (at + 1) xs ≡ option_map suc (position_from test at xs)
shifted test at [] = refl
shifted test at (x ∷ xs) = grind (arith, shifted test (at + 1) xs)

meaning_later : (count : ℕ) (named : List ℕ × Meaning) (names : List (List ℕ × Meaning)) (place : Option ℕ)
    → meaning_at (suc count) (named ∷ names) (option_map suc place) ≡ meaning_at count names place
meaning_later count named names None = refl
meaning_later count named names (Some place) = grind (arith, nat_tests)

meaning_first : (count : ℕ) (named : List ℕ × Meaning) (names : List (List ℕ × Meaning)) (same : Bool) (place : Option ℕ) (found : Option Meaning) → meaning_at count names place ≡ found
    → meaning_at (suc count) (named ∷ names) (cond same (Some 0) (option_map suc place)) ≡ cond same (Some named.1) found
meaning_first count named names true place found here = grind (arith, nat_tests)
meaning_first count named names false place found here = meaning_later count named names place ∙ here

meaning_never : (names : List (List ℕ × Meaning)) (place : Option ℕ) → meaning_at 0 names place ≡ None
meaning_never names None = refl
meaning_never names (Some place) = grind (arith, nat_tests)

pub meaning_placed : (count : ℕ) (names : List (List ℕ × Meaning)) (name : List ℕ) → meaning_at count names (place_of name names) ≡ meaning (take count names) name
meaning_placed zero names name = meaning_never names (place_of name names)
meaning_placed (suc count) [] name = refl
meaning_placed (suc count) (named ∷ names) name = rw (shifted (λ named. pointwise nat_eq named.0 name) 0 names) (meaning_first count named names _ _ _ (meaning_placed count names name))
