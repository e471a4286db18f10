-- What passes a test after an edit of a list, and where it stands among what passes.
use Rattle.std.proofs.Common.{◌≡◌, ◌∙◌, ℕ, zero, suc, ◌+◌, ◌-◌, ◌<◌, ◌≤◌, List, [], ◌∷◌, length, take, drop, insert, remove, filter, slice_get, slice_set, Bool, true, false, cond, if◌then◌else◌, Option, None, Some, refl, sym, ap, add-one, zero-add, arith}
use Rattle.std.proofs.lemmas.List.{append-nil, length-take, take_all, drop_all}
use Rattle.std.proofs.lemmas.List.Sums.{sum_by-cons, sum_by-take-le, count_by-le-length, length-filter}
use Rattle.sig_diff.proofs.Rotated.{inserted_behind}
use Rattle.sig_diff.specs.Differences.{moved, inserted}
use Rattle.sig_diff.specs.Passing.{passes_at, passing_before}

-- ---- an edit behind a first element

-- the edit leaves a first element where it is
abbrev Steps : {T : Type 0} → (List T → ℕ → List T) → Type 0
Steps {T} edit = (y : T) (ys : List T) (index : ℕ) → edit (y ∷ ys) (suc index) ≡ y ∷ edit ys index

steps_behind : {T : Type 0} (edit : List T → ℕ → List T) → Steps edit → (passes : Bool) (y : T) (ys : List T) (index : ℕ) →
    cond passes (y ∷ edit ys index) (edit ys index) ≡ edit (cond passes (y ∷ ys) ys) (cond passes 1 0 + index)
steps_behind edit steps true y ys index =
    let next : 1 + index ≡ suc index = omega arith in
    rw next (sym (steps y ys index))
steps_behind edit steps false y ys index = rw (zero-add index) refl

module _ {T : Type 0} (test : T → Bool) where
  passing_before_next : (y : T) (xs : List T) (index : ℕ) → passing_before test (y ∷ xs) (suc index) ≡ cond (test y) 1 0 + passing_before test xs index
  passing_before_next y xs index = sum_by-cons (λ x. cond (test x) 1 0) y (take index xs)

  -- what is seen of an edit goes on with one more element before the list
  passing_behind : (edit seen : List T → ℕ → List T) → Steps edit → Steps seen → (y : T) (xs : List T) (index : ℕ) →
      filter test (edit xs index) ≡ seen (filter test xs) (passing_before test xs index) →
      filter test (edit (y ∷ xs) (suc index)) ≡ seen (filter test (y ∷ xs)) (passing_before test (y ∷ xs) (suc index))
  passing_behind edit seen edit_steps seen_steps y xs index is =
      rw (edit_steps y xs index, passing_before_next y xs index, is)
      (steps_behind seen seen_steps (test y) y (filter test xs) (passing_before test xs index))

-- ---- an element comes in

insert_steps : {T : Type 0} (x : T) (comes : Bool) → Steps (λ ys index. if comes then insert ys index x else ys)
insert_steps x true y ys index = refl
insert_steps x false y ys index = refl

-- what passes with one more element in the list, by whether it passes
pub filter_insert : {T : Type 0} (test : T → Bool) (xs : List T) (index : ℕ) (x : T) →
    filter test (insert xs index x) ≡ (if test x then insert (filter test xs) (passing_before test xs index) x else filter test xs)
filter_insert test xs zero x = refl
filter_insert test [] (suc index) x = refl
filter_insert test (y ∷ xs) (suc index) x =
    passing_behind test (λ ys k. insert ys k x) (λ ys k. if test x then insert ys k x else ys) (λ y ys k. refl) (insert_steps x (test x)) y xs index (filter_insert test xs index x)

-- ---- an element goes

remove_steps : {T : Type 0} (passes : Bool) → Steps {T = T} (λ ys index. if passes then remove ys index else ys)
remove_steps true y ys index = refl
remove_steps false y ys index = refl

remove_first : {T : Type 0} (passes : Bool) (y : T) (ys : List T) → ys ≡ (if passes then remove (cond passes (y ∷ ys) ys) 0 else cond passes (y ∷ ys) ys)
remove_first true y ys = refl
remove_first false y ys = refl

remove_at : {T : Type 0} (test : T → Bool) (xs : List T) (index : ℕ) →
    filter test (remove xs index) ≡ (if passes_at test xs index then remove (filter test xs) (passing_before test xs index) else filter test xs)
remove_at test [] zero = refl
remove_at test [] (suc index) = refl
remove_at test (y ∷ xs) zero = remove_first (test y) y (filter test xs)
remove_at test (y ∷ xs) (suc index) =
    passing_behind test remove (λ ys k. if passes_at test xs index then remove ys k else ys) (λ y ys k. refl) (remove_steps (passes_at test xs index)) y xs index (remove_at test xs index)

-- what passes with one element less in the list, by whether it passes
pub filter_remove : {T : Type 0} (test : T → Bool) (xs : List T) (index : ℕ) (passes : Bool) → passes_at test xs index ≡ passes →
    filter test (remove xs index) ≡ (if passes then remove (filter test xs) (passing_before test xs index) else filter test xs)
filter_remove test xs index passes is = rw (← is) (remove_at test xs index)

-- ---- an element takes the place of another

-- a list after its element at the place, where it has one there, became x, where that comes in
abbrev exchanged : {T : Type 0} → Bool → Bool → List T → ℕ → T → List T
exchanged passes comes ys place x = if passes then (if comes then slice_set ys place x else remove ys place) else (if comes then insert ys place x else ys)

exchange_steps : {T : Type 0} (passes comes : Bool) (x : T) → Steps (λ ys index. exchanged passes comes ys index x)
exchange_steps true true x y ys index = refl
exchange_steps true false x y ys index = refl
exchange_steps false true x y ys index = refl
exchange_steps false false x y ys index = refl

exchange_first : {T : Type 0} (passes comes : Bool) (x y : T) (ys : List T) → cond comes (x ∷ ys) ys ≡ exchanged passes comes (cond passes (y ∷ ys) ys) 0 x
exchange_first true true x y ys = refl
exchange_first true false x y ys = refl
exchange_first false true x y ys = refl
exchange_first false false x y ys = refl

exchange_at : {T : Type 0} (test : T → Bool) (xs : List T) (index : ℕ) (x : T) → index < length xs →
    filter test (slice_set xs index x) ≡ exchanged (passes_at test xs index) (test x) (filter test xs) (passing_before test xs index) x
exchange_at test [] index x within = absurd (omega (arith, within))
exchange_at test (y ∷ xs) zero x within = exchange_first (test y) (test x) x y (filter test xs)
exchange_at test (y ∷ xs) (suc index) x within =
    passing_behind test (λ ys k. slice_set ys k x) (λ ys k. exchanged (passes_at test xs index) (test x) ys k x) (λ y ys k. refl) (exchange_steps (passes_at test xs index) (test x) x) y xs index
    (exchange_at test xs index x (omega arith))

-- what passes with one element changed, by whether the old one and the new one pass
pub filter_slice_set : {T : Type 0} (test : T → Bool) (xs : List T) (index : ℕ) (x : T) (passes comes : Bool) → passes_at test xs index ≡ passes → test x ≡ comes → index < length xs →
    filter test (slice_set xs index x) ≡ (if passes
    then (if comes then slice_set (filter test xs) (passing_before test xs index) x else remove (filter test xs) (passing_before test xs index))
    else (if comes then insert (filter test xs) (passing_before test xs index) x else filter test xs))
filter_slice_set test xs index x passes comes old new within = rw (← old, ← new) (exchange_at test xs index x within)

-- ---- where an element stands among what passes

-- no more pass before a place than there are places before it
pub passing_before_at_most_index : {T : Type 0} (test : T → Bool) (xs : List T) (index : ℕ) → passing_before test xs index ≤ index
passing_before_at_most_index test xs index = omega (arith, count_by-le-length test (take index xs), length-take index xs)

-- as many pass before the end as pass in all
pub passing_before_all : {T : Type 0} (test : T → Bool) (xs : List T) (index : ℕ) → length xs ≤ index → passing_before test xs index ≡ length (filter test xs)
passing_before_all test xs index past = rw (take_all index xs past) (sym (length-filter test xs))

-- no more pass before a place than pass in all
pub passing_before_at_most_length : {T : Type 0} (test : T → Bool) (xs : List T) (index : ℕ) → passing_before test xs index ≤ length (filter test xs)
passing_before_at_most_length test xs index = rw (length-filter test xs) (sum_by-take-le (λ x. cond (test x) 1 0) xs index)

step_at : {T : Type 0} (test : T → Bool) (xs : List T) (index : ℕ) → passing_before test xs (suc index) ≡ passing_before test xs index + cond (passes_at test xs index) 1 0
step_at test [] zero = refl
step_at test [] (suc index) = refl
step_at test (y ∷ xs) zero = refl
step_at test (y ∷ xs) (suc index) =
    rw (passing_before_next test y xs (suc index), passing_before_next test y xs index, step_at test xs index) (omega arith)

-- one more passes before the next place, where the element at the place passes
pub passing_before_more : {T : Type 0} (test : T → Bool) (xs : List T) (index : ℕ) (passes : Bool) → passes_at test xs index ≡ passes →
    passing_before test xs (index + 1) ≡ passing_before test xs index + (if passes then 1 else 0)
passing_before_more test xs index passes is = rw (add-one, ← is) (step_at test xs index)

get_first : {T : Type 0} (passes : Bool) (y : T) (ys : List T) → passes ≡ true → slice_get (cond passes (y ∷ ys) ys) 0 ≡ Some y
get_first true y ys is = refl
get_first false y ys is = cc

get_behind : {T : Type 0} (passes : Bool) (y : T) (ys : List T) (index : ℕ) → slice_get (cond passes (y ∷ ys) ys) (cond passes 1 0 + index) ≡ slice_get ys index
get_behind true y ys index = let next : 1 + index ≡ suc index = omega arith in rw next refl
get_behind false y ys index = rw (zero-add index) refl

-- an element that passes stands among those that pass, behind those that pass before it
pub slice_get_filter : {T : Type 0} (test : T → Bool) (xs : List T) (index : ℕ) → passes_at test xs index ≡ true →
    slice_get (filter test xs) (passing_before test xs index) ≡ slice_get xs index
slice_get_filter test [] index is = cc
slice_get_filter test (y ∷ xs) zero is = get_first (test y) y (filter test xs) is
slice_get_filter test (y ∷ xs) (suc index) is =
    rw (passing_before_next test y xs index) (get_behind (test y) y (filter test xs) (passing_before test xs index) ∙ slice_get_filter test xs index is)

-- and so more pass in all than before it
pub passing_before_below_length : {T : Type 0} (test : T → Bool) (xs : List T) (index : ℕ) → passes_at test xs index ≡ true → passing_before test xs index < length (filter test xs)
passing_before_below_length test xs index is = omega (arith, passing_before_more test xs index true is, passing_before_at_most_length test xs (index + 1))

-- ---- an element moves

-- to move an element to its own place changes nothing
pub moved_in_place : {T : Type 0} (xs : List T) (index : ℕ) → moved xs index index ≡ xs
moved_in_place [] zero = refl
moved_in_place [] (suc index) = refl
moved_in_place (y ∷ xs) zero = refl
moved_in_place (y ∷ xs) (suc index) = inserted_behind y (remove xs index) index (slice_get xs index) ∙ ap (λ ys. y ∷ ys) (moved_in_place xs index)

moved_passing : {T : Type 0} (test : T → Bool) (xs : List T) (old_index new_index : ℕ) (item : Option T) → slice_get xs old_index ≡ item → passes_at test xs old_index ≡ true →
    filter test (inserted (remove xs old_index) new_index item) ≡ inserted (remove (filter test xs) (passing_before test xs old_index)) (passing_before test (remove xs old_index) new_index) item
moved_passing test xs old_index new_index None found is =
    let none : false ≡ true = rw found at is in
    cc
moved_passing test xs old_index new_index (Some x) found is =
    let comes : test x ≡ true = rw found at is in
    rw (filter_insert test (remove xs old_index) new_index x, comes, filter_remove test xs old_index true is) refl

moved_hidden : {T : Type 0} (test : T → Bool) (xs : List T) (old_index new_index : ℕ) (item : Option T) → slice_get xs old_index ≡ item → passes_at test xs old_index ≡ false →
    filter test (inserted (remove xs old_index) new_index item) ≡ filter test xs
moved_hidden test xs old_index new_index None found is = filter_remove test xs old_index false is
moved_hidden test xs old_index new_index (Some x) found is =
    let hidden : test x ≡ false = rw found at is in
    rw (filter_insert test (remove xs old_index) new_index x, hidden, filter_remove test xs old_index false is) refl

-- what passes with one element moved, by whether that passes
pub filter_moved : {T : Type 0} (test : T → Bool) (xs : List T) (old_index new_index : ℕ) (passes : Bool) → passes_at test xs old_index ≡ passes →
    filter test (moved xs old_index new_index) ≡ (if passes
    then moved (filter test xs) (passing_before test xs old_index) (passing_before test (remove xs old_index) new_index)
    else filter test xs)
filter_moved test xs old_index new_index true is =
    rw (slice_get_filter test xs old_index is) (moved_passing test xs old_index new_index (slice_get xs old_index) refl is)
filter_moved test xs old_index new_index false is = moved_hidden test xs old_index new_index (slice_get xs old_index) refl is

-- ---- the last element goes

-- to take the last element out is to keep those before it
pub remove_last : {T : Type 0} (xs : List T) → remove xs (length xs - 1) ≡ take (length xs - 1) xs
remove_last xs =
    let none : drop (suc (length xs - 1)) xs ≡ [] = drop_all (suc (length xs - 1)) xs (omega arith) in
    rw (none, append-nil) refl

last_passing : {T : Type 0} (test : T → Bool) (xs : List T) → passes_at test xs (length xs - 1) ≡ true → length (filter test xs) ≡ passing_before test xs (length xs - 1) + 1
last_passing test xs is =
    sym (passing_before_all test xs (length xs - 1 + 1) (omega arith)) ∙ passing_before_more test xs (length xs - 1) true is

-- what passes without the last element, by whether that passes
pub filter_take_last : {T : Type 0} (test : T → Bool) (xs : List T) (passes : Bool) → passes_at test xs (length xs - 1) ≡ passes →
    filter test (take (length xs - 1) xs) ≡ (if passes then take (length (filter test xs) - 1) (filter test xs) else filter test xs)
filter_take_last test xs true is =
    let place : passing_before test xs (length xs - 1) ≡ length (filter test xs) - 1 = omega (arith, last_passing test xs is) in
    rw (← (remove_last xs), filter_remove test xs (length xs - 1) true is, place) (remove_last (filter test xs))
filter_take_last test xs false is = rw (← (remove_last xs)) (filter_remove test xs (length xs - 1) false is)
