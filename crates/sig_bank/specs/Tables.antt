-- What views that choose by signals give where a signal goes to another value. For differences of their lists they give what a filter
-- and a map give, by the signals' present values.
use Rattle.std.specs.Prelude.{ℕ, zero, suc, ◌+◌, ◌==◌, ℤ, pos, List, [], ◌∷◌, ◌++◌, length, slice_set, slice_index_or, Bool, true, false, not, if◌then◌else◌, Option, None, Some}
use Rattle.std.specs.Ordering.{int_eq}
use Rattle.sig_bank.specs.Banks.{BySignals, Choice, chosen_place}
use Rattle.sig_diff.specs.Choosing.{chooses_same, is_let_in, list_for, raised_by, signal_for}
use Rattle.sig_diff.specs.Numbers.{class_of}
use Rattle.sig_diff.specs.declared.differences.VecDiff.{VecDiff}
use Rattle.sig_diff.specs.declared.differences.VecDiff.TheVariants.{Replace, InsertAt, UpdateAt, RemoveAt}
use Rattle.sig_ops.specs.Tables.{if_so}

-- whether a number is one of the class of a signal, among so many
abbrev pub has_class : ℕ → ℕ → ℤ → Bool
has_class count child x = class_of count x == child

-- ---- a filter by signals

abbrev pub isnt_zero : ℤ → Bool
isnt_zero x = not (int_eq x (pos 0))

-- an element that flips comes in where it passes now, and goes where it doesn't
abbrev pub comes_or_goes : Bool → Bool → ℕ → ℤ → List (VecDiff ℤ)
comes_or_goes true true place x = InsertAt place x ∷ []
comes_or_goes true false place x = RemoveAt place ∷ []
comes_or_goes false passes place x = []

-- the elements that flip, from left to right, each at its place among those that pass now. So many before these pass
abbrev pub flipping : (ℤ → Bool) → (ℤ → Bool) → ℕ → List ℤ → List (VecDiff ℤ)
flipping passes flips before [] = []
flipping passes flips before (x ∷ xs) =
    comes_or_goes (flips x) (passes x) before x ++ flipping passes flips (if passes x then before + 1 else before) xs

-- by whether the elements of the class passed, and pass
abbrev pub where_it_differs : {A : Type 0} → Bool → Bool → List A → List A
where_it_differs true true given = []
where_it_differs false false given = []
where_it_differs _ _ given = given

-- the signal at a place goes to a value
abbrev pub filter_by_signal : BySignals → ℕ → ℤ → List (VecDiff ℤ)
filter_by_signal op child value =
    where_it_differs (isnt_zero (slice_index_or op.signals child (pos 0))) (isnt_zero value)
    (flipping (is_let_in (slice_set op.signals child value)) (has_class (length op.signals) child) 0 op.items)

-- ---- a map by signals

-- the elements that change, from this place on
abbrev pub changing : (ℤ → ℤ) → (ℤ → Bool) → ℕ → List ℤ → List (VecDiff ℤ)
changing image changes place [] = []
changing image changes place (x ∷ xs) = if_so (changes x) (UpdateAt place (image x)) ++ changing image changes (place + 1) xs

abbrev pub map_by_signal : BySignals → ℕ → ℤ → List (VecDiff ℤ)
map_by_signal op child value =
    if int_eq (slice_index_or op.signals child (pos 0)) value
    then []
    else changing (raised_by (slice_set op.signals child value)) (has_class (length op.signals) child) 0 op.items

-- ---- one of a bank

-- whether the number chooses the part at this place
abbrev pub chooses : {A : Type 0} → List A → ℤ → ℕ → Bool
chooses parts chooser child = chosen_place parts chooser == child

-- a switch gives the chosen signal's value where another signal is chosen, and where the chosen one gives
abbrev pub switch_gives : Choice ℤ → ℕ → ℤ → Option ℤ
switch_gives op zero value =
    if chooses_same (length op.parts) op.chooser value then None else Some (signal_for op.parts value)
switch_gives op (suc child) value = if chooses op.parts op.chooser child then Some value else None

-- a pick gives the newly chosen list whole where another list is chosen, and the chosen list's differences as they are
abbrev pub pick_gives : Choice (List ℤ) → ℤ → List (VecDiff ℤ)
pick_gives op value = if chooses_same (length op.parts) op.chooser value then [] else Replace (list_for op.parts value) ∷ []

abbrev pub picked_gives : Choice (List ℤ) → ℕ → VecDiff ℤ → List (VecDiff ℤ)
picked_gives op child diff = if_so (chooses op.parts op.chooser child) diff
