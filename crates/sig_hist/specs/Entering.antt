-- What enters a leaf as it goes on along the history of its source.
use Rattle.std.specs.Prelude.{ℕ, ℤ, List, [], ◌∷◌, length, take, drop, filter_map, Bool, nat_lt, if◌then◌else◌, Option, None, Some}
use Rattle.sig_diff.specs.Contents.{number_in, list_in, entries_in}
use Rattle.sig_diff.specs.declared.contents.Content.{Content}
use Rattle.sig_diff.specs.declared.contents.Content.TheVariants.{Cell, Vector, Map}
use Rattle.sig_diff.specs.declared.differences.VecDiff.{VecDiff}
use Rattle.sig_diff.specs.declared.differences.VecDiff.TheVariants.{Replace}
use Rattle.sig_diff.specs.declared.map_differences.MapDiff.{MapDiff}
use Rattle.sig_diff.specs.declared.map_differences.MapDiff.TheVariants as changed
use Rattle.sig_hist.specs.Changes.{Change, number, list, map}
use Rattle.sig_hist.specs.Histories.{changes_by, state}
use Rattle.sig_hist.specs.Sources.{Source}
use Rattle.sig_hist.specs.declared.edits.Entry.{Entry}
use Rattle.sig_hist.specs.declared.ports.Entering.{Entering}
use Rattle.sig_hist.specs.declared.ports.Entering.TheVariants as entering

-- more entries than a leaf is told of one by one
abbrev pub is_far : List Entry → Bool
is_far passed = nat_lt 64 (length passed)

-- the changes of each kind
abbrev pub as_number : Change → Option ℤ
as_number (number x) = Some x
as_number _ = None

abbrev pub as_list : Change → Option (VecDiff ℤ)
as_list (list diff) = Some diff
as_list _ = None

abbrev pub as_map : Change → Option (MapDiff ℤ)
as_map (map diff) = Some diff
as_map _ = None

-- a cell's last number, where an entry gives one
abbrev pub latest : List ℤ → ℤ → Option ℤ
latest [] x = None
latest (y ∷ ys) x = Some x

-- what enters by the entries that are passed, from the content before them on: of a cell, a vector and a map. A source of another
-- kind gives nothing
abbrev pub number_entering : Content → ℕ → List Entry → Option ℤ
number_entering (Cell x) cap passed = latest (filter_map as_number (changes_by (Cell x) cap passed)) (number_in (state (Cell x) cap passed))
number_entering _ cap passed = None

abbrev pub list_entering : Content → ℕ → List Entry → List (VecDiff ℤ)
list_entering (Vector xs) cap passed =
    if is_far passed then Replace (list_in (state (Vector xs) cap passed)) ∷ [] else filter_map as_list (changes_by (Vector xs) cap passed)
list_entering _ cap passed = []

abbrev pub map_entering : Content → ℕ → List Entry → List (MapDiff ℤ)
map_entering (Map entries) cap passed =
    if is_far passed then changed.Replace (entries_in (state (Map entries) cap passed)) ∷ [] else filter_map as_map (changes_by (Map entries) cap passed)
map_entering _ cap passed = []

-- ---- as a port tells it

abbrev pub value_entering : Option ℤ → Entering
value_entering None = entering.Nothing
value_entering (Some x) = entering.Value x

abbrev pub all_entering : Content → ℕ → List Entry → Entering
all_entering (Cell x) cap passed = value_entering (number_entering (Cell x) cap passed)
all_entering (Vector xs) cap passed = entering.Vector (list_entering (Vector xs) cap passed)
all_entering (Map entries) cap passed = entering.Map (map_entering (Map entries) cap passed)

-- a content whole
abbrev pub whole : Content → Entering
whole (Cell x) = entering.Value x
whole (Vector xs) = entering.Vector (Replace xs ∷ [])
whole (Map entries) = entering.Map (changed.Replace entries ∷ [])

-- what enters as a leaf goes from a position to the end of its source's history. A leaf without a position gets the content whole
abbrev pub entering_from : Source → Option ℕ → Entering
entering_from source None = whole (state source.plan.start source.plan.cap source.history)
entering_from source (Some position) =
    all_entering (state source.plan.start source.plan.cap (take position source.history)) source.plan.cap (drop position source.history)
