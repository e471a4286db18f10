-- What a source holds, and of which kind it is.
use Rattle.std.specs.Prelude.{ℤ, pos, List, []}
use Rattle.sig_diff.specs.declared.contents.Content.{Content}
use Rattle.sig_diff.specs.declared.contents.Content.TheVariants.{Cell, Vector, Map}
use Rattle.sig_diff.specs.declared.contents.Kind.{Kind}

abbrev pub kind_of : Content → Kind
kind_of (Cell value) = Kind.Cell
kind_of (Vector items) = Kind.Vector
kind_of (Map entries) = Kind.Map

-- a cell's number, a vector's list and a map's entries. A content of another kind counts as 0, and as empty
abbrev pub number_in : Content → ℤ
number_in (Cell value) = value
number_in _ = pos 0

abbrev pub list_in : Content → List ℤ
list_in (Vector items) = items
list_in _ = []

abbrev pub entries_in : Content → List (ℤ × ℤ)
entries_in (Map entries) = entries
entries_in _ = []
