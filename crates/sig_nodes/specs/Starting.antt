-- The operators of a view as they are started on the contents of its leaves.
use Rattle.std.specs.Prelude.{◌≡◌, ℕ, ◌+◌, ℤ, List, [], ◌∷◌, length}
use Rattle.sig_diff.specs.Contents.{entries_in, list_in}
use Rattle.sig_diff.specs.declared.contents.Content.{Content}
use Rattle.sig_expr.specs.Evaluation.{entries_of, list_of, lists_of, signals_of, value_of}
use Rattle.sig_expr.specs.Trees.{MapTree, SigTree, SigTrees, VecTree, VecTrees, ViewTree}
use Rattle.sig_rows.specs.Flow.{first_body}
use Rattle.sig_nodes.specs.Nodes.{ListOps, ListsOps, SignalOps, SignalsOps, ViewOps, ListStands, ListsStand, SignalStands, SignalsStand, ViewStands, list_tree, list_trees, no_list, no_signal, one_list, one_signal, op_tags, signal_tree, signal_trees, view_tree_of}
use Rattle.sig_rows.specs.SoundRows.{nothing_seen, seen_after, tags_of}
use Rattle.sig_rows.specs.declared.rows.Body.{Body}

-- how long the list or the map of each leaf is
abbrev pub leaf_length : (ℕ → Content) → ℕ → ℕ
leaf_length s leaf = length (list_in (s leaf)) + length (entries_in (s leaf))

-- a map's operators are those of this expression, and these are its entries
pub record IsMapStarted (s : ℕ → Content) (tree : MapTree ℕ) (m : MapTree ℕ) (entries : List (ℤ × ℤ)) : Type 0 where
  pub tree_is : m ≡ tree
  pub entries_are : entries ≡ entries_of s tree

-- a list's operators stand for these contents, and these are its items
pub record IsListStarted (s : ℕ → Content) (tree : VecTree ℕ) (ops : ListOps) (items : List ℤ) : Type 0 where
  pub tree_is : list_tree ops ≡ tree
  pub stands : ListStands s ops
  pub items_are : items ≡ list_of s tree

-- the same of a signal and its value
pub record IsSignalStarted (s : ℕ → Content) (tree : SigTree ℕ) (ops : SignalOps) (value : ℤ) : Type 0 where
  pub tree_is : signal_tree ops ≡ tree
  pub stands : SignalStands s ops
  pub value_is : value ≡ value_of s tree

-- the same of a bank's signals and their values
pub record AreSignalsStarted (s : ℕ → Content) (trees : SigTrees ℕ) (ops : SignalsOps) (values : List ℤ) : Type 0 where
  pub trees_are : signal_trees ops ≡ trees
  pub stand : SignalsStand s ops
  pub values_are : values ≡ signals_of s trees

-- the same of a bank's lists
pub record AreListsStarted (s : ℕ → Content) (trees : VecTrees ℕ) (ops : ListsOps) (lists : List (List ℤ)) : Type 0 where
  pub trees_are : list_trees ops ≡ trees
  pub stand : ListsStand s ops
  pub lists_are : lists ≡ lists_of s trees

-- the same of a view and the body of its first row
pub record IsViewStarted (s : ℕ → Content) (tree : ViewTree ℕ) (ops : ViewOps) (body : Body) : Type 0 where
  pub tree_is : view_tree_of ops ≡ tree
  pub stands : ViewStands s ops
  pub body_is : body ≡ first_body tree s
  pub tags : tags_of (seen_after (nothing_seen tree) body) ≡ op_tags ops

-- parts before those of a bank, by what a bank with one more part in front is
abbrev pub parts_before : {O B : Type 0} → (O → B → B) → List O → B → B
parts_before in_front [] bank = bank
parts_before in_front (ops ∷ more) bank = in_front ops (parts_before in_front more bank)

-- the bank of these signals
abbrev pub signals_bank : List SignalOps → SignalsOps
signals_bank all = parts_before one_signal all no_signal

-- the bank of these lists
abbrev pub lists_bank : List ListOps → ListsOps
lists_bank all = parts_before one_list all no_list
