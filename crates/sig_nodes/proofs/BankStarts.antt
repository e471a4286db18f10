-- How the parts of a bank are started one after another.
use Rattle.std.proofs.Common.{◌≡◌, ℕ, ◌+◌, ℤ, List, [], ◌∷◌, ◌++◌, length, map, refl, ap, append_assoc, append-nil}
use Rattle.sig_diff.specs.declared.contents.Content.{Content}
use Rattle.sig_expr.specs.Leaves.{number_sig, number_sigs, number_vec, number_vecs, sig_leaves, vec_leaves}
use Rattle.sig_expr.specs.Trees.{SigTree, SigTrees, more_signals, no_signals, VecTree, VecTrees, more_lists, no_lists}
use Rattle.sig_nodes.specs.Nodes.{ListOps, ListsOps, SignalOps, SignalsOps, list_ops, no_list, no_signal, one_list, one_signal, signal_ops}
use Rattle.sig_nodes.specs.Starting.{AreListsStarted, AreSignalsStarted, IsListStarted, IsSignalStarted, lists_bank, parts_before, signals_bank}
use Rattle.sig_nodes.specs.declared.nodes.ListNode.{ListNode}
use Rattle.sig_nodes.specs.declared.nodes.SignalNode.{SignalNode}

module _ {O B : Type 0} (in_front : O → B → B) where
  -- one more part before a bank
  pub before_one_more : {N : Type 0} (ops : N → O) (nodes : List N) (node : N) (bank : B) →
      parts_before in_front (map ops (nodes ++ node ∷ [])) bank ≡ parts_before in_front (map ops nodes) (in_front (ops node) bank)
  before_one_more ops [] node bank = refl
  before_one_more ops (first ∷ nodes) node bank = ap (in_front (ops first)) (before_one_more ops nodes node bank)

  module _ {T V : Type 0} (Started : T → B → List V → Type 0) where
    -- these parts are started: before any bank that is started for the rest of the trees they are one for all of them
    pub record AreStarted (all rest : T) (done : List O) (values : List V) : Type 0 where
      pub so_far : (bank : B) (more : List V) → Started rest bank more → Started all (parts_before in_front done bank) (values ++ more)

    -- one more of them
    pub one_more : {N : Type 0} (ops : N → O) (all whole rest : T) (nodes : List N) (values : List V) (node : N) (value : V) →
        ((bank : B) (more : List V) → Started rest bank more → Started whole (in_front (ops node) bank) (value ∷ more)) →
        AreStarted all whole (map ops nodes) values → AreStarted all rest (map ops (nodes ++ node ∷ [])) (values ++ value ∷ [])
    one_more ops all whole rest nodes values node value one are = record {
      so_far = λ bank more started. rw (before_one_more ops nodes node bank, append_assoc values (value ∷ []) more) (are.so_far (in_front (ops node) bank) (value ∷ more) (one bank more started));
    }

module _ (s : ℕ → Content) where
  -- ---- signals

  signal_first : (tree : SigTree ℕ) (rest : SigTrees ℕ) (ops : SignalOps) (value : ℤ) → IsSignalStarted s tree ops value →
      (bank : SignalsOps) (more : List ℤ) → AreSignalsStarted s rest bank more → AreSignalsStarted s (more_signals tree rest) (one_signal ops bank) (value ∷ more)
  signal_first tree rest ops value one bank more others = record {
    trees_are = rw (one.tree_is, others.trees_are) refl;
    stand = (one.stands, others.stand);
    values_are = rw (one.value_is, others.values_are) refl;
  }

  -- the next signal of a bank is started
  pub one_more_signal : (all : SigTrees ℕ) (tree : SigTree ℕ) (rest : SigTrees ℕ) (place count : ℕ) (nodes : List SignalNode) (values : List ℤ) (node : SignalNode) (value : ℤ) →
      count ≡ length (sig_leaves tree) → IsSignalStarted s (number_sig tree place) (signal_ops node) value →
      AreStarted one_signal (AreSignalsStarted s) all (number_sigs (more_signals tree rest) place) (map signal_ops nodes) values →
      AreStarted one_signal (AreSignalsStarted s) all (number_sigs rest (place + count)) (map signal_ops (nodes ++ node ∷ [])) (values ++ value ∷ [])
  one_more_signal all tree rest place count nodes values node value is one are =
      rw is (one_more one_signal (AreSignalsStarted s) signal_ops all (number_sigs (more_signals tree rest) place) (number_sigs rest (place + length (sig_leaves tree))) nodes values node value
      (signal_first (number_sig tree place) (number_sigs rest (place + length (sig_leaves tree))) (signal_ops node) value one) are)

  -- all signals of a bank are
  pub all_signals : (all : SigTrees ℕ) (nodes : List SignalNode) (values : List ℤ) (bank : SignalsOps) → bank ≡ signals_bank (map signal_ops nodes) →
      AreStarted one_signal (AreSignalsStarted s) all no_signals (map signal_ops nodes) values → AreSignalsStarted s all bank values
  all_signals all nodes values bank is are = rw is (rw (append-nil values) at (are.so_far no_signal [] (record { trees_are = refl; stand = tt; values_are = refl })))

  -- ---- lists

  list_first : (tree : VecTree ℕ) (rest : VecTrees ℕ) (ops : ListOps) (items : List ℤ) → IsListStarted s tree ops items →
      (bank : ListsOps) (more : List (List ℤ)) → AreListsStarted s rest bank more → AreListsStarted s (more_lists tree rest) (one_list ops bank) (items ∷ more)
  list_first tree rest ops items one bank more others = record {
    trees_are = rw (one.tree_is, others.trees_are) refl;
    stand = (one.stands, others.stand);
    lists_are = rw (one.items_are, others.lists_are) refl;
  }

  -- the next list of a bank is started
  pub one_more_list : (all : VecTrees ℕ) (tree : VecTree ℕ) (rest : VecTrees ℕ) (place count : ℕ) (nodes : List ListNode) (lists : List (List ℤ)) (node : ListNode) (items : List ℤ) →
      count ≡ length (vec_leaves tree) → IsListStarted s (number_vec tree place) (list_ops node) items →
      AreStarted one_list (AreListsStarted s) all (number_vecs (more_lists tree rest) place) (map list_ops nodes) lists →
      AreStarted one_list (AreListsStarted s) all (number_vecs rest (place + count)) (map list_ops (nodes ++ node ∷ [])) (lists ++ items ∷ [])
  one_more_list all tree rest place count nodes lists node items is one are =
      rw is (one_more one_list (AreListsStarted s) list_ops all (number_vecs (more_lists tree rest) place) (number_vecs rest (place + length (vec_leaves tree))) nodes lists node items
      (list_first (number_vec tree place) (number_vecs rest (place + length (vec_leaves tree))) (list_ops node) items one) are)

  -- all lists of a bank are
  pub all_lists : (all : VecTrees ℕ) (nodes : List ListNode) (lists : List (List ℤ)) (bank : ListsOps) → bank ≡ lists_bank (map list_ops nodes) →
      AreStarted one_list (AreListsStarted s) all no_lists (map list_ops nodes) lists → AreListsStarted s all bank lists
  all_lists all nodes lists bank is are = rw is (rw (append-nil lists) at (are.so_far no_list [] (record { trees_are = refl; stand = tt; lists_are = refl })))
