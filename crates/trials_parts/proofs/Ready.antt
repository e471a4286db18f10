-- A view of the one source is ready at first.
use Rattle.std.proofs.Common.{◌≡◌, ℕ, zero, suc, ◌+◌, ◌<◌, ◌≤◌, List, ◌∷◌, [], length, nat_lt, slice_index, true, refl, arith}
use Rattle.std.proofs.lemmas.Bool.Decides.{nat_tests}
use Rattle.sig_expr.specs.Shapes.{view_tree}
use Rattle.sig_expr.specs.Trees.{joined, vector, vector_view}
use Rattle.sig_expr.specs.declared.expressions.View.{View}
use Rattle.sig_view.specs.Tasks.{IsNew, IsReady}
use Rattle.sig_view.specs.declared.task.ViewTask.{ViewTask}
use Rattle.trials_parts.specs.Moving.{IsOfVector, IsReadyPort, OneSource, known}

first_once : (leaf : ℕ) → slice_index (0 ∷ []) leaf ≡ 0
first_once zero = refl
first_once (suc leaf) = refl

first_twice : (leaf : ℕ) → slice_index (0 ∷ 0 ∷ []) leaf ≡ 0
first_twice zero = refl
first_twice (suc zero) = refl
first_twice (suc (suc leaf)) = refl

pub once_is : (view : View) → view_tree view ≡ vector_view (vector 0) → IsOfVector view 1
once_is view is = record { short = rw is (omega arith); long = rw is refl; first = λ leaf. rw is (first_once leaf) }

pub twice_is : (view : View) → view_tree view ≡ vector_view (joined (vector 0) (vector 0)) → IsOfVector view 2
twice_is view is = record { short = rw is (omega arith); long = rw is refl; first = λ leaf. rw is (first_twice leaf) }

module _ (view : View) (count : ℕ) (port : OneSource) (task : ViewTask) (caps : List ℕ) where
  pub ready_at_first : IsOfVector view count → count ≤ 2 → caps ≡ 8 ∷ [] → IsNew view caps 0 task → IsReadyPort port count → IsReady (known port) task
  ready_at_first of few caps_are is_new is =
      is_new.ready (known port) (record {
        sound = is.sound;
        numbers = omega (arith, few, of.long);
        own = λ leaf within. own_leaf (0 + leaf) (omega (arith, within, of.long, is.leaf_each));
        one_task = λ leaf within. refl;
        within_caps = λ leaf within. rw (caps_are, of.first leaf, is.cap) (omega arith);
      })
    where
      own_leaf : (leaf : ℕ) → leaf < length port.leaves → nat_lt leaf (length port.leaves) ≡ true
      own_leaf leaf within = grind (arith, nat_tests)
