-- The port of one source that others edit between its calls.
use Rattle.std.specs.Prelude.{◌≡◌, ℕ, ◌≤◌, List, [], ◌∷◌, length, get_or, nat_lt, slice_index}
use Rattle.sig_expr.specs.Bounds.{cap_of}
use Rattle.sig_expr.specs.Leaves.{leaves}
use Rattle.sig_expr.specs.Shapes.{view_tree}
use Rattle.sig_expr.specs.declared.expressions.View.{View}
use Rattle.sig_hist.specs.Histories.{IsFront}
use Rattle.sig_hist.specs.Plain.{no_leaf}
use Rattle.sig_hist.specs.Ports.{IsSoundPort, PortState, checked, put}
use Rattle.sig_hist.specs.Sources.{Source, IsIn, IsSource, room_of}
use Rattle.sig_hist.specs.declared.bells.PlainLeaf.{PlainLeaf}
use Rattle.sig_hist.specs.declared.ports.Met.{Met}
use Rattle.sig_hist.specs.declared.ports.Version.{Version}
use Rattle.sig_expr.specs.Lengths.{longest}

-- the source as far as it was seen, how many entries it had when it was last looked at, and the leaves on it
pub record OneSource : Type 0 where
  pub source : Source
  pub count : ℕ
  pub leaves : List PlainLeaf
  pub met : List Met

abbrev pub known : OneSource → PortState
known port = record {
  is_own = λ leaf. nat_lt leaf (length port.leaves);
  source = λ leaf. 0;
  task = λ leaf. 0;
  condition = λ leaf. (get_or port.leaves leaf no_leaf).condition;
  arms = λ leaf. (get_or port.leaves leaf no_leaf).arms;
  plan = λ source. port.source.plan;
  seen = put (λ source. []) 0 port.source.history;
  count = put (λ source. 0) 0 port.count;
  tokens = λ task. 0;
  missed = λ task. 0;
  met = port.met;
}

-- what holds of it at any time, where a writer is to push so many numbers
pub record IsOneSource (port : OneSource) (writer pushes : ℕ) : Type 0 where
  pub is_source : IsSource port.source
  pub is_in : IsIn port.source writer
  pub seen : length port.source.history ≤ port.count
  pub pushed : port.count ≤ pushes
  pub room : pushes ≤ room_of port.source.plan.allow

abbrev pub leaf_checked : Version → PlainLeaf → PlainLeaf
leaf_checked version leaf = record leaf { condition = checked version leaf.condition }

-- a writer's entries were seen, and no more than so many
pub record HasCaughtUp (old new : Source) (writer count : ℕ) : Type 0 where
  pub plan : new.plan ≡ old.plan
  pub front : IsFront old.history new.history
  pub is_source : IsSource new
  pub is_in : IsIn new writer
  pub within : length new.history ≤ count

-- sound, with so many leaves, on a source whose cap is 8
pub record IsReadyPort (port : OneSource) (leaves : ℕ) : Type 0 where
  pub sound : IsSoundPort (known port)
  pub leaf_each : length port.leaves ≡ leaves
  pub cap : port.source.plan.cap ≡ 8

-- a view of a vector whose cap is 8: its leaves are so many, all on the source 0
pub record IsOfVector (view : View) (count : ℕ) : Type 0 where
  pub short : longest (cap_of (8 ∷ [])) (view_tree view) ≤ 65536
  pub long : length (leaves (view_tree view)) ≡ count
  pub first : (leaf : ℕ) → slice_index (leaves (view_tree view)) leaf ≡ 0
