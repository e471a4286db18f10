-- How the code's states stand for a play at one moment.
use Rattle.std.specs.Prelude.{◌≡◌, ℕ, ◌+◌, ◌<◌, List, [], ◌∷◌, length, map, slice_get, true, false, None, Some}
use Rattle.std.specs.List.{flat_map}
use Rattle.sig_expr.specs.Leaves.{leaves}
use Rattle.sig_expr.specs.Shapes.{view_tree}
use Rattle.sig_expr.specs.declared.expressions.View.{View}
use Rattle.sig_hist.specs.Sources.{MayEdit}
use Rattle.sig_hist.specs.Histories.{is_leave}
use Rattle.sig_hist.specs.Plain.{OneThread, StaysWhereItWrites, known, source_at}
use Rattle.sig_hist.specs.Ports.{IsSoundPort}
use Rattle.sig_hist.specs.Sources.{IsIn}
use Rattle.sig_hist.specs.declared.edits.Edit.{Edit}
use Rattle.sig_report.proofs.Events.{IsPlay}
use Rattle.sig_report.specs.Lawful.{all_views}
use Rattle.sig_report.specs.Playing.{Played, source_names, source_reports, view_names, view_reports}
use Rattle.sig_report.specs.declared.report.Report.{Report}
use Rattle.sig_run.specs.Watching.{IsFollowing, watched_of}
use Rattle.sig_run.specs.declared.stage.Stage.{Stage}
use Rattle.sig_view.specs.Watching.{IsUnpolled}
use Rattle.sig_view.specs.declared.watching.WatchedView.{WatchedView}
use Rattle.sig_script.specs.Built.{unbuilt}
use Rattle.sig_script.specs.Leaving.{has_no_leaves}
use Rattle.sig_script.specs.SelfContained.{IsSelfContained}
use Rattle.sig_script.specs.Sizes.{size_fault}
use Rattle.sig_script.specs.Starts.{StartsInOrder}
use Rattle.sig_script.specs.declared.types.ViewDef.{ViewDef}
use Rattle.sig_view.specs.Tasks.{expression_of}
use Rattle.sig_script.specs.declared.types.Script.{Script}

abbrev pub played_of : Stage → Played
played_of stage = record { done = stage.done.items; sources = stage.port.sources; views = map watched_of stage.views.items }

-- scripts that are played
pub record IsPlayable (script : Script) : Type 0 where
  pub built : unbuilt script ≡ None
  pub in_order : StartsInOrder script
  pub no_leaves : has_no_leaves script ≡ true
  pub self_contained : IsSelfContained script
  pub sized : size_fault script ≡ None

-- a view of the code is this one of a script, and follows its sources on the port
pub record IsViewOf (port : OneThread) (shown : View) (view : WatchedView) : Type 0 where
  pub expression : expression_of view.task ≡ shown
  pub following : IsFollowing port view

abbrev pub AreViewsOf : OneThread → List View → List WatchedView → Type 0
AreViewsOf port [] [] = Unit {0}
AreViewsOf port (shown ∷ others) (view ∷ views) = IsViewOf port shown view × AreViewsOf port others views
AreViewsOf port _ _ = ⊥

-- the sources of all leaves, one view's behind another's
abbrev pub leaf_sources : List ViewDef → List ℕ
leaf_sources defs = flat_map (λ (def : ViewDef). leaves (view_tree def.view)) defs

-- views before their first polls, the first leaf of the first of which has this number
abbrev pub AreFresh : List ℕ → ℕ → List ViewDef → List WatchedView → Type 0
AreFresh caps first [] [] = Unit {0}
AreFresh caps first (def ∷ defs) (view ∷ views) = IsUnpolled def.view caps first view × AreFresh caps (first + length (leaves (view_tree def.view))) defs views
AreFresh caps first _ _ = ⊥

pub record IsInStep (script : Script) (stage : Stage) : Type 0 where
  pub playable : IsPlayable script
  pub play : IsPlay script (played_of stage)
  pub sound : IsSoundPort (known stage.port)
  pub views : AreViewsOf stage.port (all_views script) stage.views.items

-- ---- a writer's event

-- what a writer's next edit asks of the sources
pub record IsOpenTo (port : OneThread) (caller : ℕ) (edit : ℕ × Edit) : Type 0 where
  pub source : edit.0 < length port.sources
  pub is_in : IsIn (source_at port edit.0) caller
  pub may : MayEdit (source_at port edit.0) caller
  pub no_leave : is_leave edit.1 ≡ false

-- what its event after so many asks: that of its edit, or after the last one that it stays in all its sources
pub record AreOpenTo (port : OneThread) (caller : ℕ) (edits : List (ℕ × Edit)) (done : ℕ) : Type 0 where
  pub edit : (edit : ℕ × Edit) → slice_get edits done ≡ Some edit → IsOpenTo port caller edit
  pub leaves : done ≡ length edits → StaysWhereItWrites port caller

-- ---- the report

abbrev pub reported : Script → Played → Report
reported script p = record {
  sources = source_reports (source_names script) p.sources;
  views = view_reports (view_names script) (all_views script) p.views;
}
