-- Scripts whose numbers of sources, shares, writers and views are those of ones that they have.
use Rattle.std.specs.Prelude.{◌≡◌, ℕ, ◌+◌, length, nat_lt, Bool, true}
use Rattle.std.specs.List.{list_all}
use Rattle.sig_expr.specs.Leaves.{leaves}
use Rattle.sig_expr.specs.Shapes.{view_tree}
use Rattle.sig_expr.specs.declared.expressions.View.{View}
use Rattle.sig_hist.specs.declared.edits.Edit.{Edit}
use Rattle.sig_script.specs.declared.types.Event.{Event}
use Rattle.sig_script.specs.declared.types.Event.TheVariants as event
use Rattle.sig_script.specs.declared.types.Script.{Script}
use Rattle.sig_script.specs.declared.types.ShareDef.{ShareDef}
use Rattle.sig_script.specs.declared.types.ViewDef.{ViewDef}
use Rattle.sig_script.specs.declared.types.WriterDef.{WriterDef}

module _ (script : Script) where
  -- the shares count after the sources
  abbrev pub has_source : ℕ → Bool
  has_source source = nat_lt source (length script.sources + length script.shares)

  abbrev pub has_edited : WriterDef → Bool
  has_edited writer = list_all (λ (edit : ℕ × Edit). has_source edit.0) writer.edits

  abbrev pub has_shown : View → Bool
  has_shown view = list_all has_source (leaves (view_tree view))

  abbrev pub has_event : Event → Bool
  has_event (event.Writer writer) = nat_lt writer (length script.writers)
  has_event (event.Share share) = nat_lt share (length script.shares)
  has_event (event.View view) = nat_lt view (length script.views)

pub record IsSelfContained (script : Script) : Type 0 where
  pub writers : list_all (has_edited script) script.writers ≡ true
  pub shares : list_all (λ (share : ShareDef). has_shown script (View.Signal share.signal)) script.shares ≡ true
  pub views : list_all (λ (view : ViewDef). has_shown script view.view) script.views ≡ true
  pub schedule : list_all (has_event script) script.schedule ≡ true
