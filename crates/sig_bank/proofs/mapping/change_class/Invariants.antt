use Rattle.std.proofs.Common.{◌≡◌, ◌++◌, drop, length}
use Rattle.sig_bank.specs.Tables.{changing, has_class}
use Rattle.sig_diff.specs.Choosing.{raised_by}
use Rattle.sig_bank.proofs.mapping.change_class.Given as goal

abbrev pub invariant-items : goal.invariant-items
invariant-items l =
    let image = raised_by l.signals in
    let changes = has_class (length l.signals) l.child in
    (l.given ++ changing image changes l.index (drop l.item-index l.items) ≡ l.initial.given ++ changing image changes 0 l.items) × (l.index ≡ l.item-index)
