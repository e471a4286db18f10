use Rattle.std.proofs.Common.{◌≡◌, ◌++◌, ◌≤◌, drop, length}
use Rattle.sig_bank.specs.Tables.{has_class, flipping}
use Rattle.sig_diff.specs.Choosing.{is_let_in}
use Rattle.sig_bank.proofs.filtering.flip_class.Given as goal

abbrev pub invariant-items : goal.invariant-items
invariant-items l =
    let passes = is_let_in l.signals in
    let flips = has_class (length l.signals) l.child in
    (l.given ++ flipping passes flips l.place (drop l.item-index l.items) ≡ l.initial.given ++ flipping passes flips 0 l.items) × (l.place ≤ l.item-index)
