use Rattle.std.proofs.Common.{◌≡◌, All, FitsSigned, take, w64}
use Rattle.sig_diff.specs.Numbers.{total}
use Rattle.sig_ops.proofs.signals.exact_total.Given as goal

abbrev pub invariant-items : goal.invariant-items
invariant-items l = record { total : l.total ≡ total (take l.item-index l.items); fit : All (FitsSigned w64) (take l.item-index l.items) }
