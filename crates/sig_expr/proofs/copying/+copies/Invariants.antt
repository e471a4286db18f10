use Rattle.std.proofs.Common.{◌≡◌, take}
use Rattle.sig_expr.proofs.copying.+copies.Given as goal

abbrev pub invariant-copy_lists-lists : goal.invariant-copy_lists-lists
invariant-copy_lists-lists l = l.copies ≡ take l.list-index l.bank

abbrev pub invariant-copy_signals-signals : goal.invariant-copy_signals-signals
invariant-copy_signals-signals l = l.copies ≡ take l.signal-index l.bank
