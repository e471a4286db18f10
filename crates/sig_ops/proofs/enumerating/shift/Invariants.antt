use Rattle.std.proofs.Common.{◌≡◌, ◌++◌, map, take, drop}
use Rattle.sig_ops.specs.TagIndex.{entry_shifted}
use Rattle.sig_ops.proofs.enumerating.shift.Given as goal

abbrev pub invariant-entries : goal.invariant-entries
invariant-entries l = l.entry-items ≡ map (entry_shifted l.from l.to) (take l.entry-index l.fn.index) ++ drop l.entry-index l.fn.index
