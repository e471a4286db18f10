use Rattle.std.proofs.Common.{◌≡◌, ◌++◌, map, take, drop}
use Rattle.sig_hist.specs.Plain.{after_leave}
use Rattle.sig_hist.proofs.plain.Plain.leave_all.Given as goal

abbrev pub invariant-sources : goal.invariant-sources
invariant-sources l = l.self ≡ record l.initial.self { sources = map (after_leave l.caller) (take l.source l.initial.self.sources) ++ drop l.source l.initial.self.sources }
