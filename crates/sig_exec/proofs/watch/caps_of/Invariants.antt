use Rattle.std.proofs.Common.{◌≡◌, map, take}
use Rattle.sig_exec.proofs.watch.caps_of.Given as goal

abbrev pub invariant-sources : goal.invariant-sources
invariant-sources l = l.caps.items ≡ map (λ plan. plan.cap) (take l.plan-index l.sources)
