use Rattle.std.proofs.Common.{rules, refl, inl, inr}
use Rattle.sig_io.proofs.memory.PageSink.write.Goals as goal
use Rattle.sig_io.proofs.memory.PageSink.write.Goals.{then-contains-via-then-contains, then-contains-via-else-contains+then-count-min}

pub returns-then-contains-clause-fails : goal.returns-then-contains-clause-fails
returns-then-contains-clause-fails c = (
  λ _. elim c.then-contains.branch [
    | then-contains-via-then-contains w ↦ inl (search rules)
    | then-contains-via-else-contains+then-count-min w ↦ inr (search rules, search rules)
  ],
  λ _. refl,
)
