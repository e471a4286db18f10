use Rattle.sig_hub.proofs.Fair.{distinct_more, not_distinct}
use Rattle.sig_hist.specs.declared.plans.Allowance.{Allowance}
use Rattle.sig_hub.proofs.plans.are_distinct.Goals as goal

abbrev none : Allowance
none = record { writer = 0; edits = 0 }

pub returns-then-may_write : goal.returns-then-may_write
returns-then-may_write c = ((λ is. absurd (cc)), λ all. absurd (not_distinct c.args.allow.now c.allow.place none c.allow.invariant c.allow-test.true c.may_write.result c.may_write.ensures c.if-may_write.true all))

pub allow-preserved : goal.allow-preserved
allow-preserved c = distinct_more c.args.allow.now c.allow.place none c.allow.invariant c.allow-test.true c.may_write.result c.may_write.ensures c.if-may_write.false
