use Rattle.sig_diff.specs.Choosing.{raised_by}
use Rattle.sig_ops.specs.laws.Mapping.{map_leads}
use Rattle.sig_bank.proofs.mapping.MapBy.step_list.Goals as goal

pub returns-in_err-image-clause-law : goal.returns-in_err-image-clause-law
returns-in_err-image-clause-law c = map_leads (raised_by c.args.self.now.signals) c.args.self.now.items c.args.diff.now c.requires

pub returns-in_err-push-clause-law : goal.returns-in_err-push-clause-law
returns-in_err-push-clause-law c = map_leads (raised_by c.args.self.now.signals) c.args.self.now.items c.args.diff.now c.requires

pub returns-clause-law : goal.returns-clause-law
returns-clause-law c = map_leads (raised_by c.args.self.now.signals) c.args.self.now.items c.args.diff.now c.requires
