use Rattle.sig_diff.specs.Choosing.{is_let_in}
use Rattle.sig_ops.specs.laws.Filtering.{filter_leads}
use Rattle.sig_bank.proofs.filtering.FilterBy.step_list.Goals as goal

pub returns-in_err-filtered-clause-law : goal.returns-in_err-filtered-clause-law
returns-in_err-filtered-clause-law c =
    filter_leads (is_let_in c.args.self.now.signals) c.args.self.now.items c.args.diff.now c.requires.lawful

pub returns-clause-law : goal.returns-clause-law
returns-clause-law c =
    filter_leads (is_let_in c.args.self.now.signals) c.args.self.now.items c.args.diff.now c.requires.lawful
