use Rattle.sig_bank.specs.laws.Banks.{filter_by_signal_leads}
use Rattle.sig_bank.proofs.filtering.FilterBy.step_signal.Goals as goal

pub returns-then-was_in-value-clause-law : goal.returns-then-was_in-value-clause-law
returns-then-was_in-value-clause-law c = filter_by_signal_leads c.args.self.now c.args.child c.args.value c.requires.child

pub returns-clause-law : goal.returns-clause-law
returns-clause-law c = filter_by_signal_leads c.args.self.now c.args.child c.args.value c.requires.child
