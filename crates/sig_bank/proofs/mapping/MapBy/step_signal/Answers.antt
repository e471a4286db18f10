use Rattle.sig_bank.specs.laws.Banks.{map_by_signal_leads}
use Rattle.sig_bank.proofs.mapping.MapBy.step_signal.Goals as goal

pub returns-clause-law : goal.returns-clause-law
returns-clause-law c = map_by_signal_leads c.args.self.now c.args.child c.args.value c.requires.child
