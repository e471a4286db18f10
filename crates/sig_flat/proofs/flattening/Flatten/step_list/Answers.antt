use Rattle.sig_flat.specs.laws.Flattening.{outer_leads}
use Rattle.sig_flat.proofs.flattening.Flatten.step_list.Goals as goal

pub returns-clause-law : goal.returns-clause-law
returns-clause-law c = outer_leads c.args.self.now c.args.diff.now c.requires.lawful

pub returns-in_err-give-clause-law : goal.returns-in_err-give-clause-law
returns-in_err-give-clause-law c = outer_leads c.args.self.now c.args.diff.now c.requires.lawful
