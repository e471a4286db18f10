use Rattle.sig_report.proofs.Plays.{play_is_lawful}
use Rattle.sig_report.proofs.law.play_is_lawful.Goals as goal

pub returns : goal.returns
returns c = λ built in_order no_leaves. play_is_lawful c.args.script.now built no_leaves in_order
