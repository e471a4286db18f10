use Rattle.sig_run.proofs.Seeing.{edited_more}
use Rattle.sig_run.proofs.stage.edit_source.Goals as goal

pub returns-in-Ok-clause-more : goal.returns-in-Ok-clause-more
returns-in-Ok-clause-more c =
    edited_more c.args.port.now c.args.source c.args.caller c.args.edit.now c.in-Ok.field-0 c.requires.open_to c.in-Ok.ensures.reply c.edit.new.self c.in-Ok.ensures.entered c.edit.ensures.sound
