use Rattle.std.proofs.Common.{rules}
use Rattle.std.proofs.lemmas.List.{take_rest}
use Rattle.sig_io.proofs.Copies.{copy_Consumes}
use Rattle.sig_io.proofs.memory.BytesSource.read.Goals as goal

pub returns-clause-bytes : goal.returns-clause-bytes
returns-clause-bytes c =
    copy_Consumes c.self.inside.content.items c.args.self.now.left _ _ c.self.inside.taken c.self.inside.piece _ (search rules) (search rules) (search (rules, take_rest)) (search (rules, take_rest))
