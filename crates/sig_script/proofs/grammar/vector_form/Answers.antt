use Rattle.std.proofs.Common.{arith}
use Rattle.std.proofs.lemmas.Grind.{common_steps}
use Rattle.sig_script.proofs.grammar.vector_form.Goals as goal

pub returns : goal.returns
returns c = grind (arith, common_steps) steps 20000000
