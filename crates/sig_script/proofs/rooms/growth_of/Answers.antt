use Rattle.std.proofs.Common.{arith}
use Rattle.std.proofs.lemmas.Grind.{common_steps}
use Rattle.sig_script.proofs.Growing.{longest-append, growths-append}
use Rattle.sig_script.proofs.rooms.growth_of.Goals as goal

pub writers-preserved : goal.writers-preserved
writers-preserved c = record {
  longest = grind (arith, common_steps, longest-append);
  growths = grind (arith, common_steps, growths-append);
  fits = omega arith;
}
