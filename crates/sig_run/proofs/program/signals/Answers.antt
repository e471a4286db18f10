use Rattle.std.proofs.Common.{◌∙◌, sym}
use Rattle.sig_run.proofs.Codes.{done_by_code, write_fault_by_code}
use Rattle.sig_run.proofs.program.signals.Goals as goal

pub returns-then-are_only-clause-done : goal.returns-then-are_only-clause-done
returns-then-are_only-clause-done g c code = c.play_input.ensures.done (done_by_code c.play_input.result (sym c.code.ensures ∙ code))

pub returns-then-are_only-clause-write_fault : goal.returns-then-are_only-clause-write_fault
returns-then-are_only-clause-write_fault g c code = c.play_input.ensures.write_fault (write_fault_by_code c.play_input.result (sym c.code.ensures ∙ code))
