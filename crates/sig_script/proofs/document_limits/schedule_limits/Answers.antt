use Rattle.sig_script.proofs.Finding.{only_before}
use Rattle.sig_script.proofs.document_limits.schedule_limits.Goals as goal

pub returns : goal.returns
returns c = rw (only_before _ _, ← c.list_at-schedule.ensures) (c.below.ensures _ c.length_fault.ensures)
