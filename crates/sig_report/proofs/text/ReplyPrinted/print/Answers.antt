use Rattle.std.proofs.Common.{append_assoc}
use Rattle.sig_report.proofs.text.ReplyPrinted.print.Goals as goal

pub returns-in-OutOfRange : goal.returns-in-OutOfRange
returns-in-OutOfRange c = rw (c.in-OutOfRange.is, ← append_assoc) c.print_one-in-OutOfRange.ensures
