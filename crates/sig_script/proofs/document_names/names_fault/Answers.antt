use Rattle.sig_script.proofs.Finding.{last_of}
use Rattle.sig_script.proofs.document_names.names_fault.Goals as goal

pub returns : goal.returns
returns c =
    rw (← c.requires.names, ← c.requires.shares, ← c.requires.writers, ← c.requires.views, c.in_ok-list_names.ensures, c.in_ok-list_names-2.ensures, c.in_ok-list_names-3.ensures, c.in_ok-list_names-4.ensures, last_of _)
    c.schedule_names.ensures
