use Rattle.sig_flag.proofs.Readies.{no_reading, one_reading_more}
use Rattle.sig_flag.proofs.closing.ready_tasks.Goals as goal

pub tasks-init : goal.tasks-init
tasks-init g c = no_reading _ _ _ _ _ c.requires.empty c.requires.room

pub tasks-preserved : goal.tasks-preserved
tasks-preserved g c = one_reading_more _ _ _ _ _ _ _ _ _ c.tasks.invariant c.word.ensures c.push_reserved.ensures.items c.push_reserved.ensures.capacity
