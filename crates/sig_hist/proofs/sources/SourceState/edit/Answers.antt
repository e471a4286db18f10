use Rattle.std.proofs.Common.{arith}
use Rattle.sig_hist.proofs.Counts.{stays, kept_edit}
use Rattle.sig_hist.proofs.sources.SourceState.edit.Goals as goal

pub overflow_sub-index_mut : goal.overflow_sub-index_mut
overflow_sub-index_mut c = (stays c.self.invariant (rw c.self.view_is c.requires.is_in) (rw c.as_slice.ensures.value at c.place_of-place.ensures) c.index_mut.ensures.value).some

pub push_reserved-requires : goal.push_reserved-requires
push_reserved-requires c = let writer = stays c.self.invariant (rw c.self.view_is c.requires.is_in) (rw c.as_slice.ensures.value at c.place_of-place.ensures) c.index_mut.ensures.value in omega arith

pub invariant_of-self-2 : goal.invariant_of-self-2
invariant_of-self-2 c =
    rw (c.push_reserved.ensures.items, c.push_reserved.ensures.capacity)
    (kept_edit c.self.invariant (rw c.self.view_is c.requires.is_in) (rw c.as_slice.ensures.value at c.place_of-place.ensures) c.index_mut.ensures.value c.in_ok-edit.edit c.in_ok-reply.reply c.execute.new.content c.in_ok-reply.ensures.reply c.in_ok-reply.ensures.content
    c.execute.ensures.within (rw c.in_ok-edit.ensures c.requires.no_leave) (rw c.self.view_is c.in_ok-check_allowance.ensures.may))

pub returns-clause-source : goal.returns-clause-source
returns-clause-source c = (invariant_of-self-2 c).of_source
