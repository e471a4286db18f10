use Rattle.std.proofs.Common.{◌≡◌, ◌++◌, length}
use Rattle.std.specs.Vec.Iter.{into_iter_items}
use Rattle.sig_hub.specs.Starting.{AreDrafts}
use Rattle.sig_hub.proofs.Started.{AreStarting}
use Rattle.sig_hub.proofs.hub.Hub.writer_passes.Given as goal

abbrev pub invariant-drafts : goal.invariant-drafts
invariant-drafts l = record {
  starting : AreStarting l.self 0 (into_iter_items l.initial.seats) (into_iter_items l.seats) l.passes.items;
  parts : l.yielded ++ into_iter_items l.draft-iterator ≡ l.fn.drafts.items;
  drafts : AreDrafts l.self.machine.layout.plans (length l.passes.items) (into_iter_items l.draft-iterator);
  counted : length l.passes.items ≡ length l.yielded;
}
