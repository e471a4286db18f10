use Rattle.std.proofs.Common.{◌≡◌, ◌++◌, ◌≤◌, map, length, vec_capacity}
use Rattle.sig_exec.specs.Jobs.{rows_of}
use Rattle.sig_exec.proofs.exec.with_rows.Given as goal

abbrev pub invariant-works : goal.invariant-works
invariant-works l = record {
  given : l.room.items ≡ map rows_of l.yielded;
  all : l.yielded ++ l.work-iterator.rest.items ≡ l.fn.works.items;
  room : length l.fn.works.items ≤ vec_capacity l.room;
}
