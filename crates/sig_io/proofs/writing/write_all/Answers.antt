use Rattle.std.proofs.Common.{rules}
use Rattle.std.proofs.Math.Seq.{take-add}
use Rattle.std.proofs.lemmas.List.{take_rest}
use Rattle.std.proofs.KnownBytes.{Appends-trans}
use Rattle.sig_io.proofs.writing.write_all.Goals as goal

pub writes-preserved : goal.writes-preserved
writes-preserved g c =
    let more = rw take_rest at c.in_ok-sent.ensures.bytes in record {
      within = search rules;
      kept = search rules;
      appended = rw take-add (Appends-trans _ _ _ _ _ c.writes.invariant.appended more);
    }
