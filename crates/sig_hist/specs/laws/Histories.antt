-- Laws of the histories of sources.
use Rattle.std.specs.Prelude.{◌≡◌, List, true}
use Rattle.sig_hist.specs.Histories.{IsFront, is_closed}
use Rattle.sig_hist.specs.Sources.{Source, IsSource, writers_of}
use Rattle.sig_hist.specs.declared.edits.Entry.{Entry}

-- a front of a source's history in which all writers have left is the whole history
abbrev pub ClosedIsWhole : Type 0
ClosedIsWhole =
    (source : Source) (front : List Entry) → IsSource source → IsFront front source.history → is_closed (writers_of source.plan.allow) front ≡ true
    → front ≡ source.history
