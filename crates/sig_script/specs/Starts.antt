-- Scripts whose sources start in order.
use Rattle.std.specs.List.{All}
use Rattle.sig_hist.specs.Changes.{IsInOrder}
use Rattle.sig_script.specs.declared.types.Script.{Script}
use Rattle.sig_script.specs.declared.types.SourceDef.{SourceDef}

-- the keys of each map that a source starts with rise
abbrev pub StartsInOrder : Script → Type 0
StartsInOrder script = All (λ (source : SourceDef). IsInOrder source.start) script.sources
