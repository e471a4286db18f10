use Rattle.std.proofs.Common.{rules, sym, ◌∙◌}
use Rattle.std.proofs.lemmas.List.{map-append, length-map}
use Rattle.sig_script.proofs.NameTables.{stays_first, comes_first}
use Rattle.sig_script.proofs.name_table.NameTable.add.Goals as goal

pub invariant_of-self-then-contains_key : goal.invariant_of-self-then-contains_key
invariant_of-self-then-contains_key c = rw (c.in_ok-push.ensures.items, map-append) (stays_first _ c.self.inside.places _ _ c.self.invariant (sym c.contains_key.ensures ∙ c.if-contains_key.true))

pub invariant_of-self-in-Ok : goal.invariant_of-self-in-Ok
invariant_of-self-in-Ok c = rw (c.in_ok-push.ensures.items, map-append) (comes_first _ c.self.inside.places c.insert.new.self _ _ _ c.self.invariant (sym c.contains_key.ensures ∙ c.if-contains_key.false) (rw length-map (search rules)) c.in-Ok.ensures.updates)
