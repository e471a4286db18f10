-- A document's maps start with rising keys.
use Rattle.std.proofs.Common.{ℤ, pos, List, [], All, Option, None, Some, codes, refl}
use Rattle.std.proofs.lemmas.List.Elements.{All-cons, All-nil}
use Rattle.std.specs.Option.{option_map_or}
use Rattle.serde_json.specs.Data.{Data, Items, no_items, item, Members}
use Rattle.sig_diff.proofs.Ranks.{rising_with_value}
use Rattle.sig_diff.specs.Entries.{IsRising}
use Rattle.sig_diff.specs.declared.contents.Content.TheVariants as content
use Rattle.sig_diff.specs.declared.contents.Kind.{Kind}
use Rattle.sig_diff.specs.declared.contents.Kind.TheVariants.{Cell, Vector, Map}
use Rattle.sig_hist.specs.Changes.{IsInOrder}
use Rattle.sig_script.specs.Building.{content_from, defs, entries_in, script_of, source_def}
use Rattle.sig_script.specs.Fields.{items_in, list_at, members_in}
use Rattle.sig_script.specs.Grammar.{content_field}
use Rattle.sig_script.specs.Starts.{StartsInOrder}
use Rattle.sig_script.specs.declared.types.SourceDef.{SourceDef}

each_def : {T : Type 0} (P : T → Type 0) (f : Data → T) → ((value : Data) → P (f value)) → (values : Items) → All P (defs f values)
each_def P f each no_items = All-nil P
each_def P f each (item value values) = All-cons P (f value) (defs f values) (each value) (each_def P f each values)

rising_entries : (values : Items) (entries : List (ℤ × ℤ)) → IsRising entries → IsRising (entries_in entries values)
rising_entries no_items entries rising = rising
rising_entries (item value values) entries rising = rising_entries values _ (rising_with_value _ _ entries rising)

content_in_order : (kind : Kind) (value : Data) → IsInOrder (content_from kind value)
content_in_order Cell value = tt
content_in_order Vector value = tt
content_in_order Map value = rising_entries (items_in value) [] refl

field_in_order : (field : Option (Kind × Data)) → IsInOrder (option_map_or (λ (field : Kind × Data). content_from field.0 field.1) field (content.Cell (pos 0)))
field_in_order None = tt
field_in_order (Some (kind, value)) = content_in_order kind value

pub starts_in_order : (members : Members) → StartsInOrder (script_of members)
starts_in_order members = each_def (λ (source : SourceDef). IsInOrder source.start) source_def (λ value. field_in_order (content_field (members_in value))) (list_at (codes "sources") members)
