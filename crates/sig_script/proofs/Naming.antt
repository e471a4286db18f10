-- How many names a list's objects have.
use Rattle.std.proofs.Common.{◌≡◌, ℕ, ◌+◌, length, refl, ap, suc, ◌∙◌, sym, add-one}
use Rattle.serde_json.specs.Data.{Data, Items, no_items, item}
use Rattle.sig_script.specs.Fields.{item_count}
use Rattle.sig_script.specs.Names.{names_from}
use Rattle.sig_script.specs.declared.grammar.Meaning.{Meaning}

pub names_count : (means : ℕ → Data → Meaning) (number : ℕ) (values : Items) → length (names_from means number values) ≡ item_count values
names_count means number no_items = refl
names_count means number (item value values) = ap suc (names_count means (number + 1) values) ∙ sym (add-one _)
