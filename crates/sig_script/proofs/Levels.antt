-- What is said of an expression by its levels, where there is a level at least.
use Rattle.std.proofs.Common.{◌≡◌, ◌≢◌, ℕ, zero, suc, ◌+◌, ◌-◌, List, Some, false, refl, arith}
use Rattle.serde_json.specs.Data.{Data}
use Rattle.sig_script.specs.Building.{map_built, map_from, signal_built, signal_from, vector_built, vector_from}
use Rattle.sig_script.specs.Grammar.{Form, form_of}
use Rattle.sig_script.specs.Walks.{Visit, fields_fault, fields_leaves, fields_of, leaf_count, walk_fault}
use Rattle.sig_script.specs.declared.grammar.Class.{Class}
use Rattle.sig_script.specs.declared.grammar.Class.TheVariants as class
use Rattle.sig_script.specs.declared.grammar.Meaning.{Meaning}

less : (levels : ℕ) → suc levels - 1 ≡ levels
less levels = omega arith

pub walk_below : (visit : Visit) (levels depth : ℕ) (class : Class) (value : Data) → levels ≢ 0 → visit.refuses depth class value ≡ false
    → walk_fault visit levels depth class value ≡ fields_fault visit (walk_fault visit (levels - 1) (depth + 1)) (fields_of class value)
walk_below visit zero depth class value some taken = absurd (some refl)
walk_below visit (suc levels) depth class value some taken = rw (taken, less levels)

pub leaves_below : (levels : ℕ) (class : Class) (value : Data) → levels ≢ 0 → leaf_count levels class value ≡ fields_leaves (leaf_count (levels - 1)) (fields_of class value)
leaves_below zero class value some = absurd (some refl)
leaves_below (suc levels) class value some = rw (less levels)

module _ (names : List (List ℕ × Meaning)) (sources : ℕ) where
  pub signal_below : (levels : ℕ) (value : Data) (form : Form) → levels ≢ 0 → Some form ≡ form_of class.Signal value
      → signal_from names sources levels value
      ≡ signal_built names sources (signal_from names sources (levels - 1)) (vector_from names sources (levels - 1)) (map_from names sources (levels - 1)) form.node form.fields
  signal_below zero value form some read = absurd (some refl)
  signal_below (suc levels) value form some read = rw (← read, less levels)

  pub vector_below : (levels : ℕ) (value : Data) (form : Form) → levels ≢ 0 → Some form ≡ form_of class.Vector value
      → vector_from names sources levels value
      ≡ vector_built names sources (signal_from names sources (levels - 1)) (vector_from names sources (levels - 1)) (map_from names sources (levels - 1)) form.node form.fields
  vector_below zero value form some read = absurd (some refl)
  vector_below (suc levels) value form some read = rw (← read, less levels)

  pub map_below : (levels : ℕ) (value : Data) (form : Form) → levels ≢ 0 → Some form ≡ form_of class.Map value
      → map_from names sources levels value
      ≡ map_built names sources (signal_from names sources (levels - 1)) (vector_from names sources (levels - 1)) (map_from names sources (levels - 1)) form.node form.fields
  map_below zero value form some read = absurd (some refl)
  map_below (suc levels) value form some read = rw (← read, less levels)
