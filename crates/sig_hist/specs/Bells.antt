-- How the leaves of one task stand to the bells of their sources, and what is listed of them.
use Rattle.std.specs.Prelude.{◌≡◌, ℕ, ◌<◌, ◌≤◌, List, [], ◌∷◌, length, get_or, slice_set, Bool, true, false, All}
use Rattle.sig_hist.specs.Plain.{no_leaf}
use Rattle.sig_hist.specs.Ports.{is_open}
use Rattle.sig_hist.specs.Sources.{is_among}
use Rattle.sig_hist.specs.declared.bells.PlainLeaf.{PlainLeaf}
use Rattle.sig_hist.specs.declared.ports.Condition.{Condition}
use Rattle.sig_hist.specs.declared.ports.Condition.TheVariants.{Idle, Armed, Checked, Waiting}

abbrev pub is_waiting : Condition → Bool
is_waiting (Waiting version) = true
is_waiting _ = false

-- a rest ends the waits before it, and begins those of checked leaves
abbrev pub wait_ended : PlainLeaf → PlainLeaf
wait_ended leaf = record leaf { condition = ended leaf.condition }
  where
    ended : Condition → Condition
    ended (Waiting version) = Idle
    ended condition = condition

abbrev pub wait_begun : PlainLeaf → PlainLeaf
wait_begun leaf = record leaf { condition = begun leaf.condition }
  where
    begun : Condition → Condition
    begun (Checked version) = Waiting version
    begun Armed = Idle
    begun condition = condition

-- the leaves at some places are changed, one after another
abbrev pub changed_at : (PlainLeaf → PlainLeaf) → List ℕ → List PlainLeaf → List PlainLeaf
changed_at f [] leaves = leaves
changed_at f (place ∷ places) leaves = changed_at f places (slice_set leaves place (f (get_or leaves place no_leaf)))

-- places of so many leaves, with room for all
pub record ArePlaces (count : ℕ) (places : List ℕ) (capacity : ℕ) : Type 0 where
  pub within : All (λ place. place < count) places
  pub few : length places ≤ count
  pub room : count ≤ capacity

-- each leaf that isn't idle is listed: those whose bell was set since the last rest, and those that wait
pub record AreListed (leaves : List PlainLeaf) (armed waiting : List ℕ) (armed_room waiting_room : ℕ) : Type 0 where
  pub opens : (leaf : ℕ) → is_open (get_or leaves leaf no_leaf).condition ≡ true → is_among leaf armed ≡ true
  pub waits : (leaf : ℕ) → is_waiting (get_or leaves leaf no_leaf).condition ≡ true → is_among leaf waiting ≡ true
  pub of_armed : ArePlaces (length leaves) armed armed_room
  pub of_waiting : ArePlaces (length leaves) waiting waiting_room
