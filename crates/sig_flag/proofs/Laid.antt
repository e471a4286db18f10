-- The machine that a call sees is that of the table inside it.
use Rattle.std.proofs.Common.{◌≡◌, ◌∙◌, ℕ, ◌<◌, List, [], ◌∷◌, length, map, Option, All, sym, ap, subst, arith}
use Rattle.std.proofs.lemmas.List.{length-map}
use Rattle.atomic_table.specs.Table.{rest}
use Rattle.atomic_table.specs.Seated.{TableId}
use Rattle.atomic_table.specs.declared.shared.Seat.{Seat}
use Rattle.sig_flag.specs.Layouts.{IsLeafOf, leaf_at, no_leaf, bell_of, ready_of}
use Rattle.sig_flag.specs.Machines.{Machine, IsLaid, Sits}
use Rattle.sig_flag.specs.Opening.{layout_of}
use Rattle.sig_flag.specs.declared.accounts.Account.{Account}
use Rattle.sig_flag.specs.declared.rule.FlagKey.{FlagKey}
use Rattle.sig_flag.specs.declared.shape.LeafPlan.{LeafPlan}
use Rattle.sig_hist.specs.declared.plans.SourcePlan.{SourcePlan}

abbrev pub machine : {V : Type 0} → (V → SourcePlan) → TableId → FlagKey V → Machine
machine plan_of id key = record { id = id; layout = layout_of plan_of key }

-- a source of the machine has a word and a slot in its table
pub record IsWithin (id : TableId) (plans : List SourcePlan) (source : ℕ) : Type 0 where
  pub plan : source < length plans
  pub word : source < id.words
  pub slot : source < id.slots

-- a layout has a plan for each state
pub leaves_of : {V : Type 0} (plan_of : V → SourcePlan) (key : FlagKey V) → All (IsLeafOf (length key.states.value) (length key.pollers.value)) key.leaves.value → All (IsLeafOf (length (layout_of plan_of key).plans) (length key.pollers.value)) key.leaves.value
leaves_of plan_of key = subst (λ (n : ℕ). All (IsLeafOf n (length key.pollers.value)) key.leaves.value) (sym (length-map key.states.value plan_of))

pub leaves_back : {V : Type 0} (plan_of : V → SourcePlan) (key : FlagKey V) → All (IsLeafOf (length (layout_of plan_of key).plans) (length key.pollers.value)) key.leaves.value → All (IsLeafOf (length key.states.value) (length key.pollers.value)) key.leaves.value
leaves_back plan_of key = subst (λ (n : ℕ). All (IsLeafOf n (length key.pollers.value)) key.leaves.value) (length-map key.states.value plan_of)

module _ {V : Type 0} where
  pub same_table : (machine now : Machine) (seat : Seat (Option V) (List Account)) → machine ≡ now → Sits now seat → seat.table_id ≡ machine.id
  same_table machine now seat is sits = sits.at_table ∙ ap (λ (m : Machine). m.id) (sym is)

  pub has_source : (plan_of : V → SourcePlan) (id : TableId) (key : FlagKey V) (now : Machine) (source : ℕ) → machine plan_of id key ≡ now → IsLaid id (layout_of plan_of key) →
      source < length now.layout.plans → IsWithin id (layout_of plan_of key).plans source
  has_source plan_of id key now source is laid within =
      let plan : source < length (map plan_of key.states.value) = subst (λ (m : Machine). source < length m.layout.plans) (sym is) within in
      record { plan = plan; word = omega (arith, laid.of_words); slot = omega (arith, laid.of_slots) }

  -- a leaf's source is one of the sources
  pub has_leaf : (plan_of : V → SourcePlan) (id : TableId) (key : FlagKey V) (now : Machine) (leaf : ℕ) (leaves : List LeafPlan) → machine plan_of id key ≡ now → IsLaid id (layout_of plan_of key) → leaf < length now.layout.leaves → leaves ≡ key.leaves.value →
      ((leaf_at key.leaves.value leaf).source ≡ (leaf_at leaves leaf).source) × IsWithin id (layout_of plan_of key).plans (leaf_at leaves leaf).source
  has_leaf plan_of id key now leaf leaves is laid within same =
      let here : leaf < length key.leaves.value = subst (λ (m : Machine). leaf < length m.layout.leaves) (sym is) within in
      let on = laid.leaves leaf no_leaf here in
      let source : (leaf_at leaves leaf).source < length (map plan_of key.states.value) = subst (λ (all : List LeafPlan). (leaf_at all leaf).source < length (map plan_of key.states.value)) (sym same) on.of_source in
      (ap (λ (all : List LeafPlan). (leaf_at all leaf).source) (sym same), record { plan = source; word = omega (arith, laid.of_words); slot = omega (arith, laid.of_slots) })

  -- a leaf's bell, and a task's ready word, is one of the words
  pub has_bell : (plan_of : V → SourcePlan) (id : TableId) (key : FlagKey V) (now : Machine) (leaf word : ℕ) → machine plan_of id key ≡ now → IsLaid id (layout_of plan_of key) → leaf < length now.layout.leaves → word ≡ bell_of now.layout leaf →
      (leaf < length key.leaves.value) × (word ≡ bell_of (layout_of plan_of key) leaf) × (word < id.words)
  has_bell plan_of id key now leaf word is laid within at =
      let here : leaf < length key.leaves.value = subst (λ (m : Machine). leaf < length m.layout.leaves) (sym is) within in
      let at_bell : word ≡ bell_of (layout_of plan_of key) leaf = at ∙ ap (λ (m : Machine). bell_of m.layout leaf) (sym is) in
      (here, at_bell, omega (arith, laid.of_words))

  pub has_ready : (plan_of : V → SourcePlan) (id : TableId) (key : FlagKey V) (now : Machine) (task word : ℕ) → machine plan_of id key ≡ now → IsLaid id (layout_of plan_of key) → task < length now.layout.pollers → word ≡ ready_of now.layout task →
      (task < length key.pollers.value) × (word ≡ ready_of (layout_of plan_of key) task) × (word < id.words)
  has_ready plan_of id key now task word is laid within at =
      let here : task < length key.pollers.value = subst (λ (m : Machine). task < length m.layout.pollers) (sym is) within in
      let at_ready : word ≡ ready_of (layout_of plan_of key) task = at ∙ ap (λ (m : Machine). ready_of m.layout task) (sym is) in
      (here, at_ready, omega (arith, laid.of_words))

-- the one slot that a seat has is the one that it took last
pub has_slot : {X : Type 0} (slots : List (ℕ × X)) (source : ℕ) (x : X) → slots ≡ (source, x) ∷ [] → slots ≡ (source, x) ∷ rest slots
has_slot {X} slots source x is = is ∙ ap (λ (others : List (ℕ × X)). (source, x) ∷ others) (sym (ap rest is))
