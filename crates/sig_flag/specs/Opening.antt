-- A machine's table at its start.
use Rattle.std.specs.Prelude.{◌≡◌, ◌<◌, ◌^◌, List, length, map, Option}
use Rattle.atomic_table.specs.Seated.{TableId}
use Rattle.atomic_table.specs.declared.shared.Seat.{Seat}
use Rattle.sig_flag.specs.Layouts.{Layout, words_of}
use Rattle.sig_flag.specs.Machines.{layout_by}
use Rattle.sig_flag.specs.Plays.{IsLeft}
use Rattle.sig_flag.specs.declared.accounts.Account.{Account}
use Rattle.sig_flag.specs.declared.rule.FlagKey.{FlagKey}
use Rattle.sig_flag.specs.declared.shape.FlagShape.{FlagShape}
use Rattle.sig_hist.specs.declared.plans.SourcePlan.{SourcePlan}

-- what a machine with this key is made for
abbrev pub layout_of : {V : Type 0} → (V → SourcePlan) → FlagKey V → Layout
layout_of plan_of key = record { plans = map plan_of key.states.value; leaves = key.leaves.value; pollers = key.pollers.value; seats = key.seats }

-- the key, the table and the first seat, which has all accounts
pub record IsOpened {V : Type 0} (plan_of : V → SourcePlan) (shape : FlagShape) (states : List V) (key : FlagKey V) (id : TableId) (seat : Seat (Option V) (List Account)) : Type 0 where
  pub of_layout : layout_of plan_of key ≡ layout_by plan_of shape states
  pub of_words : id.words ≡ words_of (layout_of plan_of key)
  pub of_slots : id.slots ≡ length (layout_of plan_of key).plans
  pub few : id.words < 2 ^ 64
  pub first : IsLeft id (layout_of plan_of key) 0 key.seats seat
