-- The told rule's first half, on turns and histories: what holds between any two steps of the words and states of sources, and of what the seats
-- know of these. Each source has one legal history, and its word says how long that is and whether it is closed. While nobody has the turn, the source's
-- state with that history is at home. While a seat has it, the word is one more, and that seat has seen the whole history. Every seat has seen
-- a front of it, and knows all the entries that it made itself.
use Rattle.std.specs.Prelude.{◌≡◌, ℕ, ◌+◌, ◌<◌, ◌≤◌, List, [], ◌∷◌, length, slice_index, true, get_or, Option, None, Some}
use Rattle.sig_flag.specs.Accounts.{plan_at, known}
use Rattle.sig_flag.specs.Words.{free_word}
use Rattle.sig_flag.specs.declared.accounts.Account.{Account}
use Rattle.sig_flag.specs.declared.accounts.Knowledge.{Knowledge}
use Rattle.sig_hist.specs.Histories.{IsFront, own_entries, is_leave}
use Rattle.sig_hist.specs.Sources.{IsSource}
use Rattle.sig_hist.specs.declared.edits.Entry.{Entry}
use Rattle.sig_hist.specs.declared.plans.SourcePlan.{SourcePlan}
use Rattle.atomic_table.specs.Table.{State}
use lib.ListN.{get_elem?}
use mathlib.Core.Option as slot

-- ---- histories

-- nothing comes after a leave
abbrev pub LeavesLast : List Entry → Type 0
LeavesLast [] = Unit {0}
LeavesLast (entry ∷ entries) = (is_leave entry.edit ≡ true → entries ≡ []) × LeavesLast entries

pub record IsHistory (plan : SourcePlan) (history : List Entry) : Type 0 where
  pub of_source : IsSource (record { plan = plan; history = history })
  pub leaves : (writer : ℕ) → LeavesLast (own_entries writer history)

-- what the seat with a number knows of a source with this history
pub record IsKnown (number : ℕ) (plan : SourcePlan) (history : List Entry) (knowledge : Knowledge) : Type 0 where
  pub of_plan : knowledge.plan ≡ plan
  pub front : IsFront knowledge.seen history
  pub seen : length knowledge.seen ≤ knowledge.count
  pub count : knowledge.count ≤ length history
  pub own : knowledge.own ≡ own_entries number history

-- ---- turns

module _ {V : Type 0} (plan_of : V → SourcePlan) (history_of : V → List Entry) where
  -- a state with this plan and history
  pub record IsState (plan : SourcePlan) (history : List Entry) (state : V) : Type 0 where
    pub of_plan : plan_of state ≡ plan
    pub of_history : history_of state ≡ history

  -- by who has the turn: what the word is, and what is at home
  abbrev pub IsTurn : SourcePlan → List Entry → Option ℕ → ℕ → slot.Option (Option V) → Type 0
  IsTurn plan history None word home = (word ≡ free_word plan history) × ((state : V) × (home ≡ slot.some (Some state)) × IsState plan history state)
  IsTurn plan history (Some number) word home = (word ≡ free_word plan history + 1) × (home ≡ slot.none)

-- ---- the rule

-- the account of a number, in the view at its place
pub record IsAccount (plans : List SourcePlan) (seats : ℕ) (history : ℕ → List Entry) (holder : ℕ → Option ℕ) (place : ℕ → ℕ) (view : ℕ) (account : Account) : Type 0 where
  pub at_place : place account.number ≡ view
  pub of_seat : account.number < seats
  pub of_plans : length account.knows ≡ length plans
  pub knows : (source : ℕ) → source < length plans → IsKnown account.number (plan_at plans source) (history source) (known account source)
  pub has_turn : (source : ℕ) → account.turn ≡ Some source → (source < length plans) × (holder source ≡ Some account.number) × ((known account source).seen ≡ history source)
  pub only : (source : ℕ) → source < length plans → holder source ≡ Some account.number → account.turn ≡ Some source

-- some view has the account of a number
pub record IsThere (views : List (List Account)) (number : ℕ) : Type 0 where
  pub view : ℕ
  pub at : ℕ
  pub all : List Account
  pub account : Account
  pub is_view : get_elem? views view ≡ slot.some all
  pub is_account : get_elem? all at ≡ slot.some account
  pub of_number : account.number ≡ number

pub record HasTurns {V : Type 0} (plan_of : V → SourcePlan) (history_of : V → List Entry) (plans : List SourcePlan) (seats : ℕ) (s : State (Option V) (List Account)) : Type 0 where
  -- of each source its history and who has its turn, and of each seat's number the view in which its account is
  pub history : ℕ → List Entry
  pub holder : ℕ → Option ℕ
  pub place : ℕ → ℕ
  pub wide : length plans ≤ length s.words
  pub sources : (source : ℕ) → source < length plans → IsHistory (plan_at plans source) (history source)
  pub turns : (source : ℕ) → source < length plans → IsTurn plan_of history_of (plan_at plans source) (history source) (holder source) (slice_index s.words source) (get_or s.homes source slot.none)
  pub holders : (source number : ℕ) → source < length plans → holder source ≡ Some number → IsThere s.views number
  pub accounts : (view at : ℕ) (all : List Account) (account : Account) → get_elem? s.views view ≡ slot.some all → get_elem? all at ≡ slot.some account → IsAccount plans seats history holder place view account
  pub apart : (view one other : ℕ) (all : List Account) (a b : Account) → get_elem? s.views view ≡ slot.some all → get_elem? all one ≡ slot.some a → get_elem? all other ≡ slot.some b → a.number ≡ b.number → one ≡ other
