-- The told rule: what holds of the words, the states at home and what the seats know, between any two steps.
-- Its first half is on turns. The second is on bells, and says that no task that waits is left untold. A leaf whose bell was set has a bell
-- that is still to be rung, or its task is stirred: it is told, or somebody has yet to tell it. A leaf whose source was looked at after that besides
-- is up to date, or somebody has yet to ring, or its task is stirred. And both hold for a leaf whose task waits, or the task has a token.
use Rattle.std.specs.Prelude.{◌≡◌, ◌≢◌, ℕ, ◌+◌, ◌<◌, ◌≤◌, List, length, slice_index, sum_by, true, Option, ◌⊎◌}
use Rattle.sig_flag.specs.Accounts.{plan_at, watch, hold}
use Rattle.sig_flag.specs.Layouts.{Layout, leaf_at, bell_of, ready_of, words_of, poller_of}
use Rattle.sig_flag.specs.Turns.{HasTurns}
use Rattle.sig_flag.specs.declared.accounts.Account.{Account}
use Rattle.sig_hist.specs.Plain.{version_of}
use Rattle.sig_hist.specs.Sources.{is_among}
use Rattle.sig_hist.specs.declared.edits.Entry.{Entry}
use Rattle.sig_hist.specs.declared.plans.SourcePlan.{SourcePlan}
use Rattle.sig_hist.specs.declared.ports.Condition.{Condition}
use Rattle.sig_hist.specs.declared.ports.Condition.TheVariants.{Idle, Armed, Checked, Waiting}
use Rattle.sig_hist.specs.declared.ports.Version.{Version}
use Rattle.atomic_table.specs.Table.{State}
use lib.ListN.{get_elem?}
use mathlib.Core.Option as slot

-- some account of some view has this to do
pub record IsOwed (owed : Account → List ℕ) (views : List (List Account)) (what : ℕ) : Type 0 where
  pub view : ℕ
  pub at : ℕ
  pub all : List Account
  pub account : Account
  pub is_view : get_elem? views view ≡ slot.some all
  pub is_account : get_elem? all at ≡ slot.some account
  pub owes : is_among what (owed account) ≡ true

module _ (layout : Layout) (words : List ℕ) (views : List (List Account)) (history : ℕ → List Entry) where
  -- the task was told, or somebody has yet to tell it
  abbrev pub IsStirred : ℕ → Type 0
  IsStirred task = (slice_index words (ready_of layout task) ≡ 1) ⊎ IsOwed (λ account. account.tells) views task

  -- whoever rings the leaf's bell will find it set, or its task is stirred
  abbrev pub IsSet : ℕ → Type 0
  IsSet leaf = (slice_index words (bell_of layout leaf) ≡ 1) ⊎ IsStirred (leaf_at layout.leaves leaf).task

  -- what the leaf's source shows
  abbrev pub version_at : ℕ → Version
  version_at leaf = version_of (record { plan = plan_at layout.plans (leaf_at layout.leaves leaf).source; history = history (leaf_at layout.leaves leaf).source })

  -- the leaf's source shows this still, or somebody has yet to ring the leaf's bell, or its task is stirred
  abbrev pub IsUpTo : ℕ → Version → Type 0
  IsUpTo leaf version = (version_at leaf ≡ version) ⊎ (IsOwed (λ account. account.rings) views leaf ⊎ IsStirred (leaf_at layout.leaves leaf).task)

  -- what is certain of a leaf in this condition, whose task has so many tokens
  abbrev pub IsWatched : ℕ → ℕ → Condition → Type 0
  IsWatched leaf tokens Idle = Unit {0}
  IsWatched leaf tokens Armed = IsSet leaf
  IsWatched leaf tokens (Checked version) = IsSet leaf × IsUpTo leaf version
  IsWatched leaf tokens (Waiting version) = (IsSet leaf × IsUpTo leaf version) ⊎ (0 < tokens)

  -- an account's leaves, of which all are idle but those that its seat polls
  pub record IsWatching (account : Account) : Type 0 where
    pub watches : length account.watches ≡ length layout.leaves
    pub holds : length account.holds ≡ length layout.pollers
    pub each : (leaf : ℕ) → leaf < length layout.leaves → IsWatched leaf (hold account (leaf_at layout.leaves leaf).task).tokens (watch account leaf).condition
    pub others : (leaf : ℕ) → leaf < length layout.leaves → account.number ≢ poller_of layout leaf → (watch account leaf).condition ≡ Idle

-- a number of an account, added up over all views
abbrev pub total : (Account → ℕ) → List (List Account) → ℕ
total number views = sum_by (λ accounts. sum_by number accounts) views

pub record Told {V : Type 0} (plan_of : V → SourcePlan) (history_of : V → List Entry) (layout : Layout) (s : State (Option V) (List Account)) : Type 0 where
  pub turns : HasTurns plan_of history_of layout.plans layout.seats s
  pub wide : words_of layout ≤ length s.words
  -- bells and ready words are 0 or 1
  pub bits : (place : ℕ) → length layout.plans ≤ place → place < words_of layout → slice_index s.words place ≤ 1
  -- a bell is set only where some seat has set it
  pub armed : (leaf : ℕ) → leaf < length layout.leaves → slice_index s.words (bell_of layout leaf) ≤ total (λ account. (watch account leaf).arms) s.views
  -- each task is told at the start, and its ready word tells whether it was told once more than it was found told
  pub counts : (task : ℕ) → task < length layout.pollers →
      slice_index s.words (ready_of layout task) + total (λ account. (hold account task).found) s.views ≡ 1 + total (λ account. (hold account task).raised) s.views
  pub watching : (view at : ℕ) (all : List Account) (account : Account) → get_elem? s.views view ≡ slot.some all → get_elem? all at ≡ slot.some account → IsWatching layout s.words s.views turns.history account
