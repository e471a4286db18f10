-- What seats know, one account a seat, and what the steps change of it.
use Rattle.std.specs.Prelude.{ℕ, zero, suc, pos, ◌+◌, ◌-◌, ◌==◌, List, [], ◌∷◌, ◌++◌, length, map, Bool, slice_index_or, slice_set, if◌then◌else◌, None, Some}
use Rattle.std.specs.Simd.Lanes.{zip2}
use Rattle.sig_diff.specs.declared.contents.Content.TheVariants.{Cell}
use Rattle.sig_flag.specs.Layouts.{Layout, leaf_at}
use Rattle.sig_flag.specs.declared.accounts.Account.{Account}
use Rattle.sig_flag.specs.declared.accounts.Hold.{Hold}
use Rattle.sig_flag.specs.declared.accounts.Knowledge.{Knowledge}
use Rattle.sig_flag.specs.declared.accounts.Watch.{Watch}
use Rattle.sig_flag.specs.declared.shape.LeafPlan.{LeafPlan}
use Rattle.sig_hist.specs.Histories.{own_entries}
use Rattle.sig_hist.specs.Ports.{checked, settled, is_news}
use Rattle.sig_hist.specs.declared.edits.Entry.{Entry}
use Rattle.sig_hist.specs.declared.plans.SourcePlan.{SourcePlan}
use Rattle.sig_hist.specs.declared.ports.Condition.{Condition}
use Rattle.sig_hist.specs.declared.ports.Condition.TheVariants.{Idle, Armed, Waiting}
use Rattle.sig_hist.specs.declared.ports.Version.{Version}

-- ---- the start

-- of a source without entries
abbrev pub opening_knowledge : SourcePlan → Knowledge
opening_knowledge plan = record { plan = plan; seen = []; count = 0; own = [] }

-- of a leaf whose bell was never set
abbrev pub no_watch : Watch
no_watch = record { condition = Idle; arms = 0 }

-- of a task that was never told of
abbrev pub no_hold : Hold
no_hold = record { tokens = 0; missed = 0; raised = 0; found = 0 }

abbrev pub opening_account : Layout → ℕ → Account
opening_account layout number = record {
  number = number;
  turn = None;
  met = [];
  knows = map opening_knowledge layout.plans;
  watches = map (λ leaf. no_watch) layout.leaves;
  holds = map (λ poller. no_hold) layout.pollers;
  rings = [];
  tells = [];
}

-- so many accounts, numbered from the first number on
abbrev pub accounts_from : Layout → ℕ → ℕ → List Account
accounts_from layout first zero = []
accounts_from layout first (suc others) = opening_account layout first ∷ accounts_from layout (suc first) others

abbrev pub opening_accounts : Layout → List Account
opening_accounts layout = accounts_from layout 0 layout.seats

-- ---- reading

-- the plan that stands at the numbers that no source has
abbrev pub no_plan : SourcePlan
no_plan = record { start = Cell (pos 0); cap = 1; allow = [] }

abbrev pub plan_at : List SourcePlan → ℕ → SourcePlan
plan_at plans source = slice_index_or plans source no_plan

abbrev pub no_layout : Layout
no_layout = record { plans = []; leaves = []; pollers = []; seats = 0 }

-- the account of a seat, which has one
abbrev pub account_of : List Account → Account
account_of [] = opening_account no_layout 0
account_of (account ∷ accounts) = account

-- what an account knows of a source
abbrev pub known : Account → ℕ → Knowledge
known account source = slice_index_or account.knows source (opening_knowledge no_plan)

-- how it stands to a leaf
abbrev pub watch : Account → ℕ → Watch
watch account leaf = slice_index_or account.watches leaf no_watch

-- how it stands to a task
abbrev pub hold : Account → ℕ → Hold
hold account task = slice_index_or account.holds task no_hold

-- ---- the steps

abbrev pub knowing : Account → ℕ → Knowledge → Account
knowing account source knowledge = record account { knows = slice_set account.knows source knowledge }

-- each leaf's condition changed by where the leaf is
abbrev pub changed : (LeafPlan → Condition → Condition) → List LeafPlan → Account → List Watch
changed change leaves account = zip2 {A = LeafPlan} {B = Watch} {C = Watch} (λ leaf watch. record watch { condition = change leaf watch.condition }) leaves account.watches

-- after a look that showed this: the leaves on the source whose bells were set are checked
abbrev pub after_look : List LeafPlan → Account → ℕ → Version → Account
after_look leaves account source version =
    record (knowing account source (record (known account source) { count = version.count })) { watches = changed (λ leaf condition. if leaf.source == source then checked version condition else condition) leaves account }

-- after a task came to rest: its checked leaves wait, its others are idle, and one of its tokens is spent
abbrev pub at_rest : List LeafPlan → Account → ℕ → Account
at_rest leaves account task = record account {
  watches = changed (λ leaf condition. if leaf.task == task then settled condition else condition) leaves account;
  holds = slice_set account.holds task (record (hold account task) { tokens = (hold account task).tokens - 1 });
}

-- after a look for the last time at the source of a leaf of which so many entries are known: where it showed no more, the leaf's task came to rest
abbrev pub after_last_look : List LeafPlan → Account → ℕ → ℕ → Version → Account
after_last_look leaves account leaf at version =
    if is_news at version then after_look leaves account (leaf_at leaves leaf).source version
    else at_rest leaves (after_look leaves account (leaf_at leaves leaf).source version) (leaf_at leaves leaf).task

-- after a take that got the turn of a source with this history
abbrev pub after_turn : Account → ℕ → List Entry → Account
after_turn account source history =
    record (knowing account source (record (known account source) { seen = history; count = length history })) { turn = Some source }

-- after a take that found the word held
abbrev pub after_held : Account → ℕ → ℕ → Account
after_held account source word = record account { met = account.met ++ record { source = source; word = word } ∷ [] }

-- the leaves on a source, numbered from the first number on
abbrev pub leaves_on : ℕ → List LeafPlan → ℕ → List ℕ
leaves_on source [] first = []
leaves_on source (leaf ∷ leaves) first = if leaf.source == source then first ∷ leaves_on source leaves (suc first) else leaves_on source leaves (suc first)

-- the bells that are to be rung where a source has another history now: those of its leaves, if an entry came
abbrev pub rings_for : List LeafPlan → Account → ℕ → List Entry → List ℕ
rings_for leaves account source history = if length history == length (known account source).seen then [] else leaves_on source leaves 0

-- after the turn was given back with this history
abbrev pub after_give : List LeafPlan → Account → ℕ → List Entry → Account
after_give leaves account source history = record (knowing account source (record (known account source) { seen = history; count = length history; own = own_entries account.number history })) {
  turn = None;
  rings = account.rings ++ rings_for leaves account source history;
}

-- ---- bells

-- after a leaf's bell was set
abbrev pub after_arm : Account → ℕ → Account
after_arm account leaf = record account { watches = slice_set account.watches leaf (record { condition = Armed; arms = (watch account leaf).arms + 1 }) }

-- without the first of these
abbrev pub struck : ℕ → List ℕ → List ℕ
struck what [] = []
struck what (first ∷ others) = if first == what then others else first ∷ struck what others

-- after a leaf's bell was rung, by whether it was set
abbrev pub after_ring : List LeafPlan → Account → ℕ → Bool → Account
after_ring leaves account leaf was_set = record account { rings = struck leaf account.rings; tells = if was_set then account.tells ++ (leaf_at leaves leaf).task ∷ [] else account.tells }

-- after a task was told, by whether it was told already: if not, it was told once more
abbrev pub after_tell : Account → ℕ → Bool → Account
after_tell account task was_told = record account {
  holds = if was_told then account.holds else slice_set account.holds task (record (hold account task) { raised = (hold account task).raised + 1 });
  tells = struck task account.tells;
}

-- ---- tokens

-- a leaf's condition once its task has a token more
abbrev pub woken : Condition → Condition
woken (Waiting version) = Waiting version
woken _ = Idle

-- after it was asked whether a task was told: if so it was found told once more and has a token more, and else none was found once more
abbrev pub after_collect : List LeafPlan → Account → ℕ → Bool → Account
after_collect leaves account task was_told =
    if was_told then
    record account {
      watches = changed (λ leaf condition. if leaf.task == task then woken condition else condition) leaves account;
      holds = slice_set account.holds task (record (hold account task) {
        tokens = (hold account task).tokens + 1;
        found = (hold account task).found + 1;
      });
    }
    else record account { holds = slice_set account.holds task (record (hold account task) { missed = (hold account task).missed + 1 }) }
