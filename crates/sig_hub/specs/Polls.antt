-- A poller's pass as a port, and the tokens of its tasks.
use Rattle.std.specs.Prelude.{◌≡◌, ℕ, ◌+◌, ◌-◌, ◌^◌, ◌==◌, min, length, nat_lt, Bool, true, false, ◌&&◌, if◌then◌else◌}
use Rattle.sig_flag.specs.Accounts.{watch, hold, woken}
use Rattle.sig_flag.specs.Layouts.{leaf_at, poller_of}
use Rattle.sig_flag.specs.Machines.{Machine}
use Rattle.sig_hist.specs.Ports.{PortState, put}
use Rattle.sig_hub.specs.Passes.{Pass, HasTold, plan_in, seen, seen_count}

-- whether the pass polls the task of the leaf
abbrev pub polls : Pass → ℕ → Bool
polls pass leaf = nat_lt leaf (length pass.hub.layout.leaves) && (poller_of pass.hub.layout leaf == pass.account.number)

-- what the port over a pass knows: arms are counted up to the last number of 64 bits
abbrev pub port_of : Pass → PortState
port_of pass = record {
  is_own = polls pass;
  source = λ leaf. (leaf_at pass.hub.layout.leaves leaf).source;
  task = λ leaf. (leaf_at pass.hub.layout.leaves leaf).task;
  condition = λ leaf. (watch pass.account leaf).condition;
  arms = λ leaf. min (watch pass.account leaf).arms (2 ^ 64 - 1);
  plan = plan_in pass;
  seen = seen pass;
  count = seen_count pass;
  tokens = λ task. (hold pass.account task).tokens;
  missed = λ task. (hold pass.account task).missed;
  met = pass.account.met;
}

-- the same pass after one of its calls, which leave nothing to ring and nothing to tell
pub record IsSamePoller (old new : Pass) : Type 0 where
  pub hub : new.hub ≡ old.hub
  pub number : new.account.number ≡ old.account.number
  pub told : HasTold old → HasTold new

-- ---- tokens

-- that a task was told, at a hub with this machine
pub record Token : Type 0 where
  pub hub : Machine
  pub task : ℕ

-- after it was asked whether a task was told: if so, one token of it more is held, and none of its leaves but those that wait
-- counts on a set bell; and else none was found once more
abbrev pub collected : PortState → ℕ → Bool → PortState
collected s task true = record s {
  condition = λ leaf. if s.task leaf == task then woken (s.condition leaf) else s.condition leaf;
  tokens = put s.tokens task (s.tokens task + 1);
}
collected s task false = record s { missed = put s.missed task (s.missed task + 1) }
