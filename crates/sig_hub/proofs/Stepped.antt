-- A station between two calls: what a step of its seat leaves of it, and what its pass knows as a port after the step.
use Rattle.std.proofs.Common.{◌≡◌, ◌∙◌, ℕ, List, length, Option, sym, ap}
use Rattle.sig_flag.specs.Accounts.{known}
use Rattle.sig_flag.specs.Machines.{Machine, account, Has, IsSameSeat}
use Rattle.sig_flag.specs.declared.accounts.Account.{Account}
use Rattle.sig_flag.specs.declared.shape.LeafPlan.{LeafPlan}
use Rattle.sig_hist.specs.Ports.{PortState}
use Rattle.sig_hist.specs.Sources.{Source}
use Rattle.sig_hub.proofs.Entered.{IsSeenAll, seen_all}
use Rattle.sig_hub.proofs.InTurn.{reads}
use Rattle.sig_hub.specs.Passes.{Pass, IsOf, IsStation, pass_of}
use Rattle.sig_hub.specs.Polls.{port_of}
use Rattle.sig_hub.specs.Turns.{PassSeat}

abbrev pub IsSoundAccount : Account → Type 0
IsSoundAccount a = (source : ℕ) → IsSeenAll (seen_all (known a source))

-- an account after a step that leaves it its number, its turn, what it owes, and as many parts as before
pub record Keeps (old new : Account) : Type 0 where
  pub number : new.number ≡ old.number
  pub turn : new.turn ≡ old.turn
  pub rings : new.rings ≡ old.rings
  pub tells : new.tells ≡ old.tells
  pub sources : length new.knows ≡ length old.knows
  pub leaves : length new.watches ≡ length old.watches
  pub tasks : length new.holds ≡ length old.holds

pub still_station : (machine : Machine) (number : ℕ) (old new : PassSeat) (a : Account) → IsStation machine old number → IsSameSeat old new → Has new a old.me.1 → Keeps (account old) a →
    IsSoundAccount a → IsStation machine new number
still_station machine number old new a station same has keeps sound =
    let now = reads new a old.me.1 has in
    let rests = station.rests in
    record {
      at_table = same.same_table ∙ station.at_table;
      rests = record {
        one_account = now.one;
        no_turn = record { no_turn = ap (λ (b : Account). b.turn) now.is ∙ keeps.turn ∙ rests.no_turn.no_turn; no_state = now.slots_are ∙ rests.no_turn.no_state };
        nothing = record {
          no_ring = ap (λ (b : Account). b.rings) now.is ∙ keeps.rings ∙ rests.nothing.no_ring;
          no_tell = ap (λ (b : Account). b.tells) now.is ∙ keeps.tells ∙ rests.nothing.no_tell;
        };
        of_number = rests.of_number ∙ sym (ap (λ (b : Account). b.number) now.is ∙ keeps.number);
      };
      of_layout = record {
        sources = ap (λ (b : Account). length b.knows) now.is ∙ keeps.sources ∙ station.of_layout.sources;
        leaves = ap (λ (b : Account). length b.watches) now.is ∙ keeps.leaves ∙ station.of_layout.leaves;
        tasks = ap (λ (b : Account). length b.holds) now.is ∙ keeps.tasks ∙ station.of_layout.tasks;
        sound = λ source. rw now.is (sound source);
      };
    }

module _ (of flags : Machine) (old : PassSeat) (given : Pass) (view : pass_of of old ≡ given) (is_of : IsOf flags given) where
  -- the machine at which the call was made is the pass's
  pub same_machine : flags ≡ of
  same_machine = sym is_of ∙ sym (ap (λ (pass : Pass). pass.hub) view)

  -- what a pass knows as a port once its account is another, by the leaves of its machine
  pub carried : (new : PassSeat) (slots : List (ℕ × Option Source)) (after : List LeafPlan → Account) (to : PortState → PortState) → Has new (after flags.layout.leaves) slots →
      port_of (record { hub = of; account = after of.layout.leaves }) ≡ to (port_of (pass_of of old)) → port_of (pass_of of new) ≡ to (port_of given)
  carried new slots after to has is =
      ap (λ (a : Account). port_of (record { hub = of; account = a })) (reads new _ _ has).is
      ∙ ap (λ (machine : Machine). port_of (record { hub = of; account = after machine.layout.leaves })) same_machine ∙ is ∙ ap (λ (pass : Pass). to (port_of pass)) view
