-- What a fetch does to what a pass knows as a port.
use Rattle.std.proofs.Common.{◌≡◌, ◌∙◌, ℕ, ◌<◌, List, length, true, Option, Result, Ok, Err, IfOk, IfErr, All, refl, sym, ap, subst, arith}
use Rattle.std.proofs.lemmas.Bool.{ltb-true, and_parts}
use Rattle.std.proofs.lemmas.List.{get_or-set_same}
use Rattle.std.proofs.lemmas.List.Elements.{All-get_or}
use Rattle.sig_flag.proofs.Watching.{set_same}
use Rattle.sig_flag.specs.Accounts.{no_plan, opening_knowledge, known, knowing}
use Rattle.sig_flag.specs.Layouts.{IsLeafOf, leaf_at, no_leaf}
use Rattle.sig_flag.specs.Machines.{Machine, account}
use Rattle.sig_flag.specs.declared.accounts.Account.{Account}
use Rattle.sig_flag.specs.declared.accounts.Knowledge.{Knowledge}
use Rattle.sig_flag.specs.declared.shape.LeafPlan.{LeafPlan}
use Rattle.sig_hist.proofs.Staying.{closed_is_whole}
use Rattle.sig_hist.specs.Entering.{entering_from}
use Rattle.sig_hist.specs.Histories.{is_closed}
use Rattle.sig_hist.specs.Ports.{PortState, GoesOn, IsFetch, IsFetchInVain, IsFetchRefusal, seen_of}
use Rattle.sig_hist.specs.Sources.{Source, writers_of}
use Rattle.sig_hist.specs.declared.edits.Entry.{Entry}
use Rattle.sig_hist.specs.declared.ports.Fetched.{Fetched}
use Rattle.sig_hist.specs.declared.ports.FetchError.{FetchError}
use Rattle.sig_hist.specs.declared.ports.FetchError.TheVariants.{Again, NoMemory}
use Rattle.sig_hist.specs.declared.ports.Version.{Version}
use Rattle.sig_hub.proofs.InTurn.{reads}
use Rattle.sig_hub.proofs.Ported.{read_set}
use Rattle.sig_hub.proofs.Stepped.{same_machine}
use Rattle.sig_hub.specs.Passes.{Pass, IsOf, IsStation, pass_of}
use Rattle.sig_hub.specs.Polls.{polls, port_of}
use Rattle.sig_hub.specs.Turns.{PassSeat, HasSeen, IsFetched, IsFetchedBy}

abbrev seen_now : Knowledge → List Entry × ℕ
seen_now k = (k.seen, k.count)

-- all of a source was seen
seen_port : (machine : Machine) (a : Account) (source : ℕ) (history : List Entry) → source < length a.knows →
    port_of (record { hub = machine; account = knowing a source (record (known a source) { seen = history; count = length history }) })
    ≡ seen_of (port_of (record { hub = machine; account = a })) source history (length history)
seen_port machine a source history within i =
    let none = opening_knowledge no_plan in
    let next : Knowledge = record (known a source) { seen = history; count = length history } in
    record (port_of (record { hub = machine; account = a })) {
      plan = λ k. set_same (λ (x : Knowledge). x.plan) a.knows source k next none refl i;
      seen = λ k. read_set (λ (x : Knowledge). x.seen) a.knows source k next none (λ past. absurd (omega (arith, within, past))) i;
      count = λ k. read_set (λ (x : Knowledge). x.count) a.knows source k next none (λ past. absurd (omega (arith, within, past))) i;
    }

module _ (machine : Machine) (old new : PassSeat) (leaf : ℕ) where
  abbrev s : PortState
  s = port_of (pass_of machine old)

  abbrev t : PortState
  t = port_of (pass_of machine new)

  abbrev source : ℕ
  source = (leaf_at machine.layout.leaves leaf).source

  module _ (within : source < length (account old).knows) (state : Source) (has_seen : HasSeen old new source state) where
    here : seen_now (known (account new) source) ≡ (state.history, length state.history)
    here = ap (λ (a : Account). seen_now (known a source)) (reads new _ _ has_seen.has).is ∙ ap seen_now (get_or-set_same (account old).knows source _ _ within)

    seen_is : t.seen source ≡ state.history
    seen_is = ap (λ (all : List Entry × ℕ). all.0) here

    state_is : t ≡ seen_of s source state.history (length state.history)
    state_is = ap (λ (a : Account). port_of (record { hub = machine; account = a })) (reads new _ _ has_seen.has).is ∙ seen_port machine (account old) source state.history within

    goes : GoesOn s source state.history (length state.history)
    goes =
        let met = has_seen.is_met in
        let whole = closed_is_whole (record { plan = s.plan source; history = state.history }) (s.seen source) met.of_history.of_source met.front in
        record { front = met.front; known = met.count; closed = λ closed. sym (whole closed) }

    has_fetched : (from : Option ℕ) (fetched : Fetched) → IsFetched state from fetched → IsFetch s t leaf from fetched
    has_fetched from fetched is =
        let back = sym seen_is in
        let same : state ≡ record { plan = s.plan source; history = t.seen source } = λ i. record { plan = has_seen.is_met.of_plan i; history = back i } in
        record {
          state = state_is ∙ ap (λ (history : List Entry). seen_of s source history (length history)) back;
          goes_on = subst (λ (history : List Entry). GoesOn s source history (length history)) back goes;
          count = ap (λ (v : Version). v.count) is.version ∙ ap length back;
          closed = ap (λ (v : Version). v.closed) is.version ∙ ap (λ (of_source : Source). is_closed (writers_of of_source.plan.allow) of_source.history) same;
          entering = is.entering ∙ ap (λ (of_source : Source). entering_from of_source from) same;
        }

    in_vain : IsFetchInVain s t source
    in_vain = record {
      state = state_is ∙ ap (λ (all : List Entry × ℕ). seen_of s source all.0 all.1) (sym here);
      goes_on = subst (λ (all : List Entry × ℕ). GoesOn s source all.0 all.1) (sym here) goes;
    }

  module _ (within : source < length (account old).knows) (from : Option ℕ) where
    fetch_ok : (result : Result Fetched FetchError) → IsFetchedBy old new source from result → IfOk result (IsFetch s t leaf from)
    fetch_ok (Ok fetched) by = has_fetched within by.0 by.1 from fetched by.2
    fetch_ok (Err error) by = tt

    refused : (error : FetchError) → IsFetchedBy old new source from (Err error) → IsFetchRefusal s t leaf error
    refused (Again word) by = ap (λ (a : Account). port_of (record { hub = machine; account = a })) (reads new _ _ by.1).is
    refused NoMemory by = in_vain within by.0 by.1

    fetch_err : (result : Result Fetched FetchError) → IsFetchedBy old new source from result → IfErr result (IsFetchRefusal s t leaf)
    fetch_err (Ok fetched) by = tt
    fetch_err (Err error) by = refused error by

module _ (of flags : Machine) (number : ℕ) (old new : PassSeat) (given : Pass) (view : pass_of of old ≡ given) (is_of : IsOf flags given) (station : IsStation of old number)
    (read : List LeafPlan) (read_is : read ≡ flags.layout.leaves) (leaf : ℕ) (own : polls given leaf ≡ true)
    (range : All (IsLeafOf (length flags.layout.plans) (length flags.layout.pollers)) flags.layout.leaves) where
  one : flags ≡ of
  one = same_machine of flags old given view is_of

  source_is : (leaf_at read leaf).source ≡ (leaf_at of.layout.leaves leaf).source
  source_is = ap (λ (leaves : List LeafPlan). (leaf_at leaves leaf).source) (read_is ∙ ap (λ (machine : Machine). machine.layout.leaves) one)

  within_now : (leaf_at of.layout.leaves leaf).source < length (account old).knows
  within_now =
      let there : leaf < length given.hub.layout.leaves = ltb-true leaf (length given.hub.layout.leaves) (and_parts _ _ own).0 in
      let near : leaf < length flags.layout.leaves = subst (λ (machine : Machine). leaf < length machine.layout.leaves) is_of there in
      let its = All-get_or (IsLeafOf (length flags.layout.plans) (length flags.layout.pollers)) flags.layout.leaves leaf no_leaf near range in
      let below = subst (λ (machine : Machine). (leaf_at machine.layout.leaves leaf).source < length machine.layout.plans) one its.of_source in
      omega (arith, below, station.of_layout.sources)

  module _ (from : Option ℕ) (result : Result Fetched FetchError) (by : IsFetchedBy old new (leaf_at read leaf).source from result) where
    by_now : IsFetchedBy old new (leaf_at of.layout.leaves leaf).source from result
    by_now = subst (λ (n : ℕ). IsFetchedBy old new n from result) source_is by

    pub fetched_at : IfOk result (IsFetch (port_of given) (port_of (pass_of of new)) leaf from)
    fetched_at = subst (λ (pass : Pass). IfOk result (IsFetch (port_of pass) (port_of (pass_of of new)) leaf from)) view (fetch_ok of old new leaf within_now from result by_now)

    pub refused_at : IfErr result (IsFetchRefusal (port_of given) (port_of (pass_of of new)) leaf)
    refused_at = subst (λ (pass : Pass). IfErr result (IsFetchRefusal (port_of pass) (port_of (pass_of of new)) leaf)) view (fetch_err of old new leaf within_now from result by_now)
