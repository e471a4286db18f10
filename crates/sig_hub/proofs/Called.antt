-- A pass after a look, a rest or an asking for a token: it is at a station again, and this is what it knows as a port.
use Rattle.std.proofs.Common.{◌≡◌, ◌∙◌, ℕ, ◌<◌, List, [], ◌∷◌, length, cond, Bool, true, false, not, ◌||◌, refl, sym, ap, subst, eq-eqb, arith}
use Rattle.sig_flag.specs.Accounts as accounts
use Rattle.sig_flag.specs.Accounts.{known, after_look, after_last_look, after_collect}
use Rattle.sig_flag.specs.Layouts.{leaf_at}
use Rattle.sig_flag.specs.Machines.{Machine, account, Has, IsSameSeat, IsShown}
use Rattle.sig_flag.specs.declared.accounts.Account.{Account}
use Rattle.sig_flag.specs.declared.shape.LeafPlan.{LeafPlan}
use Rattle.sig_hist.specs.Ports as ports
use Rattle.sig_hist.specs.Ports.{PortState, IsSight, IsRest, looked, is_news}
use Rattle.sig_hist.specs.declared.ports.Rested.TheVariants.{News, Waiting}
use Rattle.sig_hist.specs.declared.ports.Version.{Version}
use Rattle.sig_hub.proofs.Ported.{looked_sound, looked_port, look_keeps, rested_port, rest_keeps, collected_port, collect_keeps, collect_sound}
use Rattle.sig_hub.proofs.Stepped.{Keeps, still_station, carried, same_machine}
use Rattle.sig_hub.specs.Passes.{Pass, IsOf, IsStation, pass_of}
use Rattle.sig_hub.specs.Polls.{collected, port_of}
use Rattle.sig_hub.specs.Turns.{PassSeat}

module _ (of flags : Machine) (number : ℕ) (old new : PassSeat) (given : Pass) (view : pass_of of old ≡ given) (is_of : IsOf flags given) (station : IsStation of old number)
    (same : IsSameSeat old new) where
  abbrev before : Account
  before = account old

  -- the leaves of the machine at which the call was made
  abbrev leaves : List LeafPlan
  leaves = flags.layout.leaves

  same_leaves : leaves ≡ of.layout.leaves
  same_leaves = ap (λ (machine : Machine). machine.layout.leaves) (same_machine of flags old given view is_of)

  long : length before.watches ≡ length leaves
  long = station.of_layout.leaves ∙ ap length (sym same_leaves)

  -- ---- looks

  module _ (source : ℕ) (version : Version) (shown : IsShown (known before source) version) where
    pub look_station : Has new (after_look leaves before source version) old.me.1 → IsStation of new number
    look_station has = still_station of number old new _ station same has (look_keeps leaves before source version long) (looked_sound before source version shown leaves station.of_layout.sound)

    pub look_sight : (leaf : ℕ) → source ≡ (leaf_at given.hub.layout.leaves leaf).source → IsSight (port_of given) leaf version
    look_sight leaf source_is =
        let here : IsShown (known given.account source) version = subst (λ (pass : Pass). IsShown (known pass.account source) version) view shown in
        let there : IsShown (known given.account (leaf_at given.hub.layout.leaves leaf).source) version = subst (λ (n : ℕ). IsShown (known given.account n) version) source_is here in
        record { count = there.count; closed = there.closed }

  -- the source was read in a list of the machine's leaves
  module _ (read : List LeafPlan) (read_is : read ≡ leaves) (leaf : ℕ) (version : Version) where
    pub look_state : Has new (after_look leaves before (leaf_at read leaf).source version) old.me.1 → IsShown (known before (leaf_at read leaf).source) version →
        port_of (pass_of of new) ≡ looked (port_of given) ((port_of given).source leaf) version
    look_state has shown =
        let source = (leaf_at read leaf).source in
        let is = looked_port before source version shown of station.of_layout.leaves in
        let at_source = ap (λ (all : List LeafPlan). looked (port_of (pass_of of old)) (leaf_at all leaf).source version) (read_is ∙ same_leaves) in
        carried of flags old given view is_of new _ (λ all. after_look all before source version) (λ s. looked s (s.source leaf) version) has (is ∙ at_source)

  -- ---- rests

  module _ (leaf at : ℕ) (version : Version) (has : Has new (after_last_look leaves before leaf at version) old.me.1) (shown : IsShown (known before (leaf_at leaves leaf).source) version) where
    abbrev source : ℕ
    source = (leaf_at leaves leaf).source

    abbrev task : ℕ
    task = (leaf_at leaves leaf).task

    abbrev after_one : Account
    after_one = after_look leaves before source version

    sight : IsSight (port_of given) leaf version
    sight = look_sight source version shown leaf (ap (λ (machine : Machine). (leaf_at machine.layout.leaves leaf).source) (sym is_of))

    has_by : (news : Bool) → is_news at version ≡ news → Has new (cond news after_one (accounts.at_rest leaves after_one task)) old.me.1
    has_by news is = has ∙ ap (λ (b : Bool). (cond b after_one (accounts.at_rest leaves after_one task) ∷ [], old.me.1)) is

    -- the source shows more
    pub news_station : is_news at version ≡ true → IsStation of new number
    news_station news = look_station source version shown (has_by true news)

    pub news_rest : {T : Type 0} (told : T) → is_news at version ≡ true → IsRest (port_of given) (port_of (pass_of of new)) leaf at told (News version told)
    news_rest told news = (sight, look_state leaves refl leaf version (has_by true news) shown, news, refl)

    -- it shows what is known
    module _ (count : version.count ≡ at) (stays_open : version.closed ≡ false) where
      none_new : is_news at version ≡ false
      none_new i = not (eq-eqb version.count at count i) || stays_open i

      version_is : version ≡ record { count = at; closed = false }
      version_is i = record { count = count i; closed = stays_open i }

      pub rest_station : IsStation of new number
      rest_station =
          let looks : Keeps before after_one = look_keeps leaves before source version long in
          let rests : Keeps before (accounts.at_rest leaves after_one task) = rest_keeps leaves before after_one task looks (looks.leaves ∙ long) in
          still_station of number old new _ station same (has_by false none_new) rests (looked_sound before source version shown leaves station.of_layout.sound)

      rest_state : port_of (pass_of of new) ≡ ports.at_rest (looked (port_of given) ((port_of given).source leaf) version) ((port_of given).task leaf)
      rest_state =
          let all_leaves = of.layout.leaves in
          let looks : Keeps before (after_look all_leaves before source version) = look_keeps all_leaves before source version station.of_layout.leaves in
          let rests = rested_port of (after_look all_leaves before source version) task (looks.leaves ∙ station.of_layout.leaves) in
          let looks_too = ap (λ (s : PortState). ports.at_rest s task) (looked_port before source version shown of station.of_layout.leaves) in
          let at_leaf = ap (λ (all : List LeafPlan). ports.at_rest (looked (port_of (pass_of of old)) (leaf_at all leaf).source version) (leaf_at all leaf).task) same_leaves in
          carried of flags old given view is_of new _ (λ all. accounts.at_rest all (after_look all before source version) task) (λ s. ports.at_rest (looked s (s.source leaf) version) (s.task leaf))
          (has_by false none_new) (rests ∙ looks_too ∙ at_leaf)

      pub rest_waits : {T : Type 0} (told : T) → IsRest (port_of given) (port_of (pass_of of new)) leaf at told Waiting
      rest_waits told = (
        subst (IsSight (port_of given) leaf) version_is sight,
        rest_state ∙ ap (λ (v : Version). ports.at_rest (looked (port_of given) ((port_of given).source leaf) v) ((port_of given).task leaf)) version_is,
      )

  -- ---- tokens

  module _ (task : ℕ) (told : Bool) (has : Has new (after_collect leaves before task told) old.me.1) where
    pub collect_station : IsStation of new number
    collect_station = still_station of number old new _ station same has (collect_keeps leaves before task told long) (collect_sound leaves before task told station.of_layout.sound)

    pub collect_state : task < length flags.layout.pollers → port_of (pass_of of new) ≡ collected (port_of given) task told
    collect_state within =
        let tasks : length of.layout.pollers ≡ length flags.layout.pollers = ap (λ (machine : Machine). length machine.layout.pollers) (sym (same_machine of flags old given view is_of)) in
        let there : task < length before.holds = omega (arith, station.of_layout.tasks, tasks, within) in
        carried of flags old given view is_of new _ (λ all. after_collect all before task told) (λ s. collected s task told) has (collected_port of before task told there station.of_layout.leaves)
