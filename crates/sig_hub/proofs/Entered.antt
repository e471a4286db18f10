-- What a pass knows after a turn.
use Rattle.std.proofs.Common.{◌≡◌, ◌∙◌, ℕ, zero, suc, ◌+◌, ◌<◌, ◌==◌, List, [], ◌∷◌, ◌++◌, length, take, get_or, set, ◌≢◌, ⊎_elim, Bool, true, false, not, None, Result, Ok, Err, IfOk, IfErr, OnOk, OnErr, inl, inr, refl, sym, ap, subst, eq-eqb, ne_eqb, arith}
use Rattle.std.proofs.lemmas.Bool.{eqb-true, eqb-false, and_parts}
use Rattle.std.proofs.lemmas.List.{get_or-set_same, get_or-set_other, length-set, length_push}
use Rattle.std.specs.Result.{is_ok}
use Rattle.sig_flag.proofs.Gives.{own_leaves}
use Rattle.sig_flag.specs.Accounts.{no_plan, opening_knowledge, known, after_turn, after_give}
use Rattle.sig_flag.specs.Machines.{Machine, account, IsMet, IsNext, IsSameSeat, OwesNothing}
use Rattle.sig_flag.specs.Turns.{IsHistory}
use Rattle.sig_flag.specs.declared.accounts.Account.{Account}
use Rattle.sig_flag.specs.declared.accounts.Knowledge.{Knowledge}
use Rattle.sig_hist.proofs.Entries.{own_entries_own}
use Rattle.sig_hist.specs.Histories.{own_entries, ends_with_leave, has_left}
use Rattle.sig_hist.specs.Ports.{IsSeen}
use Rattle.sig_hist.specs.Sources.{Source, IsIn, IsSource, IsRefusal, allowed, entered, is_among, writers_of}
use Rattle.sig_hist.specs.declared.edits.Edit.{Edit}
use Rattle.sig_hist.specs.declared.edits.Entry.{Entry}
use Rattle.sig_hist.specs.declared.edits.Reply.{Reply}
use Rattle.sig_hist.specs.declared.plans.EditError.{EditError}
use Rattle.sig_hist.specs.declared.plans.EditError.TheVariants.{Spent, NoMemory}
use Rattle.sig_hist.specs.declared.plans.SourcePlan.{SourcePlan}
use Rattle.sig_hub.proofs.InTurn.{reads}
use Rattle.sig_hub.specs.Passes.{Pass, pass_of, plan_in, seen, Writes, IsSamePass, HasMade, HasMadeNone, IsRefused}
use Rattle.sig_hub.specs.Turns.{PassSeat, its_plan, its_history, HasTaken, MayEnd, HasGiven, IsAfter, has_come}

-- ---- a source that the pass writes

known_source : (knows : List Knowledge) (source number : ℕ) → is_among number (writers_of (get_or knows source (opening_knowledge no_plan)).plan.allow) ≡ true → source < length knows
known_source [] source number is = absurd (cc)
known_source (first ∷ knows) zero number is = omega arith
known_source (first ∷ knows) (suc source) number is = omega (arith, known_source knows source number is)

pub writes_known : (pass : Pass) (source : ℕ) → Writes pass source → source < length pass.account.knows
writes_known pass source writes = known_source pass.account.knows source pass.account.number (and_parts _ _ writes).0

pub not_true : (b : Bool) → not b ≡ true → b ≡ false
not_true true is = sym is
not_true false is = refl

-- ---- what is sound

-- what is known of a source but the entries that the seat made
abbrev pub seen_all : Knowledge → SourcePlan × List Entry × ℕ
seen_all k = (k.plan, k.seen, k.count)

abbrev pub IsSeenAll : SourcePlan × List Entry × ℕ → Type 0
IsSeenAll k = IsSeen k.0 k.1 k.2

-- what a source's whole history is known to be
pub seen_whole : (source : Source) → IsSource source → IsSeen source.plan source.history (length source.history)
seen_whole source is = record { of_plan = is.plan; legal = is.legal; known = omega arith; room = is.room; closed = λ closed. refl }

-- one source was seen whole, and of the others as much is known as before
pub seen_still : (old new : Account) (source : ℕ) → ((k : ℕ) → IsSeenAll (seen_all (known old k))) → ((other : ℕ) → other ≢ source → known new other ≡ known old other) →
    {plan : SourcePlan} {history : List Entry} → seen_all (known new source) ≡ (plan, history, length history) → IsSource (record { plan = plan; history = history }) → (k : ℕ) → IsSeenAll (seen_all (known new k))
seen_still old new source was others {plan} {history} here is k = elim (k == source) as (λ same. (k == source) ≡ same → IsSeenAll (seen_all (known new k))) [
  | true ↦ λ same. subst (λ (n : ℕ). IsSeenAll (seen_all (known new n))) (sym (eqb-true k source same)) (subst IsSeenAll (sym here) (seen_whole (record { plan = plan; history = history }) is))
  | false ↦ λ other. subst (λ (one : Knowledge). IsSeenAll (seen_all one)) (sym (others k (eqb-false k source other))) (was k)
] refl

-- ---- a turn

module _ (machine : Machine) (number : ℕ) (old mid : PassSeat) (source : ℕ) (state : Source) (is_number : number ≡ (account old).number) (writes : Writes (pass_of machine old) source) (taken : HasTaken old mid source state None) where
  its : IsMet its_plan its_history number (known (account old) source) state
  its = subst (λ (n : ℕ). IsMet its_plan its_history n (known (account old) source) state) (sym is_number) taken.is_met

  within : source < length (account old).knows
  within = writes_known (pass_of machine old) source writes

  -- the writer is in, by what the state says
  pub in_turn : IsIn state number
  in_turn =
      let both : (is_among (account old).number (writers_of (known (account old) source).plan.allow) ≡ true) × (not (ends_with_leave (known (account old) source).own) ≡ true) = and_parts _ _ writes in
      record {
        is_writer = rw (its.of_plan, is_number) both.0;
        stays = rw its.own at (not_true _ both.1);
      }

  known_mid : known (account mid) source ≡ record { plan = (known (account old) source).plan; seen = state.history; count = length state.history; own = (known (account old) source).own }
  known_mid = ap (λ (a : Account). known a source) (reads mid _ _ taken.has).is ∙ get_or-set_same (account old).knows source _ _ within

  number_mid : (account mid).number ≡ number
  number_mid = ap (λ (a : Account). a.number) (reads mid _ _ taken.has).is ∙ sym is_number

  -- the seat has nothing to ring or to tell in its turn
  pub nothing_mid : OwesNothing old → OwesNothing mid
  nothing_mid nothing = let is = (reads mid _ _ taken.has).is in record { no_ring = ap (λ (a : Account). a.rings) is ∙ nothing.no_ring; no_tell = ap (λ (a : Account). a.tells) is ∙ nothing.no_tell }

  seen_mid : (known (account mid) source).seen ≡ state.history
  seen_mid = ap (λ (k : Knowledge). k.seen) known_mid

  none_came : (after : Source) → after ≡ state → false ≡ has_come (account mid) source after
  none_came after is = sym (ap not (eq-eqb (length after.history) (length (known (account mid) source).seen) (ap (λ (s : Source). length s.history) is ∙ ap length (sym seen_mid))))

  pub one_came : (after : Source) (entry : Entry) → after ≡ entered state entry → true ≡ has_come (account mid) source after
  one_came after entry is =
      let longer : length after.history ≡ length state.history + 1 = ap (λ (s : Source). length s.history) is ∙ length_push state.history entry in
      let same : length (known (account mid) source).seen ≡ length state.history = ap length seen_mid in
      sym (ap not (ne_eqb (length after.history) (length (known (account mid) source).seen) (λ equal. absurd (omega arith))))

  pub came_any : (edit : Edit) (after : Source) (result : Result Reply EditError) (came : Bool) → came ≡ is_ok result → IfOk result (λ reply. after ≡ entered state (record { caller = number; edit = edit; reply = reply })) → OnErr result (after ≡ state) →
      came ≡ has_come (account mid) source after
  came_any edit after (Ok reply) came ok is same = ok ∙ one_came after (record { caller = number; edit = edit; reply = reply }) is
  came_any edit after (Err error) came ok is same = ok ∙ none_came after same

  ends_same : (after : Source) → after ≡ state → MayEnd (account mid) source after
  ends_same after is = record {
    of_plan = ap its_plan is ∙ its.of_plan ∙ sym (ap (λ (k : Knowledge). k.plan) known_mid);
    of_history = inl (ap its_history is ∙ sym (ap (λ (k : Knowledge). k.seen) known_mid));
  }

  pub ends_more : (after : Source) (entry : Entry) → after ≡ entered state entry → entry.caller ≡ number → IsSource after → MayEnd (account mid) source after
  ends_more after entry is caller sound =
      let plan_is : (known (account mid) source).plan ≡ state.plan = ap (λ (k : Knowledge). k.plan) known_mid ∙ sym its.of_plan in
      let seen_is : (known (account mid) source).seen ≡ state.history = ap (λ (k : Knowledge). k.seen) known_mid in
      let next : IsNext its_plan its_history number state.plan state.history entry after.history = record {
        last = ap its_history is;
        of_caller = caller;
        is_in = in_turn;
        sound = subst (λ (p : SourcePlan). IsSource (record { plan = p; history = after.history })) (ap its_plan is) sound;
      } in
      record {
        of_plan = ap its_plan is ∙ sym plan_is;
        of_history = inr (entry, rw (plan_is, seen_is, number_mid) next);
      }

  -- what the turn may be given back with is a source
  sound_after : (after : Source) → MayEnd (account mid) source after → IsSource (record { plan = (known (account old) source).plan; history = after.history })
  sound_after after may = ⊎_elim
      (λ same. subst (λ (h : List Entry). IsSource (record { plan = (known (account old) source).plan; history = h })) (sym (same ∙ seen_mid)) its.of_history.of_source)
      (λ more. subst (λ (k : Knowledge). IsSource (record { plan = k.plan; history = after.history })) known_mid more.1.sound) may.of_history

  -- by what came of an edit
  pub ends_any : (edit : Edit) (after : Source) (result : Result Reply EditError) → IfOk result (λ reply. after ≡ entered state (record { caller = number; edit = edit; reply = reply })) → OnOk result (IsSource after) →
      OnErr result (after ≡ state) → MayEnd (account mid) source after
  ends_any edit after (Ok reply) is sound same = ends_more after (record { caller = number; edit = edit; reply = reply }) is refl sound
  ends_any edit after (Err error) is sound same = ends_same after same

  pub refused : (error : EditError) → IsRefusal state number error → IsRefused (pass_of machine old) source error
  refused (Spent edits) is = let plan_is : state.plan ≡ (known (account old) source).plan = its.of_plan in (is.0 ∙ ap length (sym its.own), is.1 ∙ (λ i. allowed (is_number i) (plan_is i).allow))
  refused NoMemory is = tt

  -- ---- after the turn

  module _ (new : PassSeat) (after : Source) (same : IsSameSeat old mid) (given : HasGiven mid new source after) where
    first_knows : List Knowledge
    first_knows = set (account old).knows source (record { plan = (known (account old) source).plan; seen = state.history; count = length state.history; own = (known (account old) source).own })

    last_account : Account
    last_account = record (after_give [] (after_turn (record (account old) { met = taken.met }) source state.history) source after.history) { holds = given.has.holds; rings = []; tells = [] }

    is_last : account new ≡ last_account
    unfolding last_account
    is_last = (reads new _ _ given.has.has).is ∙ ap (λ (a : Account). record (after_give [] a source after.history) {
      holds = given.has.holds;
      rings = [];
      tells = [];
    }) (reads mid _ _ taken.has).is

    turned : Account
    turned = after_turn (record (account old) { met = taken.met }) source state.history

    met_is : (account new).met ≡ taken.met
    unfolding last_account
    met_is = ap (λ (a : Account). a.met) is_last

    here_is : known (account new) source ≡ record { plan = (known (account old) source).plan; seen = after.history; count = length after.history; own = own_entries number after.history }
    unfolding last_account turned
    here_is =
        let long : source < length turned.knows = rw (length-set (account old).knows source _) within in
        let turned_is : known turned source ≡ record { plan = (known (account old) source).plan; seen = state.history; count = length state.history; own = (known (account old) source).own } =
        get_or-set_same (account old).knows source _ _ within in
        let back : (account old).number ≡ number = sym is_number in
        ap (λ (a : Account). known a source) is_last ∙ get_or-set_same turned.knows source _ _ long
        ∙ (λ i. record { plan = (turned_is i).plan; seen = after.history; count = length after.history; own = own_entries (back i) after.history })

    others_are : (other : ℕ) → other ≢ source → known (account new) other ≡ known (account old) other
    unfolding last_account turned
    others_are other different =
        ap (λ (a : Account). known a other) is_last ∙ get_or-set_other turned.knows source other _ _ different ∙ get_or-set_other (account old).knows source other _ _ different

    pub is_after : IsAfter number old new source after.history
    unfolding last_account turned
    is_after =
        let now = reads new _ _ given.has.has in
        record {
          station = λ machine old_station. record {
            at_table = given.same.same_table ∙ same.same_table ∙ old_station.at_table;
            rests = record {
              one_account = now.one;
              no_turn = record { no_turn = ap (λ (a : Account). a.turn) is_last; no_state = now.slots_are };
              nothing = record { no_ring = ap (λ (a : Account). a.rings) is_last; no_tell = ap (λ (a : Account). a.tells) is_last };
              of_number = is_number ∙ sym (ap (λ (a : Account). a.number) is_last);
            };
            of_layout = record {
              sources = ap (λ (a : Account). length a.knows) is_last ∙ length-set turned.knows source _ ∙ length-set (account old).knows source _ ∙ old_station.of_layout.sources;
              leaves = ap (λ (a : Account). length a.watches) is_last ∙ old_station.of_layout.leaves;
              tasks = ap (λ (a : Account). length a.holds) is_last ∙ given.has.told.all ∙ ap (λ (a : Account). length a.holds) (reads mid _ _ taken.has).is ∙ old_station.of_layout.tasks;
              sound = seen_still (account old) (account new) source old_station.of_layout.sound others_are (ap seen_all here_is) (sound_after after given.may);
            };
          };
          same_number = ap (λ (a : Account). a.number) is_last;
          met = ap (take (length (account old).met)) met_is ∙ taken.more;
          here = here_is;
          others = others_are;
        }

    pub same_pass : IsSamePass (pass_of machine old) (pass_of machine new) source
    same_pass = record { hub = refl; met = is_after.met; number = is_after.same_number; plan = ap (λ (k : Knowledge). k.plan) is_after.here; others = is_after.others }

    pub made : (entry : Entry) → after ≡ entered state entry → entry.caller ≡ number → IsSource after → HasMade (pass_of machine old) (pass_of machine new) source entry
    made entry is caller sound =
        let history_is : after.history ≡ state.history ++ entry ∷ [] = ap its_history is in
        let plan_is : after.plan ≡ (known (account old) source).plan = ap its_plan is ∙ its.of_plan in
        let seen_is : seen (pass_of machine new) source ≡ after.history = ap (λ (k : Knowledge). k.seen) is_after.here in
        record {
          before = state.history;
          of_own = ap (λ (k : Knowledge). k.own) is_after.here ∙ ap (own_entries number) history_is ∙ own_entries_own number state.history entry (eq-eqb entry.caller number caller)
              ∙ ap (λ (front : List Entry). front ++ entry ∷ []) (sym its.own);
          of_seen = seen_is ∙ history_is;
          front = its.front;
          count = its.count;
          history = subst (IsHistory (plan_in (pass_of machine old) source)) (sym seen_is) (record {
            of_source = subst (λ (p : SourcePlan). IsSource (record { plan = p; history = after.history })) plan_is sound;
            leaves = λ writer. rw history_is (own_leaves writer state.history entry (entry.caller == writer) refl (its.of_history.leaves writer)
                (λ own. subst (λ (n : ℕ). has_left n state.history ≡ false) (sym caller ∙ eqb-true entry.caller writer own) in_turn.stays));
          });
        }

    pub made_none : after ≡ state → HasMadeNone (pass_of machine old) (pass_of machine new) source
    made_none is = record {
      of_own = ap (λ (k : Knowledge). k.own) is_after.here ∙ ap (λ (s : Source). own_entries number s.history) is ∙ sym its.own;
      front = rw (ap (λ (k : Knowledge). k.seen) is_after.here, ap its_history is) its.front;
    }

    pub made_any : (edit : Edit) (result : Result Reply EditError) → IfOk result (λ reply. after ≡ entered state (record { caller = number; edit = edit; reply = reply })) → OnOk result (IsSource after) →
        IfOk result (λ reply. HasMade (pass_of machine old) (pass_of machine new) source (record { caller = number; edit = edit; reply = reply }))
    made_any edit (Ok reply) is sound = made (record { caller = number; edit = edit; reply = reply }) is refl sound
    made_any edit (Err error) is sound = tt

    pub none_any : (result : Result Reply EditError) → IfErr result (IsRefusal state number) → OnErr result (after ≡ state) → IfErr result (λ error. HasMadeNone (pass_of machine old) (pass_of machine new) source × IsRefused (pass_of machine old) source error)
    none_any (Ok reply) why is = tt
    none_any (Err error) why is = (made_none is, refused error why)
