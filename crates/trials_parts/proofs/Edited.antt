-- What a seat has to do after an edit in its turn.
use Rattle.std.proofs.Common.{◌≡◌, ◌∙◌, ℕ, ◌+◌, ◌<◌, ◌==◌, List, [], ◌∷◌, ◌++◌, length, get_or, cond, Bool, true, false, Option, None, Some, sym, ap, subst, ne_eqb, arith}
use Rattle.std.proofs.lemmas.List.{get_or-set_same, length_push}
use Rattle.atomic_table.specs.declared.shared.Seat.{Seat}
use Rattle.sig_flag.specs.Accounts.{account_of, known, no_plan, opening_knowledge, after_give, leaves_on}
use Rattle.sig_flag.specs.Machines.{Machine, account, Has, HasTurn, IsSameSeat}
use Rattle.sig_flag.specs.declared.accounts.Account.{Account}
use Rattle.sig_flag.specs.declared.accounts.Knowledge.{Knowledge}
use Rattle.sig_flag.specs.declared.shape.LeafPlan.{LeafPlan}
use Rattle.sig_hist.proofs.Entries.{stays_in}
use Rattle.sig_hist.specs.Histories.{is_leave, own_entries}
use Rattle.sig_hist.specs.Sources.{Source, IsIn, entered, is_among, writers_of}
use Rattle.sig_hist.specs.declared.edits.Entry.{Entry}
use Rattle.trials_parts.specs.Trial.{trial_shape, IsAtWork, IsIdle, IsOwing}

abbrev Holding : Type 0
Holding = List Account × List (ℕ × Option Source)

abbrev Sitting : Type 0
Sitting = Seat (Option Source) (List Account)

knows_some : (knows : List Knowledge) → is_among 0 (writers_of (get_or knows 0 (opening_knowledge no_plan)).plan.allow) ≡ true → 0 < length knows
knows_some [] is = absurd (cc)
knows_some (first ∷ knows) is = omega arith

held : List (ℕ × Option Source) → Option Source
held [] = None
held (slot ∷ slots) = slot.1

pub same_state : (seat : Sitting) (state other : Source) → HasTurn seat 0 (Some state) → HasTurn seat 0 (Some other) → state ≡ other
unfolding held
same_state seat state other is is' = let same : Some state ≡ Some other = ap held (sym is.slot ∙ is'.slot) in cc

pub turn_back : (old mid back : Sitting) (before after : Option Source) (slots : List (ℕ × Option Source)) → HasTurn old 0 before →
    Has mid (account old) slots → Has back (account mid) ((0, after) ∷ []) → HasTurn back 0 after
turn_back old mid back before after slots turn out put = record {
  turn = ap (λ (m : Holding). (account_of m.0).turn) put ∙ ap (λ (m : Holding). (account_of m.0).turn) out ∙ turn.turn;
  slot = ap (λ (m : Holding). m.1) put;
}

module _ (machine : Machine) (old mid back new : Sitting) (leaves : List LeafPlan) (at_work : IsAtWork machine 0 old)
    (is_trial : leaves ≡ trial_shape.leaves) (state : Source) (slots : List (ℕ × Option Source))
    (out : Has mid (account old) slots) (put : Has back (account mid) ((0, Some state) ∷ []))
    (gave : Has new (after_give leaves (account back) 0 state.history) []) (entry : Entry)
    (before : Source) (is_state : before ≡ at_work.state) (is_entered : state ≡ entered before entry) (caller : entry.caller ≡ 0)
    (no_leave : is_leave entry.edit ≡ false) where
  own : Account
  own = account old

  is : state ≡ entered at_work.state entry
  is = is_entered ∙ ap (λ (it : Source). entered it entry) is_state

  has : Has new (after_give leaves own 0 state.history) []
  unfolding own
  has = gave ∙ ap (λ (a : Account). (after_give leaves a 0 state.history ∷ [], [])) (ap (λ (m : Holding). account_of m.0) put ∙ ap (λ (m : Holding). account_of m.0) out)

  still_in : IsIn state 0
  still_in = subst (λ (it : Source). IsIn it 0) (sym is) (stays_in at_work.state 0 entry at_work.is_in no_leave)

  among : is_among 0 (writers_of (known own 0).plan.allow) ≡ true
  unfolding own
  among = rw at_work.plan at at_work.is_in.is_writer

  here : known (after_give leaves own 0 state.history) 0 ≡ record (known own 0) {
    seen = state.history;
    count = length state.history;
    own = own_entries own.number state.history;
  }
  here = get_or-set_same own.knows 0 _ _ (knows_some own.knows among)

  more : length state.history ≡ length (known own 0).seen + 1
  unfolding own
  more = ap (λ (it : Source). length it.history) is ∙ length_push at_work.state.history entry ∙ ap (λ (seen : List Entry). length seen + 1) at_work.history

  idle : (account new ≡ after_give leaves own 0 state.history) → IsSameSeat old new → IsIdle machine 0 new
  unfolding own
  idle account_is same = record {
    sits = record { at_table = same.same_table ∙ at_work.sits.at_table; one_account = ap (λ (m : Holding). m.0) has ∙ ap (λ (a : Account). a ∷ []) (sym account_is) };
    rests = record { no_turn = ap (λ (a : Account). a.turn) account_is; no_state = ap (λ (m : Holding). m.1) has };
    number = ap (λ (a : Account). a.number) account_is ∙ at_work.number;
    writer = rw (account_is, here) among;
    stays = rw (account_is, here, at_work.number) still_in.stays;
  }

  rings_when : (came : Bool) → (length state.history == length (known own 0).seen) ≡ came →
      own.rings ++ cond (length state.history == length (known own 0).seen) [] (leaves_on 0 leaves 0) ≡ cond came [] (0 ∷ [])
  unfolding own
  rings_when came same = λ i. at_work.nothing.no_ring i ++ cond (same i) [] (leaves_on 0 (is_trial i) 0)

  pub owing : IsSameSeat old new → IsOwing machine 0 new
  unfolding own
  owing same =
      let account_is : account new ≡ after_give leaves own 0 state.history = ap (λ (m : Holding). account_of m.0) has in
      record {
        idle = idle account_is same;
        ring = ap (λ (a : Account). a.rings) account_is ∙ rings_when false (ne_eqb (length state.history) (length (known own 0).seen)
            (λ equal. absurd (omega (arith, more))));
        no_tell = ap (λ (a : Account). a.tells) account_is ∙ at_work.nothing.no_tell;
      }
