-- How a pass leaves its sources one after another.
use Rattle.std.proofs.Common.{◌≡◌, ◌∙◌, ℕ, ◌<◌, ◌≤◌, ◌==◌, List, [], ◌∷◌, ◌++◌, length, Bool, true, false, not, ◌&&◌, ◌||◌, All, Some, refl, sym, ap, subst, eq-eqb, ne_eqb, arith}
use Rattle.std.proofs.Math.Seq.{take-length}
use Rattle.std.proofs.Math.Bool.{or-false, and-true}
use Rattle.std.proofs.lemmas.Bool.{eqb-true, eqb-false, or_right}
use Rattle.std.proofs.lemmas.List.Elements.{All-nil, All-cons, All-pop}
use Rattle.std.proofs.lemmas.List.Folds.{list_any-append, list_any_none}
use Rattle.sig_flag.specs.Accounts.{known}
use Rattle.sig_flag.specs.Machines.{Machine, account}
use Rattle.sig_flag.specs.Turns.{IsHistory}
use Rattle.sig_flag.specs.declared.accounts.Knowledge.{Knowledge}
use Rattle.sig_hist.proofs.Entries.{ends_with_leave_append}
use Rattle.sig_hist.specs.Histories.{IsFront, ends_with_leave}
use Rattle.sig_hist.specs.Sources.{is_among, writers_of}
use Rattle.sig_hist.specs.declared.edits.Entry.{Entry}
use Rattle.sig_hub.proofs.InTurn.{met_later}
use Rattle.sig_hub.proofs.StillIn.{in_same}
use Rattle.sig_hub.specs.Passes.{Pass, Falls, pass_of, seen, own, plan_in, is_in, leave_by, Writes, IsStation, AreThoseToLeave, IsSamePass, HasMade, LeavesOne, HasLeft}
use Rattle.sig_hub.specs.Turns.{PassSeat, IsLeaving}

-- what was left stays so where no more is known of it
left_still : (left : Bool) (old mid new : Pass) (source : ℕ) → known new.account source ≡ known mid.account source → LeavesOne left old mid source → LeavesOne left old new source
left_still true old mid new source same made = record {
  before = made.before;
  of_own = ap (λ (k : Knowledge). k.own) same ∙ made.of_own;
  of_seen = ap (λ (k : Knowledge). k.seen) same ∙ made.of_seen;
  front = made.front;
  count = made.count;
  history = subst (λ (k : Knowledge). IsHistory (plan_in old source) k.seen) (sym same) made.history;
}
left_still false old mid new source same is = same ∙ is

-- a source of which nothing more was known is left
left_now : (old mid new : Pass) (source : ℕ) (entry : Entry) → known mid.account source ≡ known old.account source → HasMade mid new source entry → HasMade old new source entry
left_now old mid new source entry same made = record {
  before = made.before;
  of_own = made.of_own ∙ ap (λ (k : Knowledge). k.own ++ entry ∷ []) same;
  of_seen = made.of_seen;
  front = subst (λ (k : Knowledge). IsFront k.seen made.before) same made.front;
  count = subst (λ (k : Knowledge). k.count ≤ length made.before) same made.count;
  history = subst (λ (k : Knowledge). IsHistory k.plan (seen new source)) same made.history;
}

-- ---- the last of some sources

last_of : (rest : List ℕ) (s source : ℕ) → is_among source (rest ++ s ∷ []) ≡ (is_among source rest || ((s == source) || false))
last_of rest s source = list_any-append (λ (one : ℕ). one == source) rest (s ∷ [])

-- it stands once, as the others are greater
pub falls_front : (rest : List ℕ) (s : ℕ) → Falls (rest ++ s ∷ []) → Falls rest × All (λ other. s < other) rest
falls_front [] s falls = (tt, All-nil (λ other. s < other))
falls_front (first ∷ rest) s falls =
    let others = falls_front rest s falls.1 in
    let parts = All-pop (λ other. other < first) (rest ++ s ∷ []) rest (Some s) refl falls.0 in
    ((parts.0, others.0), All-cons (λ other. s < other) first rest parts.1 others.1)

and_none : (b : Bool) → (b && false) ≡ false
and_none true = refl
and_none false = refl

and_not : (b : Bool) → (b && not b) ≡ false
and_not true = refl
and_not false = refl

module _ (machine : Machine) (number : ℕ) (old : PassSeat) where
  pub none_left : (sources : List ℕ) → IsStation machine old number → AreThoseToLeave (pass_of machine old) sources → IsLeaving machine number old old sources
  none_left sources station those = record {
    station = station;
    same_number = refl;
    met = take-length (account old).met;
    those = those;
    each = λ source. subst (λ (left : Bool). LeavesOne left (pass_of machine old) (pass_of machine old) source) (sym (ap (λ (b : Bool). b && not (is_among source sources)) (those.each source) ∙ and_not (is_among source sources))) refl;
  }

  -- the last of them is the next
  module _ (mid : PassSeat) (before rest : List ℕ) (s : ℕ) (leaving : IsLeaving machine number old mid before) (popped : before ≡ rest ++ s ∷ []) where
    those_mid : AreThoseToLeave (pass_of machine mid) (rest ++ s ∷ [])
    those_mid = subst (AreThoseToLeave (pass_of machine mid)) popped leaving.those

    pub writes_next : Writes (pass_of machine mid) s
    writes_next = those_mid.each s ∙ last_of rest s s ∙ or_right (is_among s rest) ((s == s) || false) (or-false (s == s) ∙ eq-eqb s s refl)

    pub next_within : s < length machine.layout.plans
    next_within = (All-pop (λ source. source < length machine.layout.plans) (rest ++ s ∷ []) rest (Some s) refl those_mid.within).1

    alone : is_among s rest ≡ false
    alone = list_any_none (λ (one : ℕ). one == s) rest (λ k d at. let over = (falls_front rest s those_mid.falling).1 k d at in ne_eqb _ s (λ same. absurd (omega arith)))

    among_other : (source : ℕ) → (s == source) ≡ false → is_among source before ≡ is_among source rest
    among_other source other = ap (is_among source) popped ∙ last_of rest s source ∙ ap (λ (b : Bool). is_among source rest || (b || false)) other ∙ or-false (is_among source rest)

    unknown : known (account mid) s ≡ known (account old) s
    unknown =
        let here : is_among s before ≡ true = sym (leaving.those.each s) ∙ writes_next in
        subst (λ (left : Bool). LeavesOne left (pass_of machine old) (pass_of machine mid) s) (ap (λ (b : Bool). is_in (pass_of machine old) s && not b) here ∙ and_none (is_in (pass_of machine old) s)) (leaving.each s)

    pub left_one : (new : PassSeat) → IsStation machine new number → IsSamePass (pass_of machine mid) (pass_of machine new) s → HasMade (pass_of machine mid) (pass_of machine new) s (leave_by number) →
        IsLeaving machine number old new rest
    left_one new station same made = record {
      station = station;
      same_number = same.number ∙ leaving.same_number;
      met = met_later (account old).met (account mid).met (account new).met leaving.met same.met;
      those = record {
        within = (All-pop (λ source. source < length machine.layout.plans) (rest ++ s ∷ []) rest (Some s) refl those_mid.within).0;
        each = λ source. elim (s == source) as (λ here. (s == source) ≡ here → is_in (pass_of machine new) source ≡ is_among source rest) [
          | true ↦ λ is. subst (λ (n : ℕ). is_in (pass_of machine new) n ≡ is_among n rest) (eqb-true s source is) (out ∙ sym alone)
          | false ↦ λ other.
              in_same (pass_of machine mid) (pass_of machine new) source same.number (same.others source (λ e. eqb-false s source other (sym e))) ∙ leaving.those.each source ∙ among_other source other
        ] refl;
        falling = (falls_front rest s those_mid.falling).0;
      };
      each = λ source. elim (s == source) as (λ here. (s == source) ≡ here → LeavesOne (is_in (pass_of machine old) source && not (is_among source rest)) (pass_of machine old) (pass_of machine new) source) [
        | true ↦ λ is. subst (λ (n : ℕ). LeavesOne (is_in (pass_of machine old) n && not (is_among n rest)) (pass_of machine old) (pass_of machine new) n) (eqb-true s source is) left_here
        | false ↦ λ other.
            let same_left = ap (λ (b : Bool). is_in (pass_of machine old) source && not b) (among_other source other) in
            subst (λ (left : Bool). LeavesOne left (pass_of machine old) (pass_of machine new) source) same_left
            (left_still (is_in (pass_of machine old) source && not (is_among source before)) (pass_of machine old) (pass_of machine mid) (pass_of machine new) source (same.others source (λ e. eqb-false s source other (sym e))) (leaving.each source))
      ] refl;
    } where
      out : is_in (pass_of machine new) s ≡ false
      out =
          ap (λ (entries : List Entry). is_among (account new).number (writers_of (plan_in (pass_of machine new) s).allow) && not (ends_with_leave entries)) made.of_own
          ∙ ap (λ (b : Bool). is_among (account new).number (writers_of (plan_in (pass_of machine new) s).allow) && not b) (ends_with_leave_append (own (pass_of machine mid) s) (leave_by number)) ∙ and_none _

      was_in : is_in (pass_of machine old) s ≡ true
      was_in = sym (in_same (pass_of machine old) (pass_of machine mid) s leaving.same_number unknown) ∙ writes_next

      left_here : LeavesOne (is_in (pass_of machine old) s && not (is_among s rest)) (pass_of machine old) (pass_of machine new) s
      left_here =
          let number_is : number ≡ (account old).number = leaving.station.rests.of_number ∙ leaving.same_number in
          subst (λ (left : Bool). LeavesOne left (pass_of machine old) (pass_of machine new) s) (λ i. sym was_in i && not (sym alone i))
          (subst (λ (n : ℕ). HasMade (pass_of machine old) (pass_of machine new) s (leave_by n)) number_is (left_now (pass_of machine old) (pass_of machine mid) (pass_of machine new) s (leave_by number) unknown made))

pub all_left : (machine : Machine) (number : ℕ) (old new : PassSeat) (sources : List ℕ) → IsLeaving machine number old new sources → sources ≡ [] → HasLeft (pass_of machine old) (pass_of machine new)
all_left machine number old new sources leaving none = record {
  hub = refl;
  number = leaving.same_number;
  met = leaving.met;
  each = λ source. subst (λ (left : Bool). LeavesOne left (pass_of machine old) (pass_of machine new) source) (ap (λ (s : List ℕ). is_in (pass_of machine old) source && not (is_among source s)) none ∙ and-true (is_in (pass_of machine old) source)) (leaving.each source);
}
