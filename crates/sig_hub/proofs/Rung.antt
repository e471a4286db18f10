-- A seat rings the bells of a source's leaves one after another.
use Rattle.std.proofs.Common.{◌≡◌, ◌∙◌, ℕ, zero, suc, ◌+◌, ◌<◌, ◌≤◌, ◌==◌, List, [], ◌∷◌, ◌++◌, length, get_or, set, drop, cond, Option, Bool, true, false, refl, sym, ap, subst, eq-eqb, arith}
use Rattle.std.proofs.lemmas.Bool.{or_left}
use Rattle.std.proofs.Math.Seq.{drop-cons}
use Rattle.std.proofs.lemmas.List.{drop_all, length-set}
use Rattle.sig_flag.specs.Accounts.{known, no_hold, after_give, after_ring, after_tell, leaves_on, struck}
use Rattle.sig_flag.specs.Layouts.{leaf_at, no_leaf}
use Rattle.sig_flag.specs.Machines.{Machine, account, Has, Sits, IsSameSeat, OwesNothing}
use Rattle.sig_flag.specs.declared.accounts.Account.{Account}
use Rattle.sig_flag.specs.declared.accounts.Hold.{Hold}
use Rattle.sig_flag.specs.declared.shape.LeafPlan.{LeafPlan}
use Rattle.sig_hist.specs.Sources.{Source, is_among}
use Rattle.sig_hub.proofs.InTurn.{Reads, reads, has_both, same_twice}
use Rattle.sig_hub.specs.Turns.{PassSeat, MayEnd, HasGiven, HasRung, HasTelling, IsRinging, IsToldMore, AreToldMore}

struck_first : (leaf : ℕ) (others : List ℕ) → struck leaf (leaf ∷ others) ≡ others
struck_first leaf others = ap (λ (same : Bool). cond same others (leaf ∷ struck leaf others)) (eq-eqb leaf leaf refl)

-- the leaves from a number on, by whether the first of them is on the source
on_more : (source from : ℕ) (leaves : List LeafPlan) → from < length leaves → leaves_on source (drop from leaves) from ≡ cond ((leaf_at leaves from).source == source) (from ∷ leaves_on source (drop (from + 1) leaves) (from + 1)) (leaves_on source (drop (from + 1) leaves) (from + 1))
on_more source from leaves more =
    ap (λ (rest : List LeafPlan). leaves_on source rest from) (drop-cons leaves from no_leaf more)
    ∙ ap (λ (k : ℕ). cond ((leaf_at leaves from).source == source) (from ∷ leaves_on source (drop k leaves) k) (leaves_on source (drop k leaves) k)) (let next : suc from ≡ from + 1 = omega arith in next)

on_none : (source from : ℕ) (leaves : List LeafPlan) → length leaves ≤ from → leaves_on source (drop from leaves) from ≡ []
on_none source from leaves past = ap (λ (rest : List LeafPlan). leaves_on source rest from) (drop_all from leaves past)

-- ---- tells

told_no_more : (hold : Hold) → IsToldMore hold hold
told_no_more hold = record { tokens = refl; missed = refl; found = refl; raised = omega arith }

none_told : (holds : List Hold) → AreToldMore holds holds
none_told holds = record { all = refl; each = λ task. told_no_more (get_or holds task no_hold) }

told_twice : (old mid new : List Hold) → AreToldMore old mid → AreToldMore mid new → AreToldMore old new
told_twice old mid new first second = record {
  all = second.all ∙ first.all;
  each = λ task.
      let before = first.each task in
      let after = second.each task in
      record {
        tokens = after.tokens ∙ before.tokens;
        missed = after.missed ∙ before.missed;
        found = after.found ∙ before.found;
        raised = omega (arith, before.raised, after.raised);
      };
}

one_at : (holds : List Hold) (at task : ℕ) → IsToldMore (get_or holds task no_hold)
    (get_or (set holds at (record (get_or holds at no_hold) { raised = (get_or holds at no_hold).raised + 1 })) task no_hold)
one_at [] at task = told_no_more no_hold
one_at (first ∷ holds) zero zero = record { tokens = refl; missed = refl; found = refl; raised = omega arith }
one_at (first ∷ holds) zero (suc task) = told_no_more (get_or holds task no_hold)
one_at (first ∷ holds) (suc at) zero = told_no_more first
one_at (first ∷ holds) (suc at) (suc task) = one_at holds at task

one_told : (a : Account) (task : ℕ) (was_told : Bool) → AreToldMore a.holds (after_tell a task was_told).holds
one_told a task true = none_told a.holds
one_told a task false = record { all = length-set a.holds task _; each = one_at a.holds task }

has_told_none : (seat : PassSeat) (a : Account) (slots : List (ℕ × Option Source)) → Has seat a slots → HasTelling seat a slots
has_told_none seat a slots has = record { holds = a.holds; told = none_told a.holds; has = has }

-- ---- one leaf

module _ (leaves : List LeafPlan) (leaf : ℕ) (old mid : PassSeat) (no_tell : (account old).tells ≡ []) where
  -- its bell wasn't set
  pub rung_silent : Has mid (after_ring leaves (account old) leaf false) old.me.1 →
      HasTelling mid (record (account old) { rings = struck leaf (account old).rings; tells = [] }) old.me.1
  rung_silent has = has_told_none mid _ old.me.1 (has ∙ ap (λ (tells : List ℕ). (
    record (account old) {
      rings = struck leaf (account old).rings;
      tells = tells;
    } ∷ [],
    old.me.1,
  )) no_tell)

  -- its bell was set, and its task is to be told
  module _ (task : ℕ) (its : (leaf_at leaves leaf).task ≡ task) (has : Has mid (after_ring leaves (account old) leaf true) old.me.1) where
    mid_is : Reads mid (record (account old) { rings = struck leaf (account old).rings; tells = task ∷ [] }) old.me.1
    mid_is = reads mid _ old.me.1 (has ∙ (λ i. (record (account old) { rings = struck leaf (account old).rings; tells = no_tell i ++ its i ∷ [] } ∷ [], old.me.1)))

    pub owes_tell : is_among task (account mid).tells ≡ true
    owes_tell = subst (λ (a : Account). is_among task a.tells ≡ true) (sym mid_is.is) (or_left (task == task) false (eq-eqb task task refl))

    pub rung_told : (new : PassSeat) (was_told : Bool) → Has new (after_tell (account mid) task was_told) mid.me.1 →
        HasTelling new (record (account old) { rings = struck leaf (account old).rings; tells = [] }) old.me.1
    rung_told new was_told told = record {
      holds = (after_tell (account mid) task was_told).holds;
      told = subst (λ (a : Account). AreToldMore a.holds (after_tell (account mid) task was_told).holds) mid_is.is (one_told (account mid) task was_told);
      has = told ∙ (λ i. (
        record (mid_is.is i) {
          holds = (after_tell (account mid) task was_told).holds;
          tells = struck task (mid_is.is i).tells;
        } ∷ [],
        mid_is.slots_are i,
      ))
          ∙ ap (λ (tells : List ℕ). (
            record (account old) {
              holds = (after_tell (account mid) task was_told).holds;
              rings = struck leaf (account old).rings;
              tells = tells;
            } ∷ [],
            old.me.1,
          )) (struck_first task []);
    }

-- ---- all leaves

module _ (machine : Machine) (source : ℕ) (old : PassSeat) (sits : Sits machine old) where
  pub starts_ringing : (account old).rings ≡ leaves_on source machine.layout.leaves 0 → (account old).tells ≡ [] → IsRinging machine.layout.leaves source 0 old old
  starts_ringing rings tells = record {
    same = record { same_table = refl; same_id = refl };
    has = has_told_none old _ old.me.1 (has_both old _ old.me.1 (sits.one_account ∙ (λ i. record (account old) { rings = rings i; tells = tells i } ∷ [])) refl);
  }

  module _ (from : ℕ) (now : PassSeat) (ringing : IsRinging machine.layout.leaves source from old now) where
    reading : Reads now (record (account old) { holds = ringing.has.holds; rings = leaves_on source (drop from machine.layout.leaves) from; tells = [] }) old.me.1
    reading = reads now _ old.me.1 ringing.has.has

    pub sits_ringing : Sits machine now
    sits_ringing = record { at_table = ringing.same.same_table ∙ sits.at_table; one_account = reading.one }

    pub no_tells : (account now).tells ≡ []
    no_tells = ap (λ (a : Account). a.tells) reading.is

    -- a leaf on another source
    pub passed_by : from < length machine.layout.leaves → ((leaf_at machine.layout.leaves from).source == source) ≡ false → IsRinging machine.layout.leaves source (from + 1) old now
    passed_by more other = record {
      same = ringing.same;
      has = record {
        holds = ringing.has.holds;
        told = ringing.has.told;
        has = ringing.has.has ∙ ap (λ (all : List ℕ). (record (account old) { holds = ringing.has.holds; rings = all; tells = [] } ∷ [], old.me.1))
            (on_more source from machine.layout.leaves more
            ∙ ap (λ (on : Bool). cond on (from ∷ leaves_on source (drop (from + 1) machine.layout.leaves) (from + 1))
            (leaves_on source (drop (from + 1) machine.layout.leaves) (from + 1))) other);
      };
    }

    rings_here : from < length machine.layout.leaves → ((leaf_at machine.layout.leaves from).source == source) ≡ true →
        (account now).rings ≡ from ∷ leaves_on source (drop (from + 1) machine.layout.leaves) (from + 1)
    rings_here more on =
        let rest = leaves_on source (drop (from + 1) machine.layout.leaves) (from + 1) in
        ap (λ (a : Account). a.rings) reading.is ∙ on_more source from machine.layout.leaves more ∙ ap (λ (on : Bool). cond on (from ∷ rest) rest) on

    -- a leaf on the source was rung
    pub rung_one : (new : PassSeat) → from < length machine.layout.leaves → ((leaf_at machine.layout.leaves from).source == source) ≡ true → IsSameSeat now new →
        HasTelling new (record (account now) { rings = struck from (account now).rings; tells = [] }) now.me.1 → IsRinging machine.layout.leaves source (from + 1) old new
    rung_one new more on same has =
        let rest = leaves_on source (drop (from + 1) machine.layout.leaves) (from + 1) in
        let left : struck from (account now).rings ≡ rest = ap (struck from) (rings_here more on) ∙ struck_first from rest in
        record {
          same = same_twice old now new ringing.same same;
          has = record {
            holds = has.holds;
            told = told_twice (account old).holds ringing.has.holds has.holds ringing.has.told (subst (λ (a : Account). AreToldMore a.holds has.holds) reading.is has.told);
            has = has.has ∙ (λ i. (record (reading.is i) { holds = has.holds; rings = left i; tells = [] } ∷ [], reading.slots_are i));
          };
        }

    -- a leaf on the source is the next to ring
    pub rings_next : from < length machine.layout.leaves → ((leaf_at machine.layout.leaves from).source == source) ≡ true → is_among from (account now).rings ≡ true
    rings_next more on =
        let rest = leaves_on source (drop (from + 1) machine.layout.leaves) (from + 1) in
        subst (λ (rings : List ℕ). is_among from rings ≡ true) (sym (rings_here more on)) (or_left (from == from) (is_among from rest) (eq-eqb from from refl))

    pub all_rung : length machine.layout.leaves ≤ from → HasRung old now
    all_rung past = record {
      same = ringing.same;
      has = record {
        holds = ringing.has.holds;
        told = ringing.has.told;
        has = ringing.has.has ∙ ap (λ (all : List ℕ). (record (account old) { holds = ringing.has.holds; rings = all; tells = [] } ∷ [], old.me.1))
            (on_none source from machine.layout.leaves past);
      };
    }

-- ---- the end of a turn

module _ (leaves : List LeafPlan) (source : ℕ) (state : Source) (old mid : PassSeat) (may : MayEnd (account old) source state) (nothing : OwesNothing old) (same : IsSameSeat old mid) (has : Has mid (after_give leaves (account old) source state.history) []) where
  given_account : Reads mid (after_give leaves (account old) source state.history) []
  given_account = reads mid _ [] has

  pub tells_given : (account mid).tells ≡ []
  tells_given = ap (λ (a : Account). a.tells) given_account.is ∙ nothing.no_tell

  rings_given : (came : Bool) → (length state.history == length (known (account old) source).seen) ≡ came → (account mid).rings ≡ cond came [] (leaves_on source leaves 0)
  rings_given came is = ap (λ (a : Account). a.rings) given_account.is ∙ (λ i. nothing.no_ring i ++ cond (is i) [] (leaves_on source leaves 0))

  pub rings_to_do : (length state.history == length (known (account old) source).seen) ≡ false → (account mid).rings ≡ leaves_on source leaves 0
  rings_to_do other = rings_given false other

  pub given_rung : (new : PassSeat) → HasRung mid new → HasGiven old new source state
  given_rung new rung = record {
    same = same_twice old mid new same rung.same;
    may = may;
    has = record {
      holds = rung.has.holds;
      told = subst (λ (a : Account). AreToldMore a.holds rung.has.holds) given_account.is rung.has.told;
      has = rung.has.has ∙ (λ i. (record (given_account.is i) { holds = rung.has.holds; rings = []; tells = [] } ∷ [], given_account.slots_are i));
    };
  }

  pub given_unchanged : (length state.history == length (known (account old) source).seen) ≡ true → HasGiven old mid source state
  given_unchanged is = record {
    same = same;
    may = may;
    has = has_told_none mid _ [] (has_both mid _ [] (given_account.one
        ∙ (λ i. record (account mid) { rings = rings_given true is i; tells = tells_given i } ∷ [])
        ∙ (λ i. record (given_account.is i) { rings = []; tells = [] } ∷ [])) given_account.slots_are);
  }
