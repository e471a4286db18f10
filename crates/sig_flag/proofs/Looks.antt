-- A look keeps the told rule.
use Rattle.std.proofs.Common.{◌≡◌, ◌∙◌, ℕ, ◌<◌, inl, inr, List, [], ◌∷◌, length, get_or, slice_index_or, set, cond, Bool, true, false, Option, refl, sym, ap, subst, arith}
use Rattle.std.proofs.lemmas.List.{length-set}
use mathlib.Core.Option as slot
use lib.ListN.{get_elem?}
use Rattle.atomic_table.specs.Table.{State, Allows, step, keeps}
use Rattle.sig_flag.proofs.Keeping.{Whole, Keeps, found_of, raised_of, balances_apart, arms_of, arms_apart, keeps_apart, still_watching, told_after}
use Rattle.sig_flag.proofs.Fronts.{whole_front}
use Rattle.sig_flag.proofs.Shown.{Shows, turn_shows}
use Rattle.sig_flag.proofs.Stepping.{Rule, Turned, stepped_rule, stays, known_here, known_else, put_same}
use Rattle.sig_flag.proofs.Watching.{set_same, changed_arms, changed_long, look_watching, last_look_watching}
use Rattle.sig_flag.specs.Accounts.{account_of, known, plan_at, opening_knowledge, no_plan, no_hold, after_look, after_last_look, at_rest}
use Rattle.sig_flag.specs.Layouts.{Layout, leaf_at}
use Rattle.sig_flag.specs.Machines.{IsShown}
use Rattle.sig_flag.specs.Plays.{Seated, IsLook, IsLastLook}
use Rattle.sig_flag.specs.Told.{IsWatching, version_at}
use Rattle.sig_flag.specs.Turns.{IsHistory, IsKnown}
use Rattle.sig_flag.specs.Words.{version_in}
use Rattle.sig_flag.specs.declared.accounts.Account.{Account}
use Rattle.sig_flag.specs.declared.accounts.Hold.{Hold}
use Rattle.sig_flag.specs.declared.accounts.Knowledge.{Knowledge}
use Rattle.sig_flag.specs.declared.shape.LeafPlan.{LeafPlan}
use Rattle.sig_hist.proofs.Staying.{closed_is_whole}
use Rattle.sig_hist.specs.Histories.{is_closed}
use Rattle.sig_hist.specs.Plain.{version_of}
use Rattle.sig_hist.specs.Ports.{is_news, put}
use Rattle.sig_hist.specs.Sources.{writers_of}
use Rattle.sig_hist.specs.declared.edits.Entry.{Entry}
use Rattle.sig_hist.specs.declared.plans.SourcePlan.{SourcePlan}
use Rattle.sig_hist.specs.declared.ports.Version.{Version}

shown : (number : ℕ) (plan : SourcePlan) (history : List Entry) (knowledge : Knowledge) (word : ℕ) → IsHistory plan history → IsKnown number plan history knowledge →
    Shows (length history) (is_closed (writers_of plan.allow) history) word → IsShown knowledge (version_in word)
shown number plan history knowledge word legal known shows = record {
  count = omega arith;
  room = rw (known.of_plan, shows.count) legal.of_source.room;
  whole = λ closed.
      let all = closed_is_whole (record { plan = plan; history = history }) knowledge.seen legal.of_source known.front (rw known.of_plan at closed) in
      shows.count ∙ ap length (sym all);
  closed = λ all. let same = whole_front knowledge.seen history known.front (sym shows.count ∙ all) in rw (known.of_plan, same) shows.closed;
}

module _ {V : Type 0} (plan_of : V → SourcePlan) (history_of : V → List Entry) (plans : List SourcePlan) (seats : ℕ) where
  -- the seat's account has the new count, and all else of the source as it was
  look_rule : (leaves : List LeafPlan) (s : State (Option V) (List Account)) (told : Rule plan_of history_of plans seats s) (id source : ℕ) (version : Version) (old new : Account) → source < length plans → get_elem? s.views id ≡ slot.some (old ∷ []) →
      version.count ≡ length (told.history source) → new.number ≡ old.number → new.knows ≡ (after_look leaves old source version).knows → new.turn ≡ old.turn →
      Turned plan_of history_of plans seats (record { words = set s.words source (get_or s.words source 0); homes = s.homes; views = set s.views id (new ∷ []) }) (put told.history source (told.history source))
  look_rule leaves s told id source version old new within at is number knows turn =
      let mine = told.accounts id 0 (old ∷ []) old at refl in
      let was = mine.knows source within in
      let held = told.holder source in
      let history = told.history source in
      let known_is = λ (k : ℕ). ap (λ (all : List Knowledge). slice_index_or all k (opening_knowledge no_plan)) knows in
      let here = known_is source ∙ known_here old source (record (known old source) { count = version.count }) (omega (arith, mine.of_plans)) in
      stepped_rule plan_of history_of plans seats s told id source old new history held (get_or s.words source 0) s.homes within at (stays old.number history held)
      (record {
        number = number;
        of_plans = ap length knows ∙ length-set old.knows source _;
        others = λ k other. known_is k ∙ known_else old source k _ other;
        knows = rw here (record { of_plan = was.of_plan; front = was.front; seen = omega arith; count = omega arith; own = was.own });
        turn_before = λ k _ has. sym turn ∙ has;
        turn_after = λ k _ has. turn ∙ has;
        has_turn = λ has. let had = mine.has_turn source (sym turn ∙ has) in (had.1, ap (λ (x : Knowledge). x.seen) here ∙ had.2);
        only = λ holds. turn ∙ mine.only source within holds;
      })
      (told.sources source within) (told.turns source within) (λ k _. refl) (λ number. told.holders source number within)

-- what a rest leaves is as it was after the look
rest_leaves : {X : Type 0} (f : Account → X) (leaves : List LeafPlan) (account : Account) (task : ℕ) (news : Bool) → f (at_rest leaves account task) ≡ f account → f (cond news account (at_rest leaves account task)) ≡ f account
rest_leaves f leaves account task true is = refl
rest_leaves f leaves account task false is = is

module _ {V : Type 0} (plan_of : V → SourcePlan) (history_of : V → List Entry) (layout : Layout) where
  look_whole : (s : State (Option V) (List Account)) (told : Whole plan_of history_of layout s) (id source : ℕ) (version : Version) (old new : Account) → source < length layout.plans → get_elem? s.views id ≡ slot.some (old ∷ []) →
      version ≡ version_of (record { plan = plan_at layout.plans source; history = told.turns.history source }) →
      new.number ≡ old.number → new.knows ≡ (after_look layout.leaves old source version).knows → new.turn ≡ old.turn → new.rings ≡ old.rings → new.tells ≡ old.tells →
      ((task : ℕ) → (found_of task new ≡ found_of task old) × (raised_of task new ≡ raised_of task old)) →
      ((leaf : ℕ) → leaf < length layout.leaves → arms_of leaf new ≡ arms_of leaf old) →
      ((after : List ℕ) (seen : List (List Account)) (later : ℕ → List Entry) → ((leaf : ℕ) → (leaf_at layout.leaves leaf).source ≡ source → version_at layout after seen later leaf ≡ version) →
      IsWatching layout after seen later old → IsWatching layout after seen later new) →
      Whole plan_of history_of layout (record { words = set s.words source (get_or s.words source 0); homes = s.homes; views = set s.views id (new ∷ []) })
  look_whole s told id source version old new within at is number knows turn rings tells counts arms watching =
      let mine = told.watching id 0 (old ∷ []) old at refl in
      let later = put told.turns.history source (told.turns.history source) in
      let after = set s.words source (get_or s.words source 0) in
      let seen = set s.views id (new ∷ []) in
      let same = put_same told.turns.history source in
      let keep : (leaf : ℕ) → leaf < length layout.leaves → Keeps layout s.words after s.views seen told.turns.history later leaf =
      λ leaf here. keeps_apart plan_of history_of layout s told id old new at source (get_or s.words source 0) later leaf (λ same. absurd (omega arith)) (λ same. absurd (omega arith))
      (λ owes. rw tells owes) (λ owes. rw rings owes)
      (inl (ap (λ (h : List Entry). version_of (record { plan = plan_at layout.plans (leaf_at layout.leaves leaf).source; history = h })) (same (leaf_at layout.leaves leaf).source))) in
      told_after plan_of history_of layout s told id old new at source (get_or s.words source 0) s.homes later (λ beyond. absurd (omega arith))
      (λ task near. balances_apart layout s.words source (get_or s.words source 0) old new task (λ same. absurd (omega arith)) (counts task).0 (counts task).1)
      (λ leaf here. arms_apart layout s.words source (get_or s.words source 0) old new leaf (λ same. absurd (omega arith)) (arms leaf here))
      (look_rule plan_of history_of layout.plans layout.seats layout.leaves s told.turns id source version old new within at (ap (λ (v : Version). v.count) is) number knows turn)
      (λ leaf here. inr (keep leaf here))
      (watching after seen later
      (λ leaf on. ap (λ (k : ℕ). version_of (record { plan = plan_at layout.plans k; history = later k })) on ∙ ap (λ (h : List Entry). version_of (record { plan = plan_at layout.plans source; history = h })) (same source) ∙ sym is)
      (still_watching layout s.words after s.views seen told.turns.history later old old refl refl refl keep mine))

  module _ (slots id : ℕ) (me : Seated V) (source : ℕ) where
    -- a word that is read shows what is so of its source
    shows_version : (s : State (Option V) (List Account)) (told : Whole plan_of history_of layout s) → source < length layout.plans → Shows (length (told.turns.history source)) (is_closed (writers_of (plan_at layout.plans source).allow) (told.turns.history source)) (get_or s.words source 0)
    shows_version s told within = turn_shows plan_of history_of (plan_at layout.plans source) (told.turns.history source) (told.turns.holder source) _ _ (told.turns.turns source within)

    looks_here : source < length layout.plans → me.0 ≡ account_of me.0 ∷ [] → Allows (Whole plan_of history_of layout) slots id me source (λ word. word) (IsLook layout.leaves (step slots source 0 0 slot.none) me)
    looks_here within one s told long at short =
        let old = account_of me.0 in
        let version = version_in (get_or s.words source 0) in
        let mine = told.turns.accounts id 0 (old ∷ []) old (at ∙ ap slot.some one) refl in
        let legal = told.turns.sources source within in
        let shows = shows_version s told within in (
          after_look layout.leaves old source version ∷ [],
          keeps,
          tt,
          look_whole s told id source version old (after_look layout.leaves old source version) within (at ∙ ap slot.some one)
              (λ i. record { count = shows.count i; closed = shows.closed i }) refl refl refl refl refl (λ task. (refl, refl))
              (λ leaf here. changed_arms _ layout.leaves old leaf here (told.watching id 0 (old ∷ []) old (at ∙ ap slot.some one) refl).watches)
              (λ after seen later. look_watching layout after seen later old source version),
          record {
            short = omega (arith, shows.count, legal.of_source.room, legal.of_source.plan.room);
            has = refl;
            shown = shown old.number (plan_at layout.plans source) (told.turns.history source) (known old source) _ legal (mine.knows source within) shows;
          },
        )

    pub looks : (leaves : List LeafPlan) → layout.leaves ≡ leaves → source < length layout.plans → me.0 ≡ account_of me.0 ∷ [] → Allows (Whole plan_of history_of layout) slots id me source (λ word. word) (IsLook leaves (step slots source 0 0 slot.none) me)
    looks leaves same within one = subst (λ (all : List LeafPlan). Allows (Whole plan_of history_of layout) slots id me source (λ word. word) (IsLook all (step slots source 0 0 slot.none) me)) same (looks_here within one)

    -- for the last time, for a leaf on the source
    last_looks_here : (leaf at_most : ℕ) → source < length layout.plans → (leaf_at layout.leaves leaf).source ≡ source → me.0 ≡ account_of me.0 ∷ [] →
        Allows (Whole plan_of history_of layout) slots id me source (λ word. word) (IsLastLook layout.leaves leaf at_most (step slots source 0 0 slot.none) me)
    last_looks_here leaf at_most within on one s told long at short =
        let old = account_of me.0 in
        let version = version_in (get_or s.words source 0) in
        let there = at ∙ ap slot.some one in
        let mine = told.turns.accounts id 0 (old ∷ []) old there refl in
        let legal = told.turns.sources source within in
        let shows = shows_version s told within in
        let news = is_news at_most version in
        let task = (leaf_at layout.leaves leaf).task in
        let long_watches = (told.watching id 0 (old ∷ []) old there refl).watches in
        let looked = after_look layout.leaves old (leaf_at layout.leaves leaf).source version in (
          after_last_look layout.leaves old leaf at_most version ∷ [],
          keeps,
          tt,
          look_whole s told id source version old (after_last_look layout.leaves old leaf at_most version) within there (λ i. record { count = shows.count i; closed = shows.closed i })
              (rest_leaves (λ (a : Account). a.number) layout.leaves looked task news refl)
              (rest_leaves (λ (a : Account). a.knows) layout.leaves looked task news refl ∙ ap (λ (k : ℕ). (after_look layout.leaves old k version).knows) on)
              (rest_leaves (λ (a : Account). a.turn) layout.leaves looked task news refl)
              (rest_leaves (λ (a : Account). a.rings) layout.leaves looked task news refl)
              (rest_leaves (λ (a : Account). a.tells) layout.leaves looked task news refl)
              (λ k. (rest_leaves (found_of k) layout.leaves looked task news (set_same (λ (h : Hold). h.found) old.holds task k _ no_hold refl), rest_leaves (raised_of k) layout.leaves looked task news (set_same (λ (h : Hold). h.raised) old.holds task k _ no_hold refl)))
              (λ k here.
              rest_leaves (arms_of k) layout.leaves looked task news (changed_arms _ layout.leaves looked k here (changed_long _ layout.leaves old long_watches))
              ∙ changed_arms _ layout.leaves old k here long_watches)
              (λ after seen later shows. last_look_watching layout after seen later old leaf version news (λ other same. shows other (same ∙ on))),
          record {
            short = omega (arith, shows.count, legal.of_source.room, legal.of_source.plan.room);
            has = refl;
            shown = shown old.number (plan_at layout.plans source) (told.turns.history source) (known old source) _ legal (mine.knows source within) shows;
          },
        )

    pub last_looks : (leaves : List LeafPlan) → layout.leaves ≡ leaves → (leaf at_most : ℕ) → source < length layout.plans → (leaf_at layout.leaves leaf).source ≡ source → me.0 ≡ account_of me.0 ∷ [] →
        Allows (Whole plan_of history_of layout) slots id me source (λ word. word) (IsLastLook leaves leaf at_most (step slots source 0 0 slot.none) me)
    last_looks leaves same leaf at_most within on one = subst (λ (all : List LeafPlan). Allows (Whole plan_of history_of layout) slots id me source (λ word. word) (IsLastLook all leaf at_most (step slots source 0 0 slot.none) me)) same (last_looks_here leaf at_most within on one)
