-- The steps at bells and ready words keep the told rule.
use Rattle.std.proofs.Common.{◌≡◌, ◌∙◌, ℕ, ◌+◌, ◌<◌, ◌≤◌, ◌≢◌, ◌==◌, ◌⊎◌, ⊎_elim, inl, inr, List, [], ◌∷◌, length, get_or, slice_index, set, Bool, true, false, Option, refl, sym, ap, subst, eq-eqb, arith}
use Rattle.std.proofs.lemmas.Bool.{eqb-true, eqb-false}
use Rattle.std.proofs.lemmas.List.{get_or-set_same, get_or-set_other}
use mathlib.Core.Logic.{dite}
use mathlib.Core.Option as slot
use native.Mathlib.Decide.{ℕ_discrete}
use lib.ListN.{get_elem?}
use Rattle.atomic_table.specs.Table.{State, Allows, step, keeps}
use Rattle.sig_flag.proofs.Keeping.{Whole, Keeps, Balances, balances_apart, balances_at, Arms, arms_apart, task_of, rings_of, tells_of, stirs, bell_kept, still_watched, still_watching, told_after}
use Rattle.sig_flag.proofs.Owing.{still_owed, owed_now, among_front, among_back, among_one, struck_keeps}
use Rattle.sig_flag.proofs.Stepping.{aside_rule}
use Rattle.sig_flag.proofs.Watching.{changed_arms, arm_watching, tell_watching, told_watching, missed_watching}
use Rattle.sig_flag.specs.Accounts.{account_of, watch, hold, no_hold, no_watch, after_arm, after_ring, after_tell, after_collect}
use Rattle.sig_flag.specs.Layouts.{Layout, bell_of, ready_of}
use Rattle.sig_flag.specs.Machines.{IsPolledBy, IsTaskOf}
use Rattle.sig_flag.specs.Plays.{Seated, IsArming, IsRinging, IsTelling, IsCollecting}
use Rattle.sig_flag.specs.Told.{IsStirred}
use Rattle.sig_flag.specs.declared.accounts.Account.{Account}
use Rattle.sig_flag.specs.declared.accounts.Hold.{Hold}
use Rattle.sig_flag.specs.declared.accounts.Watch.{Watch}
use Rattle.sig_flag.specs.declared.shape.LeafPlan.{LeafPlan}
use Rattle.sig_hist.specs.Sources.{is_among}
use Rattle.sig_hist.specs.declared.edits.Entry.{Entry}
use Rattle.sig_hist.specs.declared.plans.SourcePlan.{SourcePlan}
use Rattle.sig_hist.specs.declared.ports.Condition.TheVariants.{Armed}

module _ {V : Type 0} (plan_of : V → SourcePlan) (history_of : V → List Entry) (layout : Layout) where
  module _ (s : State (Option V) (List Account)) (told : Whole plan_of history_of layout s) (id : ℕ) (old : Account) (at : get_elem? s.views id ≡ slot.some (old ∷ [])) where
    abbrev Next : ℕ → ℕ → Account → Type 0
    Next place value new = Whole plan_of history_of layout (record { words = set s.words place value; homes = s.homes; views = set s.views id (new ∷ []) })

    -- from the state to the one in which the word at a place has a value and the seat this account
    abbrev Goes : ℕ → ℕ → Account → ℕ → Type 0
    Goes place value new leaf = Keeps layout s.words (set s.words place value) s.views (set s.views id (new ∷ [])) told.turns.history told.turns.history leaf

    -- ---- arm

    armed_keeps : (leaf other : ℕ) → leaf < length layout.leaves → other < length layout.leaves → Goes (bell_of layout leaf) 1 (after_arm old leaf) other
    armed_keeps leaf other within near = record {
      stirred = stirs plan_of history_of layout s told id old (after_arm old leaf) at (bell_of layout leaf) 1 told.turns.history (task_of layout other) (λ same. absurd (omega arith)) (λ owes. owes);
      bell = λ was. dite (ℕ_discrete other leaf)
          (λ same. inl (ap (λ (k : ℕ). get_or (set s.words (bell_of layout leaf) 1) (bell_of layout k) 0) same ∙ get_or-set_same s.words (bell_of layout leaf) 1 0 (omega (arith, told.wide))))
          (λ different. bell_kept plan_of history_of layout s told id old (after_arm old leaf) at (bell_of layout leaf) 1 told.turns.history other (λ same. different (omega arith)) was);
      version = inl refl;
      rings = λ _ owed. inl (still_owed rings_of s.views id old (after_arm old leaf) other at (λ owes. owes) owed);
    }

    armed_arms : (leaf other : ℕ) → leaf < length layout.leaves → Arms layout s.words (set s.words (bell_of layout leaf) 1) old (after_arm old leaf) other
    armed_arms leaf other within =
        let mine = told.watching id 0 (old ∷ []) old at refl in
        let word = get_or-set_same s.words (bell_of layout leaf) 1 0 (omega (arith, told.wide)) in
        let next = ap (λ (w : Watch). w.arms) (get_or-set_same old.watches leaf (record { condition = Armed; arms = (watch old leaf).arms + 1 }) no_watch (omega (arith, mine.watches))) in
        dite (ℕ_discrete other leaf)
        (λ same. subst (Arms layout s.words (set s.words (bell_of layout leaf) 1) old (after_arm old leaf)) (sym same) (omega (arith, word, next)))
        (λ different. arms_apart layout s.words (bell_of layout leaf) 1 old (after_arm old leaf) other (λ same. different (omega arith))
        (ap (λ (w : Watch). w.arms) (get_or-set_other old.watches leaf other _ no_watch different)))

    armed_whole : (leaf : ℕ) → IsPolledBy layout leaf old.number → Next (bell_of layout leaf) 1 (after_arm old leaf)
    armed_whole leaf polled =
        let new = after_arm old leaf in
        let after = set s.words (bell_of layout leaf) 1 in
        let seen = set s.views id (new ∷ []) in
        let keep = λ (other : ℕ) (near : other < length layout.leaves). armed_keeps leaf other polled.within near in
        told_after plan_of history_of layout s told id old new at (bell_of layout leaf) 1 s.homes told.turns.history (λ _. omega arith)
        (λ task near. balances_apart layout s.words (bell_of layout leaf) 1 old new task (λ same. absurd (omega arith)) refl refl)
        (λ other near. armed_arms leaf other polled.within)
        (aside_rule plan_of history_of layout.plans layout.seats s told.turns id (bell_of layout leaf) 1 old new (omega arith) at refl refl refl)
        (λ other near. inr (keep other near))
        (arm_watching layout after seen told.turns.history old leaf polled.within polled.poller (inl (get_or-set_same s.words (bell_of layout leaf) 1 0 (let within = polled.within in omega (arith, told.wide))))
        (still_watching layout s.words after s.views seen told.turns.history told.turns.history old old refl refl refl keep (told.watching id 0 (old ∷ []) old at refl)))

    -- ---- ring

    -- the task of the leaf whose bell was set is to be told
    stirred_now : (leaf : ℕ) (was_set : Bool) → (get_or s.words (bell_of layout leaf) 0 == 1) ≡ was_set → get_or s.words (bell_of layout leaf) 0 ≡ 1 →
        IsStirred layout (set s.words (bell_of layout leaf) 0) (set s.views id (after_ring layout.leaves old leaf was_set ∷ [])) told.turns.history (task_of layout leaf)
    stirred_now leaf true is set = inr (owed_now tells_of s.views id old (after_ring layout.leaves old leaf true) (task_of layout leaf) at (among_back (task_of layout leaf) old.tells (task_of layout leaf ∷ []) (among_one (task_of layout leaf))))
    stirred_now leaf false is set = absurd (let one = eq-eqb (get_or s.words (bell_of layout leaf) 0) 1 set in cc)

    tells_more : (leaf what : ℕ) (was_set : Bool) → is_among what old.tells ≡ true → is_among what (after_ring layout.leaves old leaf was_set).tells ≡ true
    tells_more leaf what true owes = among_front what old.tells (task_of layout leaf ∷ []) owes
    tells_more leaf what false owes = owes

    rung_keeps : (leaf other : ℕ) (was_set : Bool) → (get_or s.words (bell_of layout leaf) 0 == 1) ≡ was_set → leaf < length layout.leaves → other < length layout.leaves → Goes (bell_of layout leaf) 0 (after_ring layout.leaves old leaf was_set) other
    rung_keeps leaf other was_set is within near =
        let new = after_ring layout.leaves old leaf was_set in
        let stirs_still = λ (k : ℕ). stirs plan_of history_of layout s told id old new at (bell_of layout leaf) 0 told.turns.history (task_of layout k) (λ same. absurd (omega arith)) (tells_more leaf (task_of layout k) was_set) in
        record {
          stirred = stirs_still other;
          bell = λ was. dite (ℕ_discrete other leaf)
              (λ same. inr (subst (λ (k : ℕ). IsStirred layout (set s.words (bell_of layout leaf) 0) (set s.views id (new ∷ [])) told.turns.history (task_of layout k)) (sym same) (stirred_now leaf was_set is (ap (λ (k : ℕ). get_or s.words (bell_of layout k) 0) (sym same) ∙ was))))
              (λ different. bell_kept plan_of history_of layout s told id old new at (bell_of layout leaf) 0 told.turns.history other (λ same. different (omega arith)) was);
          version = inl refl;
          rings = λ was owed. dite (ℕ_discrete other leaf)
              (λ same. inr (⊎_elim
              (λ bell. subst (λ (k : ℕ). IsStirred layout (set s.words (bell_of layout leaf) 0) (set s.views id (new ∷ [])) told.turns.history (task_of layout k)) (sym same) (stirred_now leaf was_set is (ap (λ (k : ℕ). get_or s.words (bell_of layout k) 0) (sym same) ∙ bell)))
              (stirs_still other)
              was))
              (λ different. inl (still_owed rings_of s.views id old new other at (struck_keeps leaf other old.rings different) owed));
        }

    rung_arms : (leaf other : ℕ) (was_set : Bool) → leaf < length layout.leaves → Arms layout s.words (set s.words (bell_of layout leaf) 0) old (after_ring layout.leaves old leaf was_set) other
    rung_arms leaf other was_set within =
        let word = get_or-set_same s.words (bell_of layout leaf) 0 0 (omega (arith, told.wide)) in
        dite (ℕ_discrete other leaf)
        (λ same. subst (Arms layout s.words (set s.words (bell_of layout leaf) 0) old (after_ring layout.leaves old leaf was_set)) (sym same) (omega (arith, word)))
        (λ different. arms_apart layout s.words (bell_of layout leaf) 0 old (after_ring layout.leaves old leaf was_set) other (λ same. different (omega arith)) refl)

    rung_whole : (leaf : ℕ) (was_set : Bool) → (get_or s.words (bell_of layout leaf) 0 == 1) ≡ was_set → leaf < length layout.leaves → Next (bell_of layout leaf) 0 (after_ring layout.leaves old leaf was_set)
    rung_whole leaf was_set is within =
        let new = after_ring layout.leaves old leaf was_set in
        let keep = λ (other : ℕ) (near : other < length layout.leaves). rung_keeps leaf other was_set is within near in
        told_after plan_of history_of layout s told id old new at (bell_of layout leaf) 0 s.homes told.turns.history (λ _. omega arith)
        (λ task near. balances_apart layout s.words (bell_of layout leaf) 0 old new task (λ same. absurd (omega arith)) refl refl)
        (λ other near. rung_arms leaf other was_set within)
        (aside_rule plan_of history_of layout.plans layout.seats s told.turns id (bell_of layout leaf) 0 old new (omega arith) at refl refl refl)
        (λ other near. inr (keep other near))
        (still_watching layout s.words (set s.words (bell_of layout leaf) 0) s.views (set s.views id (new ∷ [])) told.turns.history told.turns.history old new refl refl refl keep (told.watching id 0 (old ∷ []) old at refl))

    -- ---- tell

    ready_bit : (task : ℕ) → task < length layout.pollers → slice_index s.words (ready_of layout task) ≤ 1
    ready_bit task within = told.bits (ready_of layout task) (omega arith) (omega arith)

    has_hold : (task : ℕ) → task < length layout.pollers → task < length old.holds
    has_hold task within = let mine = told.watching id 0 (old ∷ []) old at refl in omega (arith, mine.holds)

    told_counts : (task : ℕ) (was_told : Bool) → (get_or s.words (ready_of layout task) 0 == 1) ≡ was_told → task < length layout.pollers → (other : ℕ) →
        Balances layout s.words (set s.words (ready_of layout task) 1) old (after_tell old task was_told) other
    told_counts task true is within other =
        let one = eqb-true (get_or s.words (ready_of layout task) 0) 1 is in
        balances_at layout s.words (ready_of layout task) 1 old (after_tell old task true) task refl (omega (arith, told.wide)) (λ k _. refl) (omega (arith, one)) other
    told_counts task false is within other =
        let not_one = eqb-false (get_or s.words (ready_of layout task) 0) 1 is in
        let bit = ready_bit task within in
        let next = get_or-set_same old.holds task (record (hold old task) { raised = (hold old task).raised + 1 }) no_hold (has_hold task within) in
        let found = ap (λ (h : Hold). h.found) next in
        let raised = ap (λ (h : Hold). h.raised) next in
        balances_at layout s.words (ready_of layout task) 1 old (after_tell old task false) task refl (omega (arith, told.wide))
        (λ k different. get_or-set_other old.holds task k _ no_hold different)
        (omega (arith, not_one, bit, found, raised)) other

    told_keeps : (task other : ℕ) (was_told : Bool) → task < length layout.pollers → other < length layout.leaves →
        Goes (ready_of layout task) 1 (after_tell old task was_told) other
    told_keeps task other was_told within near =
        let new = after_tell old task was_told in
        record {
          stirred = λ was. dite (ℕ_discrete (task_of layout other) task)
              (λ same. inl (ap (λ (k : ℕ). get_or (set s.words (ready_of layout task) 1) (ready_of layout k) 0) same ∙ get_or-set_same s.words (ready_of layout task) 1 0 (omega (arith, told.wide))))
              (λ different. stirs plan_of history_of layout s told id old new at (ready_of layout task) 1 told.turns.history (task_of layout other) (λ same. different (omega arith)) (struck_keeps task (task_of layout other) old.tells different) was);
          bell = bell_kept plan_of history_of layout s told id old new at (ready_of layout task) 1 told.turns.history other (λ same. absurd (omega arith));
          version = inl refl;
          rings = λ _ owed. inl (still_owed rings_of s.views id old new other at (λ owes. owes) owed);
        }

    told_whole : (task : ℕ) (was_told : Bool) → (get_or s.words (ready_of layout task) 0 == 1) ≡ was_told → task < length layout.pollers →
        Next (ready_of layout task) 1 (after_tell old task was_told)
    told_whole task was_told is within =
        let new = after_tell old task was_told in
        let after = set s.words (ready_of layout task) 1 in
        let seen = set s.views id (new ∷ []) in
        let keep = λ (other : ℕ) (near : other < length layout.leaves). told_keeps task other was_told within near in
        told_after plan_of history_of layout s told id old new at (ready_of layout task) 1 s.homes told.turns.history (λ _. omega arith)
        (λ other _. told_counts task was_told is within other)
        (λ leaf near. arms_apart layout s.words (ready_of layout task) 1 old new leaf (λ same. absurd (omega arith)) refl)
        (aside_rule plan_of history_of layout.plans layout.seats s told.turns id (ready_of layout task) 1 old new (omega arith) at refl refl refl)
        (λ other near. inr (keep other near))
        (tell_watching layout after seen told.turns.history old task was_told (still_watching layout s.words after s.views seen told.turns.history told.turns.history old old refl refl refl keep (told.watching id 0 (old ∷ []) old at refl)))

    -- ---- collect

    collect_tells : (was_told : Bool) (task what : ℕ) → is_among what old.tells ≡ true → is_among what (after_collect layout.leaves old task was_told).tells ≡ true
    collect_tells true task what owes = owes
    collect_tells false task what owes = owes

    collect_rings : (was_told : Bool) (task what : ℕ) → is_among what old.rings ≡ true → is_among what (after_collect layout.leaves old task was_told).rings ≡ true
    collect_rings true task what owes = owes
    collect_rings false task what owes = owes

    -- of a leaf of another task, or where the ready word wasn't 1
    collected_keeps : (task other : ℕ) (was_told : Bool) → task < length layout.pollers → other < length layout.leaves → (task_of layout other ≢ task) ⊎ (get_or s.words (ready_of layout task) 0 ≢ 1) →
        Goes (ready_of layout task) 0 (after_collect layout.leaves old task was_told) other
    collected_keeps task other was_told within near apart =
        let new = after_collect layout.leaves old task was_told in
        record {
          stirred = λ was. ⊎_elim
              (λ ready. dite (ℕ_discrete (task_of layout other) task)
              (λ same. absurd (⊎_elim (λ different. different same) (λ not_one. not_one (ap (λ (k : ℕ). get_or s.words (ready_of layout k) 0) (sym same) ∙ ready)) apart))
              (λ different. inl (get_or-set_other s.words (ready_of layout task) (ready_of layout (task_of layout other)) 0 0 (λ same. different (omega arith)) ∙ ready)))
              (λ owed. inr (still_owed tells_of s.views id old new (task_of layout other) at (λ owes. collect_tells was_told task (task_of layout other) owes) owed))
              was;
          bell = bell_kept plan_of history_of layout s told id old new at (ready_of layout task) 0 told.turns.history other (λ same. absurd (omega arith));
          version = inl refl;
          rings = λ _ owed. inl (still_owed rings_of s.views id old new other at (collect_rings was_told task other) owed);
        }

    collected_counts : (task : ℕ) (was_told : Bool) → (get_or s.words (ready_of layout task) 0 == 1) ≡ was_told → task < length layout.pollers → (other : ℕ) →
        Balances layout s.words (set s.words (ready_of layout task) 0) old (after_collect layout.leaves old task was_told) other
    collected_counts task true is within other =
        let one = eqb-true (get_or s.words (ready_of layout task) 0) 1 is in
        let next = get_or-set_same old.holds task (record (hold old task) {
          tokens = (hold old task).tokens + 1;
          found = (hold old task).found + 1;
        }) no_hold (has_hold task within) in
        let found = ap (λ (h : Hold). h.found) next in
        let raised = ap (λ (h : Hold). h.raised) next in
        balances_at layout s.words (ready_of layout task) 0 old (after_collect layout.leaves old task true) task refl (omega (arith, told.wide))
        (λ k different. get_or-set_other old.holds task k _ no_hold different)
        (omega (arith, one, found, raised)) other
    collected_counts task false is within other =
        let not_one = eqb-false (get_or s.words (ready_of layout task) 0) 1 is in
        let bit = ready_bit task within in
        let next = get_or-set_same old.holds task (record (hold old task) { missed = (hold old task).missed + 1 }) no_hold (has_hold task within) in
        let found = ap (λ (h : Hold). h.found) next in
        let raised = ap (λ (h : Hold). h.raised) next in
        balances_at layout s.words (ready_of layout task) 0 old (after_collect layout.leaves old task false) task refl (omega (arith, told.wide))
        (λ k different. get_or-set_other old.holds task k _ no_hold different)
        (omega (arith, not_one, bit, found, raised)) other

    collected_whole : (task : ℕ) (was_told : Bool) → (get_or s.words (ready_of layout task) 0 == 1) ≡ was_told → IsTaskOf layout task old.number → Next (ready_of layout task) 0 (after_collect layout.leaves old task was_told)
    collected_whole task true is polled =
        let new = after_collect layout.leaves old task true in
        let mine = told.watching id 0 (old ∷ []) old at refl in
        let apart = λ (leaf : ℕ) (near : leaf < length layout.leaves) (different : task_of layout leaf ≢ task). collected_keeps task leaf true polled.within near (inl different) in
        told_after plan_of history_of layout s told id old new at (ready_of layout task) 0 s.homes told.turns.history (λ _. omega arith)
        (λ other _. collected_counts task true is polled.within other)
        (λ leaf near. arms_apart layout s.words (ready_of layout task) 0 old new leaf (λ same. absurd (omega arith)) (changed_arms _ layout.leaves old leaf near mine.watches))
        (aside_rule plan_of history_of layout.plans layout.seats s told.turns id (ready_of layout task) 0 old new (omega arith) at refl refl refl)
        (λ leaf near. dite (ℕ_discrete (task_of layout leaf) task) (λ same. inl (polled.poller ∙ ap (λ (k : ℕ). get_or layout.pollers k 0) (sym same))) (λ different. inr (apart leaf near different)))
        (told_watching layout (set s.words (ready_of layout task) 0) (set s.views id (new ∷ [])) told.turns.history s.words s.views told.turns.history old task (let within = polled.within in omega (arith, mine.holds)) mine
        (λ leaf near other. still_watched layout s.words (set s.words (ready_of layout task) 0) s.views (set s.views id (new ∷ [])) told.turns.history told.turns.history leaf (hold old (task_of layout leaf)).tokens (watch old leaf).condition
        (apart leaf near (λ same. absurd (let one = eq-eqb (task_of layout leaf) task same in cc))) (mine.each leaf near)))
    collected_whole task false is polled =
        let new = after_collect layout.leaves old task false in
        let after = set s.words (ready_of layout task) 0 in
        let seen = set s.views id (new ∷ []) in
        let not_one : get_or s.words (ready_of layout task) 0 ≢ 1 = λ one. absurd (let same = eq-eqb (get_or s.words (ready_of layout task) 0) 1 one in cc) in
        let keep = λ (leaf : ℕ) (near : leaf < length layout.leaves). collected_keeps task leaf false polled.within near (inr not_one) in
        told_after plan_of history_of layout s told id old new at (ready_of layout task) 0 s.homes told.turns.history (λ _. omega arith)
        (λ other _. collected_counts task false is polled.within other)
        (λ leaf near. arms_apart layout s.words (ready_of layout task) 0 old new leaf (λ same. absurd (omega arith)) refl)
        (aside_rule plan_of history_of layout.plans layout.seats s told.turns id (ready_of layout task) 0 old new (omega arith) at refl refl refl)
        (λ leaf near. inr (keep leaf near))
        (missed_watching layout after seen told.turns.history old task (still_watching layout s.words after s.views seen told.turns.history told.turns.history old old refl refl refl keep (told.watching id 0 (old ∷ []) old at refl)))

  -- ---- the plays, at a word and a number that are the leaf's or the task's

  module _ (slots id : ℕ) (me : Seated V) (one : me.0 ≡ account_of me.0 ∷ []) (leaves : List LeafPlan) (word number : ℕ) where
    pub arms : (leaf : ℕ) → leaf ≡ number → word ≡ bell_of layout leaf → IsPolledBy layout leaf (account_of me.0).number → Allows (Whole plan_of history_of layout) slots id me word (λ _. 1) (λ _. IsArming number (step slots word 1 0 slot.none) me 1)
    arms leaf numbered at_bell polled = rw (sym numbered, at_bell) (λ s told long at short. (after_arm (account_of me.0) leaf ∷ [], keeps, tt, armed_whole s told id (account_of me.0) (at ∙ ap slot.some one) leaf polled, refl))

    pub rings : (leaf : ℕ) → layout.leaves ≡ leaves → leaf ≡ number → word ≡ bell_of layout leaf → leaf < length layout.leaves → Allows (Whole plan_of history_of layout) slots id me word (λ _. 0) (IsRinging leaves number (step slots word 0 0 slot.none) me)
    rings leaf same numbered at_bell within = rw (sym same, sym numbered, at_bell) (λ s told long at short.
        (after_ring layout.leaves (account_of me.0) leaf (get_or s.words (bell_of layout leaf) 0 == 1) ∷ [], keeps, tt, rung_whole s told id (account_of me.0) (at ∙ ap slot.some one) leaf (get_or s.words (bell_of layout leaf) 0 == 1) refl within, refl))

    pub tells : (task : ℕ) → task ≡ number → word ≡ ready_of layout task → task < length layout.pollers →
        Allows (Whole plan_of history_of layout) slots id me word (λ _. 1) (IsTelling number (step slots word 1 0 slot.none) me)
    tells task numbered at_ready within = rw (sym numbered, at_ready) (λ s told long at short. (
      after_tell (account_of me.0) task (get_or s.words (ready_of layout task) 0 == 1) ∷ [],
      keeps,
      tt,
      told_whole s told id (account_of me.0)
          (at ∙ ap slot.some one) task (get_or s.words (ready_of layout task) 0 == 1) refl within,
      refl,
    ))

    pub collects : (task : ℕ) → layout.leaves ≡ leaves → task ≡ number → word ≡ ready_of layout task → IsTaskOf layout task (account_of me.0).number → Allows (Whole plan_of history_of layout) slots id me word (λ _. 0) (IsCollecting leaves number (step slots word 0 0 slot.none) me)
    collects task same numbered at_ready polled = rw (sym same, sym numbered, at_ready) (λ s told long at short.
        (after_collect layout.leaves (account_of me.0) task (get_or s.words (ready_of layout task) 0 == 1) ∷ [], keeps, tt, collected_whole s told id (account_of me.0) (at ∙ ap slot.some one) task (get_or s.words (ready_of layout task) 0 == 1) refl polled, refl))
