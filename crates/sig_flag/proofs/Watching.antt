-- How an account's leaves change, while nothing else does.
use Rattle.std.proofs.Common.{◌≡◌, ◌∙◌, ℕ, zero, suc, ◌+◌, ◌<◌, ◌≢◌, ◌==◌, inl, inr, List, [], ◌∷◌, length, slice_index_or, get_or, set, cond, Bool, true, false, refl, sym, ap, subst, eq-eqb, arith}
use Rattle.std.proofs.lemmas.Bool.{eqb-true}
use Rattle.std.proofs.lemmas.List.{get_or-set_same, get_or-set_other, length-set}
use Rattle.std.proofs.lemmas.Simd.{get_or-zip2, length-zip2}
use mathlib.Core.Logic.{dite}
use native.Mathlib.Decide.{ℕ_discrete}
use Rattle.sig_flag.proofs.Keeping.{task_of}
use Rattle.sig_flag.specs.Accounts.{watch, hold, no_watch, no_hold, changed, after_look, at_rest, after_collect, after_arm, after_tell, woken}
use Rattle.sig_flag.specs.Layouts.{Layout, leaf_at, no_leaf, poller_of}
use Rattle.sig_flag.specs.Told.{IsSet, IsWatched, IsWatching, version_at}
use Rattle.sig_flag.specs.declared.accounts.Account.{Account}
use Rattle.sig_flag.specs.declared.accounts.Hold.{Hold}
use Rattle.sig_flag.specs.declared.accounts.Watch.{Watch}
use Rattle.sig_flag.specs.declared.shape.LeafPlan.{LeafPlan}
use Rattle.sig_hist.specs.Ports.{checked, settled}
use Rattle.sig_hist.specs.declared.edits.Entry.{Entry}
use Rattle.sig_hist.specs.declared.ports.Condition.{Condition}
use Rattle.sig_hist.specs.declared.ports.Condition.TheVariants.{Idle, Armed, Checked, Waiting}
use Rattle.sig_hist.specs.declared.ports.Version.{Version}

-- what is read of an element stays where it is written as it was
pub set_same : {X Y : Type 0} (f : X → Y) (xs : List X) (at k : ℕ) (x d : X) → f x ≡ f (get_or xs at d) → f (get_or (set xs at x) k d) ≡ f (get_or xs k d)
set_same f [] at k x d is = refl
set_same f (first ∷ xs) zero zero x d is = is
set_same f (first ∷ xs) zero (suc k) x d is = refl
set_same f (first ∷ xs) (suc at) zero x d is = refl
set_same f (first ∷ xs) (suc at) (suc k) x d is = set_same f xs at k x d is

-- how often a leaf's bell was set stays where its condition changes
pub changed_arms : (change : LeafPlan → Condition → Condition) (leaves : List LeafPlan) (account : Account) (leaf : ℕ) → leaf < length leaves → length account.watches ≡ length leaves →
    (slice_index_or (changed change leaves account) leaf no_watch).arms ≡ (watch account leaf).arms
changed_arms change leaves account leaf within long =
    ap (λ (w : Watch). w.arms) (get_or-zip2 (λ (leaf : LeafPlan) (watch : Watch). record watch { condition = change leaf watch.condition }) leaves account.watches leaf no_leaf no_watch no_watch within (omega (arith, long)))

pub changed_long : (change : LeafPlan → Condition → Condition) (leaves : List LeafPlan) (account : Account) → length account.watches ≡ length leaves → length (changed change leaves account) ≡ length leaves
changed_long change leaves account long = length-zip2 (λ (leaf : LeafPlan) (watch : Watch). record watch { condition = change leaf watch.condition }) leaves account.watches (sym long)

module _ (layout : Layout) (words : List ℕ) (views : List (List Account)) (history : ℕ → List Entry) where
  -- each leaf's condition is changed by where the leaf is, from what it was before the step
  changed_watching : (words_before : List ℕ) (views_before : List (List Account)) (history_before : ℕ → List Entry) (change : LeafPlan → Condition → Condition) (old new : Account) →
      new.number ≡ old.number → new.watches ≡ changed change layout.leaves old → length new.holds ≡ length old.holds → ((leaf : LeafPlan) → change leaf Idle ≡ Idle) → IsWatching layout words_before views_before history_before old →
      ((leaf : ℕ) → leaf < length layout.leaves → IsWatched layout words views history leaf (hold new (task_of layout leaf)).tokens (change (leaf_at layout.leaves leaf) (watch old leaf).condition)) →
      IsWatching layout words views history new
  changed_watching words_before views_before history_before change old new number watches holds idle was goes =
      let by = λ (leaf : LeafPlan) (watch : Watch). record watch { condition = change leaf watch.condition } in
      let condition_is : (leaf : ℕ) → leaf < length layout.leaves → (watch new leaf).condition ≡ change (leaf_at layout.leaves leaf) (watch old leaf).condition =
      λ leaf within.
      ap (λ (all : List Watch). (slice_index_or all leaf no_watch).condition) watches
      ∙ ap (λ (w : Watch). w.condition) (get_or-zip2 by layout.leaves old.watches leaf no_leaf no_watch no_watch within (omega (arith, was.watches))) in
      record {
        watches = ap length watches ∙ length-zip2 by layout.leaves old.watches (sym was.watches);
        holds = holds ∙ was.holds;
        each = λ leaf within. subst (IsWatched layout words views history leaf (hold new (task_of layout leaf)).tokens) (sym (condition_is leaf within)) (goes leaf within);
        others = λ leaf within other. condition_is leaf within ∙ ap (change (leaf_at layout.leaves leaf)) (was.others leaf within (λ polls. other (number ∙ polls))) ∙ idle (leaf_at layout.leaves leaf);
      }

  -- ---- looks

  checked_watched : (leaf tokens : ℕ) (version : Version) (condition : Condition) → version_at layout words views history leaf ≡ version → IsWatched layout words views history leaf tokens condition →
      IsWatched layout words views history leaf tokens (checked version condition)
  checked_watched leaf tokens version Idle shows was = tt
  checked_watched leaf tokens version Armed shows was = (was, inl shows)
  checked_watched leaf tokens version (Checked old) shows was = (was.0, inl shows)
  checked_watched leaf tokens version (Waiting old) shows was = was

  looked_watched : (leaf tokens : ℕ) (version : Version) (condition : Condition) (here : Bool) → (here ≡ true → version_at layout words views history leaf ≡ version) → IsWatched layout words views history leaf tokens condition →
      IsWatched layout words views history leaf tokens (cond here (checked version condition) condition)
  looked_watched leaf tokens version condition true shows was = checked_watched leaf tokens version condition (shows refl) was
  looked_watched leaf tokens version condition false shows was = was

  same_idle : (here : Bool) (condition : Condition) → condition ≡ Idle → cond here condition Idle ≡ Idle
  same_idle true condition is = is
  same_idle false condition is = refl

  pub look_watching : (account : Account) (source : ℕ) (version : Version) → ((leaf : ℕ) → (leaf_at layout.leaves leaf).source ≡ source → version_at layout words views history leaf ≡ version) →
      IsWatching layout words views history account → IsWatching layout words views history (after_look layout.leaves account source version)
  look_watching account source version shows was =
      changed_watching words views history (λ leaf condition. cond (leaf.source == source) (checked version condition) condition) account (after_look layout.leaves account source version) refl refl refl (λ leaf. same_idle (leaf.source == source) Idle refl) was
      (λ leaf within. looked_watched leaf (hold account (task_of layout leaf)).tokens version (watch account leaf).condition ((leaf_at layout.leaves leaf).source == source)
      (λ same. shows leaf (eqb-true (leaf_at layout.leaves leaf).source source same)) (was.each leaf within))

  -- ---- rests

  settled_watched : (leaf before after : ℕ) (condition : Condition) → IsWatched layout words views history leaf before condition → IsWatched layout words views history leaf after (settled condition)
  settled_watched leaf before after Idle was = tt
  settled_watched leaf before after Armed was = tt
  settled_watched leaf before after (Checked version) was = inl was
  settled_watched leaf before after (Waiting version) was = tt

  rested_watched : (leaf before after : ℕ) (condition : Condition) (here : Bool) → (here ≡ false → after ≡ before) → IsWatched layout words views history leaf before condition →
      IsWatched layout words views history leaf after (cond here (settled condition) condition)
  rested_watched leaf before after condition true same was = settled_watched leaf before after condition was
  rested_watched leaf before after condition false same was = subst (λ (n : ℕ). IsWatched layout words views history leaf n condition) (sym (same refl)) was

  -- a leaf of another task has the tokens that it had
  other_tokens : (account : Account) (task of_leaf : ℕ) (next : Hold) → (of_leaf == task) ≡ false →
      (slice_index_or (set account.holds task next) of_leaf no_hold).tokens ≡ (hold account of_leaf).tokens
  other_tokens account task of_leaf next other = ap (λ (h : Hold). h.tokens)
      (get_or-set_other account.holds task of_leaf next no_hold (λ same. absurd (let is = eq-eqb of_leaf task same in cc)))

  pub rest_watching : (account : Account) (task : ℕ) → IsWatching layout words views history account → IsWatching layout words views history (at_rest layout.leaves account task)
  rest_watching account task was =
      changed_watching words views history (λ leaf condition. cond (leaf.task == task) (settled condition) condition) account (at_rest layout.leaves account task) refl refl (length-set account.holds task _) (λ leaf. same_idle (leaf.task == task) Idle refl) was
      (λ leaf within. rested_watched leaf (hold account (task_of layout leaf)).tokens _ (watch account leaf).condition (task_of layout leaf == task)
      (other_tokens account task (task_of layout leaf) _) (was.each leaf within))

  pub last_look_watching : (account : Account) (leaf : ℕ) (version : Version) (news : Bool) → ((other : ℕ) → (leaf_at layout.leaves other).source ≡ (leaf_at layout.leaves leaf).source → version_at layout words views history other ≡ version) →
      IsWatching layout words views history account →
      IsWatching layout words views history (cond news (after_look layout.leaves account (leaf_at layout.leaves leaf).source version) (at_rest layout.leaves (after_look layout.leaves account (leaf_at layout.leaves leaf).source version) (leaf_at layout.leaves leaf).task))
  last_look_watching account leaf version true shows was = look_watching account (leaf_at layout.leaves leaf).source version shows was
  last_look_watching account leaf version false shows was =
      rest_watching (after_look layout.leaves account (leaf_at layout.leaves leaf).source version) (leaf_at layout.leaves leaf).task (look_watching account (leaf_at layout.leaves leaf).source version shows was)

  -- ---- tokens

  woken_watched : (leaf after : ℕ) (condition : Condition) → 0 < after → IsWatched layout words views history leaf after (woken condition)
  woken_watched leaf after Idle some = tt
  woken_watched leaf after Armed some = tt
  woken_watched leaf after (Checked version) some = tt
  woken_watched leaf after (Waiting version) some = inr some

  told_watched : (leaf before after : ℕ) (condition : Condition) (here : Bool) → (here ≡ true → 0 < after) → (here ≡ false → after ≡ before) → (here ≡ false → IsWatched layout words views history leaf before condition) →
      IsWatched layout words views history leaf after (cond here (woken condition) condition)
  told_watched leaf before after condition true some same was = woken_watched leaf after condition (some refl)
  told_watched leaf before after condition false some same was = subst (λ (n : ℕ). IsWatched layout words views history leaf n condition) (sym (same refl)) (was refl)

  one_token_more : (account : Account) (task of_leaf : ℕ) (next : Hold) → task < length account.holds → 0 < next.tokens → (of_leaf == task) ≡ true →
      0 < (slice_index_or (set account.holds task next) of_leaf no_hold).tokens
  one_token_more account task of_leaf next within some same =
      let is = eqb-true of_leaf task same in
      let more = ap (λ (h : Hold). h.tokens) (get_or-set_same account.holds task next no_hold within) in
      rw is (omega (arith, more, some))

  pub told_watching : (words_before : List ℕ) (views_before : List (List Account)) (history_before : ℕ → List Entry) (account : Account) (task : ℕ) → task < length account.holds → IsWatching layout words_before views_before history_before account →
      ((leaf : ℕ) → leaf < length layout.leaves → (task_of layout leaf == task) ≡ false → IsWatched layout words views history leaf (hold account (task_of layout leaf)).tokens (watch account leaf).condition) →
      IsWatching layout words views history (after_collect layout.leaves account task true)
  told_watching words_before views_before history_before account task within was kept =
      changed_watching words_before views_before history_before (λ leaf condition. cond (leaf.task == task) (woken condition) condition) account (after_collect layout.leaves account task true) refl refl (length-set account.holds task _)
      (λ leaf. same_idle (leaf.task == task) Idle refl) was
      (λ leaf here. told_watched leaf (hold account (task_of layout leaf)).tokens _ (watch account leaf).condition (task_of layout leaf == task)
      (one_token_more account task (task_of layout leaf) _ within (omega arith)) (other_tokens account task (task_of layout leaf) _) (kept leaf here))

  -- of a task all but the tokens may change
  same_tokens : (account new : Account) (task : ℕ) (next : Hold) → new.number ≡ account.number → new.watches ≡ account.watches →
      new.holds ≡ set account.holds task next → next.tokens ≡ (hold account task).tokens →
      IsWatching layout words views history account → IsWatching layout words views history new
  same_tokens account new task next number watches holds tokens was = record {
    watches = ap length watches ∙ was.watches;
    holds = ap length holds ∙ length-set account.holds task next ∙ was.holds;
    each = λ leaf within. rw (watches, holds)
        (subst (λ (n : ℕ). IsWatched layout words views history leaf n (watch account leaf).condition)
        (sym (set_same (λ (h : Hold). h.tokens) account.holds task (task_of layout leaf) next no_hold tokens)) (was.each leaf within));
    others = λ leaf within other. rw watches (was.others leaf within (λ polls. other (number ∙ polls)));
  }

  pub missed_watching : (account : Account) (task : ℕ) → IsWatching layout words views history account → IsWatching layout words views history (after_collect layout.leaves account task false)
  missed_watching account task was = same_tokens account (after_collect layout.leaves account task false) task _ refl refl refl refl was

  pub tell_watching : (account : Account) (task : ℕ) (was_told : Bool) → IsWatching layout words views history account →
      IsWatching layout words views history (after_tell account task was_told)
  tell_watching account task true was = record { watches = was.watches; holds = was.holds; each = was.each; others = was.others }
  tell_watching account task false was = same_tokens account (after_tell account task false) task _ refl refl refl refl was

  -- ---- bells

  armed_watch : (account : Account) (leaf : ℕ) → leaf < length account.watches → (watch (after_arm account leaf) leaf).condition ≡ Armed
  armed_watch account leaf within = ap (λ (w : Watch). w.condition) (get_or-set_same account.watches leaf (record { condition = Armed; arms = (watch account leaf).arms + 1 }) no_watch within)

  other_watch : (account : Account) (leaf other : ℕ) → other ≢ leaf → (watch (after_arm account leaf) other).condition ≡ (watch account other).condition
  other_watch account leaf other different = ap (λ (w : Watch). w.condition) (get_or-set_other account.watches leaf other (record { condition = Armed; arms = (watch account leaf).arms + 1 }) no_watch different)

  pub arm_watching : (account : Account) (leaf : ℕ) → leaf < length layout.leaves → account.number ≡ poller_of layout leaf → IsSet layout words views history leaf → IsWatching layout words views history account →
      IsWatching layout words views history (after_arm account leaf)
  arm_watching account leaf within polls set was = record {
    watches = length-set account.watches leaf _ ∙ was.watches;
    holds = was.holds;
    each = λ other near. dite (ℕ_discrete other leaf)
        (λ same. subst (λ (l : ℕ). IsWatched layout words views history l (hold account (task_of layout l)).tokens (watch (after_arm account leaf) l).condition) (sym same)
        (subst (IsWatched layout words views history leaf (hold account (task_of layout leaf)).tokens) (sym (armed_watch account leaf (omega (arith, was.watches)))) set))
        (λ different. subst (IsWatched layout words views history other (hold account (task_of layout other)).tokens) (sym (other_watch account leaf other different)) (was.each other near));
    others = λ other near not_polled.
        other_watch account leaf other (λ same. not_polled (polls ∙ ap (poller_of layout) (sym same))) ∙ was.others other near not_polled;
  }
