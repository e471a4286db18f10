-- What a step keeps of what is certain of leaves.
use Rattle.std.proofs.Common.{◌≡◌, ◌∙◌, ℕ, ◌+◌, ◌<◌, ◌≤◌, ◌≢◌, ◌⊎◌, ⊎_elim, inl, inr, List, [], ◌∷◌, length, slice_index, set, true, Option, refl, sym, ap, subst, arith}
use Rattle.std.proofs.lemmas.List.{get_or-set_same, get_or-set_other, length-set}
use mathlib.Core.Logic.{dite}
use mathlib.Core.Option as slot
use native.Mathlib.Decide.{ℕ_discrete}
use lib.ListN.{get_elem?}
use Rattle.atomic_table.specs.Table.{State}
use Rattle.sig_flag.proofs.Owing.{still_owed, owed_now}
use Rattle.sig_flag.proofs.Stepping.{Turned}
use Rattle.sig_flag.proofs.Totals.{total_step}
use Rattle.sig_flag.proofs.Views.{found}
use Rattle.sig_flag.specs.Accounts.{watch, hold}
use Rattle.sig_flag.specs.Layouts.{Layout, leaf_at, bell_of, ready_of, words_of, poller_of}
use Rattle.sig_flag.specs.Told.{IsOwed, IsStirred, IsSet, IsUpTo, IsWatched, IsWatching, version_at, total, Told}
use Rattle.sig_flag.specs.declared.accounts.Account.{Account}
use Rattle.sig_flag.specs.declared.accounts.Hold.{Hold}
use Rattle.sig_hist.specs.Sources.{is_among}
use Rattle.sig_hist.specs.declared.edits.Entry.{Entry}
use Rattle.sig_hist.specs.declared.plans.SourcePlan.{SourcePlan}
use Rattle.sig_hist.specs.declared.ports.Condition.{Condition}
use Rattle.sig_hist.specs.declared.ports.Condition.TheVariants.{Idle, Armed, Checked, Waiting}
use Rattle.sig_hist.specs.declared.ports.Version.{Version}

abbrev pub rings_of : Account → List ℕ
rings_of account = account.rings

abbrev pub tells_of : Account → List ℕ
tells_of account = account.tells

abbrev pub task_of : Layout → ℕ → ℕ
task_of layout leaf = (leaf_at layout.leaves leaf).task

-- an account's counts of a task go on with the task's ready word
abbrev pub Balances : Layout → List ℕ → List ℕ → Account → Account → ℕ → Type 0
Balances layout words after old new task =
    slice_index after (ready_of layout task) + (hold new task).found + (hold old task).raised ≡ slice_index words (ready_of layout task) + (hold old task).found + (hold new task).raised

abbrev pub found_of : ℕ → Account → ℕ
found_of task account = (hold account task).found

abbrev pub raised_of : ℕ → Account → ℕ
raised_of task account = (hold account task).raised

module _ (layout : Layout) (words : List ℕ) (place value : ℕ) (old new : Account) where
  -- the ready word is another, and the counts stay
  pub balances_apart : (task : ℕ) → ready_of layout task ≢ place → found_of task new ≡ found_of task old → raised_of task new ≡ raised_of task old →
      Balances layout words (set words place value) old new task
  balances_apart task other found raised = let word = get_or-set_other words place (ready_of layout task) value 0 other in omega (arith, word, found, raised)

  -- the word is the ready word of a task, and of other tasks nothing changes
  pub balances_at : (task : ℕ) → place ≡ ready_of layout task → place < length words → ((other : ℕ) → other ≢ task → hold new other ≡ hold old other) →
      value + found_of task new + raised_of task old ≡ slice_index words place + found_of task old + raised_of task new → (other : ℕ) →
      Balances layout words (set words place value) old new other
  balances_at task is within elsewhere here other = dite (ℕ_discrete other task)
      (λ same. subst (Balances layout words (set words place value) old new) (sym same)
      (subst (λ (k : ℕ). slice_index (set words place value) k + found_of task new + raised_of task old ≡ slice_index words k + found_of task old + raised_of task new) is
      (let word = get_or-set_same words place value 0 within in omega (arith, word, here))))
      (λ different. balances_apart other (λ same. different (omega arith)) (ap (λ (h : Hold). h.found) (elsewhere other different))
      (ap (λ (h : Hold). h.raised) (elsewhere other different)))

-- a leaf's bell is set only where the account sets it
abbrev pub arms_of : ℕ → Account → ℕ
arms_of leaf account = (watch account leaf).arms

abbrev pub Arms : Layout → List ℕ → List ℕ → Account → Account → ℕ → Type 0
Arms layout words after old new leaf = slice_index after (bell_of layout leaf) + arms_of leaf old ≤ slice_index words (bell_of layout leaf) + arms_of leaf new

pub arms_apart : (layout : Layout) (words : List ℕ) (place value : ℕ) (old new : Account) (leaf : ℕ) → bell_of layout leaf ≢ place → arms_of leaf new ≡ arms_of leaf old →
    Arms layout words (set words place value) old new leaf
arms_apart layout words place value old new leaf other same = let word = get_or-set_other words place (bell_of layout leaf) value 0 other in omega (arith, word, same)

-- from the words, views and histories before a step to those after it
module _ (layout : Layout) (words after : List ℕ) (views seen : List (List Account)) (history later : ℕ → List Entry) where
  -- what the step does not take from a leaf
  pub record Keeps (leaf : ℕ) : Type 0 where
    pub stirred : IsStirred layout words views history (task_of layout leaf) → IsStirred layout after seen later (task_of layout leaf)
    pub bell : slice_index words (bell_of layout leaf) ≡ 1 → IsSet layout after seen later leaf
    pub version : (version_at layout after seen later leaf ≡ version_at layout words views history leaf) ⊎ (IsOwed rings_of seen leaf ⊎ IsStirred layout after seen later (task_of layout leaf))
    pub rings : IsSet layout words views history leaf → IsOwed rings_of views leaf → IsOwed rings_of seen leaf ⊎ IsStirred layout after seen later (task_of layout leaf)

  pub still_set : (leaf : ℕ) → Keeps leaf → IsSet layout words views history leaf → IsSet layout after seen later leaf
  still_set leaf keeps was = ⊎_elim keeps.bell (λ stirred. inr (keeps.stirred stirred)) was

  pub still_up_to : (leaf : ℕ) (version : Version) → Keeps leaf → IsSet layout words views history leaf → IsUpTo layout words views history leaf version → IsUpTo layout after seen later leaf version
  still_up_to leaf version keeps set was = ⊎_elim
      (λ same. ⊎_elim (λ kept. inl (kept ∙ same)) (λ told. inr told) keeps.version)
      (λ told. inr (⊎_elim (λ owed. keeps.rings set owed) (λ stirred. inr (keeps.stirred stirred)) told))
      was

  pub still_watched : (leaf tokens : ℕ) (condition : Condition) → Keeps leaf → IsWatched layout words views history leaf tokens condition → IsWatched layout after seen later leaf tokens condition
  still_watched leaf tokens Idle keeps was = tt
  still_watched leaf tokens Armed keeps was = still_set leaf keeps was
  still_watched leaf tokens (Checked version) keeps was = (still_set leaf keeps was.0, still_up_to leaf version keeps was.0 was.1)
  still_watched leaf tokens (Waiting version) keeps was = ⊎_elim (λ certain. inl (still_set leaf keeps certain.0, still_up_to leaf version keeps certain.0 certain.1)) (λ token. inr token) was

  -- an account whose leaves and tasks the step leaves as they are
  pub still_watching : (old new : Account) → new.number ≡ old.number → new.watches ≡ old.watches → new.holds ≡ old.holds → ((leaf : ℕ) → leaf < length layout.leaves → Keeps leaf) →
      IsWatching layout words views history old → IsWatching layout after seen later new
  still_watching old new number watches holds keeps was = record {
    watches = ap length watches ∙ was.watches;
    holds = ap length holds ∙ was.holds;
    each = λ leaf within. rw (watches, holds) (still_watched leaf (hold old (task_of layout leaf)).tokens (watch old leaf).condition (keeps leaf within) (was.each leaf within));
    others = λ leaf within other. rw watches (was.others leaf within (λ polls. other (number ∙ polls)));
  }

module _ {V : Type 0} (plan_of : V → SourcePlan) (history_of : V → List Entry) (layout : Layout) where
  abbrev pub Whole : State (Option V) (List Account) → Type 0
  Whole = Told plan_of history_of layout

  module _ (s : State (Option V) (List Account)) (told : Whole s) (id : ℕ) (old new : Account) (at : get_elem? s.views id ≡ slot.some (old ∷ [])) where
    -- the leaves of all others are as they were: they keep all, or the seat itself polls them
    pub told_after : (word value : ℕ) (homes : List (slot.Option (Option V))) (later : ℕ → List Entry) → (length layout.plans ≤ word → value ≤ 1) →
        ((task : ℕ) → task < length layout.pollers → Balances layout s.words (set s.words word value) old new task) →
        ((leaf : ℕ) → leaf < length layout.leaves → Arms layout s.words (set s.words word value) old new leaf) →
        Turned plan_of history_of layout.plans layout.seats (record { words = set s.words word value; homes = homes; views = set s.views id (new ∷ []) }) later →
        ((leaf : ℕ) → leaf < length layout.leaves → (old.number ≡ poller_of layout leaf) ⊎ Keeps layout s.words (set s.words word value) s.views (set s.views id (new ∷ [])) told.turns.history later leaf) →
        IsWatching layout (set s.words word value) (set s.views id (new ∷ [])) later new →
        Whole (record { words = set s.words word value; homes = homes; views = set s.views id (new ∷ []) })
    told_after word value homes later bit balances arms turned keeps own =
        let after = set s.words word value in
        let seen = set s.views id (new ∷ []) in
        let mine = told.turns.accounts id 0 (old ∷ []) old at refl in
        record {
          turns = turned.0;
          wide = subst (λ (n : ℕ). words_of layout ≤ n) (sym (length-set s.words word value)) told.wide;
          bits = λ place beyond near. dite (ℕ_discrete place word)
              (λ same. subst (λ (k : ℕ). slice_index after k ≤ 1) (sym same)
              (subst (λ (n : ℕ). n ≤ 1) (sym (get_or-set_same s.words word value 0 (omega (arith, told.wide)))) (bit (omega arith))))
              (λ other. subst (λ (n : ℕ). n ≤ 1) (sym (get_or-set_other s.words word place value 0 other)) (told.bits place beyond near));
          armed = λ leaf near.
              let was = told.armed leaf near in
              let changed = arms leaf near in
              omega (arith, was, changed, total_step (arms_of leaf) s.views id old new at);
          counts = λ task near.
              let was = told.counts task near in
              let changed = balances task near in
              omega (arith, was, changed, total_step (found_of task) s.views id old new at, total_step (raised_of task) s.views id old new at);
          watching = λ view index all account is_view is_account. subst (λ (h : ℕ → List Entry). IsWatching layout after seen h account) (sym turned.1) (⊎_elim
              (λ here. subst (IsWatching layout after seen later) here.2 own)
              (λ kept.
              let was = told.watching view index all account kept.1 is_account in
              let is = told.turns.accounts view index all account kept.1 is_account in
              let other : account.number ≢ old.number = λ same. kept.0 (sym is.at_place ∙ ap told.turns.place same ∙ mine.at_place) in
              record {
                watches = was.watches;
                holds = was.holds;
                each = λ leaf within. ⊎_elim
                    (λ polled. subst (IsWatched layout after seen later leaf (hold account (task_of layout leaf)).tokens) (sym (was.others leaf within (λ same. other (same ∙ sym polled)))) tt)
                    (λ keep. still_watched layout s.words after s.views seen told.turns.history later leaf (hold account (task_of layout leaf)).tokens (watch account leaf).condition keep (was.each leaf within))
                    (keeps leaf within);
                others = was.others;
              })
              (found s.views id new view index all account is_view is_account));
        }

    -- the word at this place gets this value
    module _ (place value : ℕ) (later : ℕ → List Entry) where
      abbrev After : List ℕ
      After = set s.words place value

      abbrev Seen : List (List Account)
      Seen = set s.views id (new ∷ [])

      pub stirs : (task : ℕ) → ready_of layout task ≢ place → (is_among task old.tells ≡ true → is_among task new.tells ≡ true) → IsStirred layout s.words s.views told.turns.history task → IsStirred layout After Seen later task
      stirs task other keeps was = ⊎_elim
          (λ ready. inl (get_or-set_other s.words place (ready_of layout task) value 0 other ∙ ready))
          (λ owed. inr (still_owed tells_of s.views id old new task at keeps owed))
          was

      pub bell_kept : (leaf : ℕ) → bell_of layout leaf ≢ place → slice_index s.words (bell_of layout leaf) ≡ 1 → IsSet layout After Seen later leaf
      bell_kept leaf other set = inl (get_or-set_other s.words place (bell_of layout leaf) value 0 other ∙ set)

      -- a leaf of which neither the bell nor the ready word is the one that changes
      pub keeps_apart : (leaf : ℕ) → bell_of layout leaf ≢ place → ready_of layout (task_of layout leaf) ≢ place →
          (is_among (task_of layout leaf) old.tells ≡ true → is_among (task_of layout leaf) new.tells ≡ true) → (is_among leaf old.rings ≡ true → is_among leaf new.rings ≡ true) →
          (version_at layout After Seen later leaf ≡ version_at layout s.words s.views told.turns.history leaf) ⊎ (is_among leaf new.rings ≡ true) →
          Keeps layout s.words After s.views Seen told.turns.history later leaf
      keeps_apart leaf other_bell other_ready tells rings version = record {
        stirred = stirs (task_of layout leaf) other_ready tells;
        bell = bell_kept leaf other_bell;
        version = ⊎_elim (λ same. inl same) (λ owes. inr (inl (owed_now rings_of s.views id old new leaf at owes))) version;
        rings = λ _ owed. inl (still_owed rings_of s.views id old new leaf at rings owed);
      }

  -- the accounts change their views, and nothing else happens
  pub moved : (s : State (Option V) (List Account)) (told : Whole s) (seen : List (List Account)) → Turned plan_of history_of layout.plans layout.seats (record { words = s.words; homes = s.homes; views = seen }) told.turns.history →
      ((f : Account → ℕ) → total f seen ≡ total f s.views) → ((what : ℕ) → IsOwed rings_of s.views what → IsOwed rings_of seen what) →
      ((what : ℕ) → IsOwed tells_of s.views what → IsOwed tells_of seen what) →
      ((view at : ℕ) (all : List Account) (account : Account) → get_elem? seen view ≡ slot.some all → get_elem? all at ≡ slot.some account → IsWatching layout s.words s.views told.turns.history account) →
      Whole (record { words = s.words; homes = s.homes; views = seen })
  moved s told seen turned same_total rings tells was =
      let history = told.turns.history in
      let keep : (leaf : ℕ) → leaf < length layout.leaves → Keeps layout s.words s.words s.views seen history history leaf =
      λ leaf _.
      let stirred = λ (stirs : IsStirred layout s.words s.views history (task_of layout leaf)). ⊎_elim {C = IsStirred layout s.words seen history (task_of layout leaf)} (λ ready. inl ready) (λ owed. inr (tells (task_of layout leaf) owed)) stirs in
      record { stirred = stirred; bell = λ set. inl set; version = inl refl; rings = λ _ owed. inl (rings leaf owed) } in
      record {
        turns = turned.0;
        wide = told.wide;
        bits = told.bits;
        armed = λ leaf near. subst (λ (n : ℕ). slice_index s.words (bell_of layout leaf) ≤ n) (sym (same_total (arms_of leaf))) (told.armed leaf near);
        counts = λ task near. ap (λ (n : ℕ). slice_index s.words (ready_of layout task) + n) (same_total (found_of task)) ∙ told.counts task near
            ∙ ap (λ (n : ℕ). 1 + n) (sym (same_total (raised_of task)));
        watching = λ view index all account is_view is_account.
            subst (λ (h : ℕ → List Entry). IsWatching layout s.words seen h account) (sym turned.1)
            (still_watching layout s.words s.words s.views seen history history account account refl refl refl keep (was view index all account is_view is_account));
      }
