-- What a source counts, and how that goes on by one more entry.
use Rattle.std.proofs.Common.{◌≡◌, ◌∙◌, ℕ, suc, ◌+◌, ◌-◌, ◌<◌, ◌≤◌, ◌==◌, List, [], ◌∷◌, ◌++◌, length, map, get_or, slice_set, cond, Bool, true, false, ◌&&◌, ◌||◌, refl, sym, ap, ap₂, eq-eqb, true≢false, arith}
use Rattle.std.proofs.lemmas.Bool.Decides.{nat_tests}
use Rattle.std.proofs.lemmas.Bool.{eqb-true, or_parts}
use Rattle.std.proofs.lemmas.List.Folds.{list_all-append}
use Rattle.std.proofs.lemmas.List.Sums.{sum_by-cons, sum_by-set}
use Rattle.std.proofs.lemmas.List.{length_push, map-set, set-get_or}
use Rattle.std.specs.List.{list_all, list_any}
use Rattle.sig_diff.specs.declared.contents.Content.{Content}
use Rattle.sig_hist.proofs.Entries.{state_append, legal_append, own_entries_own, own_entries_other, ends_with_leave_append, leave_stays, leave_is_fine}
use Rattle.sig_hist.specs.Changes.{edited, reply_to, size_of}
use Rattle.sig_hist.specs.Counting.{allowances_of, starting, IsPlace, place_of, all_left, IsLeft, IsCounted, AreCounted, Falls, IsKept}
use Rattle.sig_hist.specs.Histories.{edits_made, own_entries, is_leave, has_left, is_closed}
use Rattle.sig_hist.proofs.Staying.{edits_append, edits_within_entries, leaves_last_append, no_leaves}
use Rattle.sig_hist.specs.Sources.{writers_of, is_among, AreDistinct, allowed, room_of, IsPlan, Source, content_of, entered, IsIn, MayEdit, made}
use Rattle.sig_hist.specs.declared.edits.Edit.{Edit}
use Rattle.sig_hist.specs.declared.edits.Edit.TheVariants.{Leave}
use Rattle.sig_hist.specs.declared.edits.Entry.{Entry}
use Rattle.sig_hist.specs.declared.edits.Reply.{Reply}
use Rattle.sig_hist.specs.declared.edits.Reply.TheVariants.{Fine}
use Rattle.sig_hist.specs.declared.plans.Allowance.{Allowance}
use Rattle.sig_hist.specs.declared.plans.SourcePlan.{SourcePlan}
use Rattle.sig_hist.specs.declared.writers.Writer.{Writer}

-- ---- the start

record AreStarting (allow : List Allowance) (writers : List Writer) : Type 0 where
  allowances : allowances_of writers ≡ allow
  counted : AreCounted [] writers
  left : all_left writers ≡ room_of allow

are_starting : (allow : List Allowance) → AreStarting allow (map starting allow)
are_starting [] = record { allowances = refl; counted = tt; left = refl }
are_starting (allowance ∷ allow) =
    let others = are_starting allow in
    record {
      allowances = ap (λ (rest : List Allowance). allowance ∷ rest) others.allowances;
      counted = ((omega arith, omega arith), others.counted);
      left = sum_by-cons (λ (writer : Writer). writer.left) (starting allowance) (map starting allow) ∙ ap (λ (rest : ℕ). allowance.edits + 1 + rest) others.left;
    }

pub kept_start : (plan : SourcePlan) (capacity : ℕ) → IsPlan plan → room_of plan.allow ≤ capacity → IsKept (record { plan = plan; history = [] }) plan.cap plan.start (map starting plan.allow) capacity
kept_start plan capacity is room =
    let writers = are_starting plan.allow in
    record {
      of_source = record { plan = is; within_cap = is.within_cap; legal = tt; by_writers = refl; room = omega arith; allowances = λ caller. omega arith; leaves_last = no_leaves };
      of_cap = refl;
      of_content = refl;
      of_writers = writers.allowances;
      counted = writers.counted;
      left = omega (arith, writers.left);
      room = room;
    }

-- ---- who has left

is_out : (out : Bool) (entries edits left : ℕ) → IsLeft out entries edits left → (left == 0) ≡ out
is_out true entries edits left is = grind (arith, nat_tests)
is_out false entries edits left is = grind (arith, nat_tests)

pub are_out : (history : List Entry) (writers : List Writer) → AreCounted history writers → list_all (λ (writer : Writer). writer.left == 0) writers ≡ is_closed (writers_of (allowances_of writers)) history
are_out history [] counted = refl
are_out history (writer ∷ writers) counted = ap₂ (λ (one others : Bool). one && others) (is_out _ _ _ _ counted.0) (are_out history writers counted.1)

pub are_among : (number : ℕ) (writers : List Writer) → list_any (λ (writer : Writer). writer.allowance.writer == number) writers ≡ is_among number (writers_of (allowances_of writers))
are_among number [] = refl
are_among number (writer ∷ writers) = ap (λ (others : Bool). (writer.allowance.writer == number) || others) (are_among number writers)

-- ---- the writer of an entry

-- the writer that is found by its number: what it may make in all, and what it may still make
record IsFound (history : List Entry) (number edits : ℕ) (writer : Writer) : Type 0 where
  is_caller : writer.allowance.writer ≡ number
  may_make : writer.allowance.edits ≡ edits
  counted : IsCounted history writer

found : (history : List Entry) (writers : List Writer) (number : ℕ) (default : Writer) → AreCounted history writers → is_among number (writers_of (allowances_of writers)) ≡ true →
    IsFound history number (allowed number (allowances_of writers)) (get_or writers (place_of number writers) default)
found history [] number default counted among = cc
found history (writer ∷ writers) number default counted among =
    elim (writer.allowance.writer == number) as
    (λ first. (writer.allowance.writer == number) ≡ first → (first || is_among number (writers_of (allowances_of writers))) ≡ true →
    IsFound history number (cond first writer.allowance.edits (allowed number (allowances_of writers))) (get_or (writer ∷ writers) (cond first 0 (suc (place_of number writers))) default)) [
      | true ↦ λ is among. record { is_caller = eqb-true writer.allowance.writer number is; may_make = refl; counted = counted.0 }
      | false ↦ λ is among. found history writers number default counted.1 among
    ] refl among

-- ---- one more entry

counted_other : (history : List Entry) (entry : Entry) (writer : Writer) → (writer.allowance.writer == entry.caller) ≡ false → IsCounted history writer → IsCounted (history ++ entry ∷ []) writer
counted_other history entry writer other counted = rw (own_entries_other writer.allowance.writer history entry (grind (arith, nat_tests))) counted

counted_others : (history : List Entry) (entry : Entry) (writers : List Writer) → is_among entry.caller (writers_of (allowances_of writers)) ≡ false → AreCounted history writers → AreCounted (history ++ entry ∷ []) writers
counted_others history entry [] lacks counted = tt
counted_others history entry (writer ∷ writers) lacks counted =
    let both = or_parts _ _ lacks in (counted_other history entry writer both.0 counted.0, counted_others history entry writers both.1 counted.1)

counted_set : (history : List Entry) (entry : Entry) (writers : List Writer) (next : Writer) → AreDistinct (writers_of (allowances_of writers)) → AreCounted history writers → IsCounted (history ++ entry ∷ []) next →
    AreCounted (history ++ entry ∷ []) (slice_set writers (place_of entry.caller writers) next)
counted_set history entry [] next distinct counted now = tt
counted_set history entry (writer ∷ writers) next distinct counted now =
    elim (writer.allowance.writer == entry.caller) as
    (λ first. (writer.allowance.writer == entry.caller) ≡ first → AreCounted (history ++ entry ∷ []) (slice_set (writer ∷ writers) (cond first 0 (suc (place_of entry.caller writers))) next)) [
      | true ↦ λ is. (now, counted_others history entry writers (rw (eqb-true _ _ is) at distinct.0) counted.1)
      | false ↦ λ is. (counted_other history entry writer is counted.0, counted_set history entry writers next distinct.1 counted.1 now)
    ] refl

left_falls : (leaves : Bool) (entries edits before now : ℕ) → IsLeft false entries edits before → Falls leaves before now → IsLeft leaves (entries + 1) edits now
left_falls true entries edits before now left falls = falls
left_falls false entries edits before now left falls = (falls.0, omega arith)

counted_own : (history : List Entry) (entry : Entry) (writer : Writer) (left : ℕ) → writer.allowance.writer ≡ entry.caller → has_left entry.caller history ≡ false → IsCounted history writer →
    Falls (is_leave entry.edit) writer.left left → IsCounted (history ++ entry ∷ []) (record writer { left = left })
counted_own history entry writer left is stays counted falls =
    let own : (entry.caller == writer.allowance.writer) ≡ true = eq-eqb entry.caller writer.allowance.writer (sym is) in
    let before : IsLeft false (length (own_entries writer.allowance.writer history)) writer.allowance.edits writer.left = rw (rw (← is) at stays) at counted in
    rw (own_entries_own writer.allowance.writer history entry own, ends_with_leave_append, length_push) (left_falls (is_leave entry.edit) _ _ _ _ before falls)

falls_short : (leaves : Bool) (before now : ℕ) → 0 < before → Falls leaves before now → now + 1 ≤ before
falls_short true before now some falls = omega arith
falls_short false before now some falls = omega arith

-- what a source knows of a writer that hasn't left
pub record IsStaying (source : Source) (caller : ℕ) (writer : Writer) (capacity : ℕ) : Type 0 where
  pub some : 0 < writer.left
  pub made_so_far : made source caller + writer.left ≡ writer.allowance.edits + 1
  pub may_make : writer.allowance.edits ≡ allowed caller source.plan.allow
  pub room : length source.history < capacity

module _ {source : Source} {cap : ℕ} {content : Content} {writers : List Writer} {capacity caller place : ℕ} {writer : Writer} (kept : IsKept source cap content writers capacity) (is_in : IsIn source caller)
    (at : IsPlace caller writers place) (read : writer ≡ get_or writers place writer) where
  its : IsFound source.history caller (allowed caller source.plan.allow) writer
  its =
      let among : is_among caller (writers_of (allowances_of writers)) ≡ true = rw kept.of_writers is_in.is_writer in
      rw (kept.of_writers, ← at.of_number, ← read) at (found source.history writers caller writer kept.counted among)

  -- what all may still make, where this writer may make so many
  changed_left : (left : ℕ) → all_left (slice_set writers place (record writer { left = left })) + writer.left ≡ all_left writers + left
  changed_left left = rw (← read) at (sum_by-set (λ (one : Writer). one.left) writers place (record writer { left = left }) writer at.within)

  same_allowances : (left : ℕ) → allowances_of (slice_set writers place (record writer { left = left })) ≡ allowances_of writers
  same_allowances left =
      let allowance_of : Writer → Allowance = λ one. one.allowance in
      map-set allowance_of writers place (record writer { left = left }) ∙ sym (map-set allowance_of writers place writer) ∙ ap allowances_of (rw (← read) at (set-get_or writers place writer))

  pub stays : IsStaying source caller writer capacity
  stays =
      let counted : (0 < writer.left) × (made source caller + writer.left ≡ writer.allowance.edits + 1) = rw (its.is_caller, is_in.stays) at its.counted in
      record { some = counted.0; made_so_far = counted.1; may_make = its.may_make; room = omega (arith, changed_left 0, kept.left, kept.room) }

  module _ (edit : Edit) (reply : Reply) (after : Content) (replies : reply ≡ reply_to content cap edit) (changes : after ≡ edited content cap edit) (fits : size_of after ≤ cap) where
    -- an entry that is an edit is one more of its caller's
    within_allowances : (is_leave edit ≡ false → MayEdit source caller) → (other : ℕ) →
        edits_made other (source.history ++ record { caller = caller; edit = edit; reply = reply } ∷ []) ≤ allowed other source.plan.allow
    within_allowances may other =
        elim (caller == other) as (λ own. (caller == other) ≡ own → edits_made other (source.history ++ record { caller = caller; edit = edit; reply = reply } ∷ []) ≤ allowed other source.plan.allow) [
          | true ↦ λ own.
              elim (is_leave edit) as (λ leaves. is_leave edit ≡ leaves → edits_made other (source.history ++ record { caller = caller; edit = edit; reply = reply } ∷ []) ≤ allowed other source.plan.allow) [
                | true ↦ λ leaves. rw (edits_append, own, leaves) (omega (arith, kept.of_source.allowances other))
                | false ↦ λ leaves.
                    let same : caller ≡ other = eqb-true caller other own in
                    let fewer : length (own_entries other source.history) < allowed other source.plan.allow = rw same at (may leaves).made_fewer in
                    rw (edits_append, own, leaves) (omega (arith, edits_within_entries other source.history, fewer))
              ] refl
          | false ↦ λ own. rw (edits_append, own) (omega (arith, kept.of_source.allowances other))
        ] refl

    goes_on : (left : ℕ) → Falls (is_leave edit) writer.left left → (is_leave edit ≡ false → MayEdit source caller) →
        IsKept (entered source (record { caller = caller; edit = edit; reply = reply })) cap after (slice_set writers place (record writer { left = left })) capacity
    goes_on left falls may =
        let entry : Entry = record { caller = caller; edit = edit; reply = reply } in
        let after_is : after ≡ content_of (entered source entry) = rw (changes, state_append source.plan.start source.plan.cap source.history (entry ∷ []), kept.of_content, kept.of_cap) refl in
        let one_less : left + 1 ≤ writer.left = falls_short (is_leave edit) writer.left left stays.some falls in
        let fewer : length (source.history ++ entry ∷ []) + all_left (slice_set writers place (record writer { left = left })) ≤ room_of source.plan.allow =
        omega (arith, changed_left left, kept.left, length_push source.history entry) in
        record {
          of_source = record {
            plan = kept.of_source.plan;
            within_cap = rw (after_is, kept.of_cap) at fits;
            legal = legal_append source.plan.start source.plan.cap source.history entry kept.of_source.legal (rw (kept.of_content, kept.of_cap) at replies);
            by_writers = rw (list_all-append, kept.of_source.by_writers, is_in.is_writer) refl;
            room = omega arith;
            allowances = within_allowances may;
            leaves_last = leaves_last_append source.history entry kept.of_source.leaves_last is_in.stays;
          };
          of_cap = kept.of_cap;
          of_content = after_is;
          of_writers = same_allowances left ∙ kept.of_writers;
          counted = rw at.of_number (counted_set source.history entry writers (record writer { left = left }) (rw kept.of_writers kept.of_source.plan.distinct) kept.counted
              (counted_own source.history entry writer left its.is_caller is_in.stays its.counted falls));
          left = fewer;
          room = kept.room;
        }

    pub kept_edit : is_leave edit ≡ false → MayEdit source caller →
        IsKept (entered source (record { caller = caller; edit = edit; reply = reply })) cap after (slice_set writers place (record writer { left = writer.left - 1 })) capacity
    kept_edit no_leave may =
        let writer_stays = stays in
        let falls : (0 < writer.left - 1) × (writer.left - 1 + 1 ≡ writer.left) = (omega arith, omega arith) in
        goes_on (writer.left - 1) (rw no_leave falls) (λ edits. may)

  pub kept_leave : IsKept (entered source (record { caller = caller; edit = Leave; reply = Fine })) cap content (slice_set writers place (record writer { left = 0 })) capacity
  kept_leave =
      let fits : size_of content ≤ cap = rw (kept.of_content, kept.of_cap) kept.of_source.within_cap in
      goes_on Leave Fine content (sym (leave_is_fine content cap)) (sym (leave_stays content cap)) fits 0 refl (λ edits. absurd (true≢false edits))
