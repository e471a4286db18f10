-- What a writer's event asks of the sources, and what it does to them.
use Rattle.std.proofs.Common.{◌≡◌, ◌∙◌, ℕ, zero, suc, ◌+◌, ◌<◌, ◌≤◌, ◌==◌, List, [], ◌∷◌, length, take, map, get_or, slice_get, cond, Bool, true, false, ◌&&◌, not, nat_lt, if◌then◌else◌, Some, refl, sym, ap, ap₂, arith}
use Rattle.std.proofs.lemmas.Bool.{and_parts, eq-eqb, not-true}
use Rattle.std.proofs.lemmas.Bool.Decides.{nat_tests}
use Rattle.std.proofs.lemmas.List.{length-map, take-append-le}
use Rattle.std.proofs.lemmas.Option.{slice_get_past, slice_get_within}
use Rattle.std.specs.List.{list_all}
use Rattle.sig_hist.proofs.Entries.{leave_is_fine}
use Rattle.sig_hist.specs.Histories.{has_left, is_leave, own_entries}
use Rattle.sig_hist.specs.Plain.{OneThread, after_leave}
use Rattle.sig_hist.specs.Sources.{Source, allowed, content_of, entered, is_among, made, writers_of}
use Rattle.sig_hist.specs.declared.edits.Edit.{Edit}
use Rattle.sig_hist.specs.declared.edits.Edit.TheVariants.{Leave}
use Rattle.sig_hist.specs.declared.edits.Entry.{Entry}
use Rattle.sig_hist.specs.declared.edits.Reply.{Reply}
use Rattle.sig_report.proofs.Allowing.{allowed_at, among_at}
use Rattle.sig_report.proofs.Events.{IsPlay, some_on, source_at}
use Rattle.sig_report.proofs.Views.{no_shares}
use Rattle.sig_report.proofs.Writers.{events_on, has_not_left, no_leaves_at}
use Rattle.sig_report.specs.Lawful.{no_writer}
use Rattle.sig_report.specs.Playing.{Played, edits_of, left_by, written}
use Rattle.sig_run.specs.Stages.{AreOpenTo, IsOpenTo, IsPlayable}
use Rattle.sig_script.specs.Rooms.{edits_on}
use Rattle.sig_script.specs.SelfContained.{has_edited, has_source}
use Rattle.sig_script.specs.declared.types.Script.{Script}
use Rattle.sig_script.specs.declared.types.WriterDef.{WriterDef}

-- ---- leaves

leave_one : (caller : ℕ) (source : Source) (among : Bool) (reply : Reply) → reply ≡ Reply.Fine →
    (if among then entered source (record { caller = caller; edit = Leave; reply = Reply.Fine }) else source) ≡ (if among then entered source (record { caller = caller; edit = Leave; reply = reply }) else source)
leave_one caller source among reply fine = rw fine refl

pub leave_all_is : (caller : ℕ) (sources : List Source) → map (after_leave caller) sources ≡ left_by caller sources
leave_all_is caller [] = refl
leave_all_is caller (source ∷ sources) =
    ap₂ (λ (first : Source) (others : List Source). first ∷ others)
    (leave_one caller source (is_among caller (writers_of source.plan.allow)) _ (leave_is_fine (content_of source) source.plan.cap))
    (leave_all_is caller sources)

-- the event after the last edit, and one after that
pub wrote_last : (caller done : ℕ) (edits : List (ℕ × Edit)) (sources : List Source) → length edits ≤ done → (not (length edits == 0) && (done == length edits)) ≡ true → written caller edits done sources ≡ left_by caller sources
wrote_last caller done edits sources past last = rw (slice_get_past edits done past, last) refl

pub wrote_nothing : (caller done : ℕ) (edits : List (ℕ × Edit)) (sources : List Source) → length edits ≤ done → (not (length edits == 0) && (done == length edits)) ≡ false → written caller edits done sources ≡ sources
wrote_nothing caller done edits sources past last = rw (slice_get_past edits done past, last) refl

-- ---- elements by their places

pub holds_at : {X : Type 0} (p : X → Bool) (xs : List X) (place : ℕ) (x : X) → list_all p xs ≡ true → slice_get xs place ≡ Some x → p x ≡ true
holds_at p [] place x all is = cc
holds_at p (y ∷ ys) zero x all is = let same : y ≡ x = cc in rw (← same) (and_parts _ _ all).0
holds_at p (y ∷ ys) (suc place) x all is = holds_at p ys place x (and_parts _ _ all).1 is

edited_at : (script : Script) (writers : List WriterDef) (writer : ℕ) → list_all (has_edited script) writers ≡ true → has_edited script (get_or writers writer no_writer) ≡ true
edited_at script [] writer all = refl
edited_at script (first ∷ writers) zero all = (and_parts _ _ all).0
edited_at script (first ∷ writers) (suc writer) all = edited_at script writers writer (and_parts _ _ all).1

-- ---- edits that are left

fewer_if : (here : Bool) (edit : Edit) (edits more : List Edit) → length edits < length more → length (cond here (edit ∷ edits) edits) < length (cond here (edit ∷ more) more)
fewer_if true edit edits more fewer = omega arith
fewer_if false edit edits more fewer = fewer

-- before an edit on a source there were fewer on it than there are
fewer_on : (number : ℕ) (edits : List (ℕ × Edit)) (place : ℕ) (edit : ℕ × Edit) → slice_get edits place ≡ Some edit → (edit.0 == number) ≡ true → length (edits_on number (take place edits)) < length (edits_on number edits)
fewer_on number [] place edit is here = cc
fewer_on number (first ∷ edits) zero edit is here = let same : first ≡ edit = cc in rw (same, here) (omega arith)
fewer_on number (first ∷ edits) (suc place) edit is here = fewer_if (first.0 == number) first.1 (edits_on number (take place edits)) (edits_on number edits) (fewer_on number edits place edit is here)

-- ---- the next event

module _ (script : Script) (playable : IsPlayable script) (p : Played) (is : IsPlay script p) (port : OneThread) (sources : port.sources ≡ p.sources) (writer : ℕ) where
  abbrev edits : List (ℕ × Edit)
  edits = edits_of script writer

  stays_in : (number : ℕ) → is_among writer (writers_of (source_at p number).plan.allow) ≡ true → get_or p.done writer 0 ≤ length edits → has_left writer (source_at p number).history ≡ false
  stays_in number among few = has_not_left script p.done number writer (source_at p number) playable.no_leaves (is.made number) among few

  made_so_far : (number : ℕ) → is_among writer (writers_of (source_at p number).plan.allow) ≡ true → get_or p.done writer 0 ≤ length edits →
      made (source_at p number) writer ≡ length (edits_on number (take (get_or p.done writer 0) edits))
  made_so_far number among few =
      let entries : List Entry = own_entries writer (source_at p number).history in
      let front : take (get_or p.done writer 0) (events_on number edits) ≡ take (get_or p.done writer 0) edits = take-append-le (get_or p.done writer 0) edits ((number, Leave) ∷ []) few in
      sym (length-map entries (λ (entry : Entry). entry.edit)) ∙ ap length ((is.made number).own writer among) ∙ ap (λ (front : List (ℕ × Edit)). length (edits_on number front)) front

  may_edit : (edit : ℕ × Edit) → slice_get edits (get_or p.done writer 0) ≡ Some edit → IsOpenTo port writer edit
  may_edit edit next =
      let number : ℕ = edit.0 in
      let inside : nat_lt number (length script.sources + length script.shares) ≡ true =
      holds_at (λ (edit : ℕ × Edit). has_source script edit.0) edits (get_or p.done writer 0) edit (edited_at script script.writers writer playable.self_contained.writers) next in
      let none : length script.shares ≡ 0 = ap length (no_shares script playable.built) in
      let within : number < length script.sources = grind (arith, nat_tests) in
      let some : 0 < length (edits_on number edits) = some_on number edits (get_or p.done writer 0) edit next (eq-eqb number number refl) in
      let writes : not (length (edits_on number edits) == 0) ≡ true = grind (arith, nat_tests) in
      let among : is_among writer (writers_of (source_at p number).plan.allow) ≡ true = rw (is.made number).plan (among_at script (no_shares script playable.built) number writer within ∙ writes) in
      let below = slice_get_within edits (get_or p.done writer 0) edit next in
      let all : allowed writer (source_at p number).plan.allow ≡ length (edits_on number edits) = rw (is.made number).plan (allowed_at script (no_shares script playable.built) number writer within) in
      let few : get_or p.done writer 0 ≤ length edits = omega arith in
      let fewer : made (source_at p number) writer < allowed writer (source_at p number).plan.allow =
      rw (all, made_so_far number among few) (fewer_on number edits (get_or p.done writer 0) edit next (eq-eqb number number refl)) in
      record {
        source = rw (sources, is.sources) within;
        is_in = rw sources (record { is_writer = among; stays = stays_in number among few });
        may = rw sources (record { made_fewer = fewer });
        no_leave = not-true _ (holds_at (λ (edit : ℕ × Edit). not (is_leave edit.1)) edits (get_or p.done writer 0) edit (no_leaves_at script.writers writer playable.no_leaves) next);
      }

  pub may_write : AreOpenTo port writer edits (get_or p.done writer 0)
  may_write = record {
    edit = may_edit;
    leaves = λ end number. rw sources (λ among. stays_in number among (omega arith));
  }
