-- The port of one thread has seen more after an edit and after a leave.
use Rattle.std.proofs.Common.{◌≡◌, ℕ, ◌==◌, length, map, get_or, nat_lt, if◌then◌else◌, Bool, true, false, refl, sym, subst}
use Rattle.std.proofs.lemmas.Bool.{eqb-false, eqb-true}
use Rattle.std.proofs.lemmas.List.{get_or-set_other, get_or-set_same}
use Rattle.sig_hist.proofs.Entries.{leave_is_fine}
use Rattle.sig_hist.specs.Changes.{reply_to}
use Rattle.sig_hist.specs.Plain.{OneThread, StaysWhereItWrites, after_leave, known, no_leaf, no_source, source_at, with_entry}
use Rattle.sig_hist.specs.Ports.{GoesOn, IsSoundPort}
use Rattle.sig_hist.specs.Sources.{IsIn, Source, content_of, entered, is_among, writers_of}
use Rattle.sig_hist.specs.declared.edits.Edit.{Edit}
use Rattle.sig_hist.specs.declared.edits.Edit.TheVariants.{Leave}
use Rattle.sig_hist.specs.declared.edits.Reply.{Reply}
use Rattle.sig_hist.specs.declared.edits.Reply.TheVariants.{Fine}
use Rattle.sig_report.proofs.Events.{map_at}
use Rattle.sig_hist.specs.Ways.{Grows}
use Rattle.sig_rows.proofs.Growing.{grows_longer, grows_not}
use Rattle.sig_report.proofs.Writers.{enters, goes_growing}
use Rattle.sig_run.specs.Stages.{IsOpenTo}
use Rattle.sig_walk.specs.Walking.{HasSeenMore}

goes_on : (port later : OneThread) (source : ℕ) → Grows (source_at port source) (source_at later source) → GoesOn (known port) source (source_at later source).history (length (source_at later source).history)
goes_on port later source grows =
    let before : Source = source_at port source in
    record {
      front = grows.front;
      known = grows_longer before (source_at later source) grows;
      closed = grows.closed;
    }

seen_more : (port later : OneThread) → later.leaves ≡ port.leaves → ((source : ℕ) → Grows (source_at port source) (source_at later source)) → IsSoundPort (known later) → HasSeenMore (known port) (known later)
seen_more port later leaves grows sound = record {
  sound = sound;
  is_own = λ i leaf. nat_lt leaf (length (leaves i));
  source = λ i leaf. (get_or (leaves i) leaf no_leaf).source;
  task = refl;
  plan = λ i source. (grows source).plan i;
  seen = λ source. goes_on port later source (grows source);
}

pub nothing_more : (port later : OneThread) → IsSoundPort (known port) → later ≡ port → HasSeenMore (known port) (known later)
nothing_more port later sound same = rw same (seen_more port port refl (λ source. grows_not (source_at port source)) sound)

-- ---- an edit

module _ (port : OneThread) (at caller : ℕ) (edit : Edit) (reply : Reply) (is : IsOpenTo port caller (at, edit)) (replies : reply ≡ reply_to (content_of (source_at port at)) (source_at port at).plan.cap edit) where
  abbrev edited : OneThread
  edited = with_entry port at (record { caller = caller; edit = edit; reply = reply })

  edited_grows : Grows (source_at port at) (entered (source_at port at) (record { caller = caller; edit = edit; reply = reply }))
  edited_grows = subst (λ (reply : Reply). Grows (source_at port at) (entered (source_at port at) (record { caller = caller; edit = edit; reply = reply }))) (sym replies) (goes_growing caller (source_at port at) _ _ (enters edit is.is_in))

  grows_by : (source : ℕ) (here : Bool) → (at == source) ≡ here → Grows (source_at port source) (source_at edited source)
  grows_by source true here = rw (← eqb-true at source here, get_or-set_same port.sources at (entered (source_at port at) (record { caller = caller; edit = edit; reply = reply })) no_source is.source) edited_grows
  grows_by source false here = rw (get_or-set_other port.sources at source (entered (source_at port at) (record { caller = caller; edit = edit; reply = reply })) no_source (λ same. eqb-false at source here (sym same))) (grows_not (source_at port source))

  pub edited_more : (later : OneThread) → later ≡ edited → IsSoundPort (known later) → HasSeenMore (known port) (known later)
  edited_more later same sound = rw same (seen_more port edited refl (λ source. grows_by source _ refl) (rw same at sound))

-- ---- leaves

leave_grows : (caller : ℕ) (source : Source) (among : Bool) → is_among caller (writers_of source.plan.allow) ≡ among → (among ≡ true → IsIn source caller) →
    Grows source (if among then entered source (record { caller = caller; edit = Leave; reply = Fine }) else source)
leave_grows caller source true among is_in =
    subst (λ (reply : Reply). Grows source (entered source (record { caller = caller; edit = Leave; reply = reply }))) (leave_is_fine (content_of source) source.plan.cap) (goes_growing caller source _ _ (enters Leave (is_in refl)))
leave_grows caller source false among is_in = grows_not source

pub left_more : (port later : OneThread) (caller : ℕ) → StaysWhereItWrites port caller → later ≡ record port { sources = map (after_leave caller) port.sources } → IsSoundPort (known later) → HasSeenMore (known port) (known later)
left_more port later caller stays same sound =
    let left : OneThread = record port { sources = map (after_leave caller) port.sources } in
    let grows : (source : ℕ) → Grows (source_at port source) (source_at left source) = λ source.
    rw (map_at (after_leave caller) port.sources source no_source) (leave_grows caller (source_at port source) _ refl (λ among. record { is_writer = among; stays = stays source among })) in
    rw same (seen_more port left refl grows (rw same at sound))
