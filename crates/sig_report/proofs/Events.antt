-- What one event does to each source.
use Rattle.std.proofs.Common.{◌≡◌, ◌∙◌, ℕ, zero, suc, ◌+◌, ◌<◌, ◌≤◌, ◌==◌, nat_lt, List, [], ◌∷◌, ◌++◌, length, map, get_or, slice_get, slice_set, cond, if◌then◌else◌, Bool, true, false, ◌&&◌, not, Option, None, Some, refl, sym, ap, arith}
use Rattle.std.proofs.lemmas.Bool.{and_parts, eqb-true, eqb-false, eq-eqb}
use Rattle.std.proofs.lemmas.Bool.Decides.{nat_tests}
use Rattle.std.proofs.lemmas.List.{get_or-set_same, get_or-set_other, length-map, length-set, length_push, set_past}
use Rattle.std.proofs.lemmas.Option.{slice_get_past, slice_get_within}
use Rattle.std.specs.Option.{option_to_list}
use Rattle.sig_hist.specs.Plain.{no_source}
use Rattle.sig_hist.specs.Sources.{IsIn, Source, is_among, writers_of}
use Rattle.sig_hist.specs.declared.edits.Edit.{Edit}
use Rattle.sig_hist.specs.declared.edits.Edit.TheVariants.{Leave}
use Rattle.sig_report.proofs.Allowing.{among_at, no_edits_past, number_within, stranger}
use Rattle.sig_hist.specs.Ways.{Grows}
use Rattle.sig_rows.proofs.Growing.{grows_not}
use Rattle.sig_report.proofs.Writers.{Goes, IsMade, enters, events_on, goes_growing, has_not_left, made_next, stays}
use Rattle.sig_script.specs.Leaving.{has_no_leaves}
use Rattle.sig_report.specs.Playing.{Played, Watched, by_writer, edited_by, edits_of, left_by, shared_body, shared_row, with_edit, written_by}
use Rattle.sig_script.specs.Rooms.{edits_on}
use Rattle.sig_script.specs.declared.types.Script.{Script}
use Rattle.sig_rows.specs.declared.rows.Body.{Body}
use Rattle.sig_rows.specs.declared.rows.Body.TheVariants as body
use Rattle.sig_rows.specs.declared.rows.Row.{Row}

-- ---- lists

pub map_at : {A B : Type 0} (f : A → B) (xs : List A) (i : ℕ) (default : A) → get_or (map f xs) i (f default) ≡ f (get_or xs i default)
map_at f [] i default = refl
map_at f (x ∷ xs) zero default = refl
map_at f (x ∷ xs) (suc i) default = map_at f xs i default

module _ {X : Type 0} where
  slice_get_front : (xs ys : List X) (i : ℕ) (x : X) → slice_get xs i ≡ Some x → slice_get (xs ++ ys) i ≡ Some x
  slice_get_front [] ys i x is = cc
  slice_get_front (first ∷ xs) ys zero x is = is
  slice_get_front (first ∷ xs) ys (suc i) x is = slice_get_front xs ys i x is

  slice_get_last : (xs : List X) (x : X) → slice_get (xs ++ x ∷ []) (length xs) ≡ Some x
  slice_get_last [] x = refl
  slice_get_last (first ∷ xs) x = slice_get_last xs x

  slice_get_none : (xs : List X) (i : ℕ) → slice_get xs i ≡ None → length xs ≤ i
  slice_get_none [] i is = omega arith
  slice_get_none (first ∷ xs) zero is = cc
  slice_get_none (first ∷ xs) (suc i) is = let past = slice_get_none xs i is in omega arith

-- ---- a writer of the source

module _ (writer number done : ℕ) (edits : List (ℕ × Edit)) (sources : List Source) where
  edit_goes : (edit : ℕ × Edit) (here : Bool) → (edit.0 == number) ≡ here → number < length sources → IsIn (get_or sources number no_source) writer →
      Goes writer (get_or sources number no_source) (cond here (edit.1 ∷ []) []) (get_or (with_edit edit.0 writer edit.1 sources) number no_source)
  edit_goes edit true is within is_in =
      let same : edit.0 ≡ number = eqb-true edit.0 number is in
      let now : get_or (with_edit number writer edit.1 sources) number no_source ≡ edited_by writer edit.1 (get_or sources number no_source) = get_or-set_same sources number _ no_source within in
      rw (same, now) (enters edit.1 is_in)
  edit_goes edit false is within is_in =
      let now : get_or (with_edit edit.0 writer edit.1 sources) number no_source ≡ get_or sources number no_source = get_or-set_other sources edit.0 number _ no_source (λ same. eqb-false edit.0 number is (sym same)) in
      rw now stays

  left_at : get_or (left_by writer sources) number no_source ≡ (let source : Source = get_or sources number no_source in if is_among writer (writers_of source.plan.allow) then edited_by writer Leave source else source)
  left_at = map_at (λ (source : Source). if is_among writer (writers_of source.plan.allow) then edited_by writer Leave source else source) sources number no_source

  leave_goes : IsIn (get_or sources number no_source) writer → Goes writer (get_or sources number no_source) (Leave ∷ []) (get_or (left_by writer sources) number no_source)
  leave_goes is_in = rw (left_at, is_in.is_writer) (enters Leave is_in)

  -- by the next edit, if any, and whether this is the event after the last
  goes_by : (next : Option (ℕ × Edit)) (leaves : Bool) → slice_get edits done ≡ next → (not (length edits == 0) && (done == length edits)) ≡ leaves → number < length sources → 0 < length edits →
      (done ≤ length edits → IsIn (get_or sources number no_source) writer) →
      Goes writer (get_or sources number no_source) (edits_on number (option_to_list (slice_get (events_on number edits) done))) (get_or (written_by writer next leaves sources) number no_source)
  goes_by (Some edit) leaves is at_end within some is_in =
      let below = slice_get_within edits done edit is in
      rw (slice_get_front edits ((number, Leave) ∷ []) done edit is) (edit_goes edit (edit.0 == number) refl within (is_in (omega arith)))
  goes_by None true is at_end within some is_in =
      let end : done ≡ length edits = eqb-true done (length edits) (and_parts (not (length edits == 0)) (done == length edits) at_end).1 in
      let few : done ≤ length edits = omega arith in
      let own : (number == number) ≡ true = eq-eqb number number refl in
      rw (end, slice_get_last edits (number, Leave), own) (leave_goes (is_in few))
  goes_by None false is at_end within some is_in =
      let past : length edits ≤ done = slice_get_none edits done is in
      let longer : length (events_on number edits) ≡ length edits + 1 = length_push edits (number, Leave) in
      let beyond : length (events_on number edits) ≤ done = grind (arith, nat_tests) in
      rw (slice_get_past (events_on number edits) done beyond) stays

  -- ---- another one

  edit_misses : (edit : ℕ × Edit) (here : Bool) → (edit.0 == number) ≡ here → (here ≡ true → length sources ≤ number) → get_or (with_edit edit.0 writer edit.1 sources) number no_source ≡ get_or sources number no_source
  edit_misses edit true is past =
      let same : edit.0 ≡ number = eqb-true edit.0 number is in
      ap (λ (items : List Source). get_or items number no_source) (set_past sources edit.0 _ (rw same (past refl)))
  edit_misses edit false is past = get_or-set_other sources edit.0 number _ no_source (λ same. eqb-false edit.0 number is (sym same))

  leave_misses : is_among writer (writers_of (get_or sources number no_source).plan.allow) ≡ false → get_or (left_by writer sources) number no_source ≡ get_or sources number no_source
  leave_misses no_writer = left_at ∙ rw no_writer refl

  misses_by : (next : Option (ℕ × Edit)) (leaves : Bool) → slice_get edits done ≡ next → is_among writer (writers_of (get_or sources number no_source).plan.allow) ≡ false →
      ((edit : ℕ × Edit) → slice_get edits done ≡ Some edit → (edit.0 == number) ≡ true → length sources ≤ number) → get_or (written_by writer next leaves sources) number no_source ≡ get_or sources number no_source
  misses_by (Some edit) leaves is no_writer past = edit_misses edit (edit.0 == number) refl (past edit is)
  misses_by None true is no_writer past = leave_misses no_writer
  misses_by None false is no_writer past = refl

some_if : (here : Bool) (edit : Edit) (edits : List Edit) → 0 < length edits → 0 < length (cond here (edit ∷ edits) edits)
some_if true edit edits some = omega arith
some_if false edit edits some = some

-- an edit on a source is among those on it
pub some_on : (number : ℕ) (edits : List (ℕ × Edit)) (i : ℕ) (edit : ℕ × Edit) → slice_get edits i ≡ Some edit → (edit.0 == number) ≡ true → 0 < length (edits_on number edits)
some_on number [] i edit is here = cc
some_on number (first ∷ edits) zero edit is here = let same : first ≡ edit = cc in rw (same, here) (omega arith)
some_on number (first ∷ edits) (suc i) edit is here = some_if (first.0 == number) first.1 (edits_on number edits) (some_on number edits i edit is here)

some_edits : (number : ℕ) (edits : List (ℕ × Edit)) → 0 < length (edits_on number edits) → 0 < length edits
some_edits number [] some = some
some_edits number (edit ∷ edits) some = omega arith

-- ---- one event

abbrev pub source_at : Played → ℕ → Source
source_at p number = get_or p.sources number no_source

-- what holds of the sources at any moment of a play
pub record IsPlay (script : Script) (p : Played) : Type 0 where
  pub sources : length p.sources ≡ length script.sources
  pub done : length p.done ≡ length script.writers
  pub made : (number : ℕ) → IsMade script p.done number (source_at p number)

record HasGone (script : Script) (p later : Played) (number : ℕ) : Type 0 where
  made : IsMade script later.done number (source_at later number)
  grows : Grows (source_at p number) (source_at later number)

-- from one moment to a later one
pub record GoesOn (script : Script) (p later : Played) : Type 0 where
  pub play : IsPlay script later
  pub grows : (number : ℕ) → Grows (source_at p number) (source_at later number)

length_written : (writer : ℕ) (next : Option (ℕ × Edit)) (leaves : Bool) (sources : List Source) → length (written_by writer next leaves sources) ≡ length sources
length_written writer (Some edit) leaves sources = length-set sources edit.0 _
length_written writer None true sources = length-map sources _
length_written writer None false sources = refl

module _ (script : Script) (unshared : script.shares ≡ []) (none : has_no_leaves script ≡ true) (p : Played) (is : IsPlay script p) (writer : ℕ) where
  module _ (number : ℕ) where
    tells : (number < length script.sources) → is_among writer (writers_of (source_at p number).plan.allow) ≡ not (length (edits_on number (edits_of script writer)) == 0)
    tells within = rw (is.made number).plan (among_at script unshared number writer within)

    past_by : (inside : Bool) → nat_lt number (length script.sources) ≡ inside → is_among writer (writers_of (source_at p number).plan.allow) ≡ false →
        (edit : ℕ × Edit) → slice_get (edits_of script writer) (get_or p.done writer 0) ≡ Some edit → (edit.0 == number) ≡ true → length p.sources ≤ number
    past_by true is_inside no_writer edit next here =
        let some = some_on number (edits_of script writer) (get_or p.done writer 0) edit next here in
        let says : not (length (edits_on number (edits_of script writer)) == 0) ≡ false = sym (tells (grind (arith, nat_tests))) ∙ no_writer in
        absurd (grind (arith, nat_tests))
    past_by false is_inside no_writer edit next here = let same = is.sources in grind (arith, nat_tests)

    gone_by : (among : Bool) → is_among writer (writers_of (source_at p number).plan.allow) ≡ among → writer < length script.writers → HasGone script p (by_writer script writer p) number
    gone_by true among exists =
        let edits : List (ℕ × Edit) = edits_of script writer in
        let within : number < length script.sources = number_within script unshared number writer (rw (is.made number).plan at among) in
        let says : not (length (edits_on number edits) == 0) ≡ true = sym (tells within) ∙ among in
        let some : 0 < length edits = some_edits number edits (grind (arith, nat_tests)) in
        let goes : Goes writer (source_at p number) (edits_on number (option_to_list (slice_get (events_on number edits) (get_or p.done writer 0)))) (source_at (by_writer script writer p) number) =
        goes_by writer number (get_or p.done writer 0) edits p.sources _ _ refl refl (rw is.sources within) some
        (λ few. record { is_writer = among; stays = has_not_left script p.done number writer (source_at p number) none (is.made number) among few }) in
        record {
          made = made_next script p.done number writer (source_at p number) _ _ (is.made number) (rw is.done exists) (λ _. refl) goes;
          grows = goes_growing writer (source_at p number) _ _ goes;
        }
    gone_by false no_writer exists =
        let misses : source_at (by_writer script writer p) number ≡ source_at p number =
        misses_by writer number (get_or p.done writer 0) (edits_of script writer) p.sources _ _ refl no_writer (past_by _ refl no_writer) in
        record {
          made = rw misses (made_next script p.done number writer (source_at p number) [] _ (is.made number) (rw is.done exists) (λ among. cc) stays);
          grows = rw misses (grows_not (source_at p number));
        }

    -- a number that no writer has does nothing
    gone : (exists : Bool) → nat_lt writer (length script.writers) ≡ exists → HasGone script p (by_writer script writer p) number
    gone true exists = gone_by _ refl (grind (arith, nat_tests))
    gone false exists =
        let past : length script.writers ≤ writer = grind (arith, nat_tests) in
        let nothing : edits_of script writer ≡ [] = no_edits_past script writer past in
        let done : slice_set p.done writer (get_or p.done writer 0 + 1) ≡ p.done = set_past p.done writer _ (rw is.done past) in
        record { made = rw (nothing, done) (is.made number); grows = rw nothing (grows_not (source_at p number)) }

  pub writer_goes : GoesOn script p (by_writer script writer p)
  writer_goes = record {
    play = record {
      sources = length_written writer _ _ p.sources ∙ is.sources;
      done = length-set p.done writer (get_or p.done writer 0 + 1) ∙ is.done;
      made = λ number. (gone number _ refl).made;
    };
    grows = λ number. (gone number _ refl).grows;
  }

-- ---- an event of a share that isn't there

module _ (script : Script) (unshared : script.shares ≡ []) (p : Played) (is : IsPlay script p) (source caller : ℕ) (no_source_there : length script.sources ≤ source) (no_writer_there : length script.writers ≤ caller) where
  body_misses : (number : ℕ) (body : Body) → get_or (shared_body source caller body p.sources) number no_source ≡ source_at p number
  body_misses number (body.Signal (Some value)) = ap (λ (sources : List Source). get_or sources number no_source) (set_past p.sources source _ (rw is.sources no_source_there))
  body_misses number (body.Signal None) = refl
  body_misses number body.Ended = leave_misses caller number 0 [] p.sources (rw (is.made number).plan (stranger script unshared number caller no_writer_there))
  body_misses number body = refl

  row_misses : (number : ℕ) (row : Option Row) → get_or (shared_row source caller row p.sources) number no_source ≡ source_at p number
  row_misses number None = refl
  row_misses number (Some row) = body_misses number row.body

  length_body : (body : Body) → length (shared_body source caller body p.sources) ≡ length p.sources
  length_body (body.Signal (Some value)) = length-set p.sources source _
  length_body (body.Signal None) = refl
  length_body body.Ended = length-map p.sources _
  length_body body = refl

  length_row : (row : Option Row) → length (shared_row source caller row p.sources) ≡ length p.sources
  length_row None = refl
  length_row (Some row) = length_body row.body

  pub share_goes : (row : Option Row) (views : List Watched) → GoesOn script p (record { done = p.done; sources = shared_row source caller row p.sources; views = views })
  share_goes row views = record {
    play = record { sources = length_row row ∙ is.sources; done = is.done; made = λ number. rw (row_misses number row) (is.made number) };
    grows = λ number. rw (row_misses number row) (grows_not (source_at p number));
  }
