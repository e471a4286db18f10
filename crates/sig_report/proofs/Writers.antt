-- What a writer has made on a source by its events so far.
use Rattle.std.proofs.Common.{◌≡◌, ◌∙◌, ℕ, zero, suc, ◌+◌, ◌<◌, ◌≤◌, ◌==◌, List, [], ◌∷◌, ◌++◌, length, take, map, get_or, slice_get, slice_set, cond, Bool, true, false, ◌||◌, not, refl, sym, ap, add-one}
use Rattle.std.proofs.lemmas.Bool.{and_parts, and_from, eqb-true, eqb-false, eq-eqb, not-true}
use Rattle.std.proofs.lemmas.List.{append-nil, get_or-set_same, get_or-set_other, map-append, take-append-le}
use Rattle.std.proofs.lemmas.List.Folds.{list_all-append}
use Rattle.std.specs.List.{list_all}
use Rattle.std.specs.Option.{option_to_list}
use Rattle.std.proofs.Math.Seq.{take-append_seam}
use Rattle.sig_hist.proofs.Entries.{legal_append, own_entries_other, own_entries_own}
use Rattle.sig_hist.specs.Changes.{reply_to}
use Rattle.sig_hist.specs.Histories.{IsLegal, ends_with_leave, has_left, is_leave, own_entries}
use Rattle.sig_hist.specs.Plain.{no_source}
use Rattle.sig_hist.specs.Sources.{IsIn, Source, content_of, is_among, writers_of}
use Rattle.sig_hist.specs.declared.edits.Edit.{Edit}
use Rattle.sig_hist.specs.declared.edits.Edit.TheVariants.{Leave}
use Rattle.sig_hist.specs.declared.edits.Entry.{Entry}
use Rattle.sig_hist.specs.declared.plans.SourcePlan.{SourcePlan}
use Rattle.sig_hist.specs.Ways.{Grows}
use Rattle.sig_rows.proofs.Growing.{grows_not}
use Rattle.sig_report.specs.Lawful.{no_writer}
use Rattle.sig_script.specs.Leaving.{has_no_leaves, leaves_nowhere}
use Rattle.sig_report.specs.Playing.{edited_by, edits_of}
use Rattle.sig_script.specs.Plans.{plans_of}
use Rattle.sig_script.specs.Rooms.{edits_on}
use Rattle.sig_script.specs.declared.types.Script.{Script}
use Rattle.sig_script.specs.declared.types.WriterDef.{WriterDef}

-- ---- lists of edits

on_if : (here : Bool) (edit : Edit) (edits more : List Edit) → cond here (edit ∷ (edits ++ more)) (edits ++ more) ≡ cond here (edit ∷ edits) edits ++ more
on_if true edit edits more = refl
on_if false edit edits more = refl

pub edits_on_append : (number : ℕ) (edits more : List (ℕ × Edit)) → edits_on number (edits ++ more) ≡ edits_on number edits ++ edits_on number more
edits_on_append number [] more = refl
edits_on_append number (edit ∷ edits) more = rw (edits_on_append number edits more) (on_if (edit.0 == number) edit.1 (edits_on number edits) (edits_on number more))

take_next : {X : Type 0} (xs : List X) (n : ℕ) → take (suc n) xs ≡ take n xs ++ option_to_list (slice_get xs n)
take_next [] zero = refl
take_next [] (suc n) = refl
take_next (x ∷ xs) zero = refl
take_next (x ∷ xs) (suc n) = ap (λ (rest : List _). x ∷ rest) (take_next xs n)

edits_on_next : (number : ℕ) (edits : List (ℕ × Edit)) (n : ℕ) → edits_on number (take (n + 1) edits) ≡ edits_on number (take n edits) ++ edits_on number (option_to_list (slice_get edits n))
edits_on_next number edits n = rw (add-one, take_next edits n) (edits_on_append number (take n edits) (option_to_list (slice_get edits n)))

-- none of them is a leave
abbrev NoneLeaves : List Edit → Type 0
NoneLeaves edits = list_all (λ (edit : Edit). not (is_leave edit)) edits ≡ true

none_if : (here : Bool) (edit : Edit) (edits : List Edit) → not (is_leave edit) ≡ true → NoneLeaves edits → NoneLeaves (cond here (edit ∷ edits) edits)
none_if true edit edits no_leave others = and_from _ _ no_leave others
none_if false edit edits no_leave others = others

none_on : (number : ℕ) (edits : List (ℕ × Edit)) (n : ℕ) → list_all (λ (edit : ℕ × Edit). not (is_leave edit.1)) edits ≡ true → NoneLeaves (edits_on number (take n edits))
none_on number [] zero none = refl
none_on number [] (suc n) none = refl
none_on number (edit ∷ edits) zero none = refl
none_on number (edit ∷ edits) (suc n) none =
    let both = and_parts _ _ none in none_if (edit.0 == number) edit.1 (edits_on number (take n edits)) both.0 (none_on number edits n both.1)

ends_with_no_leave : (entries : List Entry) → NoneLeaves (map (λ (entry : Entry). entry.edit) entries) → ends_with_leave entries ≡ false
ends_with_no_leave [] none = refl
ends_with_no_leave (entry ∷ []) none = not-true _ (and_parts _ _ none).0
ends_with_no_leave (entry ∷ next ∷ entries) none = ends_with_no_leave (next ∷ entries) (and_parts _ _ none).1

pub no_leaves_at : (writers : List WriterDef) (writer : ℕ) → list_all leaves_nowhere writers ≡ true → leaves_nowhere (get_or writers writer no_writer) ≡ true
no_leaves_at [] writer none = refl
no_leaves_at (first ∷ writers) zero none = (and_parts _ _ none).0
no_leaves_at (first ∷ writers) (suc writer) none = no_leaves_at writers writer (and_parts _ _ none).1

-- a writer's own edits
abbrev pub own_edits : ℕ → List Entry → List Edit
own_edits writer entries = map (λ (entry : Entry). entry.edit) (own_entries writer entries)

-- ---- one entry more

-- what holds of all holds of one among them
by_first : (p : ℕ → Bool) (y x : ℕ) (others first : Bool) → (y == x) ≡ first → (first || others) ≡ true → p y ≡ true → (others ≡ true → p x ≡ true) → p x ≡ true
by_first p y x others true same among holds later = rw (← (eqb-true y x same)) holds
by_first p y x others false same among holds later = later among

holds_among : (p : ℕ → Bool) (xs : List ℕ) (x : ℕ) → is_among x xs ≡ true → list_all p xs ≡ true → p x ≡ true
holds_among p [] x among all = cc
holds_among p (y ∷ ys) x among all = let both = and_parts _ _ all in by_first p y x (is_among x ys) (y == x) refl among both.0 (λ later. holds_among p ys x later both.1)

-- a source stays, or a writer that hasn't left makes an edit
pub data Goes (writer : ℕ) (source : Source) : List Edit → Source → Type 0 where
  stays : Goes writer source [] source
  enters : (edit : Edit) → IsIn source writer → Goes writer source (edit ∷ []) (edited_by writer edit source)

pub goes_growing : (writer : ℕ) (source : Source) (edits : List Edit) (later : Source) → Goes writer source edits later → Grows source later
goes_growing writer source edits later stays = grows_not source
goes_growing writer source edits later (enters edit is_in) = record {
  plan = refl;
  front = take-append_seam source.history _;
  closed = λ closed. let left = holds_among (λ one. has_left one source.history) (writers_of source.plan.allow) writer is_in.is_writer closed in absurd (let never : true ≡ false = sym left ∙ is_in.stays in cc);
}

own_goes : (writer : ℕ) (source : Source) (edits : List Edit) (later : Source) → Goes writer source edits later →
    own_edits writer later.history ≡ own_edits writer source.history ++ edits
own_goes writer source edits later stays = sym (append-nil _)
own_goes writer source edits later (enters edit is_in) =
    let entry : Entry = record { caller = writer; edit = edit; reply = reply_to (content_of source) source.plan.cap edit } in
    rw (own_entries_own writer source.history entry (eq-eqb writer writer refl)) (map-append (λ (entry : Entry). entry.edit) (own_entries writer source.history) (entry ∷ []))

others_stay : (writer other : ℕ) (source : Source) (edits : List Edit) (later : Source) → (writer == other) ≡ false → Goes writer source edits later → own_entries other later.history ≡ own_entries other source.history
others_stay writer other source edits later is_other stays = refl
others_stay writer other source edits later is_other (enters edit is_in) = own_entries_other other source.history _ is_other

-- ---- all entries so far

-- all that a writer does on a source that it edits: its edits, and then its leave
abbrev pub events_on : ℕ → List (ℕ × Edit) → List (ℕ × Edit)
events_on number edits = edits ++ (number, Leave) ∷ []

abbrev pub plan_at : Script → ℕ → SourcePlan
plan_at script number = get_or (plans_of script) number no_source.plan

-- a source by how many events each writer has had
pub record IsMade (script : Script) (done : List ℕ) (number : ℕ) (source : Source) : Type 0 where
  pub plan : source.plan ≡ plan_at script number
  pub legal : IsLegal source.plan.start source.plan.cap source.history
  pub by_writers : list_all (λ (entry : Entry). is_among entry.caller (writers_of source.plan.allow)) source.history ≡ true
  pub own : (writer : ℕ) → is_among writer (writers_of source.plan.allow) ≡ true →
      own_edits writer source.history ≡ edits_on number (take (get_or done writer 0) (events_on number (edits_of script writer)))

pub has_not_left : (script : Script) (done : List ℕ) (number writer : ℕ) (source : Source) → has_no_leaves script ≡ true → IsMade script done number source → is_among writer (writers_of source.plan.allow) ≡ true →
    get_or done writer 0 ≤ length (edits_of script writer) → has_left writer source.history ≡ false
has_not_left script done number writer source none made among few =
    let edits : List (ℕ × Edit) = edits_of script writer in
    let own = made.own writer among in
    let front : take (get_or done writer 0) (events_on number edits) ≡ take (get_or done writer 0) edits = take-append-le (get_or done writer 0) edits ((number, Leave) ∷ []) few in
    ends_with_no_leave (own_entries writer source.history) (rw (own, front) (none_on number edits (get_or done writer 0) (no_leaves_at script.writers writer none)))

legal_goes : (writer : ℕ) (source : Source) (edits : List Edit) (later : Source) → Goes writer source edits later → IsLegal source.plan.start source.plan.cap source.history → IsLegal later.plan.start later.plan.cap later.history
legal_goes writer source edits later stays legal = legal
legal_goes writer source edits later (enters edit is_in) legal = legal_append source.plan.start source.plan.cap source.history _ legal refl

writers_go : (writer : ℕ) (source : Source) (edits : List Edit) (later : Source) → Goes writer source edits later →
    list_all (λ (entry : Entry). is_among entry.caller (writers_of source.plan.allow)) source.history ≡ true → list_all (λ (entry : Entry). is_among entry.caller (writers_of later.plan.allow)) later.history ≡ true
writers_go writer source edits later stays all = all
writers_go writer source edits later (enters edit is_in) all = rw (list_all-append, all, is_in.is_writer) refl

-- by whether it is the writer's own source
own_by : (script : Script) (done : List ℕ) (number writer other : ℕ) (source later : Source) (edits : List Edit) (same : Bool) → (writer == other) ≡ same → writer < length done →
    (writer ≡ other → edits ≡ edits_on number (option_to_list (slice_get (events_on number (edits_of script writer)) (get_or done writer 0)))) → Goes writer source edits later →
    own_edits other source.history ≡ edits_on number (take (get_or done other 0) (events_on number (edits_of script other))) →
    own_edits other later.history ≡ edits_on number (take (get_or (slice_set done writer (get_or done writer 0 + 1)) other 0) (events_on number (edits_of script other)))
own_by script done number writer other source later edits true is within due goes own =
    let same : writer ≡ other = eqb-true writer other is in
    let now : get_or (slice_set done writer (get_or done writer 0 + 1)) writer 0 ≡ get_or done writer 0 + 1 = get_or-set_same done writer (get_or done writer 0 + 1) 0 within in
    let before : own_edits writer source.history ≡ edits_on number (take (get_or done writer 0) (events_on number (edits_of script writer))) = rw same own in
    rw (← same, now, own_goes writer source edits later goes, before, due same) (sym (edits_on_next number (events_on number (edits_of script writer)) (get_or done writer 0)))
own_by script done number writer other source later edits false is within due goes own =
    let now : get_or (slice_set done writer (get_or done writer 0 + 1)) other 0 ≡ get_or done other 0 = get_or-set_other done writer other (get_or done writer 0 + 1) 0 (λ same. eqb-false writer other is (sym same)) in
    rw (others_stay writer other source edits later is goes, now) own

pub made_next : (script : Script) (done : List ℕ) (number writer : ℕ) (source : Source) (edits : List Edit) (later : Source) → IsMade script done number source → writer < length done →
    (is_among writer (writers_of source.plan.allow) ≡ true → edits ≡ edits_on number (option_to_list (slice_get (events_on number (edits_of script writer)) (get_or done writer 0)))) → Goes writer source edits later →
    IsMade script (slice_set done writer (get_or done writer 0 + 1)) number later
made_next script done number writer source edits later made within due goes =
    let plan : later.plan ≡ source.plan = (goes_growing writer source edits later goes).plan in
    record {
      plan = plan ∙ made.plan;
      legal = legal_goes writer source edits later goes made.legal;
      by_writers = writers_go writer source edits later goes made.by_writers;
      own = λ other among.
          let before : is_among other (writers_of source.plan.allow) ≡ true = rw plan at among in
          own_by script done number writer other source later edits (writer == other) refl within (λ same. due (rw same before)) goes (made.own other before);
    }
