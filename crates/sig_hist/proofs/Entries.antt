-- How contents, legality and own entries go on by one more entry.
use Rattle.std.proofs.Common.{◌≡◌, ◌∙◌, ℕ, ◌+◌, ◌-◌, ◌<◌, ◌≤◌, ◌==◌, ℤ, int_cmp, List, [], ◌∷◌, ◌++◌, length, remove, slice_get, cond, Bool, true, false, nat_lt, not, ◌&&◌, T, Option, Some, None, refl, sym, ap, subst, arith}
use Rattle.std.proofs.lemmas.Bool.Decides.{nat_tests}
use Rattle.std.proofs.lemmas.Bool.{and_parts}
use Rattle.std.proofs.lemmas.List.{append-nil, length-set, length-take, length_push}
use Rattle.std.proofs.lemmas.List.Edits.{length-insert, length-remove}
use Rattle.std.proofs.lemmas.List.Elements.{filter-append}
use Rattle.std.proofs.lemmas.List.Sums.{length-filter, count_by-le-length}
use Rattle.std.proofs.lemmas.Cmp.{int_cmp_total}
use Rattle.std.specs.FinMap.Entries.{is_sorted, length-put}
use Rattle.std.specs.Option.{option_map_or}
use Rattle.std.specs.Ordering.{int_eq}
use Rattle.sig_diff.specs.Differences.{is_lawful, applied, inserted}
use Rattle.sig_diff.specs.Entries.{IsRising, has_key}
use Rattle.sig_diff.specs.declared.contents.Content.{Content}
use Rattle.sig_diff.specs.declared.contents.Content.TheVariants.{Cell, Vector, Map}
use Rattle.sig_diff.specs.declared.differences.VecDiff.{VecDiff}
use Rattle.sig_diff.specs.declared.differences.VecDiff.TheVariants.{Replace, InsertAt, UpdateAt, RemoveAt, Move, Push, Pop, Clear}
use Rattle.sig_diff.specs.declared.map_differences.MapDiff.{MapDiff}
use Rattle.sig_hist.specs.Changes.{Change, IsInOrder, after, can_load, is_long, put_change, edited, reply_to, size_of}
use Rattle.sig_hist.specs.Histories.{state, IsLegal, own_entries, is_leave, ends_with_leave, has_left}
use Rattle.sig_hist.specs.Sources.{Source, entered, IsIn}
use Rattle.sig_hist.specs.declared.edits.Edit.{Edit}
use Rattle.sig_hist.specs.declared.edits.Edit.TheVariants.{SetNeq, Put, Delete, Load, Wipe, Leave}
use Rattle.sig_hist.specs.declared.edits.Entry.{Entry}
use Rattle.sig_hist.specs.declared.edits.Reply.TheVariants.{Fine}

-- ---- contents and replies

pub state_append : (content : Content) (cap : ℕ) (front back : List Entry) → state content cap (front ++ back) ≡ state (state content cap front) cap back
state_append content cap [] back = refl
state_append content cap (entry ∷ front) back = state_append (edited content cap entry.edit) cap front back

-- an entry whose reply is that of the content before it goes on with a legal history
pub legal_append : (content : Content) (cap : ℕ) (entries : List Entry) (entry : Entry) → IsLegal content cap entries → entry.reply ≡ reply_to (state content cap entries) cap entry.edit → IsLegal content cap (entries ++ entry ∷ [])
legal_append content cap [] entry legal reply = (reply, tt)
legal_append content cap (first ∷ entries) entry legal reply = (legal.0, legal_append (edited content cap first.edit) cap entries entry legal.1 reply)

-- a leave changes nothing, and its reply is fine
pub leave_stays : (content : Content) (cap : ℕ) → edited content cap Leave ≡ content
leave_stays (Cell number) cap = refl
leave_stays (Vector items) cap = refl
leave_stays (Map entries) cap = refl

pub leave_is_fine : (content : Content) (cap : ℕ) → reply_to content cap Leave ≡ Fine
leave_is_fine (Cell number) cap = refl
leave_is_fine (Vector items) cap = refl
leave_is_fine (Map entries) cap = refl

-- ---- own entries

pub own_entries_own : (writer : ℕ) (entries : List Entry) (entry : Entry) → (entry.caller == writer) ≡ true → own_entries writer (entries ++ entry ∷ []) ≡ own_entries writer entries ++ entry ∷ []
own_entries_own writer entries entry own = rw (filter-append (λ (x : Entry). x.caller == writer) entries (entry ∷ []), own) refl

pub own_entries_other : (writer : ℕ) (entries : List Entry) (entry : Entry) → (entry.caller == writer) ≡ false → own_entries writer (entries ++ entry ∷ []) ≡ own_entries writer entries
own_entries_other writer entries entry other = rw (filter-append (λ (x : Entry). x.caller == writer) entries (entry ∷ []), other) (append-nil _)

pub ends_with_leave_append : (entries : List Entry) (entry : Entry) → ends_with_leave (entries ++ entry ∷ []) ≡ is_leave entry.edit
ends_with_leave_append [] entry = refl
ends_with_leave_append (first ∷ []) entry = refl
ends_with_leave_append (first ∷ second ∷ entries) entry = ends_with_leave_append (second ∷ entries) entry

pub has_left_own : (writer : ℕ) (entries : List Entry) (entry : Entry) → (entry.caller == writer) ≡ true → has_left writer (entries ++ entry ∷ []) ≡ is_leave entry.edit
has_left_own writer entries entry own = rw (own_entries_own writer entries entry own) (ends_with_leave_append (own_entries writer entries) entry)

pub has_left_other : (writer : ℕ) (entries : List Entry) (entry : Entry) → (entry.caller == writer) ≡ false → has_left writer (entries ++ entry ∷ []) ≡ has_left writer entries
has_left_other writer entries entry other = ap ends_with_leave (own_entries_other writer entries entry other)

stays_after : (source : Source) (caller : ℕ) (entry : Entry) (own : Bool) → (entry.caller == caller) ≡ own → IsIn source caller → is_leave entry.edit ≡ false → has_left caller (source.history ++ entry ∷ []) ≡ false
stays_after source caller entry true own is_in no_leave = has_left_own caller source.history entry own ∙ no_leave
stays_after source caller entry false other is_in no_leave = has_left_other caller source.history entry other ∙ is_in.stays

-- a caller that hasn't left stays in after an entry that is no leave
pub stays_in : (source : Source) (caller : ℕ) (entry : Entry) → IsIn source caller → is_leave entry.edit ≡ false → IsIn (entered source entry) caller
stays_in source caller entry is_in no_leave = record { is_writer = is_in.is_writer; stays = stays_after source caller entry (entry.caller == caller) refl is_in no_leave }

-- ---- sizes

-- a change that is made by a test keeps a content within its cap where it does so when it is made
within_if : (content : Content) (cap : ℕ) (change : Change) (made : Bool) → size_of content ≤ cap → (made ≡ true → size_of (after content change) ≤ cap) →
    size_of (option_map_or (after content) (cond made (Some change) None) content) ≤ cap
within_if content cap change true within fits = fits refl
within_if content cap change false within fits = within

within_unless : (content : Content) (cap : ℕ) (change : Change) (left : Bool) → size_of content ≤ cap → (left ≡ false → size_of (after content change) ≤ cap) →
    size_of (option_map_or (after content) (cond left None (Some change)) content) ≤ cap
within_unless content cap change true within fits = within
within_unless content cap change false within fits = fits refl

length_inserted : {X : Type 0} (xs : List X) (index most : ℕ) (found : Option X) → index ≤ length xs → length xs < most → length (inserted xs index found) ≤ most
length_inserted xs index most None within short = omega arith
length_inserted xs index most (Some x) within short = omega (arith, length-insert xs index x within)

-- a lawful difference that isn't long keeps a vector within its cap
within_applied : (xs : List ℤ) (cap : ℕ) (diff : VecDiff ℤ) → length xs ≤ cap → is_lawful diff (length xs) ≡ true → not (is_long diff (length xs) cap) ≡ true → length (applied xs diff) ≤ cap
within_applied xs cap (Replace values) within lawful short = grind (arith, nat_tests)
within_applied xs cap (InsertAt index value) within lawful short = let longer = length-insert xs index value (grind (arith, nat_tests)) in grind (arith, nat_tests)
within_applied xs cap (UpdateAt index value) within lawful short = rw (length-set xs index value) within
within_applied xs cap (RemoveAt index) within lawful short = let shorter = length-remove xs index (grind (arith, nat_tests)) in omega arith
within_applied xs cap (Move old_index new_index) within lawful short =
    let both : (nat_lt old_index (length xs) ≡ true) × (nat_lt new_index (length xs) ≡ true) = and_parts _ _ lawful in
    let shorter = length-remove xs old_index (grind (arith, nat_tests)) in
    length_inserted (remove xs old_index) new_index cap (slice_get xs old_index) (grind (arith, nat_tests)) (omega arith)
within_applied xs cap (Push value) within lawful short = let longer = length_push xs value in grind (arith, nat_tests)
within_applied xs cap Pop within lawful short = let shorter = length-take (length xs - 1) xs in omega arith
within_applied xs cap Clear within lawful short = omega arith

within_put : (entries : List (ℤ × ℤ)) (cap : ℕ) (key value : ℤ) (known room : Bool) → IsRising entries → has_key key entries ≡ known → nat_lt (length entries) cap ≡ room → length entries ≤ cap →
    size_of (option_map_or (after (Map entries)) (put_change known room key value) (Map entries)) ≤ cap
within_put entries cap key value false false rising has is within = within
within_put entries cap key value known room rising has is within =
    let size = length-put int_cmp int_cmp_total key value entries (subst T (sym rising) tt) ∙ ap (λ (test : Bool). cond test (length entries) (length entries + 1)) has in rw size (grind (arith, nat_tests))

-- an edit keeps a content within its cap
pub within_cap : (content : Content) (cap : ℕ) (edit : Edit) → IsInOrder content → size_of content ≤ cap → size_of (edited content cap edit) ≤ cap
within_cap (Cell x) cap (SetNeq y) in_order within = within_unless (Cell x) cap (Change.number y) (int_eq x y) within (λ _. within)
within_cap (Vector xs) cap (Edit.Vector diff) in_order within =
    within_if (Vector xs) cap (Change.list diff) (is_lawful diff (length xs) && not (is_long diff (length xs) cap)) within (λ made. let both = and_parts _ _ made in within_applied xs cap diff within both.0 both.1)
within_cap (Map entries) cap (Put key value) in_order within = within_put entries cap key value (has_key key entries) (nat_lt (length entries) cap) in_order refl refl within
within_cap (Map entries) cap (Delete key) in_order within =
    let others : ℤ × ℤ → Bool = λ entry. not (int_eq key entry.0) in
    within_if (Map entries) cap (Change.map (MapDiff.Remove key)) (has_key key entries) within (λ _. omega (arith, length-filter others entries, count_by-le-length others entries))
within_cap (Map entries) cap (Load others) in_order within =
    within_if (Map entries) cap (Change.map (MapDiff.Replace others)) (can_load cap others) within (λ made. let both = and_parts (is_sorted int_cmp others) (not (nat_lt cap (length others))) made in grind (arith, nat_tests))
within_cap (Map entries) cap Wipe in_order within = omega arith
within_cap content cap edit in_order within = within
