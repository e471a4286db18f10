-- Entries with the replies of their content tell what they changed.
use Rattle.std.proofs.Common.{◌≡◌, ◌∙◌, ℕ, ℤ, List, [], ◌∷◌, ◌++◌, length, take, drop, filter_map, zero, suc, cond, Bool, true, false, not, ◌&&◌, ◌||◌, nat_lt, Option, None, Some, is_some, refl, sym, ap, ap₂}
use Rattle.std.specs.List.{cons_option, list_any}
use Rattle.std.specs.Option.{option_and_then, option_map_or, option_to_list}
use Rattle.std.specs.Ordering.{int_eq}
use Rattle.sig_diff.specs.Contents.{kind_of}
use Rattle.sig_diff.specs.Differences.{is_lawful}
use Rattle.sig_diff.specs.Entries.{value_at}
use Rattle.sig_diff.specs.declared.contents.Content.{Content}
use Rattle.sig_diff.specs.declared.contents.Content.TheVariants.{Cell, Vector, Map}
use Rattle.sig_diff.specs.declared.contents.Kind.{Kind}
use Rattle.sig_diff.specs.declared.differences.VecDiff.{VecDiff}
use Rattle.sig_diff.specs.declared.differences.VecDiff.TheVariants.{UpdateAt, RemoveAt, Pop}
use Rattle.sig_diff.specs.declared.map_differences.MapDiff.{MapDiff}
use Rattle.sig_hist.specs.Changes.{Change, after, answer_to, can_load, change_of, edited, is_long, put_change, put_reply, reply_to}
use Rattle.sig_hist.specs.Entering.{all_entering, as_list, as_map, as_number, entering_from, is_far, latest, value_entering}
use Rattle.sig_hist.specs.Histories.{changes_by, state, IsLegal}
use Rattle.sig_hist.specs.Sources.{Source, content_of}
use Rattle.sig_hist.specs.ByReplies.{replied_entering, replied_list, replied_map, replied_number, replied_put, took_effect}
use Rattle.sig_hist.specs.declared.edits.Edit.{Edit}
use Rattle.sig_hist.specs.declared.edits.Edit.TheVariants.{SetNeq, Put, Delete, Load}
use Rattle.sig_hist.specs.declared.edits.Entry.{Entry}
use Rattle.sig_hist.specs.declared.edits.Reply.{Reply}
use Rattle.sig_hist.specs.declared.edits.Reply.TheVariants.{Absent, Fine, Long, OutOfRange, Same, Was}
use Rattle.sig_hist.specs.declared.ports.Entering.{Entering}
use Rattle.sig_hist.specs.declared.ports.Entering.TheVariants as entering

-- ---- a content keeps its kind

kind_after : (content : Content) (change : Change) → kind_of (after content change) ≡ kind_of content
kind_after (Cell x) (Change.number y) = refl
kind_after (Vector xs) (Change.list diff) = refl
kind_after (Map entries) (Change.map diff) = refl
kind_after content change = refl

kind_changed : (content : Content) (change : Option Change) → kind_of (option_map_or (after content) change content) ≡ kind_of content
kind_changed content None = refl
kind_changed content (Some change) = kind_after content change

pub kind_edited : (content : Content) (cap : ℕ) (edit : Edit) → kind_of (edited content cap edit) ≡ kind_of content
kind_edited content cap edit = kind_changed content (change_of content cap edit)

pub kind_state : (content : Content) (cap : ℕ) (entries : List Entry) → kind_of (state content cap entries) ≡ kind_of content
kind_state content cap [] = refl
kind_state content cap (entry ∷ entries) = kind_state (edited content cap entry.edit) cap entries ∙ kind_edited content cap entry.edit

-- ---- one entry

number_told : (x y : ℤ) (same : Bool) → option_and_then as_number (cond same None (Some (Change.number y))) ≡ cond (took_effect (cond same Same (Was x))) (Some y) None
number_told x y true = refl
number_told x y false = refl

number_of : (content : Content) (cap : ℕ) (edit : Edit) → kind_of content ≡ Kind.Cell → option_and_then as_number (change_of content cap edit) ≡ replied_number edit (reply_to content cap edit)
number_of (Cell x) cap (SetNeq y) is = number_told x y (int_eq x y)
number_of (Cell x) cap edit is = refl
number_of content cap edit is = cc

answer_told : (xs : List ℤ) (diff : VecDiff ℤ) → took_effect (answer_to xs diff) ≡ true
answer_told xs (UpdateAt index value) = refl
answer_told xs (RemoveAt index) = refl
answer_told xs Pop = refl
answer_told xs diff = refl

list_told : (lawful long : Bool) (n : ℕ) (diff : VecDiff ℤ) (answer : Reply) → took_effect answer ≡ true →
    option_and_then as_list (cond (lawful && not long) (Some (Change.list diff)) None) ≡ cond (took_effect (cond lawful (cond long (Long n) answer) (OutOfRange n))) (Some diff) None
list_told true true n diff answer effect = refl
list_told true false n diff answer effect = rw effect refl
list_told false long n diff answer effect = refl

list_of : (content : Content) (cap : ℕ) (edit : Edit) → kind_of content ≡ Kind.Vector → option_and_then as_list (change_of content cap edit) ≡ replied_list edit (reply_to content cap edit)
list_of (Vector xs) cap (Edit.Vector diff) is = list_told (is_lawful diff (length xs)) (is_long diff (length xs) cap) (length xs) diff (answer_to xs diff) (answer_told xs diff)
list_of (Vector xs) cap edit is = refl
list_of content cap edit is = cc

put_told : (found : Option ℤ) (room : Bool) (key value : ℤ) (n : ℕ) → option_and_then as_map (put_change (is_some found) room key value) ≡ replied_put key value (put_reply found room n)
put_told (Some old) room key value n = refl
put_told None true key value n = refl
put_told None false key value n = refl

delete_told : (found : Option ℤ) (key : ℤ) → option_and_then as_map (cond (is_some found) (Some (Change.map (MapDiff.Remove key))) None) ≡ cond (took_effect (option_map_or Was found Absent)) (Some (MapDiff.Remove key)) None
delete_told (Some old) key = refl
delete_told None key = refl

load_told : (fits : Bool) (others : List (ℤ × ℤ)) (n : ℕ) → option_and_then as_map (cond fits (Some (Change.map (MapDiff.Replace others))) None) ≡ cond (took_effect (cond fits Fine (Long n))) (Some (MapDiff.Replace others)) None
load_told true others n = refl
load_told false others n = refl

map_of : (content : Content) (cap : ℕ) (edit : Edit) → kind_of content ≡ Kind.Map → option_and_then as_map (change_of content cap edit) ≡ replied_map edit (reply_to content cap edit)
map_of (Map entries) cap (Put key value) is = put_told (value_at key entries) (nat_lt (length entries) cap) key value (length entries)
map_of (Map entries) cap (Delete key) is = delete_told (value_at key entries) key
map_of (Map entries) cap (Load others) is = load_told (can_load cap others) others (length entries)
map_of (Map entries) cap edit is = refl
map_of content cap edit is = cc

-- ---- many entries

first_told : {D : Type 0} (part : Change → Option D) (change : Option Change) (changes : List Change) → filter_map part (option_to_list change ++ changes) ≡ cons_option (option_and_then part change) (filter_map part changes)
first_told part None changes = refl
first_told part (Some change) changes = refl

all_told : {D : Type 0} (kind : Kind) (part : Change → Option D) (told : Edit → Reply → Option D) (cap : ℕ) →
    ((content : Content) (edit : Edit) → kind_of content ≡ kind → option_and_then part (change_of content cap edit) ≡ told edit (reply_to content cap edit)) →
    (content : Content) (entries : List Entry) → kind_of content ≡ kind → IsLegal content cap entries →
    filter_map part (changes_by content cap entries) ≡ filter_map (λ (entry : Entry). told entry.edit entry.reply) entries
all_told kind part told cap one content [] is legal = refl
all_told kind part told cap one content (entry ∷ entries) is legal =
    first_told part (change_of content cap entry.edit) _
    ∙ ap₂ cons_option (one content entry.edit is ∙ ap (told entry.edit) (sym legal.0)) (all_told kind part told cap one (edited content cap entry.edit) entries (kind_edited content cap entry.edit ∙ is) legal.1)

last_told : {X : Type 0} (told : X → Option ℤ) (xs : List X) (last : ℤ) → value_entering (latest (filter_map told xs) last) ≡ cond (list_any (λ (x : X). is_some (told x)) xs) (entering.Value last) entering.Nothing
last_told told [] last = refl
last_told told (x ∷ xs) last = elim (told x) as (λ first. value_entering (latest (cons_option first (filter_map told xs)) last) ≡ cond (is_some first || list_any (λ x. is_some (told x)) xs) (entering.Value last) entering.Nothing) [
  | None ↦ last_told told xs last
  | Some y ↦ refl
]

-- ---- what enters

far_told : {X : Type 0} (enters : X → Entering) (far : Bool) (x y : X) → cond far (enters x) (enters y) ≡ enters (cond far x y)
far_told enters true x y = refl
far_told enters false x y = refl

entering_told : (before after : Content) (cap : ℕ) (passed : List Entry) → after ≡ state before cap passed → kind_of after ≡ kind_of before → IsLegal before cap passed → replied_entering after passed ≡ all_entering before cap passed
entering_told (Cell x) (Cell y) cap passed is kind legal =
    rw (← is, all_told Kind.Cell as_number replied_number cap (λ content. number_of content cap) (Cell x) passed refl legal) (sym (last_told _ passed y))
entering_told (Vector xs) (Vector ys) cap passed is kind legal =
    rw (← is, all_told Kind.Vector as_list replied_list cap (λ content. list_of content cap) (Vector xs) passed refl legal) (far_told entering.Vector (is_far passed) _ _)
entering_told (Map entries) (Map others) cap passed is kind legal =
    rw (← is, all_told Kind.Map as_map replied_map cap (λ content. map_of content cap) (Map entries) passed refl legal) (far_told entering.Map (is_far passed) _ _)
entering_told before after cap passed is kind legal = cc

-- ---- the end of a history

legal_drop : (content : Content) (cap : ℕ) (entries : List Entry) (at : ℕ) → IsLegal content cap entries → IsLegal (state content cap (take at entries)) cap (drop at entries)
legal_drop content cap entries zero legal = legal
legal_drop content cap [] (suc at) legal = tt
legal_drop content cap (entry ∷ entries) (suc at) legal = legal_drop (edited content cap entry.edit) cap entries at legal.1

pub state_split : (content : Content) (cap : ℕ) (entries : List Entry) (at : ℕ) → state (state content cap (take at entries)) cap (drop at entries) ≡ state content cap entries
state_split content cap entries zero = refl
state_split content cap [] (suc at) = refl
state_split content cap (entry ∷ entries) (suc at) = state_split (edited content cap entry.edit) cap entries at

pub entering_is : (source : Source) (position : ℕ) → IsLegal source.plan.start source.plan.cap source.history → replied_entering (content_of source) (drop position source.history) ≡ entering_from source (Some position)
entering_is source position legal =
    let before : Content = state source.plan.start source.plan.cap (take position source.history) in
    let passed : List Entry = drop position source.history in
    let is : content_of source ≡ state before source.plan.cap passed = sym (state_split source.plan.start source.plan.cap source.history position) in
    entering_told before (content_of source) source.plan.cap passed is (ap kind_of is ∙ kind_state before source.plan.cap passed) (legal_drop source.plan.start source.plan.cap source.history position legal)
