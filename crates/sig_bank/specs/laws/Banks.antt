-- What a view that chooses by signals gives leads from what it shows to what it shows after that.
use Rattle.std.specs.Prelude.{◌≡◌, ℕ, zero, suc, ◌+◌, ◌-◌, ◌<◌, ◌≤◌, ◌==◌, ◌||◌, ℤ, pos, ◌+ℤ◌, List, [], ◌∷◌, ◌++◌, length, map, filter, cond, not, insert, remove, slice_set, slice_index_or, Bool, true, false, if◌then◌else◌, None, Some, unwrap_or, refl}
use Rattle.std.proofs.Common.{◌∙◌, ap, sym, append_assoc, arith}
use Rattle.std.proofs.lemmas.Bool.{lt-ltb, le-leb, eqb-true, eqb-false}
use Rattle.std.proofs.lemmas.Bool.Decides.{Decides-int_eq}
use Rattle.std.proofs.lemmas.Grind.{common_steps}
use Rattle.std.proofs.lemmas.List.Edits.{remove-append_right}
use Rattle.std.proofs.lemmas.List.{nil_from_length, length-append, length-set, get_or-set_same, get_or-set_other, set-get_or}
use Rattle.std.proofs.Math.Seq.{set-append_seam}
use Rattle.std.specs.Ordering.{int_eq}
use Rattle.sig_bank.specs.Banks.{BySignals, Choice, bank_next, list_at, signals_next, switch_next}
use Rattle.sig_bank.specs.Tables.{changing, chooses, comes_or_goes, filter_by_signal, has_class, isnt_zero, map_by_signal, pick_gives, picked_gives, switch_gives, flipping, where_it_differs}
use Rattle.sig_diff.specs.Choosing.{chooses_same, chosen, is_let_in, list_for, raised_by, signal_for}
use Rattle.sig_diff.specs.Differences.{IsLawful, applied}
use Rattle.sig_diff.specs.Numbers.{class_of, clamped}
use Rattle.sig_diff.specs.declared.differences.VecDiff.{VecDiff}
use Rattle.sig_diff.specs.declared.differences.VecDiff.TheVariants.{Replace, InsertAt, UpdateAt, RemoveAt}
use Rattle.sig_ops.specs.Leading.{LeadsTo}
use Rattle.sig_ops.specs.Tables.{if_so}
use Rattle.sig_ops.specs.laws.Leading.{leads_none, leads_one, leads_append}

-- ---- one part of a bank changes

-- what numbers have, before and after: those of a class had one thing and have another, and the others have what they had
record ChangesAt {A : Type 0} (in_class : ℤ → Bool) (was is : ℤ → A) (old new : A) : Type 0 where
  before : (x : ℤ) → in_class x ≡ true → was x ≡ old
  after : (x : ℤ) → in_class x ≡ true → is x ≡ new
  elsewhere : (x : ℤ) → in_class x ≡ false → was x ≡ is x

-- where a part of a bank changes, it does for the numbers of its class
part_changes : {A : Type 0} (parts : List A) (child : ℕ) (part default : A) → child < length parts →
    ChangesAt (has_class (length parts) child) (λ x. chosen parts x default) (λ x. chosen (slice_set parts child part) x default) (slice_index_or parts child default) part
part_changes parts child part default within = record {
  before = λ x is. ap (λ place. slice_index_or parts place default) (eqb-true _ child is);
  after = λ x is. rw (length-set parts child part, eqb-true _ child is) (get_or-set_same parts child part default within);
  elsewhere = λ x is. rw (length-set parts child part) (sym (get_or-set_other parts child (class_of (length parts) x) part default (eqb-false _ child is)));
}

-- and for what is made of it
made_changes : {A B : Type 0} (made : A → B) (in_class : ℤ → Bool) (was is : ℤ → A) (old new : A) → ChangesAt in_class was is old new →
    ChangesAt in_class (λ x. made (was x)) (λ x. made (is x)) (made old) (made new)
made_changes made in_class was is old new changes = record {
  before = λ x it. ap made (changes.before x it);
  after = λ x it. ap made (changes.after x it);
  elsewhere = λ x it. ap made (changes.elsewhere x it);
}

-- ---- differences behind the first elements of a list

-- behind any first elements, what is given for so many of them leads from the list ys to zs
abbrev LeadsToBehind : List ℤ → (ℕ → List (VecDiff ℤ)) → List ℤ → Type 0
LeadsToBehind ys gives zs = (front : List ℤ) → LeadsTo (front ++ ys) (gives (length front)) (front ++ zs)

behind_one : (x : ℤ) (ys : List ℤ) (gives : ℕ → List (VecDiff ℤ)) (zs : List ℤ) → LeadsToBehind ys gives zs → (front : List ℤ) → LeadsTo (front ++ x ∷ ys) (gives (length front + 1)) (front ++ x ∷ zs)
behind_one x ys gives zs rest front =
    let there = rest (front ++ x ∷ []) in
    rw (append_assoc front (x ∷ []) ys, append_assoc front (x ∷ []) zs, length-append front (x ∷ [])) at there

module _ (x : ℤ) (ys : List ℤ) (gives : ℕ → List (VecDiff ℤ)) (zs : List ℤ) (rest : LeadsToBehind ys gives zs) where
  -- an element that comes in, goes or stays as it was
  flip_first : (flips passes : Bool) → (flips ≡ true → passes ≡ true → length ys ≤ length zs) →
      LeadsToBehind (cond (if flips then not passes else passes) (x ∷ ys) ys) (λ place. comes_or_goes flips passes place x ++ gives (if passes then place + 1 else place)) (cond passes (x ∷ zs) zs)
  flip_first true true short front =
      let more : length ys ≤ length zs = short refl refl in
      let comes : insert (front ++ ys) (length front) x ≡ front ++ x ∷ ys = grind (arith, common_steps) in
      let lead : LeadsTo (front ++ ys) (InsertAt (length front) x ∷ []) (front ++ x ∷ ys) = rw (← comes) (leads_one (front ++ ys) (InsertAt (length front) x) (le-leb _ _ (omega (arith, length-append front ys)))) in
      leads_append (front ++ ys) (InsertAt (length front) x ∷ []) (front ++ x ∷ ys) (gives (length front + 1)) (front ++ x ∷ zs) lead (behind_one x ys gives zs rest front)
      (omega (arith, more, length-append front (x ∷ ys), length-append front (x ∷ zs)))
  flip_first true false short front =
      let none : length front - length front ≡ 0 = omega arith in
      let goes : remove (front ++ x ∷ ys) (length front) ≡ front ++ ys = rw none at (remove-append_right front (x ∷ ys) (length front) (length front) refl (omega arith)) in
      let lead : LeadsTo (front ++ x ∷ ys) (RemoveAt (length front) ∷ []) (front ++ ys) = rw (← goes) (leads_one (front ++ x ∷ ys) (RemoveAt (length front)) (lt-ltb _ _ (omega (arith, length-append front (x ∷ ys))))) in
      leads_append (front ++ x ∷ ys) (RemoveAt (length front) ∷ []) (front ++ ys) (gives (length front)) (front ++ zs) lead (rest front)
      (omega (arith, length-append front ys, length-append front (x ∷ ys)))
  flip_first false true short front = behind_one x ys gives zs rest front
  flip_first false false short front = rest front

  -- an element that changes or stays as it was
  change_first : (changes : Bool) (old : ℤ) → (changes ≡ false → old ≡ x) → LeadsToBehind (old ∷ ys) (λ place. if_so changes (UpdateAt place x) ++ gives (place + 1)) (x ∷ zs)
  change_first true old same front =
      let lead : LeadsTo (front ++ old ∷ ys) (UpdateAt (length front) x ∷ []) (front ++ x ∷ ys) =
      rw (← (set-append_seam front old ys x)) (leads_one (front ++ old ∷ ys) (UpdateAt (length front) x) (lt-ltb _ _ (omega (arith, length-append front (old ∷ ys))))) in
      leads_append (front ++ old ∷ ys) (UpdateAt (length front) x ∷ []) (front ++ x ∷ ys) (gives (length front + 1)) (front ++ x ∷ zs) lead (behind_one x ys gives zs rest front)
      (omega (arith, length-append front (x ∷ ys), length-append front (old ∷ ys)))
  change_first false old same front = rw (same refl) (behind_one x ys gives zs rest front)

-- ---- a filter by signals

longer : (x : ℤ) (ys zs : List ℤ) (was is : Bool) → (was ≡ true → is ≡ true) → length ys ≤ length zs → length (cond was (x ∷ ys) ys) ≤ length (cond is (x ∷ zs) zs)
longer x ys zs true true kept more = omega (arith, more)
longer x ys zs true false kept more = let none : false ≡ true = kept refl in cc
longer x ys zs false true kept more = omega (arith, more)
longer x ys zs false false kept more = more

-- where what passed still passes, no fewer elements do
filter_more : (was is : ℤ → Bool) → ((x : ℤ) → was x ≡ true → is x ≡ true) → (xs : List ℤ) → length (filter was xs) ≤ length (filter is xs)
filter_more was is kept [] = omega arith
filter_more was is kept (x ∷ xs) = longer x (filter was xs) (filter is xs) (was x) (is x) (kept x) (filter_more was is kept xs)

flipped : (flips was is old new : Bool) → old ≡ not new → (flips ≡ true → was ≡ old) → (flips ≡ true → is ≡ new) → (flips ≡ false → was ≡ is) → was ≡ (if flips then not is else is)
flipped true was is old new differs before after elsewhere = rw (before refl, after refl) differs
flipped false was is old new differs before after elsewhere = elsewhere refl

same_at : {A : Type 0} (flips : Bool) (was is old : A) → (flips ≡ true → was ≡ old) → (flips ≡ true → is ≡ old) → (flips ≡ false → was ≡ is) → was ≡ is
same_at true was is old before after elsewhere = before refl ∙ sym (after refl)
same_at false was is old before after elsewhere = elsewhere refl

passes_too : (flips was is new : Bool) → was ≡ (if flips then not is else is) → (flips ≡ true → is ≡ new) → new ≡ true → was ≡ true → is ≡ true
passes_too true was is new differs after new_passes passed = after refl ∙ new_passes
passes_too false was is new differs after new_passes passed = sym differs ∙ passed

module _ (flips was is : ℤ → Bool) (new : Bool) (differs : (x : ℤ) → was x ≡ (if flips x then not (is x) else is x)) (after : (x : ℤ) → flips x ≡ true → is x ≡ new) where
  flipping_leads : (xs : List ℤ) → LeadsToBehind (filter was xs) (λ place. flipping is flips place xs) (filter is xs)
  flipping_leads [] front = leads_none (front ++ [])
  flipping_leads (x ∷ xs) front =
      rw (differs x)
      (flip_first x (filter was xs) (λ place. flipping is flips place xs) (filter is xs) (flipping_leads xs) (flips x) (is x)
      (λ it passes. filter_more was is (λ y. passes_too (flips y) (was y) (is y) new (differs y) (after y) (sym (after x it) ∙ passes)) xs) front)

module _ (flips was is : ℤ → Bool) (xs : List ℤ) where
  class_leads : (old new : Bool) → old ≡ not new → ChangesAt flips was is old new → LeadsTo (filter was xs) (flipping is flips 0 xs) (filter is xs)
  class_leads old new differs changes =
      flipping_leads flips was is new (λ x. flipped (flips x) (was x) (is x) old new differs (changes.before x) (changes.after x) (changes.elsewhere x)) changes.after xs []

  class_stays : (old : Bool) → ChangesAt flips was is old old → LeadsTo (filter was xs) [] (filter is xs)
  class_stays old changes =
      let same : filter was xs ≡ filter is xs = λ i. filter (λ x. same_at (flips x) (was x) (is x) old (changes.before x) (changes.after x) (changes.elsewhere x) i) xs in
      rw same (leads_none (filter is xs))

  filtered_leads : (old new : Bool) → ChangesAt flips was is old new → LeadsTo (filter was xs) (where_it_differs old new (flipping is flips 0 xs)) (filter is xs)
  filtered_leads true true changes = class_stays true changes
  filtered_leads true false changes = class_leads true false refl changes
  filtered_leads false true changes = class_leads false true refl changes
  filtered_leads false false changes = class_stays false changes

-- a signal of a filter goes to a value
pub filter_by_signal_leads : (op : BySignals) (child : ℕ) (value : ℤ) → child < length op.signals →
    LeadsTo (filter (is_let_in op.signals) op.items) (filter_by_signal op child value) (filter (is_let_in (signals_next op child value).signals) op.items)
filter_by_signal_leads op child value within =
    filtered_leads _ _ _ op.items _ _ (made_changes isnt_zero _ _ _ _ _ (part_changes op.signals child value (pos 0) within))

-- ---- a map by signals

changing_leads : (changes : ℤ → Bool) (was is : ℤ → ℤ) → ((x : ℤ) → changes x ≡ false → was x ≡ is x) → (xs : List ℤ) → LeadsToBehind (map was xs) (λ place. changing is changes place xs) (map is xs)
changing_leads changes was is elsewhere [] front = leads_none (front ++ [])
changing_leads changes was is elsewhere (x ∷ xs) front =
    change_first (is x) (map was xs) (λ place. changing is changes place xs) (map is xs) (changing_leads changes was is elsewhere xs) (changes x) (was x) (elsewhere x) front

mapped_leads : (op : BySignals) (child : ℕ) (value : ℤ) (same : Bool) → int_eq (slice_index_or op.signals child (pos 0)) value ≡ same → child < length op.signals →
    LeadsTo (map (raised_by op.signals) op.items)
    (if same then [] else changing (raised_by (slice_set op.signals child value)) (has_class (length op.signals) child) 0 op.items)
    (map (raised_by (slice_set op.signals child value)) op.items)
mapped_leads op child value true is within =
    let kept : slice_index_or op.signals child (pos 0) ≡ value = grind (arith, Decides-int_eq) in
    let signals : slice_set op.signals child value ≡ op.signals = rw (← kept) (set-get_or op.signals child (pos 0)) in
    rw signals (leads_none (map (raised_by op.signals) op.items))
mapped_leads op child value false is within =
    let changes = part_changes op.signals child value (pos 0) within in
    changing_leads (has_class (length op.signals) child) (raised_by op.signals) (raised_by (slice_set op.signals child value))
    (λ x not_it. ap (λ signal. clamped (x +ℤ signal)) (changes.elsewhere x not_it)) op.items []

-- a signal of a map goes to a value
pub map_by_signal_leads : (op : BySignals) (child : ℕ) (value : ℤ) → child < length op.signals →
    LeadsTo (map (raised_by op.signals) op.items) (map_by_signal op child value) (map (raised_by (signals_next op child value).signals) op.items)
map_by_signal_leads op child value within = mapped_leads op child value _ refl within

-- ---- one of a bank

-- by whether the bank is empty
chosen_by : {A : Type 0} (parts : List A) (was is : ℤ) (default : A) (none : Bool) → (length parts == 0) ≡ none → (none || (class_of (length parts) was == class_of (length parts) is)) ≡ true → chosen parts was default ≡ chosen parts is default
chosen_by parts was is default true empty same = rw (nil_from_length parts (eqb-true (length parts) 0 empty)) refl
chosen_by parts was is default false empty same = ap (λ place. slice_index_or parts place default) (eqb-true _ _ same)

same_chosen : {A : Type 0} (parts : List A) (was is : ℤ) (default : A) → chooses_same (length parts) was is ≡ true →
    chosen parts was default ≡ chosen parts is default
same_chosen parts was is default same = chosen_by parts was is default (length parts == 0) refl same

replaced_leads : (parts : List (List ℤ)) (was is : ℤ) (same : Bool) → chooses_same (length parts) was is ≡ same →
    LeadsTo (list_for parts was) (if same then [] else Replace (list_for parts is) ∷ []) (list_for parts is)
replaced_leads parts was is true same = rw (same_chosen parts was is [] same) (leads_none (list_for parts is))
replaced_leads parts was is false same = leads_one (list_for parts was) (Replace (list_for parts is)) refl

-- the chooser of a pick goes to a value
pub pick_gives_leads : (op : Choice (List ℤ)) (value : ℤ) → LeadsTo (list_for op.parts op.chooser) (pick_gives op value) (list_for op.parts value)
pick_gives_leads op value = replaced_leads op.parts op.chooser value _ refl

passed_on_leads : (op : Choice (List ℤ)) (child : ℕ) (diff : VecDiff ℤ) (it : Bool) → chooses op.parts op.chooser child ≡ it → child < length op.parts → IsLawful diff (length (list_at op child)) →
    LeadsTo (list_for op.parts op.chooser) (if_so it diff) (list_for (bank_next op child diff).parts op.chooser)
passed_on_leads op child diff true it within lawful =
    let changes = part_changes op.parts child (applied (list_at op child) diff) [] within in
    rw (changes.before op.chooser it, changes.after op.chooser it) (leads_one (list_at op child) diff lawful)
passed_on_leads op child diff false it within lawful =
    let changes = part_changes op.parts child (applied (list_at op child) diff) [] within in
    rw (← (changes.elsewhere op.chooser it)) (leads_none (list_for op.parts op.chooser))

-- a list of the bank takes a difference
pub picked_gives_leads : (op : Choice (List ℤ)) (child : ℕ) (diff : VecDiff ℤ) → child < length op.parts → IsLawful diff (length (list_at op child)) →
    LeadsTo (list_for op.parts op.chooser) (picked_gives op child diff) (list_for (bank_next op child diff).parts op.chooser)
picked_gives_leads op child diff within lawful = passed_on_leads op child diff _ refl within lawful

chosen_value : (parts : List ℤ) (was is : ℤ) (same : Bool) → chooses_same (length parts) was is ≡ same →
    unwrap_or (if same then None else Some (signal_for parts is)) (signal_for parts was) ≡ signal_for parts is
chosen_value parts was is true same = same_chosen parts was is (pos 0) same
chosen_value parts was is false same = refl

set_value : (op : Choice ℤ) (child : ℕ) (value : ℤ) (it : Bool) → chooses op.parts op.chooser child ≡ it → child < length op.parts →
    unwrap_or (if it then Some value else None) (signal_for op.parts op.chooser) ≡ signal_for (slice_set op.parts child value) op.chooser
set_value op child value true it within = sym ((part_changes op.parts child value (pos 0) within).after op.chooser it)
set_value op child value false it within = (part_changes op.parts child value (pos 0) within).elsewhere op.chooser it

-- the chooser or a signal of a switch goes to a value: what it gives, or else what it last showed, is what it shows
pub switch_gives_value : (op : Choice ℤ) (child : ℕ) (value : ℤ) → child ≤ length op.parts →
    unwrap_or (switch_gives op child value) (signal_for op.parts op.chooser) ≡ signal_for (switch_next op child value).parts (switch_next op child value).chooser
switch_gives_value op zero value within = chosen_value op.parts op.chooser value _ refl
switch_gives_value op (suc child) value within = set_value op child value _ refl (omega (arith, within))
