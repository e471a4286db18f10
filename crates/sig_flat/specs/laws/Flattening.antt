-- What a flattened list gives leads from the joined blocks to the joined blocks after the difference.
use Rattle.std.specs.Prelude.{◌≡◌, ℕ, suc, ◌+◌, ◌-◌, ◌<◌, ◌≤◌, ◌==◌, ℤ, pos, nat_le, max, List, [], ◌∷◌, ◌++◌, length, take, drop, remove, slice_get, slice_set, slice_index_or, Bool, true, false, if◌then◌else◌, Some, refl}
use Rattle.std.proofs.Common.{◌∙◌, ap, sym, append_assoc, arith}
use Rattle.std.proofs.lemmas.Bool.{ltb-true, leb-true, leb-false, eqb-true, eqb-false, and_parts}
use Rattle.std.proofs.lemmas.List.{append-nil, length-append, take-append-drop, drop_all, set_split, length-set, get_or-set_same, get_or-set_other}
use Rattle.std.proofs.lemmas.List.Concat.{flat_map-append}
use Rattle.std.proofs.lemmas.Option.{slice_get-get_or}
use Rattle.std.specs.List.{flat_map}
use Rattle.sig_diff.proofs.Blocks.{drop_from}
use Rattle.sig_diff.specs.declared.differences.VecDiff.{VecDiff}
use Rattle.sig_diff.specs.declared.differences.VecDiff.TheVariants.{Replace, InsertAt, UpdateAt, RemoveAt, Move, Push, Pop, Clear}
use Rattle.sig_diff.specs.Differences.{IsLawful, applied}
use Rattle.sig_diff.specs.Numbers.{class_of}
use Rattle.sig_flat.specs.laws.Blocks.{block_moves_lead, block_leads, exchange_lead}
use Rattle.sig_flat.specs.Flattening.{Blocks, bank_gives, bank_next, begins, block, block_at, block_gives, blocks_give, flattened, outer_gives, outer_next, part_at}
use Rattle.sig_flat.specs.Runs.{inserts, pushes, removes}
use Rattle.sig_flat.specs.laws.Runs.{inserts_lead, pops_lead, pushes_lead, removes_lead}
use Rattle.sig_ops.specs.Leading.{LeadsTo}
use Rattle.sig_ops.specs.laws.Leading.{leads_none, leads_one, leads_append}

-- ---- the joined blocks around a place

module _ (part : ℤ → List ℤ) (xs : List ℤ) where
  -- before the place, and from it on
  joined_at : (at : ℕ) → flat_map part xs ≡ flat_map part (take at xs) ++ flat_map part (drop at xs)
  joined_at at = rw (← (flat_map-append part (take at xs) (drop at xs)), take-append-drop) refl

  -- before the place, at it, and behind it
  joined_around : (at : ℕ) (x : ℤ) → slice_get xs at ≡ Some x → flat_map part xs ≡ flat_map part (take at xs) ++ (part x ++ flat_map part (drop (suc at) xs))
  joined_around at x found = rw (drop_from xs at x found) at (joined_at at)

  -- with an element in, with one out, and with another in its place
  joined_insert : (at : ℕ) (x : ℤ) → flat_map part (take at xs ++ (x ∷ drop at xs)) ≡ flat_map part (take at xs) ++ (part x ++ flat_map part (drop at xs))
  joined_insert at x = flat_map-append part (take at xs) (x ∷ drop at xs)

  joined_remove : (at : ℕ) → flat_map part (remove xs at) ≡ flat_map part (take at xs) ++ flat_map part (drop (suc at) xs)
  joined_remove at = flat_map-append part (take at xs) (drop (suc at) xs)

  joined_set : (at : ℕ) (x : ℤ) → at < length xs → flat_map part (slice_set xs at x) ≡ flat_map part (take at xs) ++ (part x ++ flat_map part (drop (suc at) xs))
  joined_set at x within = rw (set_split xs at x within) (flat_map-append part (take at xs) (x ∷ drop (suc at) xs))

-- ---- the outer list takes a difference

module _ (op : Blocks) where
  there : (index : ℕ) → index < length op.outer → slice_get op.outer index ≡ Some (slice_index_or op.outer index (pos 0))
  there index within = slice_get-get_or op.outer index (pos 0) within

  insert_leads : (index : ℕ) (x : ℤ) → LeadsTo (flattened op) (outer_gives op (InsertAt index x)) (flattened (outer_next op (InsertAt index x)))
  insert_leads index x =
      let front : List ℤ = flat_map (block op) (take index op.outer) in
      let back : List ℤ = flat_map (block op) (drop index op.outer) in
      rw (joined_insert (block op) op.outer index x, joined_at (block op) op.outer index) (rw (append_assoc front (block op x) back) at (inserts_lead front (block op x) back))

  remove_leads : (index : ℕ) → index < length op.outer → LeadsTo (flattened op) (outer_gives op (RemoveAt index)) (flattened (outer_next op (RemoveAt index)))
  remove_leads index within =
      let front : List ℤ = flat_map (block op) (take index op.outer) in
      let back : List ℤ = flat_map (block op) (drop (suc index) op.outer) in
      rw (joined_remove (block op) op.outer index, joined_around (block op) op.outer index _ (there index within))
      (rw (append_assoc front (block_at op index) back) at (removes_lead front (block_at op index) back))

  -- by whether the new element chooses the same block
  set_leads : (index : ℕ) (x : ℤ) → index < length op.outer → (same : Bool) → (class_of (length op.parts) (slice_index_or op.outer index (pos 0)) == class_of (length op.parts) x) ≡ same →
      LeadsTo (flattened op) (if same then [] else removes (length (block_at op index)) (begins op index) ++ inserts (begins op index) (block op x)) (flattened (outer_next op (UpdateAt index x)))
  set_leads index x within true is =
      let kept : block_at op index ≡ block op x = ap (λ place. slice_index_or op.parts place []) (eqb-true _ _ is) in
      rw (joined_set (block op) op.outer index x within, joined_around (block op) op.outer index _ (there index within), kept) (leads_none _)
  set_leads index x within false is =
      let front : List ℤ = flat_map (block op) (take index op.outer) in
      let back : List ℤ = flat_map (block op) (drop (suc index) op.outer) in
      rw (joined_set (block op) op.outer index x within, joined_around (block op) op.outer index _ (there index within))
      (exchange_lead front (block_at op index) (block op x) back)

  move_leads : (old new : ℕ) → old < length op.outer → LeadsTo (flattened op) (outer_gives op (Move old new)) (flattened (outer_next op (Move old new)))
  move_leads old new within =
      let x : ℤ = slice_index_or op.outer old (pos 0) in
      let left : List ℤ = flat_map (block op) (take old op.outer) in
      let right : List ℤ = flat_map (block op) (drop (suc old) op.outer) in
      let rest : List ℤ = remove op.outer old in
      let same = sym (joined_remove (block op) op.outer old) ∙ joined_at (block op) rest new in
      rw (there old within, joined_insert (block op) rest new x, joined_around (block op) op.outer old x (there old within))
      (block_moves_lead left (block op x) right (flat_map (block op) (take new rest)) (flat_map (block op) (drop new rest)) same)

  push_leads : (x : ℤ) → LeadsTo (flattened op) (pushes (block op x)) (flattened (outer_next op (Push x)))
  push_leads x = rw (flat_map-append (block op) op.outer (x ∷ []), append-nil (block op x)) (pushes_lead (flattened op) (block op x))

  pop_leads : 0 < length op.outer → LeadsTo (flattened op) (outer_gives op Pop) (flattened (outer_next op Pop))
  pop_leads some =
      let last : ℕ = length op.outer - 1 in
      let within : last < length op.outer = omega (arith, some) in
      let none : drop (suc last) op.outer ≡ [] = drop_all (suc last) op.outer (omega (arith, some)) in
      let whole = rw (none, append-nil) at (joined_around (block op) op.outer last _ (there last within)) in
      rw whole (pops_lead (flat_map (block op) (take last op.outer)) (block_at op last))

-- what the outer list gives for a difference that it takes
pub outer_leads : (op : Blocks) (diff : VecDiff ℤ) → IsLawful diff (length op.outer) → LeadsTo (flattened op) (outer_gives op diff) (flattened (outer_next op diff))
outer_leads op (Replace values) lawful = leads_one (flattened op) (Replace (flat_map (block op) values)) refl
outer_leads op (InsertAt index value) lawful = insert_leads op index value
outer_leads op (UpdateAt index value) lawful = set_leads op index value (ltb-true index (length op.outer) lawful) _ refl
outer_leads op (RemoveAt index) lawful = remove_leads op index (ltb-true index (length op.outer) lawful)
outer_leads op (Move old_index new_index) lawful = move_leads op old_index new_index (ltb-true old_index (length op.outer) (and_parts _ _ lawful).0)
outer_leads op (Push value) lawful = push_leads op value
outer_leads op Pop lawful = pop_leads op (ltb-true 0 (length op.outer) lawful)
outer_leads op Clear lawful = leads_one (flattened op) Clear refl

-- ---- a list of the bank takes a difference

-- where no block is shorter, all together aren't either
no_shorter : (was is : ℤ → List ℤ) → ((x : ℤ) → length (was x) ≤ length (is x)) → (xs : List ℤ) → length (flat_map was xs) ≤ length (flat_map is xs)
no_shorter was is grows [] = omega arith
no_shorter was is grows (x ∷ xs) = omega (arith, grows x, no_shorter was is grows xs, length-append (was x) (flat_map was xs), length-append (is x) (flat_map is xs))

module _ (op : Blocks) (child : ℕ) (diff : VecDiff ℤ) (within : child < length op.parts) where
  abbrev old : List ℤ
  old = part_at op child

  abbrev new : List ℤ
  new = applied old diff

  abbrev was : ℤ → List ℤ
  was = block op

  abbrev is : ℤ → List ℤ
  is = block (bank_next op child diff)

  abbrev is_of : ℤ → Bool
  is_of x = class_of (length op.parts) x == child

  -- the blocks of the class were the list, and are the list after the difference. The others stay
  part_before : (x : ℤ) → is_of x ≡ true → was x ≡ old
  part_before x it = ap (λ place. slice_index_or op.parts place []) (eqb-true _ child it)

  part_after : (x : ℤ) → is_of x ≡ true → is x ≡ new
  part_after x it = rw (length-set op.parts child new, eqb-true _ child it) (get_or-set_same op.parts child new [] within)

  part_stays : (x : ℤ) → is_of x ≡ false → is x ≡ was x
  part_stays x it = rw (length-set op.parts child new) (get_or-set_other op.parts child (class_of (length op.parts) x) new [] (eqb-false _ child it))

  -- so all blocks grow, or all shrink
  grows : length old ≤ length new → (x : ℤ) (it : Bool) → is_of x ≡ it → length (was x) ≤ length (is x)
  grows longer x true it = rw (part_before x it, part_after x it) longer
  grows longer x false it = rw (part_stays x it) (omega arith)

  shrinks : length new ≤ length old → (x : ℤ) (it : Bool) → is_of x ≡ it → length (is x) ≤ length (was x)
  shrinks shorter x true it = rw (part_before x it, part_after x it) shorter
  shrinks shorter x false it = rw (part_stays x it) (omega arith)

  -- with the first block changed the list is no longer than before, or no longer than with all changed
  first_is_short : (x : ℤ) (xs : List ℤ) (longer : Bool) → nat_le (length old) (length new) ≡ longer →
      length (is x) + length (flat_map was xs) ≤ max (length (was x) + length (flat_map was xs)) (length (is x) + length (flat_map is xs))
  first_is_short x xs true more = omega (arith, no_shorter was is (λ y. grows (leb-true _ _ more) y _ refl) xs)
  first_is_short x xs false less = let shorter = leb-false _ _ less in omega (arith, shrinks (omega (arith, shorter)) x _ refl)

  module _ (lawful : IsLawful diff (length (part_at op child))) where
    first_leads : (before : List ℤ) (x : ℤ) (after : List ℤ) (it : Bool) → is_of x ≡ it →
        LeadsTo (before ++ (was x ++ after)) (if it then block_gives (length old) (length before) diff else []) (before ++ (is x ++ after))
    first_leads before x after true it = rw (part_before x it, part_after x it) (block_leads before old after diff lawful)
    first_leads before x after false it = rw (part_stays x it) (leads_none (before ++ (was x ++ after)))

    -- behind blocks that have changed already
    blocks_lead : (before : List ℤ) (xs : List ℤ) → LeadsTo (before ++ flat_map was xs) (blocks_give op child diff (length before) xs) (before ++ flat_map is xs)
    blocks_lead before [] = leads_none (before ++ [])
    blocks_lead before (x ∷ xs) =
        let first = first_leads before x (flat_map was xs) (is_of x) refl in
        let rest = blocks_lead (before ++ is x) xs in
        leads_append (before ++ (was x ++ flat_map was xs)) (if is_of x then block_gives (length old) (length before) diff else []) (before ++ (is x ++ flat_map was xs))
        (blocks_give op child diff (length before + length (is x)) xs) (before ++ (is x ++ flat_map is xs)) first
        (rw (append_assoc before (is x) (flat_map was xs), append_assoc before (is x) (flat_map is xs), length-append before (is x)) at rest)
        (omega (
          arith,
          first_is_short x xs _ refl,
          length-append before (is x ++ flat_map was xs),
          length-append before (was x ++ flat_map was xs),
          length-append before (is x ++ flat_map is xs),
          length-append (is x) (flat_map was xs),
          length-append (was x) (flat_map was xs),
          length-append (is x) (flat_map is xs),
        ))

    -- what a list of the bank gives for a difference that it takes
    pub bank_leads : LeadsTo (flattened op) (bank_gives op child diff) (flattened (bank_next op child diff))
    bank_leads = blocks_lead [] op.outer
