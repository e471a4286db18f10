-- Where what a block in the middle of a list gives leads, where it moves, and where it takes a difference.
use Rattle.std.specs.Prelude.{◌≡◌, ℕ, ◌+◌, ◌-◌, ◌<◌, ◌≤◌, ◌==◌, ℤ, nat_lt, List, [], ◌∷◌, ◌++◌, length, take, drop, insert, remove, slice_get, slice_set, Bool, true, false, if◌then◌else◌, Some, refl}
use Rattle.std.proofs.Common.{◌∙◌, ap, sym, append_assoc, arith}
use Rattle.std.proofs.lemmas.Bool.{lt-ltb, le-leb, ltb-true, ltb-false, leb-true, eqb-true, and_parts}
use Rattle.std.proofs.lemmas.List.{append-nil, length-append, take_at, drop_at, drop_all, set-append_left, set-append_right}
use Rattle.std.proofs.lemmas.List.Edits.{insert_end, insert-append_left, insert-append_right, remove-append_left, remove-append_right}
use Rattle.sig_diff.proofs.Filtered.{remove_last}
use Rattle.sig_diff.specs.declared.differences.VecDiff.{VecDiff}
use Rattle.sig_diff.specs.declared.differences.VecDiff.TheVariants.{Replace, InsertAt, UpdateAt, RemoveAt, Move, Push, Pop, Clear}
use Rattle.sig_diff.specs.Differences.{IsLawful, applied, moved}
use Rattle.sig_flat.specs.Flattening.{block_gives, block_moves, same_moves, shifts}
use Rattle.sig_flat.specs.Runs.{inserts, removes}
use Rattle.sig_flat.specs.laws.Runs.{inserts_lead, removes_lead}
use Rattle.sig_flat.specs.laws.Joining.{moved_left, moved_right}
use Rattle.sig_ops.specs.Leading.{LeadsTo}
use Rattle.sig_ops.specs.laws.Leading.{leads_none, leads_one, leads_append}

-- ---- an element moves

-- the list xs, with what was before and behind its element at a place now before and behind another place
move_is : {T : Type 0} (left right p q : List T) (x : T) → left ++ right ≡ p ++ q → moved (left ++ (x ∷ right)) (length left) (length p) ≡ p ++ (x ∷ q)
move_is left right p q x same =
    let found : slice_get (left ++ (x ∷ right)) (length left) ≡ Some x = at_end left right x in
    let gone : remove (left ++ (x ∷ right)) (length left) ≡ p ++ q = without left right x ∙ same in
    rw (found, gone, take_at p q (length p) refl, drop_at p q (length p) refl) refl
  where
    at_end : {T : Type 0} (left right : List T) (x : T) → slice_get (left ++ (x ∷ right)) (length left) ≡ Some x
    at_end [] right x = refl
    at_end (y ∷ left) right x = at_end left right x

    without : {T : Type 0} (left right : List T) (x : T) → remove (left ++ (x ∷ right)) (length left) ≡ left ++ right
    without [] right x = refl
    without (y ∷ left) right x = ap (λ xs. y ∷ xs) (without left right x)

move_one : (left right p q : List ℤ) (x : ℤ) → left ++ right ≡ p ++ q → LeadsTo (left ++ (x ∷ right)) (Move (length left) (length p) ∷ []) (p ++ (x ∷ q))
move_one left right p q x same =
    let long : length (left ++ right) ≡ length (p ++ q) = ap length same in
    let old : length left < length (left ++ (x ∷ right)) = omega (arith, length-append left (x ∷ right)) in
    let new : length p < length (left ++ (x ∷ right)) = omega (arith, long, length-append left right, length-append p q, length-append left (x ∷ right)) in
    let move : VecDiff ℤ = Move (length left) (length p) in
    let lawful : IsLawful move (length (left ++ (x ∷ right))) = rw (lt-ltb _ _ old, lt-ltb _ _ new) refl in
    rw (move_is left right p q x same) at (leads_one (left ++ (x ∷ right)) move lawful)

-- ---- a block moves

-- a list that is put together in two ways
further : {T : Type 0} (left right p q : List T) → left ++ right ≡ p ++ q → length left ≤ length p →
    (p ≡ left ++ drop (length left) p) × (right ≡ drop (length left) p ++ q)
further [] right p q same short = (refl, same)
further (x ∷ left) right [] q same short = absurd (omega (arith, short))
further (x ∷ left) right (y ∷ p) q same short =
    let first : x ≡ y = cc in
    let rest : left ++ right ≡ p ++ q = cc in
    let parts = further left right p q rest (omega (arith, short)) in
    (rw first (ap (λ ys. y ∷ ys) parts.0), parts.1)

-- element by element from its front, each to the last place
same_moves_lead : (before block middle after : List ℤ) (from to : ℕ) → from ≡ length before → to ≡ length before + length middle + length block - 1 →
    LeadsTo (before ++ (block ++ (middle ++ after))) (same_moves (length block) from to) (before ++ (middle ++ (block ++ after)))
same_moves_lead before [] middle after from to at goes = leads_none (before ++ (middle ++ after))
same_moves_lead before (x ∷ block) middle after from to at goes =
    let p : List ℤ = before ++ (block ++ middle) in
    let place : to ≡ length p = omega (arith, goes, length-append before (block ++ middle), length-append block middle) in
    let same : before ++ (block ++ (middle ++ after)) ≡ p ++ after = rw (append_assoc before (block ++ middle) after, append_assoc block middle after) refl in
    let first : LeadsTo (before ++ (x ∷ (block ++ (middle ++ after)))) (Move from to ∷ []) (before ++ (block ++ ((middle ++ (x ∷ [])) ++ after))) =
    rw (at, place, append_assoc middle (x ∷ []) after) (rw (append_assoc before (block ++ middle) (x ∷ after), append_assoc block middle (x ∷ after)) at (move_one before (block ++ (middle ++ after)) p after x same)) in
    let rest : LeadsTo (before ++ (block ++ ((middle ++ (x ∷ [])) ++ after))) (same_moves (length block) from to) (before ++ (middle ++ (x ∷ (block ++ after)))) =
    rw (append_assoc middle (x ∷ []) (block ++ after)) at (same_moves_lead before block (middle ++ (x ∷ [])) after from to at (omega (arith, goes, length-append middle (x ∷ [])))) in
    leads_append (before ++ (x ∷ (block ++ (middle ++ after)))) (Move from to ∷ []) (before ++ (block ++ ((middle ++ (x ∷ [])) ++ after))) (same_moves (length block) from to) (before ++ (middle ++ (x ∷ (block ++ after))))
    first rest
    (omega (
      arith,
      length-append before (x ∷ (block ++ (middle ++ after))),
      length-append before (block ++ ((middle ++ (x ∷ [])) ++ after)),
      length-append block (middle ++ after),
      length-append block ((middle ++ (x ∷ [])) ++ after),
      length-append middle after,
      length-append (middle ++ (x ∷ [])) after,
      length-append middle (x ∷ []),
    ))

-- element by element, each one place further
shifts_lead : (before block middle after : List ℤ) (from to : ℕ) → from ≡ length before + length middle → to ≡ length before →
    LeadsTo (before ++ (middle ++ (block ++ after))) (shifts (length block) from to) (before ++ (block ++ (middle ++ after)))
shifts_lead before [] middle after from to at goes = leads_none (before ++ (middle ++ after))
shifts_lead before (x ∷ block) middle after from to at goes =
    let left : List ℤ = before ++ middle in
    let place : from ≡ length left = omega (arith, at, length-append before middle) in
    let same : left ++ (block ++ after) ≡ before ++ (middle ++ (block ++ after)) = append_assoc before middle (block ++ after) in
    let next : List ℤ = before ++ (x ∷ []) in
    let long : length next ≡ length before + 1 = length-append before (x ∷ []) in
    let first : LeadsTo (before ++ (middle ++ (x ∷ (block ++ after)))) (Move from to ∷ []) (before ++ (x ∷ (middle ++ (block ++ after)))) =
    rw (place, goes) (rw (append_assoc before middle (x ∷ (block ++ after))) at (move_one left (block ++ after) before (middle ++ (block ++ after)) x same)) in
    let rest : LeadsTo (before ++ (x ∷ (middle ++ (block ++ after)))) (shifts (length block) (from + 1) (to + 1)) (before ++ (x ∷ (block ++ (middle ++ after)))) =
    rw (append_assoc before (x ∷ []) (middle ++ (block ++ after)), append_assoc before (x ∷ []) (block ++ (middle ++ after))) at (shifts_lead next block middle after (from + 1) (to + 1) (omega (arith, at, long)) (omega (arith, goes, long))) in
    leads_append (before ++ (middle ++ (x ∷ (block ++ after)))) (Move from to ∷ []) (before ++ (x ∷ (middle ++ (block ++ after)))) (shifts (length block) (from + 1) (to + 1)) (before ++ (x ∷ (block ++ (middle ++ after))))
    first rest
    (omega (arith, length-append before (middle ++ (x ∷ (block ++ after))), length-append before (x ∷ (middle ++ (block ++ after))), length-append middle (x ∷ (block ++ after)), length-append middle (block ++ after)))

module _ (left block right p q : List ℤ) (same : left ++ right ≡ p ++ q) where
  block_stays : length p ≡ length left → LeadsTo (left ++ (block ++ right)) [] (p ++ (block ++ q))
  block_stays long =
      let parts = further left right p q same (omega (arith, long)) in
      let none : drop (length left) p ≡ [] = drop_all (length left) p (omega (arith, long)) in
      let lefts : p ≡ left = rw (none, append-nil left) at parts.0 in
      let rights : right ≡ q = rw none at parts.1 in
      rw (lefts, rights) (leads_none (left ++ (block ++ q)))

  block_up : length left < length p → LeadsTo (left ++ (block ++ right)) (same_moves (length block) (length left) (length p + length block - 1)) (p ++ (block ++ q))
  block_up longer =
      let parts = further left right p q same (omega (arith, longer)) in
      let middle : List ℤ = drop (length left) p in
      let long : length p ≡ length left + length middle = ap length parts.0 ∙ length-append left middle in
      let lead = same_moves_lead left block middle q (length left) (length p + length block - 1) refl (omega (arith, long)) in
      rw (parts.1) (rw (← (append_assoc left middle (block ++ q)), ← parts.0) at lead)

  block_down : length p ≤ length left → LeadsTo (left ++ (block ++ right)) (shifts (length block) (length left) (length p)) (p ++ (block ++ q))
  block_down shorter =
      let parts = further p q left right (sym same) shorter in
      let middle : List ℤ = drop (length p) left in
      let long : length left ≡ length p + length middle = ap length parts.0 ∙ length-append p middle in
      let lead = shifts_lead p block middle right (length left) (length p) long refl in
      rw (parts.1) (rw (← (append_assoc p middle (block ++ right)), ← parts.0) at lead)

  moves_by : (stays up : Bool) → (length p == length left) ≡ stays → nat_lt (length left) (length p) ≡ up →
      LeadsTo (left ++ (block ++ right)) (if stays then [] else (if up then same_moves (length block) (length left) (length p + length block - 1) else shifts (length block) (length left) (length p))) (p ++ (block ++ q))
  moves_by true up is ups = block_stays (eqb-true (length p) (length left) is)
  moves_by false true is ups = block_up (ltb-true (length left) (length p) ups)
  moves_by false false is ups = block_down (ltb-false (length left) (length p) ups)

  -- a block moves to a place, which is counted without it
  pub block_moves_lead : LeadsTo (left ++ (block ++ right)) (block_moves (length block) (length left) (length p)) (p ++ (block ++ q))
  block_moves_lead = moves_by (length p == length left) (nat_lt (length left) (length p)) refl refl

-- ---- a block takes a difference

-- a block goes, and another comes in its place
pub exchange_lead : (before old new after : List ℤ) → LeadsTo (before ++ (old ++ after)) (removes (length old) (length before) ++ inserts (length before) new) (before ++ (new ++ after))
exchange_lead before old new after =
    let goes = rw (append_assoc before old after) at (removes_lead before old after) in
    let comes = rw (append_assoc before new after) at (inserts_lead before new after) in
    leads_append (before ++ (old ++ after)) (removes (length old) (length before)) (before ++ after) (inserts (length before) new) (before ++ (new ++ after)) goes comes
    (omega (arith, length-append before after, length-append before (old ++ after), length-append old after))

module _ (before part after : List ℤ) where
  -- places within the block, counted from the list's first element
  behind : (index : ℕ) → length before + index - length before ≡ index
  behind index = omega arith

  whole_length : length (before ++ (part ++ after)) ≡ length before + (length part + length after)
  whole_length = length-append before (part ++ after) ∙ ap (λ n. length before + n) (length-append part after)

  insert_within : (index : ℕ) (x : ℤ) → index ≤ length part → insert (before ++ (part ++ after)) (length before + index) x ≡ before ++ (insert part index x ++ after)
  insert_within index x within =
      insert-append_right before (part ++ after) (length before) (length before + index) x refl (omega arith)
      ∙ rw (behind index, insert-append_left part after index x within) refl

  remove_within : (index : ℕ) → index < length part → remove (before ++ (part ++ after)) (length before + index) ≡ before ++ (remove part index ++ after)
  remove_within index within =
      remove-append_right before (part ++ after) (length before) (length before + index) refl (omega arith)
      ∙ rw (behind index, remove-append_left part after index within) refl

  set_within : (index : ℕ) (x : ℤ) → index < length part → slice_set (before ++ (part ++ after)) (length before + index) x ≡ before ++ (slice_set part index x ++ after)
  set_within index x within =
      set-append_right before (part ++ after) (length before) (length before + index) x refl (omega arith)
      ∙ rw (behind index, set-append_left part after index x within) refl

  insert_lead : (index : ℕ) (x : ℤ) → index ≤ length part → LeadsTo (before ++ (part ++ after)) (InsertAt (length before + index) x ∷ []) (before ++ (insert part index x ++ after))
  insert_lead index x within =
      rw (← (insert_within index x within)) (leads_one (before ++ (part ++ after)) (InsertAt (length before + index) x) (le-leb _ _ (omega (arith, within, whole_length))))

  remove_lead : (index : ℕ) → index < length part → LeadsTo (before ++ (part ++ after)) (RemoveAt (length before + index) ∷ []) (before ++ (remove part index ++ after))
  remove_lead index within =
      rw (← (remove_within index within)) (leads_one (before ++ (part ++ after)) (RemoveAt (length before + index)) (lt-ltb _ _ (omega (arith, within, whole_length))))

  set_lead : (index : ℕ) (x : ℤ) → index < length part → LeadsTo (before ++ (part ++ after)) (UpdateAt (length before + index) x ∷ []) (before ++ (slice_set part index x ++ after))
  set_lead index x within =
      rw (← (set_within index x within)) (leads_one (before ++ (part ++ after)) (UpdateAt (length before + index) x) (lt-ltb _ _ (omega (arith, within, whole_length))))

  moved_within : (old new : ℕ) → old < length part → new < length part → moved (before ++ (part ++ after)) (length before + old) (length before + new) ≡ before ++ (moved part old new ++ after)
  moved_within old new within new_within = moved_right before (part ++ after) old new ∙ ap (λ ys. before ++ ys) (moved_left part after old new within new_within)

  move_lead : (old new : ℕ) → old < length part → new < length part → LeadsTo (before ++ (part ++ after)) (Move (length before + old) (length before + new) ∷ []) (before ++ (moved part old new ++ after))
  move_lead old new within new_within =
      let from : length before + old < length (before ++ (part ++ after)) = omega (arith, within, whole_length) in
      let to : length before + new < length (before ++ (part ++ after)) = omega (arith, new_within, whole_length) in
      let move : VecDiff ℤ = Move (length before + old) (length before + new) in
      let lawful : IsLawful move (length (before ++ (part ++ after))) = rw (lt-ltb _ _ from, lt-ltb _ _ to) refl in
      rw (← (moved_within old new within new_within)) (leads_one (before ++ (part ++ after)) move lawful)

  pop_lead : 0 < length part → LeadsTo (before ++ (part ++ after)) (RemoveAt (length before + length part - 1) ∷ []) (before ++ (take (length part - 1) part ++ after))
  pop_lead some =
      let place : length before + length part - 1 ≡ length before + (length part - 1) = omega (arith, some) in
      rw (place, ← (remove_last part)) (remove_lead (length part - 1) (omega (arith, some)))

  -- a block takes a difference
  pub block_leads : (diff : VecDiff ℤ) → IsLawful diff (length part) → LeadsTo (before ++ (part ++ after)) (block_gives (length part) (length before) diff) (before ++ (applied part diff ++ after))
  block_leads (Replace values) lawful = exchange_lead before part values after
  block_leads (InsertAt index value) lawful = insert_lead index value (leb-true index (length part) lawful)
  block_leads (UpdateAt index value) lawful = set_lead index value (ltb-true index (length part) lawful)
  block_leads (RemoveAt index) lawful = remove_lead index (ltb-true index (length part) lawful)
  block_leads (Move old_index new_index) lawful =
      let both = and_parts _ _ lawful in
      move_lead old_index new_index (ltb-true old_index (length part) both.0) (ltb-true new_index (length part) both.1)
  block_leads (Push value) lawful = rw (← (insert_end part value)) (insert_lead (length part) value (omega arith))
  block_leads Pop lawful = pop_lead (ltb-true 0 (length part) lawful)
  block_leads Clear lawful = rw (append_assoc before part after) at (removes_lead before part after)
