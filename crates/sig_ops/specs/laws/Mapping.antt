-- What a map gives for a difference leads from the mapped list to the mapped list after the difference.
use Rattle.std.specs.Prelude.{◌≡◌, List, [], ◌∷◌, length, map, refl}
use Rattle.std.proofs.Common.{◌≤◌, sym, arith}
use Rattle.std.proofs.lemmas.List.{length-map, map-append}
use Rattle.sig_diff.specs.declared.differences.VecDiff.{VecDiff}
use Rattle.sig_diff.specs.declared.differences.VecDiff.TheVariants.{Replace, InsertAt, UpdateAt, RemoveAt, Move, Push, Pop, Clear}
use Rattle.sig_diff.specs.Differences.{IsLawful, applied}
use Rattle.sig_diff.proofs.Images.{map_insert, map_remove, map_slice_set, map_take_last, map_moved}
use Rattle.sig_ops.specs.Leading.{LeadsTo}
use Rattle.sig_ops.specs.Tables.{map_gives}
use Rattle.sig_ops.specs.laws.Leading.{leads_one}
use Rattle.sig_ops.specs.Following.{after_all, CanFollow}

module _ {T U : Type 0} (f : T → U) where
  one : (xs : List T) (diff : VecDiff T) (given : VecDiff U) → IsLawful given (length (map f xs)) → applied (map f xs) given ≡ map f (applied xs diff) → LeadsTo (map f xs) (given ∷ []) (map f (applied xs diff))
  one xs diff given lawful is = rw (← is) (leads_one (map f xs) given lawful)

  -- what the map gives for a difference that the list takes
  pub map_leads : (xs : List T) (diff : VecDiff T) → IsLawful diff (length xs) → LeadsTo (map f xs) (map_gives f diff) (map f (applied xs diff))
  map_leads xs (Replace values) lawful = leads_one (map f xs) (Replace (map f values)) refl
  map_leads xs (InsertAt index value) lawful = one xs (InsertAt index value) (InsertAt index (f value)) (rw (length-map xs f) lawful) (sym (map_insert f xs index value))
  map_leads xs (UpdateAt index value) lawful = one xs (UpdateAt index value) (UpdateAt index (f value)) (rw (length-map xs f) lawful) (sym (map_slice_set f xs index value))
  map_leads xs (RemoveAt index) lawful = one xs (RemoveAt index) (RemoveAt index) (rw (length-map xs f) lawful) (sym (map_remove f xs index))
  map_leads xs (Move old_index new_index) lawful = one xs (Move old_index new_index) (Move old_index new_index) (rw (length-map xs f) lawful) (sym (map_moved f xs old_index new_index))
  map_leads xs (Push value) lawful = one xs (Push value) (Push (f value)) refl (sym (map-append f xs (value ∷ [])))
  map_leads xs Pop lawful = one xs Pop Pop (rw (length-map xs f) lawful) (sym (map_take_last f xs))
  map_leads xs Clear lawful = leads_one (map f xs) Clear refl

  -- the mapped list is as long
  pub map_is_short : (xs : List T) → length (map f xs) ≤ length xs
  map_is_short xs = omega (arith, length-map xs f)

module _ {M T : Type 0} where
  -- after differences a map is as it was
  pub map_after_all : (mapper : M) (diffs : List (VecDiff T)) → after_all (λ mapper diff. mapper) mapper diffs ≡ mapper
  map_after_all mapper [] = refl
  map_after_all mapper (diff ∷ diffs) = map_after_all mapper diffs

  -- a map can follow any differences
  pub map_can_follow : (can_call : M → Type 0) (mapper : M) (diffs : List (VecDiff T)) → can_call mapper → CanFollow (λ mapper diff. mapper) (λ mapper diff. can_call mapper) mapper diffs
  map_can_follow can_call mapper [] can = tt
  map_can_follow can_call mapper (diff ∷ diffs) can = (can, map_can_follow can_call mapper diffs can)
