-- What holds of each item still does after an edit of the list.
use Rattle.std.proofs.Common.{ℕ, suc, ◌<◌, List, [], ◌∷◌, length, take, drop, insert, remove, get_or, arith}
use Rattle.std.specs.List.{All}
use Rattle.std.proofs.lemmas.List.Elements.{All-append, All-cons, All-drop, All-get_or, All-take}
use Rattle.std.proofs.lemmas.Option.{slice_get-get_or}
use Rattle.sig_diff.specs.Differences.{moved}

module _ {X : Type 0} (P : X → Type 0) where
  pub all_insert : (xs : List X) (index : ℕ) (x : X) → P x → All P xs → All P (insert xs index x)
  all_insert xs index x one all = All-append P (take index xs) (x ∷ drop index xs) (All-take P index xs all) (All-cons P x (drop index xs) one (All-drop P index xs all))

  -- it holds of each item of the list with one less
  pub all_remove : (xs : List X) (index : ℕ) → All P xs → All P (remove xs index)
  all_remove xs index all = All-append P (take index xs) (drop (suc index) xs) (All-take P index xs all) (All-drop P (suc index) xs all)

  -- and with one moved
  pub all_moved : (xs : List X) (old_index new_index : ℕ) → old_index < length xs → All P xs → All P (moved xs old_index new_index)
  all_moved [] old_index new_index within all = absurd (omega arith)
  all_moved (x ∷ xs) old_index new_index within all =
      rw (slice_get-get_or (x ∷ xs) old_index x within)
      (all_insert (remove (x ∷ xs) old_index) new_index (get_or (x ∷ xs) old_index x) (All-get_or P (x ∷ xs) old_index x within all) (all_remove (x ∷ xs) old_index all))
