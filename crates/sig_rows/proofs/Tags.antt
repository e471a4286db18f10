-- Elements with tags along differences of their list.
use Rattle.std.proofs.Common.{◌≡◌, ◌∙◌, ℕ, ◌+◌, ℤ, List, [], ◌∷◌, ◌++◌, length, Some, refl, sym, ap, ap₂, arith}
use Rattle.std.proofs.lemmas.List.{length-map}
use Rattle.std.proofs.lemmas.List.Sums.{fold-append}
use Rattle.sig_diff.specs.Differences.{applied}
use Rattle.sig_diff.specs.Replaying.{AreLawful, replayed}
use Rattle.sig_diff.specs.declared.contents.Tagged.{Tagged}
use Rattle.sig_diff.specs.declared.differences.VecDiff.{VecDiff}
use Rattle.sig_diff.specs.declared.differences.VecDiff.TheVariants.{Replace, InsertAt, UpdateAt, RemoveAt, Move, Push, Pop, Clear}
use Rattle.sig_ops.specs.laws.Enumerating.{enumerate_all_given, enumerate_follows, values_from}
use Rattle.sig_ops.specs.Enumerating.{Enumeration, IsEnumeration, enumerate_gives, enumeration_next, made, tagged_from, values_of}
use Rattle.sig_ops.specs.Following.{after_all, all_given}
use Rattle.sig_rows.proofs.Entered.{Reaches}
use Rattle.sig_rows.specs.SoundRows.{TagsDiffer, all_made}

pub as_many_tags : (first : ℕ) (values : List ℤ) → length (tagged_from first values) ≡ length values
as_many_tags first values = sym (length-map (tagged_from first values) (λ (element : Tagged). element.value)) ∙ ap length (values_from first values)

-- as many elements are made with tags as without
made_with_tags : (op : Enumeration) (diff : VecDiff ℤ) → all_made (enumerate_gives op diff) ≡ made diff
made_with_tags op (Replace values) = omega (arith, as_many_tags op.next values)
made_with_tags op (InsertAt index value) = refl
made_with_tags op (UpdateAt index value) = refl
made_with_tags op (RemoveAt index) = refl
made_with_tags op (Move old_index new_index) = refl
made_with_tags op (Push value) = refl
made_with_tags op Pop = refl
made_with_tags op Clear = refl

made_append : {T : Type 0} (diffs more : List (VecDiff T)) → all_made (diffs ++ more) ≡ all_made diffs + all_made more
made_append [] more = omega arith
made_append (diff ∷ diffs) more = omega (arith, made_append diffs more)

abbrev shown_by : List Tagged → ℕ → Enumeration
shown_by elements next = record { elements = elements; next = next }

-- what is given with tags shows the elements after it, and makes as many as there are tags more
pub tags_follow : (op : Enumeration) (diffs : List (VecDiff ℤ)) → let given : List (VecDiff Tagged) = all_given enumeration_next enumerate_gives op diffs in
    shown_by (replayed op.elements given) (op.next + all_made given) ≡ after_all enumeration_next op diffs
tags_follow op [] = ap (shown_by op.elements) (omega arith)
tags_follow op (diff ∷ diffs) =
    let first : List (VecDiff Tagged) = enumerate_gives op diff in
    let rest : List (VecDiff Tagged) = all_given enumeration_next enumerate_gives (enumeration_next op diff) diffs in
    ap₂ shown_by (fold-append applied op.elements first rest) (omega (arith, made_append first rest, made_with_tags op diff))
    ∙ tags_follow (enumeration_next op diff) diffs

-- the elements after differences that lead from their list to another are those of the other
module _ (op : Enumeration) (from to : List ℤ) (diffs : List (VecDiff ℤ)) (stands : IsEnumeration op from) (reaches : Reaches from diffs to) where
  pub tags_lawful : AreLawful op.elements (all_given enumeration_next enumerate_gives op diffs)
  tags_lawful = (enumerate_all_given op from diffs stands reaches.lawful).0

  pub tags_stand : IsEnumeration (after_all enumeration_next op diffs) to
  tags_stand = rw (← reaches.replay) (enumerate_follows op from diffs stands reaches.lawful).stands

  pub tags_replay : values_of (replayed op.elements (all_given enumeration_next enumerate_gives op diffs)) ≡ to
  tags_replay = ap (λ (op : Enumeration). values_of op.elements) (tags_follow op diffs) ∙ tags_stand.values

  pub tags_differ : TagsDiffer (Some (after_all enumeration_next op diffs))
  tags_differ = record { values = refl; distinct = tags_stand.distinct; given_out = tags_stand.given_out }
