-- Views that show one part of a bank: the chooser has gone on, and then the chosen part.
use Rattle.std.proofs.Common.{ℤ, Option, None, get_or, ◌≡◌, ℕ, zero, suc, List, [], ◌∷◌, length, false, refl, sym, ap, Some, pos, slice_set, ap₂}
use Rattle.std.specs.Option.{unwrap_or}
use Rattle.sig_diff.specs.declared.contents.Content.{Content}
use Rattle.sig_expr.proofs.Awaiting.{sig_among, sig_part_among, vec_among, vec_part_among}
use Rattle.sig_expr.specs.Awaited.{each_sig_awaits, each_vec_awaits}
use Rattle.sig_expr.specs.Leaves.{sig_leaves, sigs_leaves, vec_leaves, vecs_leaves}
use Rattle.sig_expr.specs.Evaluation.{list_of, signals_of, lists_of, value_of}
use Rattle.sig_expr.specs.Trees.{SigTrees, VecTrees, no_signals, more_signals, no_lists, more_lists}
use Rattle.sig_hist.specs.Ports.{PortState}
use Rattle.sig_hist.specs.Sources.{AreDistinct, is_among}
use Rattle.sig_nodes.proofs.Parts.{Part, FirstGone, BothGone, signal_part, holds_at, gone_by, first_held, first_ahead, first_holds, distinct_back, none_of_both, none_of_first, not_among_fewer}
use Rattle.sig_nodes.proofs.Standing.{signal_stands}
use Rattle.sig_nodes.specs.Nodes.{SignalOps, signal_tree, SignalStands}
use Rattle.sig_nodes.specs.Steps.{SignalGone}
use Rattle.sig_ops.specs.Signals.{given}
use Rattle.sig_rows.proofs.Along.{each_agrees, same_list, same_lists, same_signals, same_value}
use Rattle.sig_rows.proofs.GoingAlong.{goes}
use Rattle.sig_rows.proofs.Reaching.{signal_reaches}
use Rattle.sig_walk.specs.Walking.{Progress}

-- ---- the part at a place

-- where a part of a bank is the one at the place, and the others' leaves hold what they held
abbrev pub set_given : List ℤ → ℕ → Option ℤ → List ℤ
set_given values place None = values
set_given values place (Some value) = slice_set values place value

module _ (s t : ℕ → Content) where
  abbrev Stays : List ℕ → Type 0
  Stays walked = (leaf : ℕ) → is_among leaf walked ≡ false → s leaf ≡ t leaf

  set_nothing : (place : ℕ) (given : Option ℤ) → [] ≡ set_given [] place given
  set_nothing place None = refl
  set_nothing place (Some value) = refl

  set_first : (was is : ℤ) (values : List ℤ) (given : Option ℤ) → is ≡ unwrap_or given was → is ∷ values ≡ set_given (was ∷ values) 0 given
  set_first was is values None same = rw same refl
  set_first was is values (Some value) same = rw same refl

  set_later : (was : ℤ) (values news : List ℤ) (place : ℕ) (given : Option ℤ) → news ≡ set_given values place given → was ∷ news ≡ set_given (was ∷ values) (suc place) given
  set_later was values news place None same = rw same refl
  set_later was values news place (Some value) same = rw same refl

  -- of the signals of a bank only the one at the place has gone on
  pub kept_signals : (bank : SigTrees ℕ) (place : ℕ) (given : Option ℤ) → AreDistinct (sigs_leaves bank) → Stays (get_or (each_sig_awaits t bank) place []) →
      get_or (signals_of t bank) place (pos 0) ≡ unwrap_or given (get_or (signals_of s bank) place (pos 0)) → signals_of t bank ≡ set_given (signals_of s bank) place given
  kept_signals no_signals place given distinct stays goes = set_nothing place given
  kept_signals (more_signals e bank) zero given distinct stays goes =
      let rest : signals_of t bank ≡ signals_of s bank =
      sym (same_signals s t bank (each_agrees s t (sigs_leaves bank) (λ leaf among. stays leaf (not_among_fewer (sig_among t e) leaf (none_of_first (sig_leaves e) (sigs_leaves bank) distinct leaf among))))) in
      rw rest (set_first (value_of s e) (value_of t e) (signals_of s bank) given goes)
  kept_signals (more_signals e bank) (suc place) given distinct stays goes =
      let first : value_of t e ≡ value_of s e =
      sym (same_value s t e (each_agrees s t (sig_leaves e) (λ leaf among. stays leaf (not_among_fewer (sig_part_among t bank place) leaf (none_of_both (sig_leaves e) (sigs_leaves bank) distinct leaf among))))) in
      rw first (set_later (value_of s e) (signals_of s bank) (signals_of t bank) place given (kept_signals bank place given (distinct_back (sig_leaves e) (sigs_leaves bank) distinct) stays goes))

  -- and of the lists of a bank
  pub kept_lists : (bank : VecTrees ℕ) (place : ℕ) → AreDistinct (vecs_leaves bank) → Stays (get_or (each_vec_awaits t bank) place []) →
      lists_of t bank ≡ slice_set (lists_of s bank) place (get_or (lists_of t bank) place [])
  kept_lists no_lists place distinct stays = refl
  kept_lists (more_lists e bank) zero distinct stays =
      ap (λ (rest : List (List ℤ)). list_of t e ∷ rest)
      (sym (same_lists s t bank (each_agrees s t (vecs_leaves bank) (λ leaf among. stays leaf (not_among_fewer (vec_among t e) leaf (none_of_first (vec_leaves e) (vecs_leaves bank) distinct leaf among))))))
  kept_lists (more_lists e bank) (suc place) distinct stays =
      ap₂ (λ (first : List ℤ) (rest : List (List ℤ)). first ∷ rest)
      (sym (same_list s t e (each_agrees s t (vec_leaves e) (λ leaf among. stays leaf (not_among_fewer (vec_part_among t bank place) leaf (none_of_both (vec_leaves e) (vecs_leaves bank) distinct leaf among))))))
      (kept_lists bank place (distinct_back (vec_leaves e) (vecs_leaves bank) distinct) stays)

-- ---- lengths

module _ {L : Type 0} (s : L → Content) where
  pub as_many_signals : (bank : SigTrees L) → length (each_sig_awaits s bank) ≡ length (signals_of s bank)
  as_many_signals no_signals = refl
  as_many_signals (more_signals e bank) = ap suc (as_many_signals bank)

  pub as_many_lists : (bank : VecTrees L) → length (each_vec_awaits s bank) ≡ length (lists_of s bank)
  as_many_lists no_lists = refl
  as_many_lists (more_lists e bank) = ap suc (as_many_lists bank)

-- ---- the chooser

module _ {s t : PortState} {old mid : Progress} {of after : SignalOps} {value : Option ℤ} (first : SignalGone s t old mid of after value) where
  -- the chooser's value is the one that it gives, or the one that it had
  pub chooser_is : {more : List ℕ} → FirstGone (signal_part (signal_tree of)) more s t old mid value → (chooser : ℤ) → chooser ≡ value_of (holds_at s old) (signal_tree of) →
      value_of (holds_at t mid) (signal_tree of) ≡ unwrap_or value chooser
  chooser_is one chooser was = rw (was, first.flow, ← first_held one) (signal_reaches (gone_by t old mid) (first_ahead one) (signal_tree of))

  module _ {More : Type 0} {other : Part More} {u : PortState} {new : Progress} {more : More} (both : BothGone (signal_part (signal_tree of)) other s t u old mid new value more) where
    pub same_chooser : value_of (holds_at t mid) (signal_tree of) ≡ value_of (holds_at u new) (signal_tree of)
    same_chooser = same_value _ _ (signal_tree of) (first_holds both)

    pub still_stands : SignalStands (holds_at u new) after
    still_stands = signal_stands _ _ after (rw first.tree (first_holds both)) first.stands
