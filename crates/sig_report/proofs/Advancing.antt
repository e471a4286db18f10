-- The positions to which a poll goes: each awaited leaf is at the end of its source's history, and the others have stayed.
use Rattle.std.proofs.Common.{◌≡◌, ◌∙◌, ℕ, zero, suc, ◌+◌, ◌<◌, ◌≤◌, List, [], ◌∷◌, ◌++◌, length, slice_index, Bool, true, false, if◌then◌else◌, ◌⊎◌, inl, inr, refl, sym, ap, append_assoc, arith}
use Rattle.std.proofs.lemmas.Bool.{cases_lt}
use Rattle.std.proofs.lemmas.List.{append-nil, ext_get_or, get_or_append_left, get_or_past, length-append}
use Rattle.sig_expr.specs.Trees.{ViewTree}
use Rattle.sig_hist.specs.Plain.{no_source}
use Rattle.sig_hist.specs.Sources.{Source}
use Rattle.sig_report.proofs.Numbering.{LooksBelow}
use Rattle.sig_report.specs.Playing.{advanced}
use Rattle.sig_hist.specs.Ways.{state_at, AreWithin, GoOn, contents_at, leaf_source}
use Rattle.sig_rows.specs.SoundRows.{is_awaited}

-- where a leaf goes from a position: to the end of its source's history if it is awaited
abbrev goes_to : List Source → ℕ → ℕ → Bool → ℕ
goes_to sources leaf position awaited = if awaited then length (leaf_source sources leaf).history else position

-- each leaf that is awaited at the last is at the end of its source's history, and another is where it was
pub record HasAdvanced (view : ViewTree ℕ) (sources : List Source) (from at : List ℕ) : Type 0 where
  pub same_length : length at ≡ length from
  pub each : (leaf : ℕ) → leaf < length from → slice_index at leaf ≡ (if is_awaited view sources at leaf then length (leaf_source sources leaf).history else slice_index from leaf)

module _ (view : ViewTree ℕ) (looks : LooksBelow view) (sources : List Source) where
  -- a leaf is awaited or not by the positions below it
  same_awaited : (at others : List ℕ) (leaf : ℕ) → ((below : ℕ) → below < leaf → slice_index at below ≡ slice_index others below) → is_awaited view sources at leaf ≡ is_awaited view sources others leaf
  same_awaited at others leaf same = looks (contents_at sources at) (contents_at sources others) leaf (λ below within. ap (state_at (leaf_source sources below)) (same below within))

  -- ---- the fold

  -- the leaves behind those that have gone are where they are to go
  record GoBehind (gone rest at : List ℕ) : Type 0 where
    more : List ℕ
    is : at ≡ gone ++ more
    count : length more ≡ length rest
    each : (place : ℕ) → place < length rest → slice_index more place ≡ goes_to sources (length gone + place) (slice_index rest place) (is_awaited view sources at (length gone + place))

  module _ (gone : List ℕ) (position : ℕ) (rest : List ℕ) where
    abbrev next : ℕ
    next = goes_to sources (length gone) position (is_awaited view sources (gone ++ position ∷ rest) (length gone))

    next_is : (at more : List ℕ) → at ≡ gone ++ more → next ≡ goes_to sources (length gone + 0) position (is_awaited view sources at (length gone + 0))
    next_is at more is =
        let here : length gone ≡ length gone + 0 = omega arith in
        let same = same_awaited (gone ++ position ∷ rest) at (length gone) (λ below within.
        get_or_append_left gone (position ∷ rest) 0 below within ∙ sym (get_or_append_left gone more 0 below within) ∙ ap (λ positions. slice_index positions below) (sym is)) in
        ap (goes_to sources (length gone) position) same ∙ ap (λ leaf. goes_to sources leaf position (is_awaited view sources at leaf)) here

    each_goes : (at : List ℕ) (later : GoBehind (gone ++ next ∷ []) rest at) (place : ℕ) → place < suc (length rest) →
        slice_index (next ∷ later.more) place ≡ goes_to sources (length gone + place) (slice_index (position ∷ rest) place) (is_awaited view sources at (length gone + place))
    each_goes at later zero within = next_is at (next ∷ later.more) (later.is ∙ append_assoc gone (next ∷ []) later.more)
    each_goes at later (suc place) within =
        let here : length (gone ++ next ∷ []) + place ≡ length gone + suc place = omega (arith, length-append gone (next ∷ [])) in
        later.each place (omega arith) ∙ ap (λ leaf. goes_to sources leaf (slice_index rest place) (is_awaited view sources at leaf)) here

    next_goes : (at : List ℕ) → GoBehind (gone ++ next ∷ []) rest at → GoBehind gone (position ∷ rest) at
    next_goes at later = record { more = next ∷ later.more; is = later.is ∙ append_assoc gone (next ∷ []) later.more; count = ap suc later.count; each = each_goes at later }

  all_go : (gone rest : List ℕ) → GoBehind gone rest (advanced view sources gone rest)
  all_go gone [] = record { more = []; is = sym (append-nil gone); count = refl; each = λ place within. absurd (omega arith) }
  all_go gone (position ∷ rest) = next_goes gone position rest _ (all_go (gone ++ next gone position rest ∷ []) rest)

  pub advanced_has : (from : List ℕ) → HasAdvanced view sources from (advanced view sources [] from)
  advanced_has from =
      let go = all_go [] from in
      record {
        same_length = ap length go.is ∙ go.count;
        each = λ leaf within.
            let here : 0 + leaf ≡ leaf = omega arith in
            ap (λ positions. slice_index positions leaf) go.is ∙ go.each leaf within ∙ ap (λ there. goes_to sources there (slice_index from leaf) (is_awaited view sources (advanced view sources [] from) there)) here;
      }

  same_below : (from at others : List ℕ) (n : ℕ) → HasAdvanced view sources from at → HasAdvanced view sources from others → n ≤ length from → (leaf : ℕ) → leaf < n → slice_index at leaf ≡ slice_index others leaf
  same_below from at others zero has other within leaf below = absurd (omega arith)
  same_below from at others (suc n) has other within leaf below =
      let same = same_awaited at others leaf (λ there inside. same_below from at others n has other (omega arith) there (omega arith)) in
      has.each leaf (omega arith) ∙ ap (goes_to sources leaf (slice_index from leaf)) same ∙ sym (other.each leaf (omega arith))

  -- there is one place to go to
  pub advanced_only : (from at : List ℕ) → HasAdvanced view sources from at → at ≡ advanced view sources [] from
  advanced_only from at has =
      let is = advanced_has from in
      ext_get_or 0 at (advanced view sources [] from) (has.same_length ∙ sym is.same_length) (λ leaf within. same_below from at _ (length from) has is (omega arith) leaf (omega (arith, has.same_length)))

-- ---- positions that have advanced

-- one position for each source, and none past the end of its history
pub record AreInside (sources : List Source) (at : List ℕ) : Type 0 where
  pub count : length at ≡ length sources
  pub each : (leaf : ℕ) → slice_index at leaf ≤ length (leaf_source sources leaf).history

pub inside_is_within : (sources : List Source) (at : List ℕ) → AreInside sources at → AreWithin sources at
inside_is_within [] [] is = tt
inside_is_within [] (position ∷ at) is = absurd (omega (arith, is.count))
inside_is_within (source ∷ sources) [] is = absurd (omega (arith, is.count))
inside_is_within (source ∷ sources) (position ∷ at) is = (is.each 0, inside_is_within sources at (record { count = omega (arith, is.count); each = λ leaf. is.each (suc leaf) }))

go_on_each : (from at : List ℕ) → length at ≡ length from → ((leaf : ℕ) → slice_index from leaf ≤ slice_index at leaf) → GoOn from at
go_on_each [] [] count each = tt
go_on_each [] (position ∷ at) count each = absurd (omega (arith, count))
go_on_each (position ∷ from) [] count each = absurd (omega (arith, count))
go_on_each (position ∷ from) (next ∷ at) count each = (each 0, go_on_each from at (omega (arith, count)) (λ leaf. each (suc leaf)))

module _ (view : ViewTree ℕ) (sources : List Source) (from at : List ℕ) (inside : AreInside sources from) (has : HasAdvanced view sources from at) where
  -- where there is no source there is no history, and position 0
  nowhere : (leaf : ℕ) (awaited : Bool) → length from ≤ leaf → 0 ≡ goes_to sources leaf (slice_index from leaf) awaited
  nowhere leaf true past = ap (λ (source : Source). length source.history) (sym (get_or_past sources leaf no_source (omega (arith, inside.count))))
  nowhere leaf false past = sym (get_or_past from leaf 0 past)

  each_by : (leaf : ℕ) → (leaf < length from) ⊎ (length from ≤ leaf) → slice_index at leaf ≡ goes_to sources leaf (slice_index from leaf) (is_awaited view sources at leaf)
  each_by leaf (inl within) = has.each leaf within
  each_by leaf (inr past) = get_or_past at leaf 0 (omega (arith, has.same_length)) ∙ nowhere leaf _ past

  each_leaf : (leaf : ℕ) → slice_index at leaf ≡ goes_to sources leaf (slice_index from leaf) (is_awaited view sources at leaf)
  each_leaf leaf = each_by leaf (cases_lt leaf (length from))

  pub awaited_at_end : (leaf : ℕ) → is_awaited view sources at leaf ≡ true → slice_index at leaf ≡ length (leaf_source sources leaf).history
  awaited_at_end leaf awaited = each_leaf leaf ∙ ap (goes_to sources leaf (slice_index from leaf)) awaited

  pub others_stay : (leaf : ℕ) → is_awaited view sources at leaf ≡ false → slice_index at leaf ≡ slice_index from leaf
  others_stay leaf unawaited = each_leaf leaf ∙ ap (goes_to sources leaf (slice_index from leaf)) unawaited

  between : (leaf position : ℕ) (awaited : Bool) → position ≡ goes_to sources leaf (slice_index from leaf) awaited → (slice_index from leaf ≤ position) × (position ≤ length (leaf_source sources leaf).history)
  between leaf position true is = let far = inside.each leaf in (omega (arith, is), omega (arith, is))
  between leaf position false is = let far = inside.each leaf in (omega (arith, is), omega (arith, is))

  pub none_falls : (leaf : ℕ) → slice_index from leaf ≤ slice_index at leaf
  none_falls leaf = (between leaf _ _ (each_leaf leaf)).0

  pub still_inside : AreInside sources at
  still_inside = record { count = has.same_length ∙ inside.count; each = λ leaf. (between leaf _ _ (each_leaf leaf)).1 }

  pub all_go_on : GoOn from at
  all_go_on = go_on_each from at has.same_length none_falls

  settled : (leaf position : ℕ) (awaited : Bool) → position ≡ goes_to sources leaf (slice_index from leaf) awaited → position ≡ goes_to sources leaf position awaited
  settled leaf position true is = is
  settled leaf position false is = refl

  -- where it has advanced to it stays
  pub stays_there : HasAdvanced view sources at at
  stays_there = record { same_length = refl; each = λ leaf within. settled leaf (slice_index at leaf) _ (each_leaf leaf) }

at_end : (sources : List Source) (leaf position : ℕ) (awaited : Bool) → position ≡ length (leaf_source sources leaf).history → position ≡ goes_to sources leaf position awaited
at_end sources leaf position true ends = ends
at_end sources leaf position false ends = refl

-- at the ends of all histories it stays
pub stays_at_ends : (view : ViewTree ℕ) (sources : List Source) (at : List ℕ) → ((leaf : ℕ) → slice_index at leaf ≡ length (leaf_source sources leaf).history) → HasAdvanced view sources at at
stays_at_ends view sources at ends = record { same_length = refl; each = λ leaf within. at_end sources leaf (slice_index at leaf) _ (ends leaf) }
