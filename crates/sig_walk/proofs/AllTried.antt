-- The leaves are fetched one after another, where they are missing.
use Rattle.std.proofs.Common.{◌≡◌, ◌≢◌, ◌∙◌, ℕ, zero, suc, ◌+◌, ◌<◌, ◌==◌, ◌||◌, List, [], ◌∷◌, ◌++◌, length, drop, slice_get, slice_index, slice_set, Bool, true, false, Option, None, Some, refl, sym, ap, ap₂, le_trans, arith}
use Rattle.std.proofs.lemmas.Bool.{eqb-true}
use Rattle.std.proofs.lemmas.Bool.Decides.{nat_tests}
use Rattle.std.proofs.lemmas.List.{get_or-set_same, get_or-set_other, length-set, take_all}
use Rattle.std.proofs.lemmas.Option.{slice_get_within}
use Rattle.std.proofs.lemmas.List.Folds.{list_any-append}
use Rattle.sig_diff.specs.declared.contents.Content.{Content}
use Rattle.sig_hist.specs.Ports.{PortState}
use Rattle.sig_hist.specs.Histories.{state}
use Rattle.sig_hist.specs.Sources.{Source, content_of}
use Rattle.sig_hist.specs.declared.ports.Met.{Met}
use Rattle.sig_walk.proofs.Staying.{met_on, same_contents, source_of_leaf}
use Rattle.sig_walk.proofs.Composing.{gone_again, neither_of}
use Rattle.sig_walk.proofs.Trying.{get_set_other, get_set_same}
use Rattle.sig_walk.specs.Fetching.{HasTried, IsGot, IsRefused, IsTried, LacksBy, is_missing, is_nothing}
use Rattle.sig_hist.specs.Ways.{state_at, contents_at, leaf_source}
use Rattle.sig_walk.specs.Walking.{HasGone, IsFresh, Progress, first_word, kept_first, met_since, seen_source, seen_sources, sources_in, was_held}

-- ---- lists

by_place : {P : Type 0} (leaf next : ℕ) (same : Bool) → (leaf == next) ≡ same → (leaf ≡ next → P) → (leaf ≢ next → P) → P
by_place leaf next true is here other = here (eqb-true leaf next is)
by_place leaf next false is here other = other (grind (arith, nat_tests))

module _ {X : Type 0} where
  -- what stands at a place already
  set_there : (xs : List X) (place : ℕ) (x : X) → slice_get xs place ≡ Some x → slice_set xs place x ≡ xs
  set_there [] place x is = refl
  set_there (y ∷ xs) zero x is = cc
  set_there (y ∷ xs) (suc place) x is = ap (λ rest. y ∷ rest) (set_there xs place x is)

  drop_append : (xs ys : List X) → drop (length xs) (xs ++ ys) ≡ ys
  drop_append [] ys = refl
  drop_append (x ∷ xs) ys = drop_append xs ys

false_true : false ≡ true → ⊥
false_true is = cc

or_true : (a : Bool) → (a || true) ≡ true
or_true true = refl
or_true false = refl

same_number : (n : ℕ) → (n == n) ≡ true
same_number n = grind (arith, nat_tests)

pub is_there : (place : Option (Option Content)) → is_nothing place ≡ true → place ≡ Some None
is_there (Some None) is = refl
is_there (Some (Some content)) is = cc
is_there None is = cc

first_met : (xs : List Met) (met : Met) → first_word (xs ++ met ∷ []) ≡ kept_first (first_word xs) met.word
first_met [] met = refl
first_met (x ∷ xs) met = refl

-- ---- before the first, and a leaf that isn't missing

-- what is lacking goes on by a leaf that isn't missing
lacks_less : (held : Option ℕ) (before after : List (Option Content)) (next : ℕ) → ((leaf : ℕ) → leaf < next → slice_get after leaf ≡ slice_get before leaf) → is_missing after next ≡ false → LacksBy held before next → LacksBy held after (next + 1)
lacks_less None before after next same there lacks = λ leaf below.
    by_place leaf next (leaf == next) refl (λ here. rw here there) (λ other. let earlier : leaf < next = omega (arith, below, other) in rw (same leaf earlier) (lacks leaf earlier))
lacks_less (Some word) before after next same there lacks = (lacks.0, omega (arith, lacks.1), rw (same lacks.0 lacks.1) lacks.2)

pub tried_skip : (s t : PortState) (old new : Progress) (before after : List (Option Content)) (next : ℕ) → HasTried s t old new before after next → is_missing after next ≡ false → HasTried s t old new before after (next + 1)
tried_skip s t old new before after next tried there = record {
  gone = tried.gone;
  are = tried.are;
  stays = tried.stays;
  held = tried.held;
  later = λ leaf behind. tried.later leaf (omega (arith, behind));
  fresh = λ leaf below is. by_place leaf next (leaf == next) refl
      (λ here. let same : slice_get after leaf ≡ slice_get before leaf = tried.later leaf (omega (arith, here)) in
      let missing : is_missing after leaf ≡ true = rw same is in
      let both : is_missing after next ≡ true = rw here at missing in
      absurd (false_true (sym there ∙ both)))
      (λ other. tried.fresh leaf (omega (arith, below, other)) is);
  lacks = lacks_less new.held after after next (λ leaf below. refl) there tried.lacks;
}

-- ---- one more leaf

module _ (s t u : PortState) (old mid new : Progress) (before between : List (Option Content)) (next : ℕ) (tried : HasTried s t old mid before between next) (more : HasGone t u mid new) where
  met_parts : met_since s u ≡ met_since s t ++ met_since t u
  met_parts = met_on s t u tried.gone.looked.met more.looked.met

  held_parts : (leaf : ℕ) → was_held s u (new.first + leaf) ≡ (was_held s t (mid.first + leaf) || was_held t u (new.first + leaf))
  held_parts leaf = rw (more.first, more.looked.source, met_parts) (list_any-append (λ (met : Met). met.source == t.source (mid.first + leaf)) (met_since s t) (met_since t u))

  fresh_later : (leaf : ℕ) → slice_index new.positions leaf ≡ slice_index mid.positions leaf → IsFresh s t mid leaf → IsFresh s u new leaf
  fresh_later leaf same fresh held =
      let earlier : was_held s t (mid.first + leaf) ≡ false = (neither_of _ _ (sym (held_parts leaf) ∙ held)).0 in
      rw (more.first, same) (fresh earlier)

  contents_later : (leaf : ℕ) → slice_index new.positions leaf ≡ slice_index mid.positions leaf → contents_at (sources_in u new) new.positions leaf ≡ contents_at (sources_in t mid) mid.positions leaf
  contents_later leaf same =
      let moved : contents_at (sources_in u new) new.positions leaf ≡ contents_at (sources_in u new) mid.positions leaf = ap (state_at (leaf_source (sources_in u new) leaf)) same in
      let kept : contents_at (seen_sources u new.first (length new.positions)) mid.positions ≡ contents_at (seen_sources t mid.first (length mid.positions)) mid.positions =
      rw (more.first, more.leaves) (same_contents t u more.looked mid.first (length mid.positions) mid.positions tried.gone.can.within) in
      moved ∙ ap (λ (holds : ℕ → Content). holds leaf) kept

  gone_more : HasGone s u old new
  gone_more = gone_again s t u old mid new tried.gone more

  module _ (missing : slice_get between next ≡ Some None) (below : next < length mid.positions) where
    -- a leaf that isn't missing is another
    apart : (leaf : ℕ) → is_missing before leaf ≡ false → leaf ≢ next
    apart leaf is here =
        let same : slice_get between next ≡ slice_get before next = tried.later next (omega arith) in
        let there : is_missing before next ≡ true = rw (← same, missing) refl in
        false_true (sym is ∙ rw here there)

    -- it was fetched
    module _ (content : Content) (got : IsGot t u mid new next content) where
      others_stay : (leaf : ℕ) → leaf ≢ next → slice_index new.positions leaf ≡ slice_index mid.positions leaf
      others_stay leaf other = rw got.positions (get_or-set_other mid.positions next leaf _ 0 other)

      at_end : slice_index new.positions next ≡ length (seen_source u (mid.first + next)).history
      at_end = rw got.positions (get_or-set_same mid.positions next _ 0 below)

      content_there : contents_at (sources_in u new) new.positions next ≡ content
      content_there =
          let source : Source = seen_source u (mid.first + next) in
          let source_is : leaf_source (seen_sources u new.first (length new.positions)) next ≡ source = rw (more.first, more.leaves) (source_of_leaf u mid.first (length mid.positions) next below) in
          let all : state_at source (length source.history) ≡ content_of source = ap (state source.plan.start source.plan.cap) (take_all (length source.history) source.history (omega arith)) in
          ap₂ state_at source_is at_end ∙ all ∙ sym got.content_is

      fetched_more : (leaf : ℕ) (other : Content) → slice_get (slice_set between next (Some content)) leaf ≡ Some (Some other) → other ≡ contents_at (sources_in u new) new.positions leaf
      fetched_more leaf other is = by_place leaf next (leaf == next) refl
          (λ here.
          let put : slice_get (slice_set between next (Some content)) leaf ≡ Some (Some content) = rw here (get_set_same between next (Some content) (slice_get_within between next None missing)) in
          let same : other ≡ content = cc in
          rw (here, content_there) same)
          (λ apart.
          let kept : slice_get between leaf ≡ Some (Some other) = sym (get_set_other between next leaf (Some content) apart) ∙ is in
          tried.are.fetched leaf other kept ∙ sym (contents_later leaf (others_stay leaf apart)))

      fresh_more : (leaf : ℕ) → leaf < next + 1 → is_missing before leaf ≡ true → IsFresh s u new leaf
      fresh_more leaf within is = by_place leaf next (leaf == next) refl
          (λ here held. rw (here, more.first, at_end) (le_trans (tried.gone.looked.seen (s.source (mid.first + next))).known (rw tried.gone.looked.source at got.known)))
          (λ apart. fresh_later leaf (others_stay leaf apart) (tried.fresh leaf (omega (arith, within, apart)) is))

      tried_got : HasTried s u old new before (slice_set between next (Some content)) (next + 1)
      tried_got = record {
        gone = gone_more;
        are = record { each = length-set between next (Some content) ∙ tried.are.each; fetched = fetched_more };
        stays = λ leaf is. others_stay leaf (apart leaf is) ∙ tried.stays leaf is;
        later = λ leaf behind. get_set_other between next leaf (Some content) (λ here. omega (arith, behind, here)) ∙ tried.later leaf (omega (arith, behind));
        fresh = fresh_more;
        held = rw (got.held, got.met) tried.held;
        lacks = rw got.held (lacks_less mid.held between (slice_set between next (Some content)) next
            (λ leaf earlier. get_set_other between next leaf (Some content) (λ here. omega (arith, earlier, here)))
            (rw (get_set_same between next (Some content) (slice_get_within between next None missing)) refl) tried.lacks);
      }

    -- its source was found held
    module _ (refused : IsRefused t u mid new next) where
      all_stay : (leaf : ℕ) → slice_index new.positions leaf ≡ slice_index mid.positions leaf
      all_stay leaf = rw refused.positions refl

      met_now : met_since t u ≡ record { source = t.source (mid.first + next); word = refused.word } ∷ []
      met_now = rw refused.met (drop_append t.met _)

      held_now : was_held s u (new.first + next) ≡ true
      held_now =
          let now : was_held t u (new.first + next) ≡ true = rw (met_now, more.first, more.looked.source) (rw (same_number (t.source (mid.first + next))) refl) in
          rw (held_parts next, now) (or_true (was_held s t (mid.first + next)))

      refused_fresh : (leaf : ℕ) → leaf < next + 1 → is_missing before leaf ≡ true → IsFresh s u new leaf
      refused_fresh leaf within is = by_place leaf next (leaf == next) refl
          (λ here held. let now : was_held s u (new.first + leaf) ≡ true = rw here held_now in absurd (false_true (sym held ∙ now)))
          (λ apart. fresh_later leaf (all_stay leaf) (tried.fresh leaf (omega (arith, within, apart)) is))

      refused_lacks : (held : Option ℕ) → LacksBy held between next → LacksBy (kept_first held refused.word) between (next + 1)
      refused_lacks None lacks = (next, omega arith, rw missing refl)
      refused_lacks (Some word) lacks = (lacks.0, omega (arith, lacks.1), lacks.2)

      refused_held : new.held ≡ first_word (met_since s u)
      refused_held = refused.held ∙ ap (λ held. kept_first held refused.word) tried.held ∙ rw (met_parts, met_now) (sym (first_met (met_since s t) _))

      tried_refused : HasTried s u old new before between (next + 1)
      tried_refused = record {
        gone = gone_more;
        are = record { each = tried.are.each; fetched = λ leaf content is. tried.are.fetched leaf content is ∙ sym (contents_later leaf (all_stay leaf)) };
        stays = λ leaf is. all_stay leaf ∙ tried.stays leaf is;
        later = λ leaf behind. tried.later leaf (omega (arith, behind));
        fresh = refused_fresh;
        held = refused_held;
        lacks = rw refused.held (refused_lacks mid.held tried.lacks);
      }

    pub tried_more : (content : Option Content) → IsTried t u mid new next content → HasTried s u old new before (slice_set between next content) (next + 1)
    tried_more (Some content) got = tried_got content got
    tried_more None refused = rw (set_there between next None missing) (tried_refused refused)
