-- Where nothing is missing, what was fetched is what the leaves hold.
use Rattle.std.proofs.Common.{◌≡◌, ◌∙◌, ℕ, zero, suc, ◌+◌, ◌<◌, ◌≤◌, pos, List, [], length, take, get_or, slice_get, slice_index, nat_lt, Bool, true, false, Option, None, Some, unwrap_or, refl, sym, ap, arith}
use Rattle.std.proofs.lemmas.Bool.Decides.{nat_tests}
use Rattle.std.proofs.lemmas.Option.{slice_get-get_or}
use Rattle.std.proofs.Math.ListN.{get_or-eq_default}
use Rattle.sig_diff.specs.declared.contents.Content.{Content}
use Rattle.sig_diff.specs.declared.contents.Content.TheVariants.{Cell}
use Rattle.sig_hist.specs.Histories.{state}
use Rattle.sig_hist.specs.Plain.{no_source}
use Rattle.sig_hist.specs.Ports.{PortState}
use Rattle.sig_walk.specs.Fetching.{AreFetched, content_in, is_missing, is_nothing}
use Rattle.sig_hist.specs.Ways.{state_at, contents_at, leaf_source}
use Rattle.sig_walk.specs.Walking.{seen_sources}

length_seen : (s : PortState) (first count : ℕ) → length (seen_sources s first count) ≡ count
length_seen s first zero = refl
length_seen s first (suc count) = ap suc (length_seen s (first + 1) count)

take_none : (position : ℕ) → take position no_source.history ≡ []
take_none zero = refl
take_none (suc position) = refl

-- there is nothing at the numbers that no leaf has
nothing_past : (s : PortState) (first leaf : ℕ) (positions : List ℕ) → length positions ≤ leaf → contents_at (seen_sources s first (length positions)) positions leaf ≡ Cell (pos 0)
nothing_past s first leaf positions past =
    let none : leaf_source (seen_sources s first (length positions)) leaf ≡ no_source = get_or-eq_default (seen_sources s first (length positions)) no_source (rw (length_seen s first (length positions)) past) in
    ap (λ source. state_at source (slice_index positions leaf)) none ∙ ap (state no_source.plan.start no_source.plan.cap) (take_none (slice_index positions leaf))

content_there : (place : Option Content) (found : Content) → is_nothing (Some place) ≡ false → ((content : Content) → Some place ≡ Some (Some content) → content ≡ found) → unwrap_or place (Cell (pos 0)) ≡ found
content_there None found there holds = absurd cc
content_there (Some content) found there holds = holds content refl

by_bound : {P : Type 0} (leaf count : ℕ) (below : Bool) → nat_lt leaf count ≡ below → (leaf < count → P) → (count ≤ leaf → P) → P
by_bound leaf count true is inside past = inside (grind (arith, nat_tests))
by_bound leaf count false is inside past = past (grind (arith, nat_tests))

fetched_at : (s : PortState) (first : ℕ) (positions : List ℕ) (contents : List (Option Content)) → AreFetched (contents_at (seen_sources s first (length positions)) positions) (length positions) contents →
    ((leaf : ℕ) → leaf < length positions → is_missing contents leaf ≡ false) → (leaf : ℕ) → content_in contents leaf ≡ contents_at (seen_sources s first (length positions)) positions leaf
fetched_at s first positions contents are none leaf = by_bound leaf (length positions) _ refl
    (λ below.
    let place : slice_get contents leaf ≡ Some (get_or contents leaf None) = slice_get-get_or contents leaf None (omega (arith, below, are.each)) in
    content_there (get_or contents leaf None) _ (rw place at (none leaf below)) (λ content is. are.fetched leaf content (place ∙ is)))
    (λ past.
    let nothing : get_or contents leaf None ≡ None = get_or-eq_default contents None (omega (arith, past, are.each)) in
    rw nothing (sym (nothing_past s first leaf positions past)))

-- where nothing is missing the contents are what the leaves hold
pub all_fetched : (s : PortState) (first : ℕ) (positions : List ℕ) (contents : List (Option Content)) → AreFetched (contents_at (seen_sources s first (length positions)) positions) (length positions) contents →
    ((leaf : ℕ) → leaf < length positions → is_missing contents leaf ≡ false) → content_in contents ≡ contents_at (seen_sources s first (length positions)) positions
all_fetched s first positions contents are none = λ i leaf. fetched_at s first positions contents are none leaf i
