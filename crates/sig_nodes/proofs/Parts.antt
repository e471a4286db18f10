-- Two parts of a view with leaves of their own: what the first did holds after the second.
use Rattle.std.proofs.Common.{max, ℤ, Option, None, get_or, ◌≡◌, ◌∙◌, ℕ, zero, suc, ◌+◌, ◌<◌, ◌≤◌, ◌==◌, List, [], ◌∷◌, ◌++◌, length, drop, slice_index, Bool, true, false, ◌||◌, All, refl, sym, ap, arith, le_trans}
use Rattle.std.proofs.lemmas.Bool.{eqb-true}
use Rattle.sig_diff.specs.declared.contents.Content.{Content}
use Rattle.sig_expr.proofs.Awaiting.{IsAmong, none, kept, left_out, agree_among, sig_among, sig_part_among, sig_part_same, sigs_among, sigs_same, vec_among, vec_part_among, vec_part_same, vecs_among, vecs_same}
use Rattle.sig_expr.specs.Leaves.{sig_leaves, sigs_leaves, vec_leaves, vecs_leaves}
use Rattle.sig_expr.specs.Trees.{SigTree, SigTrees, VecTree, VecTrees, more_lists, more_signals, no_lists, no_signals}
use Rattle.sig_diff.specs.declared.differences.VecDiff.{VecDiff}
use Rattle.sig_expr.specs.Awaited.{Agree, all_of, each_sig_awaits, each_vec_awaits, sig_awaits, vec_awaits}
use Rattle.sig_hist.specs.Ports.{PortState}
use Rattle.sig_hist.specs.Sources.{AreDistinct, is_among}
use Rattle.sig_rows.proofs.Along.{AlikeOn, AreAlike, each_agrees, each_alike, same_awaited_list, same_awaited_value, same_list_flow, same_list_flows, same_value_flow, same_value_flows}
use Rattle.sig_rows.proofs.Still.{still_list, still_value}
use Rattle.sig_rows.specs.Flow.{list_flow, list_flows, value_flow, value_flows}
use Rattle.sig_nodes.specs.Banks.{lists_given, values_given}
use Rattle.sig_nodes.specs.declared.banks.Given.{Given}
use Rattle.sig_nodes.specs.declared.banks.GivenList.{GivenList}
use Rattle.sig_nodes.specs.Nodes.{ListOps, SignalOps, list_tree, signal_tree}
use Rattle.sig_nodes.specs.Steps.{ListGone, SignalGone}
use Rattle.sig_walk.proofs.Arriving.{reaches}
use Rattle.sig_walk.proofs.Holding.{held_before, never_back}
use Rattle.sig_walk.proofs.Composing.{among_append, gone_again, walked_on}
use Rattle.sig_hist.proofs.Ways.{go_on_at}
use Rattle.sig_walk.proofs.Staying.{same_entries, same_plan, same_state, source_of_leaf}
use Rattle.sig_hist.specs.Ways.{GoesAhead, Way, contents_at, leaf_source, state_at, ways}
use Rattle.sig_walk.specs.Walking.{CanWalk, HasGone, HasLeaves, HasWalked, Progress, seen_source, sources_in}

-- ---- leaves

distinct_by : (leaf l : ℕ) (leaves more : List ℕ) (same : Bool) → (l == leaf) ≡ same → is_among l (leaves ++ more) ≡ false → (is_among leaf leaves ≡ true → is_among leaf more ≡ false) → (same || is_among leaf leaves) ≡ true → is_among leaf more ≡ false
distinct_by leaf l leaves more true is apart later among =
    let here : l ≡ leaf = eqb-true l leaf is in
    let both : (is_among l leaves || is_among l more) ≡ false = sym (among_append l leaves more) ∙ apart in
    rw here at (other_of (is_among l leaves) (is_among l more) both)
  where
    other_of : (one other : Bool) → (one || other) ≡ false → other ≡ false
    other_of false other neither = neither
    other_of true other neither = cc
distinct_by leaf l leaves more false is apart later among = later among

-- a leaf of the first part is none of the second
pub none_of_both : (leaves more : List ℕ) → AreDistinct (leaves ++ more) → (leaf : ℕ) → is_among leaf leaves ≡ true → is_among leaf more ≡ false
none_of_both [] more distinct leaf among = cc
none_of_both (l ∷ leaves) more distinct leaf among = distinct_by leaf l leaves more (l == leaf) refl distinct.0 (none_of_both leaves more distinct.1 leaf) among

flipped : (one other : Bool) → (one ≡ true → other ≡ false) → other ≡ true → one ≡ false
flipped true other apart is = let no : other ≡ false = apart refl in cc
flipped false other apart is = refl

pub none_of_first : (leaves more : List ℕ) → AreDistinct (leaves ++ more) → (leaf : ℕ) → is_among leaf more ≡ true → is_among leaf leaves ≡ false
none_of_first leaves more distinct leaf among = flipped _ _ (none_of_both leaves more distinct leaf) among

pub distinct_front : (leaves more : List ℕ) → AreDistinct (leaves ++ more) → AreDistinct leaves
distinct_front [] more distinct = tt
distinct_front (l ∷ leaves) more distinct = (one_of (is_among l leaves) (is_among l more) (sym (among_append l leaves more) ∙ distinct.0), distinct_front leaves more distinct.1)
  where
    one_of : (one other : Bool) → (one || other) ≡ false → one ≡ false
    one_of false other neither = refl
    one_of true other neither = cc

pub distinct_back : (leaves more : List ℕ) → AreDistinct (leaves ++ more) → AreDistinct more
distinct_back [] more distinct = distinct
distinct_back (l ∷ leaves) more distinct = distinct_back leaves more distinct.1

-- a leaf that isn't one of a part isn't among those that the part awaits
pub not_among_fewer : {labels all : List ℕ} → IsAmong labels all → (leaf : ℕ) → is_among leaf all ≡ false → is_among leaf labels ≡ false
not_among_fewer none leaf apart = refl
not_among_fewer (kept l among) leaf apart = fewer (l == leaf) _ _ apart (not_among_fewer among leaf)
  where
    fewer : (same one other : Bool) → (same || other) ≡ false → (other ≡ false → one ≡ false) → (same || one) ≡ false
    fewer false one other neither later = later neither
    fewer true one other neither later = cc
not_among_fewer (left_out l among) leaf apart = not_among_fewer among leaf (rest (l == leaf) _ apart)
  where
    rest : (same other : Bool) → (same || other) ≡ false → other ≡ false
    rest false other neither = neither
    rest true other neither = cc

pub leaf_below : (count : ℕ) (labels : List ℕ) → All (λ leaf. leaf < count) labels → (leaf : ℕ) → is_among leaf labels ≡ true → leaf < count
leaf_below count [] all leaf among = cc
leaf_below count (l ∷ labels) all leaf among = by (l == leaf) refl among (leaf_below count labels (λ k default within. all (suc k) default (omega (arith, within))) leaf)
  where
    by : (same : Bool) → (l == leaf) ≡ same → (same || is_among leaf labels) ≡ true → (is_among leaf labels ≡ true → leaf < count) → leaf < count
    by true is either later = let here : l ≡ leaf = eqb-true l leaf is in rw here at (all 0 0 (omega arith))
    by false is either later = later either

pub all_front : (count : ℕ) (labels more : List ℕ) → All (λ leaf. leaf < count) (labels ++ more) → All (λ leaf. leaf < count) labels
all_front count [] more all k default within = absurd (omega (arith, within))
all_front count (l ∷ labels) more all zero default within = all 0 0 (omega arith)
all_front count (l ∷ labels) more all (suc k) default within = all_front count labels more (λ k default within. all (suc k) default (omega (arith, within))) k default (omega (arith, within))

pub all_back : (count : ℕ) (labels more : List ℕ) → All (λ leaf. leaf < count) (labels ++ more) → All (λ leaf. leaf < count) more
all_back count [] more all = all
all_back count (l ∷ labels) more all = all_back count labels more (λ k default within. all (suc k) default (omega (arith, within)))

-- ---- lengths

pub less : (a b most : ℕ) → max a b ≤ most → (a ≤ most) × (b ≤ most)
less a b most few = (omega (arith, few), omega (arith, few))

pub each_less : (a b c most : ℕ) → max a (max b c) ≤ most → (a ≤ most) × (b ≤ most) × (c ≤ most)
each_less a b c most few = (omega (arith, few), omega (arith, few), omega (arith, few))

-- ---- parts

-- where a walk stands: what its leaves hold; and how they have gone from one moment of it to another
abbrev pub holds_at : PortState → Progress → ℕ → Content
holds_at s walk = contents_at (sources_in s walk) walk.positions

abbrev pub gone_by : PortState → Progress → Progress → ℕ → Way
gone_by t old new = ways (sources_in t new) old.positions new.positions

-- leaves stay where they are
abbrev pub AllStay : (ℕ → Way) → Type 0
AllStay way = (leaf : ℕ) → (way leaf).from ≡ (way leaf).to

-- a part of a view: its leaves, those of them that it awaits, and what it gives on the ways of its leaves, nothing where they stay
pub record Part (G : Type 0) : Type 0 where
  pub leaves : List ℕ
  pub awaits : (ℕ → Content) → List ℕ
  pub flow : (ℕ → Way) → G
  pub among : (s : ℕ → Content) → IsAmong (awaits s) leaves
  pub same_awaits : (s t : ℕ → Content) → Agree s t leaves → awaits s ≡ awaits t
  pub same_flow : (way other : ℕ → Way) → AlikeOn way other leaves → flow way ≡ flow other
  pub nothing : G
  pub still : (way : ℕ → Way) → AllStay way → flow way ≡ nothing

abbrev pub list_part : VecTree ℕ → Part (List (VecDiff ℤ))
list_part e = record {
  leaves = vec_leaves e;
  awaits = λ s. vec_awaits s e;
  flow = λ way. list_flow way e;
  among = λ s. vec_among s e;
  same_awaits = λ s t agree. same_awaited_list s t e agree;
  same_flow = λ way other alike. same_list_flow way other e alike;
  nothing = [];
  still = λ way stays. still_list way stays e;
}

abbrev pub signal_part : SigTree ℕ → Part (Option ℤ)
signal_part e = record {
  leaves = sig_leaves e;
  awaits = λ s. sig_awaits s e;
  flow = λ way. value_flow way e;
  among = λ s. sig_among s e;
  same_awaits = λ s t agree. same_awaited_value s t e agree;
  same_flow = λ way other alike. same_value_flow way other e alike;
  nothing = None;
  still = λ way stays. still_value way stays e;
}

-- the parts of a bank from a place on
pub no_lists_given : (way : ℕ → Way) → AllStay way → (place : ℕ) (bank : VecTrees ℕ) → lists_given place (list_flows way bank) ≡ []
no_lists_given way stays place no_lists = refl
no_lists_given way stays place (more_lists e bank) = rw (still_list way stays e) (no_lists_given way stays (place + 1) bank)

pub no_values_given : (way : ℕ → Way) → AllStay way → (place : ℕ) (bank : SigTrees ℕ) → values_given place (value_flows way bank) ≡ []
no_values_given way stays place no_signals = refl
no_values_given way stays place (more_signals e bank) = rw (still_value way stays e) (no_values_given way stays (place + 1) bank)

abbrev pub lists_part : ℕ → VecTrees ℕ → Part (List GivenList)
lists_part place bank = record {
  leaves = vecs_leaves bank;
  awaits = λ s. all_of (each_vec_awaits s bank);
  flow = λ way. lists_given place (list_flows way bank);
  among = λ s. vecs_among s bank;
  same_awaits = λ s t agree. (vecs_same s t bank (agree_among s t (vecs_among s bank) agree)).awaited;
  same_flow = λ way other alike. ap (lists_given place) (same_list_flows way other bank alike);
  nothing = [];
  still = λ way stays. no_lists_given way stays place bank;
}

abbrev pub signals_part : ℕ → SigTrees ℕ → Part (List Given)
signals_part place bank = record {
  leaves = sigs_leaves bank;
  awaits = λ s. all_of (each_sig_awaits s bank);
  flow = λ way. values_given place (value_flows way bank);
  among = λ s. sigs_among s bank;
  same_awaits = λ s t agree. (sigs_same s t bank (agree_among s t (sigs_among s bank) agree)).awaited;
  same_flow = λ way other alike. ap (values_given place) (same_value_flows way other bank alike);
  nothing = [];
  still = λ way stays. no_values_given way stays place bank;
}

-- the one at a place of a bank
pub no_list_at : (way : ℕ → Way) → AllStay way → (bank : VecTrees ℕ) (place : ℕ) → get_or (list_flows way bank) place [] ≡ []
no_list_at way stays no_lists place = refl
no_list_at way stays (more_lists e bank) zero = still_list way stays e
no_list_at way stays (more_lists e bank) (suc place) = no_list_at way stays bank place

pub no_value_at : (way : ℕ → Way) → AllStay way → (bank : SigTrees ℕ) (place : ℕ) → get_or (value_flows way bank) place None ≡ None
no_value_at way stays no_signals place = refl
no_value_at way stays (more_signals e bank) zero = still_value way stays e
no_value_at way stays (more_signals e bank) (suc place) = no_value_at way stays bank place

abbrev pub list_at_part : VecTrees ℕ → ℕ → Part (List (VecDiff ℤ))
list_at_part bank place = record {
  leaves = vecs_leaves bank;
  awaits = λ s. get_or (each_vec_awaits s bank) place [];
  flow = λ way. get_or (list_flows way bank) place [];
  among = λ s. vec_part_among s bank place;
  same_awaits = λ s t agree. (vec_part_same s t bank place (agree_among s t (vec_part_among s bank place) agree)).awaited;
  same_flow = λ way other alike. ap (λ (flows : List (List (VecDiff ℤ))). get_or flows place []) (same_list_flows way other bank alike);
  nothing = [];
  still = λ way stays. no_list_at way stays bank place;
}

abbrev pub signal_at_part : SigTrees ℕ → ℕ → Part (Option ℤ)
signal_at_part bank place = record {
  leaves = sigs_leaves bank;
  awaits = λ s. get_or (each_sig_awaits s bank) place [];
  flow = λ way. get_or (value_flows way bank) place None;
  among = λ s. sig_part_among s bank place;
  same_awaits = λ s t agree. (sig_part_same s t bank place (agree_among s t (sig_part_among s bank place) agree)).awaited;
  same_flow = λ way other alike. ap (λ (flows : List (Option ℤ)). get_or flows place None) (same_value_flows way other bank alike);
  nothing = None;
  still = λ way stays. no_value_at way stays bank place;
}

-- ---- a part that has gone

pub gone_twice : {s t u : PortState} {old mid new : Progress} → HasGone s t old mid → HasGone t u mid new → HasGone s u old new
gone_twice {s} {t} {u} {old} {mid} {new} gone went = gone_again s t u old mid new gone went

-- its awaited leaves were taken along, and it gives this on the way
pub record PartGone {G : Type 0} (part : Part G) (s t : PortState) (old new : Progress) (given : G) : Type 0 where
  pub gone : HasGone s t old new
  pub walked : HasWalked s t old new (part.awaits (holds_at t new))
  pub flow : given ≡ part.flow (gone_by t old new)

abbrev pub list_gone : {s t : PortState} {old new : Progress} {ops after : ListOps} {diffs : List (VecDiff ℤ)} → ListGone s t old new ops after diffs → PartGone (list_part (list_tree ops)) s t old new diffs
list_gone is = record { gone = is.gone; walked = is.walked; flow = is.flow }

abbrev pub signal_gone : {s t : PortState} {old new : Progress} {ops after : SignalOps} {value : Option ℤ} → SignalGone s t old new ops after value → PartGone (signal_part (signal_tree ops)) s t old new value
signal_gone is = record { gone = is.gone; walked = is.walked; flow = is.flow }

-- the first of two parts with leaves of their own
pub record FirstGone {G : Type 0} (part : Part G) (more : List ℕ) (s t : PortState) (old mid : Progress) (given : G) : Type 0 where
  pub can : CanWalk s old
  pub has : HasLeaves old (part.leaves ++ more)
  pub apart : AreDistinct (part.leaves ++ more)
  pub first : PartGone part s t old mid given

module _ {G : Type 0} {part : Part G} {more : List ℕ} {s t : PortState} {old mid : Progress} {given : G} (is : FirstGone part more s t old mid given) where
  -- the leaves held then what they held
  pub first_held : contents_at (sources_in t mid) old.positions ≡ holds_at s old
  first_held = held_before s t old mid is.can is.first.gone

  pub first_ahead : (leaf : ℕ) → GoesAhead (gone_by t old mid leaf)
  first_ahead = never_back s t old mid is.can is.first.gone is.first.walked.goes_on

  -- a leaf of the second part has stayed
  stayed : (leaf : ℕ) → is_among leaf more ≡ true → slice_index mid.positions leaf ≡ slice_index old.positions leaf
  stayed leaf among = is.first.walked.others leaf (not_among_fewer (part.among (holds_at t mid)) leaf (none_of_first part.leaves more is.apart leaf among))

  -- what the second part needs
  pub rest_has : HasLeaves mid more
  rest_has = all_back (length mid.positions) part.leaves more (rw is.first.gone.leaves is.has)

  pub rest_apart : AreDistinct more
  rest_apart = distinct_back part.leaves more is.apart

  pub rest_holds : Agree (holds_at s old) (holds_at t mid) more
  rest_holds = each_agrees _ _ more (λ leaf among.
      sym (ap (λ (holds : ℕ → Content). holds leaf) first_held) ∙ ap (state_at (leaf_source (sources_in t mid) leaf)) (sym (stayed leaf among)))

-- and then the second
pub record BothGone {G More : Type 0} (part : Part G) (other : Part More) (s t u : PortState) (old mid new : Progress) (given : G) (more : More) : Type 0 where
  pub one : FirstGone part other.leaves s t old mid given
  pub second : PartGone other t u mid new more

module _ {G More : Type 0} {part : Part G} {other : Part More} {s t u : PortState} {old mid new : Progress} {given : G} {more : More}
    (both : BothGone part other s t u old mid new given more) where
  abbrev first : PartGone part s t old mid given
  first = both.one.first

  abbrev second : PartGone other t u mid new more
  second = both.second

  pub both_gone : HasGone s u old new
  both_gone = gone_again s t u old mid new first.gone second.gone

  -- a leaf of the first part stays where it has come
  stays_there : (leaf : ℕ) → is_among leaf part.leaves ≡ true → slice_index new.positions leaf ≡ slice_index mid.positions leaf
  stays_there leaf among = second.walked.others leaf (not_among_fewer (other.among (holds_at u new)) leaf (none_of_both part.leaves other.leaves both.one.apart leaf among))

  below : (leaf : ℕ) → is_among leaf part.leaves ≡ true → leaf < length mid.positions
  below leaf among = omega (arith, leaf_below (length old.positions) (part.leaves ++ other.leaves) both.one.has leaf (among_append leaf part.leaves other.leaves ∙ rw among refl), first.gone.leaves)

  alike_later : (leaf : ℕ) → is_among leaf part.leaves ≡ true → AreAlike (gone_by t old mid leaf) (gone_by u old new leaf)
  alike_later leaf among =
      let at : ℕ = mid.first + leaf in
      let within : leaf < length mid.positions = below leaf among in
      let source : leaf_source (sources_in t mid) leaf ≡ seen_source t at = source_of_leaf t mid.first (length mid.positions) leaf within in
      let later : leaf_source (sources_in u new) leaf ≡ seen_source u at =
      rw (← second.gone.first) (source_of_leaf u new.first (length new.positions) leaf (omega (arith, within, second.gone.leaves))) in
      let seen : slice_index mid.positions leaf ≤ length (seen_source t at).history = reaches t mid leaf first.gone.can within in
      let before : slice_index old.positions leaf ≤ length (seen_source t at).history = le_trans (go_on_at old.positions mid.positions first.walked.goes_on leaf) seen in
      rw (source, later, stays_there leaf among) (record {
        cap = ap (λ plan. plan.cap) (sym (same_plan t u second.gone.looked at));
        before = sym (same_state t u second.gone.looked at (slice_index old.positions leaf) before);
        behind = sym (same_state t u second.gone.looked at (slice_index mid.positions leaf) seen);
        passed = ap (drop (slice_index old.positions leaf)) (sym (same_entries t u second.gone.looked at (slice_index mid.positions leaf) seen));
      })

  -- the leaves of the first part hold what they came to hold
  pub first_holds : Agree (holds_at t mid) (holds_at u new) part.leaves
  first_holds = each_agrees _ _ part.leaves (λ leaf among. (alike_later leaf among).behind)

  pub both_walked : HasWalked s u old new (part.awaits (holds_at u new) ++ other.awaits (holds_at u new))
  both_walked = rw (← part.same_awaits _ _ first_holds) (walked_on s t u old mid new first.gone second.gone _ _ first.walked second.walked)

  -- what the parts give on the whole way
  pub first_flow : given ≡ part.flow (gone_by u old new)
  first_flow = first.flow ∙ part.same_flow _ _ (each_alike _ _ part.leaves alike_later)

  pub same_way : AlikeOn (gone_by u mid new) (gone_by u old new) other.leaves
  same_way = each_alike _ _ other.leaves (λ leaf among. rw (stayed both.one leaf among) (record { cap = refl; before = refl; behind = refl; passed = refl }))

  pub second_flow : more ≡ other.flow (gone_by u old new)
  second_flow = second.flow ∙ other.same_flow _ _ same_way

  -- the leaves held at first what they held
  pub held : contents_at (sources_in u new) old.positions ≡ holds_at s old
  held = held_before s u old new both.one.can both_gone

  pub ahead : (leaf : ℕ) → GoesAhead (gone_by u old new leaf)
  ahead = never_back s u old new both.one.can both_gone both_walked.goes_on

-- a leaf that wasn't looked at holds what it held
pub unwalked_holds : (s t : PortState) (old new : Progress) → CanWalk s old → HasGone s t old new → (walked : List ℕ) → HasWalked s t old new walked → (leaf : ℕ) → is_among leaf walked ≡ false →
    contents_at (sources_in s old) old.positions leaf ≡ contents_at (sources_in t new) new.positions leaf
unwalked_holds s t old new can gone walked is leaf apart =
    sym (ap (λ (holds : ℕ → Content). holds leaf) (held_before s t old new can gone)) ∙ ap (state_at (leaf_source (sources_in t new) leaf)) (sym (is.others leaf apart))
