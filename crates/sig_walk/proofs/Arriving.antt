-- Where a walk stands after a look at a leaf, and after a fetch of it.
use Rattle.sig_hist.proofs.Ways.{go_on_same}
use Rattle.std.proofs.Common.{◌≡◌, ◌≢◌, ◌∙◌, ℕ, zero, suc, ℤ, ◌+◌, ◌<◌, ◌≤◌, ◌==◌, List, [], ◌∷◌, ◌++◌, length, take, drop, cond, slice_index, slice_set, Bool, true, false, Option, None, Some, refl, sym, ap, arith, get_or-set_same, get_or-set_other}
use Rattle.std.proofs.Math.Seq.{take-length, drop-length, drop-append_seam}
use Rattle.std.proofs.lemmas.Bool.{eqb-true}
use Rattle.std.proofs.lemmas.Bool.Decides.{nat_tests}
use Rattle.std.proofs.lemmas.List.{length-set}
use Rattle.std.specs.List.{list_any}
use Rattle.sig_diff.specs.declared.contents.Content.{Content}
use Rattle.sig_diff.specs.declared.contents.Content.TheVariants.{Cell, Vector, Map}
use Rattle.sig_hist.specs.Entering.{all_entering, entering_from, list_entering, map_entering, number_entering, value_entering}
use Rattle.sig_hist.specs.Histories.{state}
use Rattle.sig_hist.specs.declared.ports.Entering.{Entering}
use Rattle.sig_hist.specs.Ports.{GoesOn, IsFetch, IsFetchInVain, IsSight, PortState, checked, is_open, looked, put, seen_of}
use Rattle.sig_hist.specs.Sources.{Source, is_among}
use Rattle.sig_hist.specs.declared.edits.Entry.{Entry}
use Rattle.sig_hist.specs.declared.ports.Condition.{Condition}
use Rattle.sig_hist.specs.declared.ports.Condition.TheVariants.{Idle, Armed, Checked, Waiting}
use Rattle.sig_hist.specs.declared.ports.Fetched.{Fetched}
use Rattle.sig_hist.specs.declared.ports.Met.{Met}
use Rattle.sig_hist.specs.declared.ports.Version.{Version}
use Rattle.sig_walk.proofs.Trying.{get_set_other, get_set_same, seen_looked, unseen}
use Rattle.sig_walk.proofs.Staying.{looked_again, source_of_leaf}
use Rattle.sig_hist.specs.Ways.{AreWithin, GoOn, ways}
use Rattle.sig_walk.specs.Walking.{CanWalk, HasLooked, HasNews, HasWalked, IsEntering, Progress, arrived, first_held, held_up, kept_first, list_entered, map_entered, mark_of, marked, number_entered, seen_source, seen_sources, sources_in}

-- ---- what calls of a port leave

pub put_at : {X : Type 0} (f : ℕ → X) (at : ℕ) (x : X) → put f at x at ≡ x
put_at f at x = grind (arith, nat_tests)

open_checked : (version : Version) (condition : Condition) (same : Bool) → is_open (cond same (checked version condition) condition) ≡ is_open condition
open_checked version condition false = refl
open_checked version Idle true = refl
open_checked version Armed true = refl
open_checked version (Checked old) true = refl
open_checked version (Waiting old) true = refl

waits_checked : (version waiting : Version) (condition : Condition) (same : Bool) → condition ≡ Waiting waiting → cond same (checked version condition) condition ≡ Waiting waiting
waits_checked version waiting condition false is = is
waits_checked version waiting Idle true is = cc
waits_checked version waiting Armed true is = cc
waits_checked version waiting (Checked old) true is = cc
waits_checked version waiting (Waiting old) true is = is

module _ (s : PortState) where
  risen : (source more k : ℕ) (same : Bool) → (k == source) ≡ same → s.count source ≤ more → GoesOn s k (s.seen k) (cond same more (s.count k))
  risen source more k false is rises = unseen s k
  risen source more k true is rises = rw (eqb-true k source is) (record { front = take-length (s.seen source); known = rises; closed = λ closed. refl })

  -- where a look has shown the end of what was seen
  pub shows_no_more : (source at k : ℕ) (same : Bool) → (k == source) ≡ same → at ≡ length (s.seen source) → s.count k ≡ length (s.seen k) → cond same at (s.count k) ≡ length (s.seen k)
  shows_no_more source at k false is end known = known
  shows_no_more source at k true is end known = rw (eqb-true k source is) end

  pub look_is : (number : ℕ) (version : Version) → IsSight s number version → HasLooked s (looked s (s.source number) version)
  look_is number version sight = record {
    is_own = refl;
    source = refl;
    task = refl;
    plan = refl;
    arms = refl;
    tokens = refl;
    missed = refl;
    seen = λ source. risen (s.source number) version.count source (source == s.source number) refl sight.count;
    met = take-length s.met;
    rings = λ leaf. open_checked version (s.condition leaf) (s.source leaf == s.source number);
    waits = λ leaf waiting waits. waits_checked version waiting (s.condition leaf) (s.source leaf == s.source number) waits;
  }

-- ---- positions

go_on_set : (positions : List ℕ) (leaf at : ℕ) → slice_index positions leaf ≤ at → GoOn positions (slice_set positions leaf at)
go_on_set [] leaf at rises = tt
go_on_set (position ∷ positions) zero at rises = (rises, go_on_same positions)
go_on_set (position ∷ positions) (suc leaf) at rises = (omega arith, go_on_set positions leaf at rises)

within_at : (s : PortState) (first count number : ℕ) (positions : List ℕ) (leaf : ℕ) → number ≡ first + leaf → leaf < length positions → AreWithin (seen_sources s first count) positions →
    slice_index positions leaf ≤ length (seen_source s number).history
within_at s first count number [] leaf is below within = absurd (omega (arith, below))
within_at s first zero number (position ∷ positions) leaf is below within = absurd within
within_at s first (suc count) number (position ∷ positions) zero is below within = let same : number ≡ first = omega (arith, is) in rw same within.0
within_at s first (suc count) number (position ∷ positions) (suc leaf) is below within = within_at s (first + 1) count number positions leaf (omega (arith, is)) (omega (arith, below)) within.1

among_one : (l leaf : ℕ) → is_among l (leaf ∷ []) ≡ true → l ≡ leaf
among_one l leaf among = grind (arith, nat_tests)

not_among_one : (l leaf : ℕ) → is_among l (leaf ∷ []) ≡ false → l ≢ leaf
not_among_one l leaf among = grind (arith, nat_tests)

pub none_more : (held : Option ℕ) → held ≡ first_held held []
none_more None = refl
none_more (Some word) = refl

one_more : (held : Option ℕ) (met : Met) → kept_first held met.word ≡ first_held held (met ∷ [])
one_more None met = refl
one_more (Some word) met = refl

kept_some : (held : Option ℕ) (word : ℕ) → kept_first held word ≢ None
kept_some None word = λ none. cc
kept_some (Some held) word = λ none. cc

-- a word of the source that was met
its_own : (source other word : ℕ) → other ≡ source → list_any (λ (met : Met). met.source == other) (record { source = source; word = word } ∷ []) ≡ false → ⊥
its_own source other word same held = grind (arith, nat_tests)

module _ (s : PortState) (old : Progress) (leaf : ℕ) (can : CanWalk s old) (below : leaf < length old.positions) where
  pub reaches : slice_index old.positions leaf ≤ length (s.seen (s.source (old.first + leaf)))
  reaches = within_at s old.first (length old.positions) (old.first + leaf) old.positions leaf refl below can.within

  pub counts : slice_index old.positions leaf ≤ s.count (s.source (old.first + leaf))
  counts = omega (arith, reaches, (can.sound (s.source (old.first + leaf))).known)

  -- ---- the look shows the leaf at the end

  module _ (version : Version) (sight : IsSight s (old.first + leaf) version) where
    pub stayed_walked : version.count ≡ slice_index old.positions leaf → HasWalked s (looked s (s.source (old.first + leaf)) version) old (marked old leaf version.closed) (leaf ∷ [])
    stayed_walked at =
        let seen : length (s.seen (s.source (old.first + leaf))) ≤ s.count (s.source (old.first + leaf)) = (can.sound (s.source (old.first + leaf))).known in
        let end : version.count ≡ length (s.seen (s.source (old.first + leaf))) = omega (arith, reaches, seen, at, sight.count) in
        record {
          goes_on = go_on_same old.positions;
          others = λ l among. refl;
          unmarked = λ l among. get_set_other old.marks leaf l (mark_of version.closed) (not_among_one l leaf among);
          stays = λ stays. (stays, refl);
          moves = λ moves stays. cc;
          held = rw (drop-length s.met) (none_more old.held);
          fresh = λ l among held. rw (among_one l leaf among) (omega (arith, at, end));
          settled = λ stays held. record { seen = refl; counts = λ source known. shows_no_more s (s.source (old.first + leaf)) version.count source (source == s.source (old.first + leaf)) refl end known };
          caught_up = λ stays held l among. rw (among_one l leaf among) (record {
            position = sym at ∙ end;
            count = put_at s.count (s.source (old.first + leaf)) version.count ∙ end;
            mark = let mark_below : leaf < length old.marks = omega (arith, can.marks, below) in
                get_set_same old.marks leaf (mark_of version.closed) mark_below ∙ ap (λ (closed : Bool). Some (mark_of closed)) (sight.closed end);
          });
        }

    -- there is more than the leaf has passed
    pub more_counted : version.count ≢ slice_index old.positions leaf → slice_index old.positions leaf < (looked s (s.source (old.first + leaf)) version).count (s.source (old.first + leaf))
    more_counted more = let rises = sight.count in rw (put_at s.count (s.source (old.first + leaf)) version.count) (omega (arith, counts))

  -- ---- the leaf comes to the end

  module _ (t : PortState) (looked : HasLooked s t) where
    pub arrived_walked : (version : Version) → t.met ≡ s.met → s.count (s.source (old.first + leaf)) ≤ version.count → slice_index old.positions leaf < version.count → HasWalked s t old (arrived old leaf version) (leaf ∷ [])
    arrived_walked version met known more =
        let there : slice_index (slice_set old.positions leaf version.count) leaf ≡ version.count = get_or-set_same old.positions leaf version.count 0 below in
        record {
          goes_on = go_on_set old.positions leaf version.count (omega (arith, more));
          others = λ l among. get_or-set_other old.positions leaf l version.count 0 (not_among_one l leaf among);
          unmarked = λ l among. get_set_other old.marks leaf l (mark_of version.closed) (not_among_one l leaf among);
          stays = λ stays. cc;
          moves = λ moves stays same. absurd (omega (arith, more, there, ap (λ (positions : List ℕ). slice_index positions leaf) same));
          held = rw (met, drop-length s.met) (none_more old.held);
          fresh = λ l among held. rw (among_one l leaf among, there) known;
          settled = λ stays held. cc;
          caught_up = λ stays held l among. cc;
        }

  -- ---- the source is found held

  pub held_up_walked : (u : PortState) (word : ℕ) → HasLooked s u → u.met ≡ s.met → HasWalked s (record u { met = u.met ++ record { source = u.source (old.first + leaf); word = word } ∷ [] }) old (held_up old word) (leaf ∷ [])
  held_up_walked u word looked met =
      let entry : Met = record { source = u.source (old.first + leaf); word = word } in
      let since : drop (length s.met) (u.met ++ entry ∷ []) ≡ entry ∷ [] = rw met (drop-append_seam s.met (entry ∷ [])) in
      record {
        goes_on = go_on_same old.positions;
        others = λ l among. refl;
        unmarked = λ l among. refl;
        stays = λ stays. (stays, refl);
        moves = λ moves stays. cc;
        held = rw since (one_more old.held entry);
        fresh = λ l among held. absurd (its_own (u.source (old.first + leaf)) (u.source (old.first + l)) word (ap (λ (l : ℕ). u.source (old.first + l)) (among_one l leaf among)) (rw since at held));
        settled = λ stays held. absurd (kept_some old.held word held);
        caught_up = λ stays held l among. absurd (kept_some old.held word held);
      }

-- ---- what enters

record Enters (content : Content) (cap : ℕ) (entries : List Entry) (told : Entering) : Type 0 where
  number : number_entered told ≡ number_entering content cap entries
  list : list_entered told ≡ list_entering content cap entries
  map : map_entered told ≡ map_entering content cap entries

value_enters : (value : Option ℤ) → number_entered (value_entering value) ≡ value
value_enters None = refl
value_enters (Some x) = refl

value_no_list : (value : Option ℤ) → list_entered (value_entering value) ≡ []
value_no_list None = refl
value_no_list (Some x) = refl

value_no_map : (value : Option ℤ) → map_entered (value_entering value) ≡ []
value_no_map None = refl
value_no_map (Some x) = refl

content_enters : (content : Content) (cap : ℕ) (entries : List Entry) → Enters content cap entries (all_entering content cap entries)
content_enters (Cell x) cap entries = record { number = value_enters _; list = value_no_list (number_entering (Cell x) cap entries); map = value_no_map (number_entering (Cell x) cap entries) }
content_enters (Vector items) cap entries = record { number = refl; list = refl; map = refl }
content_enters (Map pairs) cap entries = record { number = refl; list = refl; map = refl }

-- from a position to the end of the history
all_enters : (source : Source) (from to : ℕ) → to ≡ length source.history → IsEntering (record { source = source; from = from; to = to }) (entering_from source (Some from))
all_enters source from to end =
    let all : take to source.history ≡ source.history = rw end (take-length source.history) in
    let enters = content_enters (state source.plan.start source.plan.cap (take from source.history)) source.plan.cap (drop from source.history) in
    record { number = rw all enters.number; list = rw all enters.list; map = rw all enters.map }

pub arrived_enters : (t : PortState) (old : Progress) (leaf : ℕ) (version : Version) (told : Entering) → leaf < length old.positions → version.count ≡ length (t.seen (t.source (old.first + leaf))) →
    told ≡ entering_from (seen_source t (old.first + leaf)) (Some (slice_index old.positions leaf)) →
    IsEntering (ways (sources_in t (arrived old leaf version)) old.positions (arrived old leaf version).positions leaf) told
arrived_enters t old leaf version told below count is =
    rw (is, length-set old.positions leaf version.count, source_of_leaf t old.first (length old.positions) leaf below, get_or-set_same old.positions leaf version.count 0 below)
    (all_enters (seen_source t (old.first + leaf)) (slice_index old.positions leaf) version.count count)

-- ---- a fetch after a look

-- what a fetch after a look leaves
pub record HasFetched (s t : PortState) (old : Progress) (leaf : ℕ) (fetched : Fetched) : Type 0 where
  pub looked : HasLooked s t
  pub met : t.met ≡ s.met
  pub count : fetched.version.count ≡ length (t.seen (t.source (old.first + leaf)))
  pub known : s.count (s.source (old.first + leaf)) ≤ fetched.version.count
  pub more : slice_index old.positions leaf < fetched.version.count
  pub entering : fetched.entering ≡ entering_from (seen_source t (old.first + leaf)) (Some (slice_index old.positions leaf))

module _ (s u : PortState) (old : Progress) (leaf : ℕ) (can : CanWalk s old) (below : leaf < length old.positions) (version : Version) (sight : IsSight s (old.first + leaf) version)
    (state_is : u ≡ looked s (s.source (old.first + leaf)) version) where
  pub looked_at : HasLooked s u
  looked_at = rw state_is (look_is s (old.first + leaf) version sight)

  pub none_met : u.met ≡ s.met
  none_met = ap (λ (s : PortState). s.met) state_is

  pub counted : version.count ≢ slice_index old.positions leaf → slice_index old.positions leaf < u.count (u.source (old.first + leaf))
  counted more = rw state_is (more_counted s old leaf can below version sight more)

  module _ (t : PortState) where
    later : (source : ℕ) (seen : List Entry) (count : ℕ) → t ≡ seen_of u source seen count → GoesOn u source seen count → HasLooked s t
    later source seen count is goes = looked_again s u t looked_at (seen_looked u t source seen count is goes)

    pub vain_looked : IsFetchInVain u t (u.source (old.first + leaf)) → HasLooked s t
    vain_looked vain = later (u.source (old.first + leaf)) (t.seen (u.source (old.first + leaf))) (t.count (u.source (old.first + leaf))) vain.state vain.goes_on

    -- a fetch that found no memory has still seen what the look showed
    pub vain_news : version.count ≢ slice_index old.positions leaf → IsFetchInVain u t (u.source (old.first + leaf)) → HasNews t old
    vain_news more vain =
        let source : t.source ≡ u.source = ap (λ (s : PortState). s.source) vain.state in
        record { leaf = leaf; within = below; more = rw source (omega (arith, counted more, vain.goes_on.known)) }

    pub has_fetched : (fetched : Fetched) → version.count ≢ slice_index old.positions leaf → IsFetch u t (old.first + leaf) (Some (slice_index old.positions leaf)) fetched → HasFetched s t old leaf fetched
    has_fetched fetched more fetch =
        let number : ℕ = old.first + leaf in
        let source : t.source ≡ u.source = ap (λ (s : PortState). s.source) fetch.state in
        let plan : t.plan ≡ u.plan = ap (λ (s : PortState). s.plan) fetch.state in
        let known : s.count (u.source number) ≤ fetched.version.count = omega (arith, (looked_at.seen (u.source number)).known, fetch.goes_on.known, fetch.count) in
        record {
          looked = later (u.source number) (t.seen (u.source number)) (length (t.seen (u.source number))) fetch.state fetch.goes_on;
          met = ap (λ (s : PortState). s.met) fetch.state ∙ none_met;
          count = rw source fetch.count;
          known = rw looked_at.source at known;
          more = omega (arith, counted more, fetch.goes_on.known, fetch.count);
          entering = rw (source, plan) fetch.entering;
        }
