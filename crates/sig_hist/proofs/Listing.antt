-- What is listed of leaves, as their bells are set, their sources are looked at, and their task comes to rest.
use Rattle.std.proofs.Common.{◌≡◌, ◌∙◌, ℕ, zero, suc, ◌+◌, ◌<◌, ◌≤◌, ◌==◌, ◌||◌, List, [], ◌∷◌, ◌++◌, length, map, get_or, slice_set, drop, cond, Bool, true, false, All, refl, sym, ap, eq-eqb, true≢false, arith}
use Rattle.std.proofs.lemmas.Bool.{eqb-true}
use Rattle.std.proofs.lemmas.Bool.Decides.{nat_tests}
use Rattle.std.proofs.lemmas.List.{drop_all, drop_more, ext_get_or, get_or-set_other, get_or-set_same, length-map, length-set, length_push}
use Rattle.std.proofs.lemmas.List.Elements.{All-append, All-tail}
use Rattle.std.proofs.lemmas.List.Folds.{list_any-append}
use Rattle.sig_hist.proofs.Mapped.{mapped}
use Rattle.sig_hist.specs.Bells.{AreListed, ArePlaces, changed_at, is_waiting, wait_begun, wait_ended}
use Rattle.sig_hist.specs.Plain.{leaf_armed, leaf_checked, leaf_of, leaf_settled, no_leaf}
use Rattle.sig_hist.specs.Ports.{checked, is_open, settled}
use Rattle.sig_hist.specs.Sources.{is_among}
use Rattle.sig_hist.specs.declared.bells.PlainLeaf.{PlainLeaf}
use Rattle.sig_hist.specs.declared.ports.Condition.{Condition}
use Rattle.sig_hist.specs.declared.ports.Condition.TheVariants.{Idle, Armed, Checked, Waiting}
use Rattle.sig_hist.specs.declared.ports.Version.{Version}

-- ---- places

all_none : {X : Type 0} (P : X → Type 0) → All P []
all_none P k default below = absurd (omega (arith, below))

pub no_places : (count capacity : ℕ) → count ≤ capacity → ArePlaces count [] capacity
no_places count capacity room = record { within = all_none (λ place. place < count); few = omega arith; room = room }

-- a list with one more at its end
pub among_pushed : (place : ℕ) (places : List ℕ) → is_among place (places ++ place ∷ []) ≡ true
among_pushed place places = rw (list_any-append (λ y. y == place) places (place ∷ [])) (either (is_among place places) (place == place) (eq-eqb place place refl))
  where
    either : (a b : Bool) → b ≡ true → (a || (b || false)) ≡ true
    either true b is = refl
    either false true is = refl
    either false false is = cc

pub among_more : (other place : ℕ) (places : List ℕ) → is_among other places ≡ true → is_among other (places ++ place ∷ []) ≡ true
among_more other place places among = rw (list_any-append (λ y. y == other) places (place ∷ []), among) refl

pub places_pushed : (count place : ℕ) (places : List ℕ) (capacity : ℕ) → place < count → length places < count → All (λ it. it < count) places → count ≤ capacity → ArePlaces count (places ++ place ∷ []) capacity
places_pushed count place places capacity within few all room = record {
  within = All-append (λ it. it < count) places (place ∷ []) all (one within);
  few = omega (arith, length_push places place, few);
  room = room;
}
  where
    one : place < count → All (λ it. it < count) (place ∷ [])
    one within zero default below = within
    one within (suc k) default below = absurd (omega (arith, below))

-- one that is listed is one of so many
pub among_within : (count other : ℕ) (places : List ℕ) → All (λ it. it < count) places → is_among other places ≡ true → other < count
among_within count other [] within among = cc
among_within count other (place ∷ places) within among =
    elim (place == other) as (λ same. (place == other) ≡ same → (same || is_among other places) ≡ true → other < count) [
      | true ↦ λ is among. rw (← (eqb-true place other is)) (within 0 place (omega arith))
      | false ↦ λ is among. among_within count other places (All-tail (λ it. it < count) place places within) among
    ] refl among

-- a loop that lists all of so many
pub record AllListed (count next : ℕ) (places : List ℕ) : Type 0 where
  pub listed : (other : ℕ) → other < next → is_among other places ≡ true
  pub within : All (λ it. it < count) places
  pub long : length places ≡ next

pub all_listed_start : (count : ℕ) (places : List ℕ) → places ≡ [] → AllListed count 0 places
all_listed_start count places is = rw is (record { listed = λ other below. absurd (omega (arith, below)); within = all_none (λ it. it < count); long = refl })

pub all_listed_more : (count next : ℕ) (places : List ℕ) → next < count → AllListed count next places → AllListed count (next + 1) (places ++ next ∷ [])
all_listed_more count next places within done = record {
  listed = λ other below. by other (next == other) refl below;
  within = All-append (λ it. it < count) places (next ∷ []) done.within (λ k default below. first k default below);
  long = omega (arith, length_push places next, done.long);
}
  where
    first : (k default : ℕ) → k < 1 → get_or (next ∷ []) k default < count
    first zero default below = within
    first (suc k) default below = absurd (omega (arith, below))

    by : (other : ℕ) (same : Bool) → (next == other) ≡ same → other < next + 1 → is_among other (places ++ next ∷ []) ≡ true
    by other true is below = rw (← (eqb-true next other is)) (among_pushed next places)
    by other false is below = among_more other next places (done.listed other (grind (arith, nat_tests)))

-- ---- leaves that are changed at some places

length_changed : (f : PlainLeaf → PlainLeaf) (places : List ℕ) (leaves : List PlainLeaf) → length (changed_at f places leaves) ≡ length leaves
length_changed f [] leaves = refl
length_changed f (place ∷ places) leaves = length_changed f places (slice_set leaves place (f (get_or leaves place no_leaf))) ∙ length-set leaves place (f (get_or leaves place no_leaf))

-- a loop that changes them: what is left to do gives what all would
pub record AreChanging (f : PlainLeaf → PlainLeaf) (places : List ℕ) (index : ℕ) (leaves initial : List PlainLeaf) : Type 0 where
  pub left : changed_at f (drop index places) leaves ≡ changed_at f places initial
  pub long : length leaves ≡ length initial

pub changing_more : (f : PlainLeaf → PlainLeaf) (places : List ℕ) (index : ℕ) (leaves initial : List PlainLeaf) (place : ℕ) (leaf : PlainLeaf) → index < length places →
    place ≡ get_or places index 0 → leaf ≡ f (get_or leaves place no_leaf) → AreChanging f places index leaves initial → AreChanging f places (index + 1) (slice_set leaves place leaf) initial
changing_more f places index leaves initial place leaf within at changed done =
    rw (changed, at) (record {
      left = sym (ap (λ (rest : List ℕ). changed_at f rest leaves) (drop_more places index 0 within)) ∙ done.left;
      long = length-set leaves (get_or places index 0) (f (get_or leaves (get_or places index 0) no_leaf)) ∙ done.long;
    })

pub changing_end : (f : PlainLeaf → PlainLeaf) (places : List ℕ) (index : ℕ) (leaves initial : List PlainLeaf) → length places ≤ index → AreChanging f places index leaves initial → leaves ≡ changed_at f places initial
changing_end f places index leaves initial end done = sym (ap (λ (rest : List ℕ). changed_at f rest leaves) (drop_all index places end)) ∙ done.left

module _ (f : PlainLeaf → PlainLeaf) (again : (leaf : PlainLeaf) → f (f leaf) ≡ f leaf) where
  one_changed : (place : ℕ) (leaves : List PlainLeaf) (k : ℕ) (same among : Bool) → (place == k) ≡ same → k < length leaves →
      cond among (f (get_or (slice_set leaves place (f (get_or leaves place no_leaf))) k no_leaf)) (get_or (slice_set leaves place (f (get_or leaves place no_leaf))) k no_leaf)
      ≡ cond (same || among) (f (get_or leaves k no_leaf)) (get_or leaves k no_leaf)
  one_changed place leaves k true among is within =
      let at : place ≡ k = eqb-true place k is in
      rw (at, get_or-set_same leaves k (f (get_or leaves k no_leaf)) no_leaf within) (twice among)
    where
      twice : (among : Bool) → cond among (f (f (get_or leaves k no_leaf))) (f (get_or leaves k no_leaf)) ≡ f (get_or leaves k no_leaf)
      twice true = again (get_or leaves k no_leaf)
      twice false = refl
  one_changed place leaves k false among is within = rw (get_or-set_other leaves place k (f (get_or leaves place no_leaf)) no_leaf (grind (arith, nat_tests))) refl

  -- each is changed as if once
  changed_get : (places : List ℕ) (leaves : List PlainLeaf) (k : ℕ) → k < length leaves →
      get_or (changed_at f places leaves) k no_leaf ≡ cond (is_among k places) (f (get_or leaves k no_leaf)) (get_or leaves k no_leaf)
  changed_get [] leaves k within = refl
  changed_get (place ∷ places) leaves k within =
      let next : List PlainLeaf = slice_set leaves place (f (get_or leaves place no_leaf)) in
      changed_get places next k (omega (arith, within, length-set leaves place (f (get_or leaves place no_leaf))))
      ∙ one_changed place leaves k (place == k) (is_among k places) refl within

  -- where every other leaf would stay as it is, all are changed
  pub changed_all : (places : List ℕ) (leaves : List PlainLeaf) → f no_leaf ≡ no_leaf → ((k : ℕ) → is_among k places ≡ false → f (get_or leaves k no_leaf) ≡ get_or leaves k no_leaf) →
      changed_at f places leaves ≡ map f leaves
  changed_all places leaves none stays =
      ext_get_or no_leaf (changed_at f places leaves) (map f leaves) (length_changed f places leaves ∙ sym (length-map leaves f))
      (λ k below. changed_get places leaves k (omega (arith, below, length_changed f places leaves)) ∙ whole (is_among k places) k (stays k) ∙ sym (mapped f none leaves k))
    where
      whole : (among : Bool) (k : ℕ) → (among ≡ false → f (get_or leaves k no_leaf) ≡ get_or leaves k no_leaf) → cond among (f (get_or leaves k no_leaf)) (get_or leaves k no_leaf) ≡ f (get_or leaves k no_leaf)
      whole true k stays = refl
      whole false k stays = sym (stays refl)

-- ---- a look

checked_again : (version : Version) (condition : Condition) → checked version (checked version condition) ≡ checked version condition
checked_again version Idle = refl
checked_again version Armed = refl
checked_again version (Checked old) = refl
checked_again version (Waiting old) = refl

checked_open : (version : Version) (condition : Condition) → is_open condition ≡ false → checked version condition ≡ condition
checked_open version Idle closed = refl
checked_open version Armed closed = cc
checked_open version (Checked old) closed = cc
checked_open version (Waiting old) closed = refl

still_open : (version : Version) (condition : Condition) → is_open (checked version condition) ≡ is_open condition
still_open version Idle = refl
still_open version Armed = refl
still_open version (Checked old) = refl
still_open version (Waiting old) = refl

still_waiting : (version : Version) (condition : Condition) → is_waiting (checked version condition) ≡ is_waiting condition
still_waiting version Idle = refl
still_waiting version Armed = refl
still_waiting version (Checked old) = refl
still_waiting version (Waiting old) = refl

not_open : (a b : Bool) → (a ≡ true → b ≡ true) → b ≡ false → a ≡ false
not_open true b then is = absurd (true≢false (sym (then refl) ∙ is))
not_open false b then is = refl

module _ (source : ℕ) (version : Version) where
  either_way : (same : Bool) (leaf : PlainLeaf) → (is_open leaf.condition ≡ false → record leaf { condition = cond same (checked version leaf.condition) leaf.condition } ≡ leaf)
  either_way true leaf closed = ap (λ (condition : Condition). record leaf { condition = condition }) (checked_open version leaf.condition closed)
  either_way false leaf closed = refl

  twice : (same : Bool) (condition : Condition) → cond same (checked version (cond same (checked version condition) condition)) (cond same (checked version condition) condition) ≡ cond same (checked version condition) condition
  twice true condition = checked_again version condition
  twice false condition = refl

  leaf_checked_again : (leaf : PlainLeaf) → leaf_checked source version (leaf_checked source version leaf) ≡ leaf_checked source version leaf
  leaf_checked_again leaf = ap (λ (condition : Condition). record leaf { condition = condition }) (twice (leaf.source == source) leaf.condition)

  none_checked : leaf_checked source version no_leaf ≡ no_leaf
  none_checked = either_way (0 == source) no_leaf refl

  opens_stay : (same : Bool) (condition : Condition) → is_open (cond same (checked version condition) condition) ≡ is_open condition
  opens_stay true condition = still_open version condition
  opens_stay false condition = refl

  waits_stay : (same : Bool) (condition : Condition) → is_waiting (cond same (checked version condition) condition) ≡ is_waiting condition
  waits_stay true condition = still_waiting version condition
  waits_stay false condition = refl

  module _ {leaves : List PlainLeaf} {armed waiting : List ℕ} {armed_room waiting_room : ℕ} (listed : AreListed leaves armed waiting armed_room waiting_room) where
    pub check_all : changed_at (leaf_checked source version) armed leaves ≡ map (leaf_checked source version) leaves
    check_all = changed_all (leaf_checked source version) leaf_checked_again armed leaves none_checked
        (λ k out. either_way ((get_or leaves k no_leaf).source == source) (get_or leaves k no_leaf) (not_open _ _ (listed.opens k) out))

    pub listed_checked : AreListed (map (leaf_checked source version) leaves) armed waiting armed_room waiting_room
    listed_checked = record {
      opens = λ k opened. listed.opens k (sym (opens_stay ((get_or leaves k no_leaf).source == source) (get_or leaves k no_leaf).condition)
          ∙ sym (ap (λ (leaf : PlainLeaf). is_open leaf.condition) (mapped (leaf_checked source version) none_checked leaves k)) ∙ opened);
      waits = λ k waits. listed.waits k (sym (waits_stay ((get_or leaves k no_leaf).source == source) (get_or leaves k no_leaf).condition)
          ∙ sym (ap (λ (leaf : PlainLeaf). is_waiting leaf.condition) (mapped (leaf_checked source version) none_checked leaves k)) ∙ waits);
      of_armed = rw (length-map leaves (leaf_checked source version)) listed.of_armed;
      of_waiting = rw (length-map leaves (leaf_checked source version)) listed.of_waiting;
    }

-- ---- a bell that is set

module _ {leaves : List PlainLeaf} {armed waiting : List ℕ} {armed_room waiting_room : ℕ} (listed : AreListed leaves armed waiting armed_room waiting_room) where
  pub listed_armed : (leaf : ℕ) (more : List ℕ) (more_room : ℕ) → leaf < length leaves → is_among leaf more ≡ true → ((other : ℕ) → is_among other armed ≡ true → is_among other more ≡ true) →
      ArePlaces (length leaves) more more_room → AreListed (slice_set leaves leaf (leaf_armed (get_or leaves leaf no_leaf))) more waiting more_room waiting_room
  listed_armed leaf more more_room within among others places = record {
    opens = λ k opened. by_place k (leaf == k) refl opened;
    waits = λ k waits. waits_too k (leaf == k) refl waits;
    of_armed = rw (length-set leaves leaf (leaf_armed (get_or leaves leaf no_leaf))) places;
    of_waiting = rw (length-set leaves leaf (leaf_armed (get_or leaves leaf no_leaf))) listed.of_waiting;
  }
    where
      next : List PlainLeaf
      next = slice_set leaves leaf (leaf_armed (get_or leaves leaf no_leaf))

      by_place : (k : ℕ) (same : Bool) → (leaf == k) ≡ same → is_open (get_or next k no_leaf).condition ≡ true → is_among k more ≡ true
      by_place k true is opened = rw (eqb-true leaf k is) at among
      by_place k false is opened = others k (listed.opens k (rw (get_or-set_other leaves leaf k (leaf_armed (get_or leaves leaf no_leaf)) no_leaf (grind (arith, nat_tests))) at opened))

      waits_too : (k : ℕ) (same : Bool) → (leaf == k) ≡ same → is_waiting (get_or next k no_leaf).condition ≡ true → is_among k waiting ≡ true
      waits_too k true is waits =
          let at : leaf ≡ k = eqb-true leaf k is in
          let armed_now : get_or next k no_leaf ≡ leaf_armed (get_or leaves leaf no_leaf) = rw (← at) (get_or-set_same leaves leaf (leaf_armed (get_or leaves leaf no_leaf)) no_leaf within) in
          absurd (true≢false (sym waits ∙ ap (λ (leaf : PlainLeaf). is_waiting leaf.condition) armed_now))
      waits_too k false is waits = listed.waits k (rw (get_or-set_other leaves leaf k (leaf_armed (get_or leaves leaf no_leaf)) no_leaf (grind (arith, nat_tests))) at waits)

  -- one whose bell was set already
  pub listed_armed_again : (leaf : ℕ) → leaf < length leaves → is_open (get_or leaves leaf no_leaf).condition ≡ true → AreListed (slice_set leaves leaf (leaf_armed (get_or leaves leaf no_leaf))) armed waiting armed_room waiting_room
  listed_armed_again leaf within opened = listed_armed leaf armed armed_room within (listed.opens leaf opened) (λ other among. among) listed.of_armed

-- ---- a rest

ended_again : (leaf : PlainLeaf) → wait_ended (wait_ended leaf) ≡ wait_ended leaf
ended_again leaf = ap (λ (condition : Condition). record leaf { condition = condition }) (again leaf.condition)
  where
    again : (condition : Condition) → (wait_ended (record no_leaf { condition = (wait_ended (record no_leaf { condition = condition })).condition })).condition ≡ (wait_ended (record no_leaf { condition = condition })).condition
    again Idle = refl
    again Armed = refl
    again (Checked version) = refl
    again (Waiting version) = refl

begun_again : (leaf : PlainLeaf) → wait_begun (wait_begun leaf) ≡ wait_begun leaf
begun_again leaf = ap (λ (condition : Condition). record leaf { condition = condition }) (again leaf.condition)
  where
    again : (condition : Condition) → (wait_begun (record no_leaf { condition = (wait_begun (record no_leaf { condition = condition })).condition })).condition ≡ (wait_begun (record no_leaf { condition = condition })).condition
    again Idle = refl
    again Armed = refl
    again (Checked version) = refl
    again (Waiting version) = refl

-- by whether the leaf is listed as one that waits, and as one whose bell was set
settled_leaf : (leaf : PlainLeaf) (waits armed : Bool) → (is_waiting leaf.condition ≡ true → waits ≡ true) → (is_open leaf.condition ≡ true → armed ≡ true) →
    cond armed (wait_begun (cond waits (wait_ended leaf) leaf)) (cond waits (wait_ended leaf) leaf) ≡ leaf_settled leaf
settled_leaf leaf true true listed opened = ap (λ (condition : Condition). record leaf { condition = condition }) (by leaf.condition)
  where
    by : (condition : Condition) → (wait_begun (wait_ended (record no_leaf { condition = condition }))).condition ≡ settled condition
    by Idle = refl
    by Armed = refl
    by (Checked version) = refl
    by (Waiting version) = refl
settled_leaf leaf true false listed opened = ap (λ (condition : Condition). record leaf { condition = condition }) (by leaf.condition opened)
  where
    by : (condition : Condition) → (is_open condition ≡ true → false ≡ true) → (wait_ended (record no_leaf { condition = condition })).condition ≡ settled condition
    by Idle opened = refl
    by Armed opened = absurd (true≢false (sym (opened refl)))
    by (Checked version) opened = absurd (true≢false (sym (opened refl)))
    by (Waiting version) opened = refl
settled_leaf leaf false true listed opened = ap (λ (condition : Condition). record leaf { condition = condition }) (by leaf.condition listed)
  where
    by : (condition : Condition) → (is_waiting condition ≡ true → false ≡ true) → (wait_begun (record no_leaf { condition = condition })).condition ≡ settled condition
    by Idle listed = refl
    by Armed listed = refl
    by (Checked version) listed = refl
    by (Waiting version) listed = absurd (true≢false (sym (listed refl)))
settled_leaf leaf false false listed opened = ap (λ (condition : Condition). record leaf { condition = condition }) (by leaf.condition listed opened)
  where
    by : (condition : Condition) → (is_waiting condition ≡ true → false ≡ true) → (is_open condition ≡ true → false ≡ true) → condition ≡ settled condition
    by Idle listed opened = refl
    by Armed listed opened = absurd (true≢false (sym (opened refl)))
    by (Checked version) listed opened = absurd (true≢false (sym (opened refl)))
    by (Waiting version) listed opened = absurd (true≢false (sym (listed refl)))

never_open : (condition : Condition) → is_open (settled condition) ≡ false
never_open Idle = refl
never_open Armed = refl
never_open (Checked version) = refl
never_open (Waiting version) = refl

waits_from_open : (condition : Condition) → is_waiting (settled condition) ≡ true → is_open condition ≡ true
waits_from_open Idle waits = cc
waits_from_open Armed waits = cc
waits_from_open (Checked version) waits = refl
waits_from_open (Waiting version) waits = cc

module _ {leaves : List PlainLeaf} {armed waiting : List ℕ} {armed_room waiting_room : ℕ} (listed : AreListed leaves armed waiting armed_room waiting_room) where
  pub settle_all : changed_at wait_begun armed (changed_at wait_ended waiting leaves) ≡ map leaf_settled leaves
  settle_all =
      let ended : List PlainLeaf = changed_at wait_ended waiting leaves in
      let long : length (changed_at wait_begun armed ended) ≡ length leaves = length_changed wait_begun armed ended ∙ length_changed wait_ended waiting leaves in
      ext_get_or no_leaf (changed_at wait_begun armed ended) (map leaf_settled leaves) (long ∙ sym (length-map leaves leaf_settled))
      (λ k below.
      let within : k < length leaves = omega (arith, below, long) in
      let first : get_or ended k no_leaf ≡ cond (is_among k waiting) (wait_ended (get_or leaves k no_leaf)) (get_or leaves k no_leaf) = changed_get wait_ended ended_again waiting leaves k within in
      changed_get wait_begun begun_again armed ended k (omega (arith, within, length_changed wait_ended waiting leaves))
      ∙ ap (λ (leaf : PlainLeaf). cond (is_among k armed) (wait_begun leaf) leaf) first
      ∙ settled_leaf (get_or leaves k no_leaf) (is_among k waiting) (is_among k armed) (listed.waits k) (listed.opens k)
      ∙ sym (mapped leaf_settled refl leaves k))

  pub listed_settled : AreListed (map leaf_settled leaves) [] armed waiting_room armed_room
  listed_settled = record {
    opens = λ k opened. absurd (true≢false (sym (sym (ap (λ (leaf : PlainLeaf). is_open leaf.condition) (mapped leaf_settled refl leaves k)) ∙ opened) ∙ never_open (get_or leaves k no_leaf).condition));
    waits = λ k waits. listed.opens k (waits_from_open (get_or leaves k no_leaf).condition (sym (ap (λ (leaf : PlainLeaf). is_waiting leaf.condition) (mapped leaf_settled refl leaves k)) ∙ waits));
    of_armed = no_places _ _ (rw (length-map leaves leaf_settled) listed.of_waiting.room);
    of_waiting = rw (length-map leaves leaf_settled) listed.of_armed;
  }

-- ---- the start

pub none_listed : (sources : List ℕ) (leaves : List PlainLeaf) (armed waiting : List ℕ) (armed_room waiting_room : ℕ) → leaves ≡ map leaf_of sources → armed ≡ [] → waiting ≡ [] →
    length sources ≤ armed_room → length sources ≤ waiting_room → AreListed leaves armed waiting armed_room waiting_room
none_listed sources leaves armed waiting armed_room waiting_room are no_armed no_waiting room other = rw (are, no_armed, no_waiting) (record {
  opens = λ k opened. absurd (true≢false (sym opened ∙ idle sources k));
  waits = λ k waits. absurd (true≢false (sym waits ∙ at_rest sources k));
  of_armed = no_places _ _ (rw (length-map sources leaf_of) room);
  of_waiting = no_places _ _ (rw (length-map sources leaf_of) other);
})
  where
    idle : (sources : List ℕ) (k : ℕ) → is_open (get_or (map leaf_of sources) k no_leaf).condition ≡ false
    idle [] k = refl
    idle (source ∷ sources) zero = refl
    idle (source ∷ sources) (suc k) = idle sources k

    at_rest : (sources : List ℕ) (k : ℕ) → is_waiting (get_or (map leaf_of sources) k no_leaf).condition ≡ false
    at_rest [] k = refl
    at_rest (source ∷ sources) zero = refl
    at_rest (source ∷ sources) (suc k) = at_rest sources k
