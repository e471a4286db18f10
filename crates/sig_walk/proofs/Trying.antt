-- What fetches before the first row leave.
use Rattle.std.proofs.Common.{◌≢◌, ◌<◌, slice_get, Some, ◌≡◌, ◌∙◌, ℕ, zero, suc, ◌+◌, ◌≤◌, ◌==◌, List, [], ◌∷◌, length, slice_set, cond, Bool, true, false, None, refl, sym, ap, arith}
use Rattle.std.proofs.lemmas.Bool.{eqb-true}
use Rattle.std.proofs.lemmas.List.{length-set, take_all}
use Rattle.sig_hist.specs.Ports.{GoesOn, IsFetch, IsFetchInVain, IsSoundPort, PortState, seen_of}
use Rattle.sig_hist.specs.declared.edits.Entry.{Entry}
use Rattle.sig_hist.specs.declared.ports.Fetched.{Fetched}
use Rattle.sig_walk.proofs.Staying.{still_within}
use Rattle.sig_hist.specs.Ways.{AreWithin}
use Rattle.sig_walk.specs.Walking.{CanWalk, HasGone, arrived, HasLooked, Progress, seen_source, seen_sources}

-- ---- what a fetch leaves of a port

pub unseen : (s : PortState) (source : ℕ) → GoesOn s source (s.seen source) (s.count source)
unseen s source = record { front = take_all (length (s.seen source)) (s.seen source) (omega arith); known = omega arith; closed = λ closed. refl }

pub put_seen : (s : PortState) (at k : ℕ) (seen : List Entry) (count : ℕ) (same : Bool) → (k == at) ≡ same → GoesOn s at seen count → GoesOn s k (cond same seen (s.seen k)) (cond same count (s.count k))
put_seen s at k seen count true is goes = rw (eqb-true k at is) goes
put_seen s at k seen count false is goes = unseen s k

pub looked_same : (s : PortState) → HasLooked s s
looked_same s = record {
  is_own = refl;
  source = refl;
  task = refl;
  plan = refl;
  arms = refl;
  tokens = refl;
  missed = refl;
  seen = unseen s;
  met = take_all (length s.met) s.met (omega arith);
  rings = λ leaf. refl;
  waits = λ leaf version waits. waits;
}

-- a source was seen to a later moment of its history
pub seen_looked : (s t : PortState) (source : ℕ) (seen : List Entry) (count : ℕ) → t ≡ seen_of s source seen count → GoesOn s source seen count → HasLooked s t
seen_looked s t source seen count is goes = record {
  is_own = ap (λ (p : PortState). p.is_own) is;
  source = ap (λ (p : PortState). p.source) is;
  task = ap (λ (p : PortState). p.task) is;
  plan = ap (λ (p : PortState). p.plan) is;
  arms = ap (λ (p : PortState). p.arms) is;
  tokens = ap (λ (p : PortState). p.tokens) is;
  missed = ap (λ (p : PortState). p.missed) is;
  seen = λ k. rw is (put_seen s source k seen count (k == source) refl goes);
  met = rw is (take_all (length s.met) s.met (omega arith));
  rings = λ leaf. rw is refl;
  waits = λ leaf version waits. rw is waits;
}

-- ---- lists

module _ {X : Type 0} where
  pub get_set_same : (xs : List X) (place : ℕ) (x : X) → place < length xs → slice_get (slice_set xs place x) place ≡ Some x
  get_set_same [] place x below = absurd (omega (arith, below))
  get_set_same (y ∷ xs) zero x below = refl
  get_set_same (y ∷ xs) (suc place) x below = get_set_same xs place x (omega (arith, below))

  pub get_set_other : (xs : List X) (place other : ℕ) (x : X) → other ≢ place → slice_get (slice_set xs place x) other ≡ slice_get xs other
  get_set_other [] place other x apart = refl
  get_set_other (y ∷ xs) zero zero x apart = absurd (apart refl)
  get_set_other (y ∷ xs) zero (suc other) x apart = refl
  get_set_other (y ∷ xs) (suc place) zero x apart = refl
  get_set_other (y ∷ xs) (suc place) (suc other) x apart = get_set_other xs place other x (λ same. apart (ap suc same))

-- ---- walks go on

pub within_set : (t : PortState) (first count : ℕ) (positions : List ℕ) (leaf position : ℕ) → AreWithin (seen_sources t first count) positions → position ≤ length (seen_source t (first + leaf)).history →
    AreWithin (seen_sources t first count) (slice_set positions leaf position)
within_set t first zero [] leaf position within below = tt
within_set t first (suc count) [] leaf position within below = absurd within
within_set t first zero (old ∷ positions) leaf position within below = absurd within
within_set t first (suc count) (old ∷ positions) zero position within below =
    let same : first + 0 ≡ first = omega arith in (rw same at below, within.1)
within_set t first (suc count) (old ∷ positions) (suc leaf) position within below =
    let same : first + suc leaf ≡ (first + 1) + leaf = omega arith in
    (within.0, within_set t (first + 1) count positions leaf position within.1 (rw same at below))

module _ (s t : PortState) (old new : Progress) where
  pub gone : CanWalk s old → IsSoundPort t → HasLooked s t → new.first ≡ old.first → length new.positions ≡ length old.positions → length new.marks ≡ length old.marks →
      AreWithin (seen_sources t old.first (length old.positions)) new.positions → HasGone s t old new
  gone can sound looked first leaves marks within = record {
    looked = looked;
    first = first;
    leaves = leaves;
    can = record {
      sound = sound;
      numbers = rw (first, leaves) can.numbers;
      own = λ leaf below. rw (first, looked.is_own) (can.own leaf (omega (arith, below, leaves)));
      within = rw (first, leaves) within;
      marks = marks ∙ can.marks ∙ sym leaves;
    };
  }

  -- the positions have stayed
  pub gone_stays : CanWalk s old → IsSoundPort t → HasLooked s t → new.first ≡ old.first → new.positions ≡ old.positions → length new.marks ≡ length old.marks → HasGone s t old new
  gone_stays can sound looked first positions marks =
      gone can sound looked first (ap length positions) marks (rw positions (still_within s t looked old.first (length old.positions) old.positions can.within))

  -- one leaf has come to the end of its source's history
  pub gone_set : CanWalk s old → IsSoundPort t → HasLooked s t → new.first ≡ old.first → (leaf : ℕ) → new.positions ≡ slice_set old.positions leaf (length (seen_source t (old.first + leaf)).history) → length new.marks ≡ length old.marks → HasGone s t old new
  gone_set can sound looked first leaf positions marks =
      gone can sound looked first (ap length positions ∙ length-set old.positions leaf _) marks
      (rw positions (within_set t old.first (length old.positions) old.positions leaf _ (still_within s t looked old.first (length old.positions) old.positions can.within) (omega arith)))

-- the walk after a fetch, and after one in vain
pub got_gone : (s t : PortState) (old new : Progress) (leaf number : ℕ) (fetched : Fetched) → number ≡ old.first + leaf → CanWalk s old → IsSoundPort t → IsFetch s t number None fetched → new ≡ arrived old leaf fetched.version → HasGone s t old new
got_gone s t old new leaf number fetched same can sound fetch_is is =
    let fetch : IsFetch s t (old.first + leaf) None fetched = rw same at fetch_is in
    let source : ℕ = s.source (old.first + leaf) in
    let looked : HasLooked s t = seen_looked s t source (t.seen source) (length (t.seen source)) fetch.state fetch.goes_on in
    let end : fetched.version.count ≡ length (seen_source t (old.first + leaf)).history = rw looked.source fetch.count in
    rw is (gone_set s t old (arrived old leaf fetched.version) can sound looked refl leaf (ap (slice_set old.positions leaf) end) (length-set old.marks leaf _))

pub vain_gone : (s t : PortState) (walk : Progress) (source : ℕ) → CanWalk s walk → IsSoundPort t → IsFetchInVain s t source → HasGone s t walk walk
vain_gone s t walk source can sound vain = gone_stays s t walk walk can sound (seen_looked s t source (t.seen source) (t.count source) vain.state vain.goes_on) refl refl refl
