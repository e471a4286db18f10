-- What a walk's sources have shown stays shown, and a leaf that has gone on had something to go to.
use Rattle.std.proofs.Common.{◌≡◌, ◌≢◌, ℕ, suc, ◌+◌, ◌<◌, ◌≤◌, ◌==◌, List, [], ◌∷◌, length, slice_index, Bool, true, false, refl, arith, le_trans}
use Rattle.std.proofs.lemmas.Bool.{eqb-true}
use Rattle.sig_hist.proofs.Ways.{go_on_at}
use Rattle.sig_hist.specs.Ports.{PortState}
use Rattle.sig_hist.specs.Ways.{GoOn}
use Rattle.sig_walk.proofs.Arriving.{counts}
use Rattle.sig_walk.specs.Walking.{HasGone, HasLooked, HasNews, Progress}

pub news_later : {s t : PortState} {old : Progress} → HasLooked s t → HasNews s old → HasNews t old
news_later {s} {t} {old} looked news =
    record { leaf = news.leaf; within = news.within; more = rw looked.source (le_trans news.more (looked.seen (s.source (old.first + news.leaf))).known) }

-- it is so for every walk that stands there
pub news_same : {t : PortState} {old other : Progress} → other.first ≡ old.first → other.positions ≡ old.positions → HasNews t other → HasNews t old
news_same first positions news = record { leaf = news.leaf; within = rw positions at news.within; more = rw (first, positions) at news.more }

-- what is news for a later part of a walk is news for all of it
pub news_before : {s t u : PortState} {old mid : Progress} → HasGone s t old mid → GoOn old.positions mid.positions → HasNews u mid → HasNews u old
news_before {u = u} {old = old} {mid = mid} gone goes news =
    let further : slice_index old.positions news.leaf < u.count (u.source (mid.first + news.leaf)) = omega (arith, go_on_at old.positions mid.positions goes news.leaf, news.more) in
    record { leaf = news.leaf; within = omega (arith, gone.leaves, news.within); more = rw gone.first at further }

-- ---- leaves that have gone on

record HasRisen (from to : List ℕ) : Type 0 where
  leaf : ℕ
  within : leaf < length from
  more : slice_index from leaf < slice_index to leaf

risen_by : (was is : ℕ) (from to : List ℕ) (same : Bool) → (is == was) ≡ same → was ≤ is → (to ≢ from → HasRisen from to) → (is ∷ to) ≢ (was ∷ from) → HasRisen (was ∷ from) (is ∷ to)
risen_by was is from to true same ahead later apart =
    let here : is ≡ was = eqb-true is was same in
    let rest = later (λ there. apart (rw (here, there) refl)) in
    record { leaf = suc rest.leaf; within = omega (arith, rest.within); more = rest.more }
risen_by was is from to false same ahead later apart = record { leaf = 0; within = omega arith; more = grind (arith, ahead, same) }

risen : (from to : List ℕ) → GoOn from to → to ≢ from → HasRisen from to
risen [] [] goes apart = absurd (apart refl)
risen (was ∷ from) (is ∷ to) goes apart = risen_by was is from to (is == was) refl goes.0 (risen from to goes.1) apart
risen (was ∷ from) [] goes apart = absurd goes
risen [] (is ∷ to) goes apart = absurd goes

pub risen_news : {s t : PortState} {old new : Progress} → HasGone s t old new → GoOn old.positions new.positions → new.positions ≢ old.positions → HasNews t old
risen_news {s} {t} {old} {new} gone goes apart =
    let rise = risen old.positions new.positions goes apart in
    let seen = counts t new rise.leaf gone.can (omega (arith, gone.leaves, rise.within)) in
    let more : slice_index old.positions rise.leaf < t.count (t.source (new.first + rise.leaf)) = omega (arith, rise.more, seen) in
    record { leaf = rise.leaf; within = rise.within; more = rw gone.first at more }
