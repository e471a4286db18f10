-- A task comes to rest: the bells of its open leaves are set one after another, and looks after that show nothing new.
use Rattle.std.proofs.Common.{◌≡◌, ◌∙◌, ℕ, zero, suc, List, [], ◌∷◌, ◌+◌, ◌<◌, ◌≤◌, ◌==◌, nat_lt, length, cond, get_or, slice_index, Bool, true, false, not, ◌||◌, refl, sym, ap, arith, below_more}
use Rattle.std.proofs.lemmas.Bool.{eqb-true, eq-eqb}
use Rattle.std.proofs.lemmas.Bool.Decides.{nat_tests}
use Rattle.std.proofs.lemmas.Option.{get_or_from_slice_get}
use Rattle.sig_hist.specs.Ports.{IsSight, IsSoundPort, PortState, armed, checked, is_news, looked, raised, settled}
use Rattle.sig_hist.specs.declared.ports.Condition.{Condition}
use Rattle.sig_hist.specs.declared.ports.Condition.TheVariants.{Armed, Checked, Waiting}
use Rattle.sig_hist.specs.declared.ports.Version.{Version}
use Rattle.sig_walk.proofs.Leaving.{by_place, put_here, polled_not, polled_armed, polled_looked, polled_rested, polled_again}
use Rattle.sig_walk.specs.Waiting.{CanWait, HasEnded, HasListened, HasHeard, HasRung, HasWaited, IsLast, IsWatched, is_open_leaf, is_open_mark}
use Rattle.sig_walk.specs.Walking.{CanWalk, IsCaughtUp, Progress, is_seen_closed, mark_of, seen_source, seen_sources}
use Rattle.sig_walk.specs.declared.waiting.Waited.{Waited}
use Rattle.sig_walk.specs.declared.waiting.Waited.TheVariants.{Rests, News}
use Rattle.sig_walk.specs.declared.walk.Mark.{Mark}
use Rattle.sig_walk.specs.declared.walk.Mark.TheVariants.{Skipped}

-- a version that is no news
abbrev known_as : ℕ → Version
known_as at = record { count = at; closed = false }

quiet : (same closed : Bool) → not (not same || closed) ≡ true → (same ≡ true) × (closed ≡ false)
quiet true false is = (refl, refl)
quiet true true is = cc
quiet false closed is = cc

quiet_version : (at : ℕ) (version : Version) → not (is_news at version) ≡ true → version ≡ known_as at
quiet_version at version is =
    let parts : ((version.count == at) ≡ true) × (version.closed ≡ false) = quiet (version.count == at) version.closed is in
    λ i. record { count = eqb-true version.count at parts.0 i; closed = parts.1 i }

-- an open leaf's source isn't closed, as far as it is seen
open_when : (mark : Mark) (closed : Bool) → mark ≡ mark_of closed → is_open_mark mark ≡ true → closed ≡ false
open_when mark true is opens = cc
open_when mark false is opens = refl

pub not_closed : (s : PortState) (walk : Progress) (leaf : ℕ) → IsCaughtUp s walk leaf → is_open_leaf walk leaf ≡ true → is_seen_closed s (walk.first + leaf) ≡ false
not_closed s walk leaf caught_up opens = open_when (get_or walk.marks leaf Skipped) _ (get_or_from_slice_get walk.marks leaf _ Skipped caught_up.mark) opens

-- the open leaves below one were told to the port, and each shows its position
pub record ListensBelow (s t : PortState) (walk : Progress) (below : ℕ) : Type 0 where
  pub listened : HasListened s t walk false
  pub sound : IsSoundPort t
  pub counts : (leaf : ℕ) → is_open_leaf walk leaf ≡ true → t.count (s.source (walk.first + leaf)) ≡ slice_index walk.positions leaf
  pub checked_each : (leaf : ℕ) → leaf < below → is_open_leaf walk leaf ≡ true → t.condition (walk.first + leaf) ≡ Checked (known_as (slice_index walk.positions leaf))
  pub armed_each : (leaf : ℕ) → leaf < below → is_open_leaf walk leaf ≡ true → raised (s.arms (walk.first + leaf)) ≤ t.arms (walk.first + leaf)
  pub others : (leaf : ℕ) → below ≤ leaf → t.arms (walk.first + leaf) ≡ s.arms (walk.first + leaf)

looked_keeps : (same : Bool) (version known : Version) (condition : Condition) → condition ≡ Checked known → (same ≡ true → version ≡ known) → cond same (checked version condition) condition ≡ Checked known
looked_keeps true version known condition is same_version = ap (checked version) is ∙ ap Checked (same_version refl)
looked_keeps false version known condition is same_version = is

looked_checks : (same : Bool) (version : Version) (condition : Condition) → condition ≡ Armed → same ≡ true → cond same (checked version condition) condition ≡ Checked version
looked_checks true version condition is same = ap (checked version) is
looked_checks false version condition is same = cc

settled_waits : (same : Bool) (version : Version) (condition : Condition) → condition ≡ Checked version → same ≡ true → cond same (settled condition) condition ≡ Waiting version
settled_waits true version condition is same = ap settled is
settled_waits false version condition is same = cc

more_than_known : (same closed : Bool) → false ≡ not (not same || closed) → (same ≡ true → closed ≡ false) → same ≡ false
more_than_known false closed news quiet = refl
more_than_known true closed news quiet = absurd (let goes_on : not closed ≡ true = ap not (quiet refl) in cc)

pub open_within : (marks : List Mark) (leaf : ℕ) → is_open_mark (get_or marks leaf Skipped) ≡ true → leaf < length marks
open_within [] leaf opens = cc
open_within (mark ∷ marks) zero opens = omega arith
open_within (mark ∷ marks) (suc leaf) opens = omega (arith, open_within marks leaf opens)

not_later : (walk : Progress) (count last leaf : ℕ) → IsLast walk count last → is_open_leaf walk leaf ≡ true → leaf < count → leaf < last + 1
not_later walk count last leaf is opens within = elim (nat_lt last leaf) as (λ above. nat_lt last leaf ≡ above → leaf < last + 1) [
  | true ↦ λ test. let above : last < leaf = grind (arith, nat_tests) in absurd (let shut : is_open_leaf walk leaf ≡ false = is.later leaf above within in cc)
  | false ↦ λ test. grind (arith, nat_tests)
] refl

-- the sources are seen as they were
pub same_sources : (s t : PortState) (first count : ℕ) → t.plan ≡ s.plan → t.source ≡ s.source → t.seen ≡ s.seen → seen_sources t first count ≡ seen_sources s first count
same_sources s t first zero plan source seen = refl
same_sources s t first (suc count) plan source seen =
    let here : seen_source t first ≡ seen_source s first = rw (plan, source, seen) refl in
    rw (here, same_sources s t (first + 1) count plan source seen) refl

module _ (s : PortState) (walk : Progress) (can : CanWait s walk) where
  pub listens_none : ListensBelow s s walk 0
  listens_none = record {
    listened = record { polled = polled_not s walk; seen = refl; met = refl };
    sound = can.can.sound;
    counts = λ leaf opens. (can.caught_up leaf opens).count ∙ sym (can.caught_up leaf opens).position;
    checked_each = λ leaf below. absurd (omega (arith, below));
    armed_each = λ leaf below. absurd (omega (arith, below));
    others = λ leaf above. refl;
  }

  -- leaves of one source have one position
  one_position : (leaf other : ℕ) → is_open_leaf walk leaf ≡ true → is_open_leaf walk other ≡ true → s.source (walk.first + other) ≡ s.source (walk.first + leaf) → slice_index walk.positions other ≡ slice_index walk.positions leaf
  one_position leaf other opens other_opens same =
      (can.caught_up other other_opens).position ∙ ap (λ source. length (s.seen source)) same ∙ sym (can.caught_up leaf opens).position

  module _ (t : PortState) (leaf : ℕ) (before : ListensBelow s t walk leaf) where
    abbrev at : ℕ
    at = walk.first + leaf

    abbrev rung : Version → PortState
    rung version = looked (armed t at) (t.source at) version

    pub can_still : CanWalk t walk
    can_still = record {
      sound = before.sound;
      numbers = can.can.numbers;
      own = λ k within. rw before.listened.polled.is_own (can.can.own k within);
      within = rw (same_sources s t walk.first (length walk.positions) before.listened.polled.plan before.listened.polled.source before.listened.seen) can.can.within;
      marks = can.can.marks;
    }

    same_source : (k : ℕ) → t.source k ≡ s.source k
    same_source k = ap (λ source. source k) before.listened.polled.source

    mine : leaf < length walk.positions → t.task at ≡ t.task walk.first
    mine within = rw before.listened.polled.task (can.one_task leaf within)

    rung_listens : (version : Version) → leaf < length walk.positions → t.count (t.source at) ≤ version.count → HasListened s (rung version) walk false
    rung_listens version within known = record {
      polled = polled_again s t (rung version) walk false before.listened.polled
          (polled_again t (armed t at) (rung version) walk false (polled_armed t walk leaf within (mine within)) (polled_looked (armed t at) walk (t.source at) version known));
      seen = before.listened.seen;
      met = before.listened.met;
    }

    -- one more leaf shows its position
    still : leaf < length walk.positions → is_open_leaf walk leaf ≡ true → let version : Version = known_as (slice_index walk.positions leaf) in IsSight t at version → IsSoundPort (rung version) → ListensBelow s (rung version) walk (leaf + 1)
    still within opens sight sound =
        let position : ℕ = slice_index walk.positions leaf in
        let version : Version = known_as position in
        let same_at : (k : ℕ) → is_open_leaf walk k ≡ true → t.source (walk.first + k) ≡ t.source at → slice_index walk.positions k ≡ position =
        λ k opens_too same. one_position leaf k opens opens_too (sym (same_source (walk.first + k)) ∙ same ∙ same_source at) in
        record {
          listened = rung_listens version within sight.count;
          sound = sound;
          counts = λ k opens_too. by_place t.count (t.source at) position (s.source (walk.first + k)) (λ count. count ≡ slice_index walk.positions k)
              (λ here. sym (same_at k opens_too (same_source (walk.first + k) ∙ here))) (λ apart. before.counts k opens_too);
          checked_each = below_more (λ k. is_open_leaf walk k ≡ true → (rung version).condition (walk.first + k) ≡ Checked (known_as (slice_index walk.positions k))) leaf
              (λ k below opens_too. looked_keeps (t.source (walk.first + k) == t.source at) version (known_as (slice_index walk.positions k)) _
              (by_place t.condition at Armed (walk.first + k) (λ condition. condition ≡ Checked (known_as (slice_index walk.positions k))) (λ here. absurd (omega (arith, below, here))) (λ apart. before.checked_each k below opens_too))
              (λ same. ap known_as (sym (same_at k opens_too (eqb-true (t.source (walk.first + k)) (t.source at) same)))))
              (λ opens_too. looked_checks (t.source at == t.source at) version _ (put_here t.condition at Armed) (eq-eqb (t.source at) (t.source at) refl));
          armed_each = below_more (λ k. is_open_leaf walk k ≡ true → raised (s.arms (walk.first + k)) ≤ (rung version).arms (walk.first + k)) leaf
              (λ k below opens_too. by_place t.arms at (raised (t.arms at)) (walk.first + k) (λ arms. raised (s.arms (walk.first + k)) ≤ arms) (λ here. absurd (omega (arith, below, here))) (λ apart. before.armed_each k below opens_too))
              (λ opens_too. let same : t.arms at ≡ s.arms at = before.others leaf (omega arith) in rw (put_here t.arms at (raised (t.arms at)), same) (omega arith));
          others = λ k above. by_place t.arms at (raised (t.arms at)) (walk.first + k) (λ arms. arms ≡ s.arms (walk.first + k)) (λ here. absurd (omega (arith, above, here))) (λ apart. before.others k (omega (arith, above)));
        }

    -- a look shows that a leaf's source goes on
    news : (u : PortState) → leaf < length walk.positions → is_open_leaf walk leaf ≡ true → HasRung t u walk leaf false → HasHeard s u walk
    news u within opens rang =
        let position : ℕ = slice_index walk.positions leaf in
        let source : ℕ = t.source at in
        let caught_up : IsCaughtUp s walk leaf = can.caught_up leaf opens in
        let count : t.count source ≡ position = rw (same_source at) (before.counts leaf opens) in
        let seen : position ≡ length (t.seen source) = rw (same_source at, before.listened.seen) caught_up.position in
        let closed : is_seen_closed t at ≡ false = rw (same_source at, before.listened.seen, before.listened.polled.plan) (not_closed s walk leaf caught_up opens) in
        let other : (rang.version.count == position) ≡ false = more_than_known (rang.version.count == position) rang.version.closed rang.stays_where
        (λ same. rang.sight.closed (eqb-true rang.version.count position same ∙ seen) ∙ closed) in
        let least : t.count source ≤ rang.version.count = rang.sight.count in
        let more : position < rang.version.count = grind (arith, nat_tests) in
        rw rang.state (record {
          listened = rung_listens rang.version within rang.sight.count;
          leaf = leaf;
          opens = opens;
          more = rw (sym (same_source at), put_here t.count source rang.version.count) more;
        })

    pub watched_still : (u : PortState) (opens stays : Bool) → leaf < length walk.positions → is_open_leaf walk leaf ≡ opens → stays ≡ true → IsWatched t u walk leaf opens stays → IsSoundPort u → ListensBelow s u walk (leaf + 1)
    watched_still u true true within opens stays rang sound =
        let version : rang.version ≡ known_as (slice_index walk.positions leaf) = quiet_version (slice_index walk.positions leaf) rang.version (sym rang.stays_where) in
        let state : u ≡ rung (known_as (slice_index walk.positions leaf)) = rang.state ∙ ap rung version in
        rw state (still within opens (rw version at rang.sight) (rw state at sound))
    watched_still u false true within shut stays watched sound = rw watched.0 (record {
      listened = before.listened;
      sound = before.sound;
      counts = before.counts;
      checked_each = below_more (λ k. is_open_leaf walk k ≡ true → t.condition (walk.first + k) ≡ Checked (known_as (slice_index walk.positions k))) leaf before.checked_each (λ opens. cc);
      armed_each = below_more (λ k. is_open_leaf walk k ≡ true → raised (s.arms (walk.first + k)) ≤ t.arms (walk.first + k)) leaf before.armed_each (λ opens. absurd (let no : true ≡ false = cc in cc));
      others = λ k above. before.others k (omega (arith, above));
    })
    watched_still u opens false within is stays watched sound = cc

    pub watched_news : (u : PortState) (opens stays : Bool) → leaf < length walk.positions → is_open_leaf walk leaf ≡ opens → stays ≡ false → IsWatched t u walk leaf opens stays → HasHeard s u walk
    watched_news u true false within opens stays rang = news u within opens rang
    watched_news u false false within shut stays watched = cc
    watched_news u opens true within is stays watched = cc

    -- the last leaf's look ends the poll
    pub ended : {T : Type 0} (u : PortState) (told : T) (answer : Waited T) → IsLast walk (length walk.marks) leaf → IsSoundPort u → HasEnded t u walk leaf told answer → HasWaited s u walk told answer
    ended u told (News token) last sound is =
        let within : leaf < length walk.positions = omega (arith, last.within, can.can.marks) in
        (news u within last.opens is.0, is.1)
    ended u told Rests last sound is =
        let within : leaf < length walk.positions = omega (arith, last.within, can.can.marks) in
        let version : Version = known_as (slice_index walk.positions leaf) in
        let next : PortState = rung version in
        let all : ListensBelow s next walk (leaf + 1) = still within last.opens is.0 (rw is.1 at sound) in
        let below : (k : ℕ) → is_open_leaf walk k ≡ true → k < leaf + 1 = λ k opens. not_later walk (length walk.marks) leaf k last opens (open_within walk.marks k opens) in
        let task : (k : ℕ) → k < length walk.positions → t.task (walk.first + k) ≡ t.task walk.first = λ k here. rw before.listened.polled.task (can.one_task k here) in
        let one_task_each : (k : ℕ) → is_open_leaf walk k ≡ true → (t.task (walk.first + k) == t.task at) ≡ true =
        λ k opens. eq-eqb (t.task (walk.first + k)) (t.task at) (task k (omega (arith, open_within walk.marks k opens, can.can.marks)) ∙ sym (mine within)) in
        rw is.1 (record {
          listened = record { polled = polled_again s next _ walk true all.listened.polled (polled_rested next walk (t.task at) (mine within)); seen = all.listened.seen; met = all.listened.met };
          waits = λ k opens. settled_waits (t.task (walk.first + k) == t.task at) _ _ (all.checked_each k (below k opens) opens) (one_task_each k opens);
          armed_each = λ k opens. all.armed_each k (below k opens) opens;
        })
