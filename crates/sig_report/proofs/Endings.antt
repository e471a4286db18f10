-- After the schedule: each writer makes the rest of its edits and leaves, and each view is polled until it has ended.
use Rattle.std.proofs.Common.{◌≡◌, ◌≢◌, ◌∙◌, ℕ, zero, suc, ◌+◌, ◌<◌, ◌≤◌, List, [], ◌∷◌, length, get_or, slice_set, true, None, refl, sym, ap, subst, arith}
use Rattle.std.proofs.lemmas.List.{get_or-set_same, get_or-set_other}
use Rattle.sig_expr.specs.Leaves.{numbered}
use Rattle.sig_expr.specs.Shapes.{view_tree}
use Rattle.sig_hist.specs.Plain.{no_source}
use Rattle.sig_hist.specs.Sources.{Source}
use Rattle.sig_report.proofs.Events.{GoesOn, IsPlay, writer_goes}
use Rattle.sig_hist.specs.Ways.{Grows}
use Rattle.sig_rows.proofs.Growing.{grows_not}
use Rattle.sig_report.proofs.Schedules.{AllSeen, GrowsTo, goes_further, goes_not, polled_at, seen_polled}
use Rattle.sig_report.proofs.Views.{AllClosed, no_shares, view_ends}
use Rattle.sig_report.specs.Lawful.{all_views, no_writer, sources_of}
use Rattle.sig_script.specs.Leaving.{has_no_leaves}
use Rattle.sig_report.specs.Playing.{Played, Watched, by_view, by_writer, in_turn, polled, times, view_at, watched_at}
use Rattle.sig_script.specs.Built.{unbuilt}
use Rattle.sig_script.specs.declared.types.Script.{Script}
use Rattle.sig_script.specs.declared.types.ViewDef.{ViewDef}
use Rattle.sig_script.specs.declared.types.WriterDef.{WriterDef}
use Rattle.sig_rows.specs.SoundRows.{are_complete}

raised : (done : List ℕ) (writer other : ℕ) → get_or done other 0 ≤ get_or (slice_set done writer (get_or done writer 0 + 1)) other 0
raised [] writer other = omega arith
raised (count ∷ done) zero zero = omega arith
raised (count ∷ done) zero (suc other) = omega arith
raised (count ∷ done) (suc writer) zero = omega arith
raised (count ∷ done) (suc writer) (suc other) = raised done writer other

-- writers alone go on, and each has had as many events as before, or more
pub record Writes (script : Script) (p later : Played) : Type 0 where
  pub goes : GoesOn script p later
  pub views : later.views ≡ p.views
  pub raises : (writer : ℕ) → get_or p.done writer 0 ≤ get_or later.done writer 0

writes_not : (script : Script) (p : Played) → IsPlay script p → Writes script p p
writes_not script p is = record { goes = goes_not script p is; views = refl; raises = λ writer. omega arith }

writes_on : (script : Script) (p later last : Played) → Writes script p later → Writes script later last → Writes script p last
writes_on script p later last first second = record {
  goes = goes_further script p later last first.goes second.goes;
  views = second.views ∙ first.views;
  raises = λ writer. omega (arith, first.raises writer, second.raises writer);
}

abbrev pub written_from : Script → ℕ → List WriterDef → Played → Played
written_from script number writers p = in_turn (λ writer (def : WriterDef). times (length def.edits + 1) (by_writer script writer)) number writers p

abbrev pub ended_from : Script → ℕ → List ViewDef → Played → Played
ended_from script number views p = in_turn (λ view (def : ViewDef). times 2 (by_view script view)) number views p

module _ (script : Script) (all_built : unbuilt script ≡ None) (no_leaves : has_no_leaves script ≡ true) where
  one_writes : (writer : ℕ) (p : Played) → IsPlay script p → Writes script p (by_writer script writer p)
  one_writes writer p is = record { goes = writer_goes script (no_shares script all_built) no_leaves p is writer; views = refl; raises = raised p.done writer }

  -- a writer's next events
  times_write : (n writer : ℕ) (p : Played) → IsPlay script p → Writes script p (times n (by_writer script writer) p)
  times_write zero writer p is = writes_not script p is
  times_write (suc n) writer p is =
      let first = one_writes writer p is in
      writes_on script p (by_writer script writer p) _ first (times_write n writer (by_writer script writer p) first.goes.play)

  times_done : (n writer : ℕ) (p : Played) → IsPlay script p → writer < length script.writers → get_or p.done writer 0 + n ≤ get_or (times n (by_writer script writer) p).done writer 0
  times_done zero writer p is within = omega arith
  times_done (suc n) writer p is within =
      let now : get_or (by_writer script writer p).done writer 0 ≡ get_or p.done writer 0 + 1 = get_or-set_same p.done writer (get_or p.done writer 0 + 1) 0 (rw is.done within) in
      let later = times_done n writer (by_writer script writer p) (one_writes writer p is).goes.play within in
      omega arith

  pub all_write : (number : ℕ) (writers : List WriterDef) (p : Played) → IsPlay script p → Writes script p (written_from script number writers p)
  all_write number [] p is = writes_not script p is
  all_write number (writer ∷ writers) p is =
      let first = times_write (length writer.edits + 1) number p is in
      writes_on script p _ _ first (all_write (number + 1) writers _ first.goes.play)

  -- each has had an event for each edit, and one more
  pub all_done : (number : ℕ) (writers : List WriterDef) (p : Played) → IsPlay script p → number + length writers ≤ length script.writers → (place : ℕ) → place < length writers →
      length (get_or writers place no_writer).edits + 1 ≤ get_or (written_from script number writers p).done (number + place) 0
  all_done number [] p is within place inside = absurd (omega arith)
  all_done number (writer ∷ writers) p is within zero inside =
      let first = times_write (length writer.edits + 1) number p is in
      let had = times_done (length writer.edits + 1) number p is (omega arith) in
      let more = (all_write (number + 1) writers _ first.goes.play).raises (number + 0) in
      let same : number + 0 ≡ number = omega arith in
      rw same (omega (arith, rw same at more))
  all_done number (writer ∷ writers) p is within (suc place) inside =
      let first = times_write (length writer.edits + 1) number p is in
      let same : number + suc place ≡ number + 1 + place = omega arith in
      rw same (all_done (number + 1) writers _ first.goes.play (omega arith) place (omega arith))

-- ---- the views

module _ (script : Script) (all_built : unbuilt script ≡ None) (final : List Source) (closed : AllClosed final) where
  -- all is seen, by the last sources
  pub record IsLast (p : Played) : Type 0 where
    pub seen : AllSeen script all_built final p
    pub sources : p.sources ≡ final

  last_grows : (p : Played) → p.sources ≡ final → GrowsTo final p
  last_grows p same = λ number. subst (λ (sources : List Source). Grows (get_or sources number no_source) (get_or final number no_source)) (sym same) (grows_not (get_or final number no_source))

  last_polled : (number : ℕ) (p : Played) → IsLast p → IsLast (by_view script number p)
  last_polled number p is = record { seen = seen_polled script all_built final number p is.seen (last_grows p is.sources); sources = is.sources }

  twice_ended : (number : ℕ) (p : Played) → number < length (all_views script) → IsLast p → are_complete (watched_at (times 2 (by_view script number) p) number).rows ≡ true
  twice_ended number p within is =
      let once : Played = by_view script number p in
      let again = get_or-set_same once.views number (polled (numbered (view_tree (view_at script number))) (sources_of p.sources (view_at script number)) (watched_at once number)) (record { at = []; rows = [] })
      (rw (last_polled number p is).seen.views within) in
      ap (λ (watched : Watched). are_complete watched.rows) again
      ∙ view_ends (view_at script number) p.sources final (watched_at once number) (last_grows p is.sources) is.seen.in_order (rw is.sources closed) (polled_at script all_built final number p within is.seen (last_grows p is.sources))

  elsewhere : (number other : ℕ) (p : Played) → other < number → watched_at (times 2 (by_view script number) p) other ≡ watched_at p other
  elsewhere number other p below =
      let once : Played = by_view script number p in
      let other_than : other ≢ number = λ same. omega arith in
      get_or-set_other once.views number other _ (record { at = []; rows = [] }) other_than ∙ get_or-set_other p.views number other _ (record { at = []; rows = [] }) other_than

  -- the views from a number on have ended, and those before it are as they were
  pub record AllEnded (number count : ℕ) (p later : Played) : Type 0 where
    pub last : IsLast later
    pub ended : (place : ℕ) → place < count → are_complete (watched_at later (number + place)).rows ≡ true
    pub before : (other : ℕ) → other < number → watched_at later other ≡ watched_at p other

  ended_first : (number count : ℕ) (p once later : Played) → are_complete (watched_at once number).rows ≡ true → AllEnded (number + 1) count once later → (place : ℕ) → place < suc count →
      are_complete (watched_at later (number + place)).rows ≡ true
  ended_first number count p once later ends rest zero within =
      let same : number + 0 ≡ number = omega arith in
      rw same (ap (λ (watched : Watched). are_complete watched.rows) (rest.before number (omega arith)) ∙ ends)
  ended_first number count p once later ends rest (suc place) within =
      let same : number + suc place ≡ number + 1 + place = omega arith in rw same (rest.ended place (omega arith))

  pub all_ended : (number : ℕ) (views : List ViewDef) (p : Played) → number + length views ≤ length (all_views script) → IsLast p → AllEnded number (length views) p (ended_from script number views p)
  all_ended number [] p within is = record { last = is; ended = λ place inside. absurd (omega arith); before = λ other below. refl }
  all_ended number (view ∷ views) p within is =
      let once : Played = times 2 (by_view script number) p in
      let rest = all_ended (number + 1) views once (omega arith) (last_polled number (by_view script number p) (last_polled number p is)) in
      record {
        last = rest.last;
        ended = ended_first number (length views) p once _ (twice_ended number p (omega arith) is) rest;
        before = λ other below. rest.before other (omega arith) ∙ elsewhere number other p below;
      }
