-- The fold over the schedule, and what each writer makes after it.
use Rattle.std.proofs.Common.{◌≡◌, ◌∙◌, ℕ, ◌+◌, ◌<◌, ◌==◌, List, [], ◌∷◌, length, get_or, slice_get, Bool, true, false, None, refl, sym, ap, subst, arith}
use Rattle.std.proofs.lemmas.Bool.{eqb-true, eqb-false}
use Rattle.std.proofs.lemmas.List.{get_or-set_same, get_or-set_other, length-set}
use Rattle.sig_hist.specs.Sources.{Source}
use Rattle.sig_report.proofs.Events.{GoesOn, IsPlay, share_goes, source_at, writer_goes}
use Rattle.sig_rows.proofs.Growing.{grows_not, grows_on}
use Rattle.sig_report.proofs.Views.{AllInOrder, GrowOn, PolledView, SeesView, no_shares, view_more, view_polled, view_sees}
use Rattle.sig_report.specs.Lawful.{all_views}
use Rattle.sig_script.specs.Leaving.{has_no_leaves}
use Rattle.sig_report.specs.Playing.{Played, Watched, by_share, by_view, by_writer, scheduled, taken, view_at, watched_at}
use Rattle.sig_script.specs.Built.{unbuilt}
use Rattle.sig_script.specs.declared.types.Event.{Event}
use Rattle.sig_script.specs.declared.types.Event.TheVariants as event
use Rattle.sig_script.specs.declared.types.Script.{Script}

pub goes_not : (script : Script) (p : Played) → IsPlay script p → GoesOn script p p
goes_not script p is = record { play = is; grows = λ number. grows_not (source_at p number) }

pub goes_further : (script : Script) (p later last : Played) → GoesOn script p later → GoesOn script later last → GoesOn script p last
goes_further script p later last first second = record {
  play = second.play;
  grows = λ number. grows_on (source_at p number) (source_at later number) (source_at last number) (first.grows number) (second.grows number);
}

abbrev pub GrowsTo : List Source → Played → Type 0
GrowsTo final p = GrowOn p.sources final

module _ (script : Script) (all_built : unbuilt script ≡ None) where
  -- ---- the sources

  view_goes : (number : ℕ) (p : Played) → IsPlay script p → GoesOn script p (by_view script number p)
  view_goes number p is = record { play = record { sources = is.sources; done = is.done; made = is.made }; grows = λ source. grows_not (source_at p source) }

  by_share_goes : (share : ℕ) (p : Played) → IsPlay script p → GoesOn script p (by_share script share p)
  by_share_goes share p is =
      goes_further script p (by_view script share p) (by_share script share p) (view_goes share p is)
      (share_goes script (no_shares script all_built) (by_view script share p) (view_goes share p is).play (length script.sources + share) (length script.writers + share) (omega arith) (omega arith)
      (slice_get (watched_at (by_view script share p) share).rows (length (watched_at p share).rows)) (by_view script share p).views)

  -- ---- the views

  module _ (final : List Source) where
    -- the rows of each view are sound for the last sources, which started in order
    pub record AllSeen (p : Played) : Type 0 where
      pub in_order : AllInOrder final
      pub views : length p.views ≡ length (all_views script)
      pub sees : (number : ℕ) → number < length (all_views script) → SeesView (view_at script number) p.sources final (watched_at p number)

    pub seen_later : (p later : Played) → later.views ≡ p.views → GrowOn p.sources later.sources → AllSeen p → AllSeen later
    seen_later p later same grows seen = record {
      in_order = seen.in_order;
      views = ap length same ∙ seen.views;
      sees = λ number within.
          subst (λ (views : List Watched). SeesView (view_at script number) later.sources final (get_or views number (record { at = []; rows = [] }))) (sym same)
          (view_more (view_at script number) p.sources later.sources final (watched_at p number) grows (seen.sees number within));
    }

    pub polled_at : (number : ℕ) (p : Played) (within : number < length (all_views script)) → AllSeen p → GrowsTo final p →
        PolledView (view_at script number) p.sources final (watched_at (by_view script number p) number)
    polled_at number p within seen grows =
        let now = get_or-set_same p.views number _ (record { at = []; rows = [] }) (rw seen.views within) in
        subst (λ (watched : Watched). PolledView (view_at script number) p.sources final watched) (sym now) (view_polled (view_at script number) p.sources final (watched_at p number) grows seen.in_order (seen.sees number within))

    seen_by : (number other : ℕ) (p : Played) (within : other < length (all_views script)) (same : Bool) → (number == other) ≡ same → AllSeen p → GrowsTo final p →
        SeesView (view_at script other) p.sources final (watched_at (by_view script number p) other)
    seen_by number other p within true is seen grows =
        subst (λ (polled : ℕ). SeesView (view_at script other) p.sources final (watched_at (by_view script polled p) other)) (sym (eqb-true number other is))
        (view_sees (view_at script other) p.sources final (watched_at (by_view script other p) other) (polled_at other p within seen grows))
    seen_by number other p within false is seen grows =
        let stays = get_or-set_other p.views number other _ (record { at = []; rows = [] }) (λ same. eqb-false number other is (sym same)) in
        subst (λ (watched : Watched). SeesView (view_at script other) p.sources final watched) (sym stays) (seen.sees other within)

    pub seen_polled : (number : ℕ) (p : Played) → AllSeen p → GrowsTo final p → AllSeen (by_view script number p)
    seen_polled number p seen grows = record { in_order = seen.in_order; views = length-set p.views number _ ∙ seen.views; sees = λ other within. seen_by number other p within (number == other) refl seen grows }

  -- ---- the events

  module _ (no_leaves : has_no_leaves script ≡ true) where
    event_goes : (happens : Event) (p : Played) → IsPlay script p → GoesOn script p (taken script happens p)
    event_goes (event.Writer writer) p is = writer_goes script (no_shares script all_built) no_leaves p is writer
    event_goes (event.Share share) p is = by_share_goes share p is
    event_goes (event.View view) p is = view_goes (length script.shares + view) p is

    pub schedule_goes : (events : List Event) (p : Played) → IsPlay script p → GoesOn script p (scheduled script events p)
    schedule_goes [] p is = goes_not script p is
    schedule_goes (happens ∷ events) p is =
        let first = event_goes happens p is in
        goes_further script p (taken script happens p) (scheduled script events (taken script happens p)) first (schedule_goes events (taken script happens p) first.play)

    module _ (final : List Source) where
      event_seen : (happens : Event) (p : Played) → IsPlay script p → GrowsTo final p → AllSeen final p → AllSeen final (taken script happens p)
      event_seen (event.Writer writer) p is grows seen = seen_later final p (by_writer script writer p) refl (event_goes (event.Writer writer) p is).grows seen
      event_seen (event.Share share) p is grows seen = seen_later final (by_view script share p) (by_share script share p) refl (by_share_goes share p is).grows (seen_polled final share p seen grows)
      event_seen (event.View view) p is grows seen = seen_polled final (length script.shares + view) p seen grows

      pub schedule_seen : (events : List Event) (p : Played) → IsPlay script p → GrowsTo final (scheduled script events p) → AllSeen final p → AllSeen final (scheduled script events p)
      schedule_seen [] p is grows seen = seen
      schedule_seen (happens ∷ events) p is grows seen =
          let all = schedule_goes (happens ∷ events) p is in
          let first = event_goes happens p is in
          let from_here : GrowsTo final p = λ number. grows_on _ _ _ (all.grows number) (grows number) in
          schedule_seen events (taken script happens p) first.play grows (event_seen happens p is from_here seen)
