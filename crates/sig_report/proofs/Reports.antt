-- The report of a play lists its sources and its views as they are.
use Rattle.std.proofs.Common.{◌≡◌, ◌∙◌, ℕ, zero, suc, ◌+◌, ◌<◌, List, [], ◌∷◌, length, map, get_or, refl, sym, ap, subst, arith}
use Rattle.std.proofs.lemmas.List.{ext_get_or, length-map}
use Rattle.sig_expr.specs.Shapes.{view_tree}
use Rattle.sig_expr.specs.declared.expressions.View.{View}
use Rattle.sig_hist.specs.Plain.{no_source}
use Rattle.sig_hist.specs.Sources.{Source, content_of}
use Rattle.sig_hist.specs.declared.plans.SourcePlan.{SourcePlan}
use Rattle.sig_report.proofs.Events.{map_at}
use Rattle.sig_report.specs.Lawful.{EachPair, kind_of_view, sources_in}
use Rattle.sig_report.specs.Playing.{Watched, source_reports, view_reports}
use Rattle.sig_report.specs.declared.report.SourceReport.{SourceReport}
use Rattle.sig_report.specs.declared.report.ViewReport.{ViewReport}
use Rattle.sig_rows.specs.SoundRows.{nothing_shown, replay_of}

abbrev pub source_report : List ℕ → Source → SourceReport
source_report name source = record { name = name; start = source.plan.start; history = source.history; last = content_of source }

abbrev pub view_report : List ℕ → View → Watched → ViewReport
view_report name shown watched = record { name = name; kind = kind_of_view shown; rows = watched.rows; last = replay_of (nothing_shown (view_tree shown)) watched.rows }

pub source_names_are : (names : List (List ℕ)) (sources : List Source) → length names ≡ length sources → map (λ (source : SourceReport). source.name) (source_reports names sources) ≡ names
source_names_are [] [] same = refl
source_names_are [] (source ∷ sources) same = absurd (omega (arith, same))
source_names_are (name ∷ names) [] same = absurd (omega (arith, same))
source_names_are (name ∷ names) (source ∷ sources) same = ap (λ (others : List (List ℕ)). name ∷ others) (source_names_are names sources (omega (arith, same)))

reported_sources : (names : List (List ℕ)) (sources : List Source) → length names ≡ length sources → sources_in (map (λ (source : Source). source.plan) sources) (source_reports names sources) ≡ sources
reported_sources [] [] same = refl
reported_sources [] (source ∷ sources) same = absurd (omega (arith, same))
reported_sources (name ∷ names) [] same = absurd (omega (arith, same))
reported_sources (name ∷ names) (source ∷ sources) same = ap (λ (others : List Source). source ∷ others) (reported_sources names sources (omega (arith, same)))

pub plans_kept : (plans : List SourcePlan) (sources : List Source) → length plans ≡ length sources → ((number : ℕ) → (get_or sources number no_source).plan ≡ get_or plans number no_source.plan) →
    plans ≡ map (λ (source : Source). source.plan) sources
plans_kept plans sources planned each =
    ext_get_or no_source.plan plans (map (λ (source : Source). source.plan) sources) (planned ∙ sym (length-map sources (λ (source : Source). source.plan)))
    (λ number within. sym (map_at (λ (source : Source). source.plan) sources number no_source ∙ each number))

-- the sources in the report are those of the play
pub sources_are : (plans : List SourcePlan) (names : List (List ℕ)) (sources : List Source) → length names ≡ length sources → length plans ≡ length sources →
    ((number : ℕ) → (get_or sources number no_source).plan ≡ get_or plans number no_source.plan) → sources_in plans (source_reports names sources) ≡ sources
sources_are plans names sources same planned each = rw (plans_kept plans sources planned each) (reported_sources names sources same)

pub each_source : (P : ℕ → Source → SourceReport → Type 0) (number : ℕ) (names : List (List ℕ)) (sources : List Source) → length names ≡ length sources →
    ((place : ℕ) (name : List ℕ) → place < length sources → P (number + place) (get_or sources place no_source) (source_report name (get_or sources place no_source))) → EachPair P number sources (source_reports names sources)
each_source P number [] [] same each = tt
each_source P number [] (source ∷ sources) same each = absurd (omega (arith, same))
each_source P number (name ∷ names) [] same each = absurd (omega (arith, same))
each_source P number (name ∷ names) (source ∷ sources) same each = (
  subst (λ (at : ℕ). P at source (source_report name source)) (omega arith) (each zero name (omega arith)),
  each_source P (number + 1) names sources (omega (arith, same)) (λ place other within.
      subst (λ (at : ℕ). P at (get_or sources place no_source) (source_report other (get_or sources place no_source))) (omega arith) (each (suc place) other (omega arith))),
)

pub view_names_are : (names : List (List ℕ)) (views : List View) (watched : List Watched) → length names ≡ length views → length watched ≡ length views → map (λ (view : ViewReport). view.name) (view_reports names views watched) ≡ names
view_names_are [] views watched same polled = refl
view_names_are (name ∷ names) [] watched same polled = absurd (omega (arith, same))
view_names_are (name ∷ names) (view ∷ views) [] same polled = absurd (omega (arith, polled))
view_names_are (name ∷ names) (view ∷ views) (first ∷ watched) same polled = ap (λ (others : List (List ℕ)). name ∷ others) (view_names_are names views watched (omega (arith, same)) (omega (arith, polled)))

pub each_view : (P : ℕ → View → ViewReport → Type 0) (number : ℕ) (names : List (List ℕ)) (views : List View) (watched : List Watched) (no_view : View) (not_watched : Watched) → length names ≡ length views → length watched ≡ length views →
    ((place : ℕ) (name : List ℕ) → place < length views → P (number + place) (get_or views place no_view) (view_report name (get_or views place no_view) (get_or watched place not_watched))) → EachPair P number views (view_reports names views watched)
each_view P number [] [] watched no_view not_watched same polled each = tt
each_view P number [] (view ∷ views) watched no_view not_watched same polled each = absurd (omega (arith, same))
each_view P number (name ∷ names) [] watched no_view not_watched same polled each = absurd (omega (arith, same))
each_view P number (name ∷ names) (view ∷ views) [] no_view not_watched same polled each = absurd (omega (arith, polled))
each_view P number (name ∷ names) (view ∷ views) (first ∷ watched) no_view not_watched same polled each = (
  subst (λ (at : ℕ). P at view (view_report name view first)) (omega arith) (each zero name (omega arith)),
  each_view P (number + 1) names views watched no_view not_watched (omega (arith, same)) (omega (arith, polled)) (λ place other within.
      subst (λ (at : ℕ). P at (get_or views place no_view) (view_report other (get_or views place no_view) (get_or watched place not_watched))) (omega arith) (each (suc place) other (omega arith))),
)
