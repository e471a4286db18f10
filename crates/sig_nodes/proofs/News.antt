-- What is given has news behind it: where no leaf has gone on, nothing is given.
use Rattle.std.proofs.Common.{◌≡◌, ◌≢◌, ◌∙◌, ℕ, ℤ, List, [], OnErr, Option, None, Result, slice_index, sym, ap}
use Rattle.std.specs.declared.result.Result.TheVariants.{Ok, Err}
use Rattle.sig_diff.specs.declared.differences.VecDiff.{VecDiff}
use Rattle.sig_diff.specs.declared.map_differences.MapDiff.{MapDiff}
use Rattle.sig_expr.specs.Trees.{MapTree}
use Rattle.sig_hist.specs.Ports.{PortState}
use Rattle.sig_nodes.proofs.Parts.{AllStay, BothGone, Part, PartGone, both_gone, both_walked, first_flow, gone_by, list_at_part, list_gone, second_flow, signal_gone}
use Rattle.sig_nodes.specs.Nodes.{ListOps, ListsOps, SignalOps, list_trees}
use Rattle.sig_nodes.specs.Steps.{ListAtGone, ListGone, MapGone, SignalGone}
use Rattle.sig_rows.proofs.Still.{still_map}
use Rattle.sig_walk.proofs.Newer.{news_before, risen_news}
use Rattle.sig_walk.specs.Walking.{HasNews, Progress}

all_stay : (t : PortState) (old new : Progress) → new.positions ≡ old.positions → AllStay (gone_by t old new)
all_stay t old new same leaf = ap (λ (positions : List ℕ). slice_index positions leaf) (sym same)

module _ {G : Type 0} {part : Part G} {s t : PortState} {old new : Progress} {given : G} (gone : PartGone part s t old new given) where
  pub part_news : given ≢ part.nothing → HasNews t old
  part_news some = risen_news gone.gone gone.walked.goes_on (λ same. some (gone.flow ∙ part.still _ (all_stay t old new same)))

  -- what is news after the first of two parts is news for both
  pub rest_news : {u : PortState} → HasNews u new → HasNews u old
  rest_news news = news_before gone.gone gone.walked.goes_on news

pub both_news : {G More : Type 0} {part : Part G} {other : Part More} {s t u : PortState} {old mid new : Progress} {given : G} {more : More} → BothGone part other s t u old mid new given more →
    (given ≡ part.nothing → more ≢ other.nothing) → HasNews u old
both_news {part = part} {other = other} {u = u} {old = old} {new = new} both some = risen_news (both_gone both) (both_walked both).goes_on (λ same.
    some (first_flow both ∙ part.still _ (all_stay u old new same)) (second_flow both ∙ other.still _ (all_stay u old new same)))

-- ---- of one part

pub list_news : {s t : PortState} {old new : Progress} {ops after : ListOps} {diffs : List (VecDiff ℤ)} → ListGone s t old new ops after diffs → diffs ≢ [] → HasNews t old
list_news below some = part_news (list_gone below) some

pub signal_news : {s t : PortState} {old new : Progress} {ops after : SignalOps} {value : Option ℤ} → SignalGone s t old new ops after value → value ≢ None → HasNews t old
signal_news below some = part_news (signal_gone below) some

pub list_at_news : {s t : PortState} {old new : Progress} {place : ℕ} {bank after : ListsOps} {diffs : List (VecDiff ℤ)} → ListAtGone s t old new place bank after diffs → diffs ≢ [] → HasNews t old
list_at_news {place = place} {bank = bank} second some = part_news {part = list_at_part (list_trees bank) place} (record { gone = second.gone; walked = second.walked; flow = second.flow }) some

pub map_news : {s t : PortState} {old new : Progress} {m : MapTree ℕ} {diffs : List (MapDiff ℤ)} → MapGone s t old new m diffs → diffs ≢ [] → HasNews t old
map_news {t = t} {old = old} {new = new} {m = m} below some = risen_news below.gone below.walked.goes_on (λ same. some (below.flow ∙ still_map (gone_by t old new) (all_stay t old new same) m))

-- ---- of results

pub on_err_known : {A E P : Type 0} (result : Result A E) → P → OnErr result P
on_err_known (Ok x) known = tt
on_err_known (Err e) known = known
