-- How much the edits that were looked at and those that are left can make a source longer.
use Rattle.std.proofs.Common.{◌≡◌, ℕ, ◌+◌, ◌-◌, ◌^◌, ◌<◌, List, [], ◌∷◌, ◌++◌, count_by, min, max, refl, arith, rules, length, ◌==◌, cond, get_or, map, sum}
use Rattle.std.proofs.lemmas.List.Sums.{sum_by-append, sum_by-cons}
use Rattle.std.proofs.Math.ListN.{get_or-map}
use Rattle.sig_hist.specs.declared.edits.Edit.{Edit}
use Rattle.sig_script.specs.Growths.{clipped}
use Rattle.sig_script.specs.Rooms.{edits_on, is_growth, longest}
use Rattle.sig_script.specs.declared.rooms.Growth.{Growth}

pub record Grows (growth : Growth) (left all : List Edit) : Type 0 where
  pub longest : max growth.longest (longest left) ≡ longest all
  pub growths : min (growth.growths + count_by is_growth left) (2 ^ 64 - 1) ≡ min (count_by is_growth all) (2 ^ 64 - 1)
  pub fits : growth.growths < 2 ^ 64

pub longest-append : (xs ys : List Edit) → longest (xs ++ ys) ≡ max (longest xs) (longest ys)
longest-append [] ys = omega arith
longest-append (x ∷ xs) ys = grind (arith, longest-append xs ys)

pub growths-append : (xs ys : List Edit) → count_by is_growth (xs ++ ys) ≡ count_by is_growth xs + count_by is_growth ys
growths-append xs ys = search (rules, sum_by-append)

pub length_edits_on : (source : ℕ) (edits : List (ℕ × Edit)) → length (edits_on source edits) ≡ count_by (λ edit. edit.0 == source) edits
length_edits_on source [] = refl
length_edits_on source (edit ∷ edits) = grind (arith, sum_by-cons (λ (edit : ℕ × Edit). cond (edit.0 == source) 1 0) edit edits, length_edits_on source edits)

-- a total of clipped rooms is the total, clipped
pub clipped_total : (rooms exact leaves : List ℕ) → rooms ≡ map clipped exact
    → clipped (sum (map (λ source. get_or rooms source 0) leaves)) ≡ clipped (sum (map (λ source. get_or exact source 0) leaves))
clipped_total rooms exact [] same = refl
clipped_total rooms exact (leaf ∷ leaves) same =
    let here : get_or rooms leaf 0 ≡ clipped (get_or exact leaf 0) = rw same (get_or-map clipped exact leaf 0) in
    rw (sum_by-cons (λ n. n) (get_or rooms leaf 0), sum_by-cons (λ n. n) (get_or exact leaf 0), here) (omega (arith, clipped_total rooms exact leaves same))
