-- What a history keeps as it goes on by one more entry of a caller that hasn't left, and when it is whole.
use Rattle.std.proofs.Common.{◌≡◌, ◌∙◌, ℕ, ◌+◌, ◌<◌, ◌≤◌, ◌==◌, ◌&&◌, ⊎_elim, List, [], ◌∷◌, ◌++◌, length, take, slice_get, cond, Bool, true, false, not, nat_lt, Some, refl, sym, ap, true≢false, arith}
use Rattle.std.proofs.lemmas.Bool.{ltb-true, ltb-false}
use Rattle.std.proofs.lemmas.List.{get_or_append_left, length_push, take-append-le, take_all}
use Rattle.std.proofs.lemmas.List.Sums.{AllPass-from_list_all, length-filter, sum_by-append, sum_by-le-sum_by}
use Rattle.std.proofs.lemmas.Option.{get_or_from_slice_get, slice_get-get_or, slice_get_cases, slice_get_within}
use Rattle.std.proofs.Math.Seq.{get_or-append_seam, take-append_seam}
use Rattle.sig_hist.proofs.Among.{each_among}
use Rattle.sig_hist.specs.Histories.{IsFront, LeavesComeLast, edits_made, has_left, is_closed, is_leave, own_entries}
use Rattle.sig_hist.specs.Sources.{Source, IsSource, is_among, writers_of}
use Rattle.sig_hist.specs.declared.edits.Entry.{Entry}

-- ---- leaves come last

pub no_leaves : LeavesComeLast []
no_leaves place entry found = cc

-- an element of a list with one more behind it
in_front : (history : List Entry) (entry other : Entry) (place : ℕ) → slice_get (history ++ entry ∷ []) place ≡ Some other → place < length history → slice_get history place ≡ Some other
in_front history entry other place found within =
    slice_get-get_or history place other within
    ∙ ap (λ (it : Entry). Some it) (sym (get_or_append_left history (entry ∷ []) other place within) ∙ get_or_from_slice_get (history ++ entry ∷ []) place other other found)

pub leaves_last_append : (history : List Entry) (entry : Entry) → LeavesComeLast history → has_left entry.caller history ≡ false → LeavesComeLast (history ++ entry ∷ [])
leaves_last_append history entry last stays place other found =
    elim (nat_lt place (length history)) as (λ before. nat_lt place (length history) ≡ before → has_left other.caller (take place (history ++ entry ∷ [])) ≡ false) [
      | true ↦ λ before.
          let within : place < length history = ltb-true place (length history) before in
          rw (take-append-le place history (entry ∷ []) (omega (arith, within))) (last place other (in_front history entry other place found within))
      | false ↦ λ before.
          let past : length history ≤ place = ltb-false place (length history) before in
          let end : place ≡ length history = omega (arith, past, slice_get_within (history ++ entry ∷ []) place other found, length_push history entry) in
          let same : other ≡ entry = sym (get_or_from_slice_get (history ++ entry ∷ []) (length history) other other (rw end at found)) ∙ get_or-append_seam history entry [] other in
          rw (end, same, take-append_seam history (entry ∷ [])) stays
    ] refl

-- ---- edits within allowances

-- a caller has made no more edits than it has entries
pub edits_within_entries : (caller : ℕ) (history : List Entry) → edits_made caller history ≤ length (own_entries caller history)
edits_within_entries caller history =
    rw (length-filter (λ (entry : Entry). entry.caller == caller) history)
    (sum_by-le-sum_by (λ (entry : Entry). cond (entry.caller == caller && not (is_leave entry.edit)) 1 0) (λ (entry : Entry). cond (entry.caller == caller) 1 0) history
    only_own)
  where
    both : (own leaves : Bool) → cond (own && not leaves) 1 0 ≤ cond own 1 0
    both true true = omega arith
    both true false = omega arith
    both false leaves = omega arith

    only_own : (entry : Entry) → cond (entry.caller == caller && not (is_leave entry.edit)) 1 0 ≤ cond (entry.caller == caller) 1 0
    only_own entry = both (entry.caller == caller) (is_leave entry.edit)

-- one more entry
pub edits_append : (caller : ℕ) (history : List Entry) (entry : Entry) →
    edits_made caller (history ++ entry ∷ []) ≡ edits_made caller history + cond (entry.caller == caller && not (is_leave entry.edit)) 1 0
edits_append caller history entry =
    let more : edits_made caller (history ++ entry ∷ []) ≡ edits_made caller history + (0 + cond (entry.caller == caller && not (is_leave entry.edit)) 1 0) =
    sum_by-append (λ (entry : Entry). cond (entry.caller == caller && not (is_leave entry.edit)) 1 0) history (entry ∷ []) in
    omega (arith, more)

-- ---- closed histories

module _ (source : Source) (front : List Entry) (is : IsSource source) (fronts : IsFront front source.history) (closed : is_closed (writers_of source.plan.allow) front ≡ true) where
  -- the caller of an entry behind it would have left
  nothing_behind : (entry : Entry) → slice_get source.history (length front) ≡ Some entry → ⊥
  nothing_behind entry next =
      let by : is_among entry.caller (writers_of source.plan.allow) ≡ true =
      rw (get_or_from_slice_get source.history (length front) entry entry next) at
      (AllPass-from_list_all (λ (entry : Entry). is_among entry.caller (writers_of source.plan.allow)) source.history is.by_writers (length front) entry (slice_get_within source.history (length front) entry next)) in
      let left : has_left entry.caller front ≡ true = each_among (λ (writer : ℕ). has_left writer front) (writers_of source.plan.allow) entry.caller closed by in
      let stays : has_left entry.caller front ≡ false = rw fronts at (is.leaves_last (length front) entry next) in
      true≢false (sym left ∙ stays)

  -- a front in which all writers have left is the whole history
  pub closed_is_whole : front ≡ source.history
  closed_is_whole =
      ⊎_elim (λ next. absurd (nothing_behind next.0 next.2)) (λ past. sym fronts ∙ take_all (length front) source.history past.0) (slice_get_cases source.history (length front)).1
