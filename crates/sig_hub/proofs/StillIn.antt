-- Which sources a pass is in after an entry of its own.
use Rattle.std.proofs.Common.{◌≡◌, ◌∙◌, ℕ, ◌==◌, List, Bool, true, false, not, ◌&&◌, Result, Ok, Err, IfOk, IfErr, refl, sym, ap, subst}
use Rattle.std.proofs.lemmas.Bool.{eqb-true, eqb-false, and_parts}
use Rattle.sig_flag.specs.Accounts.{known}
use Rattle.sig_flag.specs.Machines.{Machine}
use Rattle.sig_hist.proofs.Entries.{ends_with_leave_append}
use Rattle.sig_hist.specs.Histories.{is_leave, ends_with_leave}
use Rattle.sig_hist.specs.Sources.{is_among, writers_of}
use Rattle.sig_hist.specs.declared.edits.Edit.{Edit}
use Rattle.sig_hist.specs.declared.edits.Entry.{Entry}
use Rattle.sig_hist.specs.declared.edits.Reply.{Reply}
use Rattle.sig_hist.specs.declared.plans.EditError.{EditError}
use Rattle.sig_hub.proofs.Entered.{not_true}
use Rattle.sig_hub.specs.Turns.{PassSeat}
use Rattle.sig_hub.specs.Passes.{Pass, IsOf, pass_of, is_in, own, plan_in, AreThoseToLeave, Writes, IsSamePass, HasMade, HasMadeNone, IsRefused}

pub in_same : (old new : Pass) (source : ℕ) → new.account.number ≡ old.account.number → known new.account source ≡ known old.account source → is_in new source ≡ is_in old source
in_same old new source number same i = is_among (number i) (writers_of (same i).plan.allow) && not (ends_with_leave (same i).own)

module _ (old new : Pass) (source : ℕ) (same : IsSamePass old new source) where
  -- by the pass's own entries of the source
  in_by : ends_with_leave (own new source) ≡ false → Writes old source → is_in new source ≡ true
  in_by stays writes =
      let among : is_among old.account.number (writers_of (plan_in old source).allow) ≡ true = (and_parts _ _ writes).0 in
      (λ i. is_among (same.number i) (writers_of (same.plan i).allow) && not (stays i)) ∙ ap (λ (b : Bool). b && true) among

  listed : (sources : List ℕ) → AreThoseToLeave old sources → Writes old source → ends_with_leave (own new source) ≡ false → AreThoseToLeave new sources
  listed sources those writes stays = record {
    within = rw same.hub those.within;
    each = λ other. elim (other == source) as (λ here. (other == source) ≡ here → is_in new other ≡ is_among other sources) [
      | true ↦ λ is. subst (λ (s : ℕ). is_in new s ≡ is_among s sources) (sym (eqb-true other source is)) (in_by stays writes ∙ sym writes ∙ those.each source)
      | false ↦ λ is. in_same old new other same.number (same.others other (eqb-false other source is)) ∙ those.each other
    ] refl;
    falling = those.falling;
  }

  made_stays : (entry : Entry) → HasMade old new source entry → is_leave entry.edit ≡ false → ends_with_leave (own new source) ≡ false
  made_stays entry made no_leave = ap ends_with_leave made.of_own ∙ ends_with_leave_append (own old source) entry ∙ no_leave

  none_stays : HasMadeNone old new source → Writes old source → ends_with_leave (own new source) ≡ false
  none_stays none writes = ap ends_with_leave none.of_own ∙ not_true (ends_with_leave (own old source)) (and_parts _ _ writes).1

  pub listed_any : (number : ℕ) (edit : Edit) (sources : List ℕ) (result : Result Reply EditError) → AreThoseToLeave old sources → Writes old source → is_leave edit ≡ false →
      IfOk result (λ reply. HasMade old new source (record { caller = number; edit = edit; reply = reply })) → IfErr result (λ error. HasMadeNone old new source × IsRefused old source error) → AreThoseToLeave new sources
  listed_any number edit sources (Ok reply) those writes no_leave ok err = listed sources those writes (made_stays _ ok no_leave)
  listed_any number edit sources (Err error) those writes no_leave ok err = listed sources those writes (none_stays err.0 writes)

-- by the seat of a pass that is one of the machine's
pub listed_at : (of machine hub : Machine) (old new : PassSeat) (inside given : Pass) (source number : ℕ) (edit : Edit) (sources : List ℕ) (result : Result Reply EditError) → pass_of of old ≡ inside → inside ≡ given → machine ≡ hub → IsOf hub given →
    AreThoseToLeave inside sources → Writes given source → is_leave edit ≡ false → IsSamePass (pass_of machine old) (pass_of machine new) source →
    IfOk result (λ reply. HasMade (pass_of machine old) (pass_of machine new) source (record { caller = number; edit = edit; reply = reply })) →
    IfErr result (λ error. HasMadeNone (pass_of machine old) (pass_of machine new) source × IsRefused (pass_of machine old) source error) → AreThoseToLeave (pass_of of new) sources
listed_at of machine hub old new inside given source number edit sources result view its same_hub is_of those writes no_leave same ok err =
    let one : machine ≡ of = same_hub ∙ sym is_of ∙ sym (ap (λ (pass : Pass). pass.hub) (view ∙ its)) in
    let is_old : pass_of machine old ≡ given = ap (λ (m : Machine). pass_of m old) one ∙ view ∙ its in
    subst (λ (m : Machine). AreThoseToLeave (pass_of m new) sources) one (listed_any (pass_of machine old) (pass_of machine new) source same number edit sources result
    (subst (λ (pass : Pass). AreThoseToLeave pass sources) (its ∙ sym is_old) those) (subst (λ (pass : Pass). Writes pass source) (sym is_old) writes) no_leave ok err)
