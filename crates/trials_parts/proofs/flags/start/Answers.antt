use Rattle.std.proofs.Common.{◌≡◌, ◌∙◌, ℕ, ◌<◌, List, [], ◌∷◌, ◌++◌, length, slice_get, true, Option, refl, sym, ap, subst, arith}
use Rattle.std.proofs.lemmas.List.{length_push}
use Rattle.atomic_table.specs.declared.shared.Seat.{Seat}
use Rattle.sig_flag.specs.Accounts.{account_of, known, opening_account}
use Rattle.sig_flag.specs.Layouts.{Layout}
use Rattle.sig_flag.specs.Machines.{Machine, Has, IsPolledBy, IsTaskOf, layout_by}
use Rattle.sig_flag.specs.declared.accounts.Account.{Account}
use Rattle.sig_flag.specs.declared.shape.FlagShape.{FlagShape}
use Rattle.sig_hist.specs.Histories.{ends_with_leave}
use Rattle.sig_hist.specs.Sources.{Source, is_among, writers_of}
use Rattle.trials_parts.specs.Trial.{trial_plan, trial_shape, trial_source, IsReady}
use Rattle.trials_parts.proofs.flags.start.Goals as goal

-- what a seat has: its accounts, and the states in its slots
abbrev Holding : Type 0
Holding = List Account × List (ℕ × Option Source)

abbrev Sitting : Type 0
Sitting = Seat (Option Source) (List Account)

both_of : {X : Type 0} (xs more less : List X) (first second : X) →
    xs ≡ more ++ second ∷ [] → more ≡ less ++ first ∷ [] → length xs ≡ 2 → xs ≡ first ∷ second ∷ []
both_of xs more [] first second xs_are more_are two = xs_are ∙ ap (λ (l : List _). l ++ second ∷ []) more_are
both_of xs more (x ∷ less) first second xs_are more_are two =
    let long = length_push more second in
    let longer = length_push (x ∷ less) first in
    absurd (omega (arith, ap length xs_are, ap length more_are))

abbrev trial_layout : Layout
trial_layout = layout_by (λ (s : Source). s.plan) trial_shape (trial_source ∷ [])

ready : (machine : Machine) (caller : ℕ) (seat : Sitting) →
    machine.layout ≡ trial_layout → is_among caller (writers_of trial_plan.allow) ≡ true →
    (seat.table_id ≡ machine.id) × Has seat (opening_account machine.layout caller) [] → IsReady machine caller seat
ready machine caller seat layout writer is =
    let has = is.1 ∙ ap (λ (all : Layout). (opening_account all caller ∷ [], [])) layout in
    record {
      idle = record {
        sits = record {
          at_table = is.0;
          one_account = ap (λ (m : Holding). m.0) has ∙ sym (ap (λ (m : Holding). account_of m.0 ∷ []) has);
        };
        rests = record {
          no_turn = ap (λ (m : Holding). (account_of m.0).turn) has;
          no_state = ap (λ (m : Holding). m.1) has;
        };
        number = ap (λ (m : Holding). (account_of m.0).number) has;
        writer =
            let may : Holding → Type 0 = λ m. is_among caller (writers_of (known (account_of m.0) 0).plan.allow) ≡ true in
            subst may (sym has) writer;
        stays = ap (λ (m : Holding). ends_with_leave (known (account_of m.0) 0).own) has;
      };
      nothing = record {
        no_ring = ap (λ (m : Holding). (account_of m.0).rings) has;
        no_tell = ap (λ (m : Holding). (account_of m.0).tells) has;
      };
    }

pub returns : goal.returns
returns c =
    let made = c.in_ok-flags.ensures in
    let some = c.in-Some-Some in
    let shape = c.in_ok-shape.ensures in
    let plans : _ ≡ trial_layout = λ i. layout_by (λ (s : Source). s.plan) (shape i) (c.in_ok-cells.ensures i) in
    let layout : _ ≡ trial_layout = made.of_layout ∙ plans in
    let two = made.all ∙ ap (λ (s : FlagShape). s.seats) shape in
    let seats = both_of _ _ _ some.first some.second some.ensures.last some.ensures'.last two in
    let at = λ (k : ℕ). ap (λ (all : List Sitting). slice_get all k) seats in
    record {
      some_source = subst (λ (l : Layout). 0 < length l.plans) (sym layout) (omega arith);
      of_leaves = ap (λ (l : Layout). l.leaves) layout;
      of_seats = ap (λ (l : Layout). l.seats) layout;
      leaf = subst (λ (l : Layout). IsPolledBy l 0 1) (sym layout) (record { within = omega arith; poller = refl });
      task = subst (λ (l : Layout). IsTaskOf l 0 1) (sym layout) (record { within = omega arith; poller = refl });
      zero_ready = ready _ 0 _ layout refl (made.each 0 _ (at 0));
      one_ready = ready _ 1 _ layout refl (made.each 1 _ (at 1));
    }
