-- The machine of a hub's sources at its start.
use Rattle.std.proofs.Common.{◌≡◌, ◌∙◌, ℕ, ◌<◌, List, [], ◌∷◌, length, map, Bool, All, refl, sym, ap, subst, zero-add}
use Rattle.std.proofs.lemmas.List.{length-map}
use Rattle.std.proofs.lemmas.List.Elements.{All-map}
use Rattle.sig_flag.specs.Layouts.{Layout, IsLeafOf}
use Rattle.sig_flag.specs.Machines.{Machine, IsMade, IsNew, IsShape, layout_by}
use Rattle.sig_flag.specs.declared.shape.FlagShape.{FlagShape}
use Rattle.sig_hist.specs.Histories.{is_closed}
use Rattle.sig_hist.specs.Plain.{source_of}
use Rattle.sig_hist.specs.Sources.{IsPlan, Source, writers_of}
use Rattle.sig_hist.specs.declared.plans.SourcePlan.{SourcePlan}
use Rattle.sig_hub.proofs.Started.{seats_from}
use Rattle.sig_hub.specs.Starting.{has_closed, IsNewSeat, IsSeated}
use Rattle.sig_hub.specs.Turns.{PassSeat, its_plan, its_history}

closed_at_start : (plans : List SourcePlan) → map has_closed (map source_of plans) ≡ map (λ (state : Source). is_closed (writers_of state.plan.allow) []) (map source_of plans)
closed_at_start [] = refl
closed_at_start (plan ∷ plans) = ap (λ (others : List Bool). is_closed (writers_of plan.allow) [] ∷ others) (closed_at_start plans)

plans_back : (plans : List SourcePlan) → map its_plan (map source_of plans) ≡ plans
plans_back [] = refl
plans_back (plan ∷ plans) = ap (λ (others : List SourcePlan). plan ∷ others) (plans_back plans)

abbrev shape_for : Layout → List Source → FlagShape
shape_for layout states = record { sources = length states; closed = map has_closed states; leaves = layout.leaves; tasks = layout.pollers; seats = layout.seats }

module _ (layout : Layout) (states read : List Source) (shape : FlagShape) (states_are : states ≡ map source_of layout.plans) (read_is : read ≡ states) (shape_is : shape ≡ shape_for layout read) where
  shape_now : shape ≡ shape_for layout (map source_of layout.plans)
  shape_now = shape_is ∙ ap (shape_for layout) (read_is ∙ states_are)

  pub shaped : All IsPlan layout.plans → 0 < length layout.plans → 0 < layout.seats → All (IsLeafOf (length layout.plans) (length layout.pollers)) layout.leaves → All (λ poller. poller < layout.seats) layout.pollers → IsShape its_plan its_history shape states
  shaped sound some_source some_seat leaves tasks =
      let long = length-map layout.plans source_of in
      subst (λ (s : List Source). IsShape its_plan its_history shape s) (sym states_are) (subst (λ (s : FlagShape). IsShape its_plan its_history s (map source_of layout.plans)) (sym shape_now) (record {
        some_source = subst (λ (n : ℕ). 0 < n) (sym long) some_source;
        some_seat = some_seat;
        counted = refl;
        closed = closed_at_start layout.plans;
        new = All-map (IsNew its_plan its_history) source_of layout.plans (λ k d at. record { of_plan = sound k d at; no_entry = refl });
        leaves = subst (λ (n : ℕ). All (IsLeafOf n (length layout.pollers)) layout.leaves) (sym long) leaves;
        tasks = tasks;
      }))

  layout_now : (machine : Machine) (all : List PassSeat) → IsMade its_plan its_history shape states machine all → machine.layout ≡ layout
  layout_now machine all made =
      made.of_layout ∙ (λ i. layout_by its_plan (shape_now i) (states_are i)) ∙ (λ i. record { plans = plans_back layout.plans i; leaves = layout.leaves; pollers = layout.pollers; seats = layout.seats })

  pub seated : (machine : Machine) (all : List PassSeat) → IsMade its_plan its_history shape states machine all → IsSeated layout machine all
  seated machine all made =
      let is = layout_now machine all made in
      record {
        of_plans = ap (λ (l : Layout). l.plans) is;
        of_leaves = ap (λ (l : Layout). l.leaves) is;
        of_pollers = ap (λ (l : Layout). l.pollers) is;
        of_seats = ap (λ (l : Layout). l.seats) is;
        of_slots = made.of_slots;
        counted = made.all ∙ ap (λ (s : FlagShape). s.seats) shape_now;
        new = seats_from machine 0 all (λ k seat at. let new = made.each k seat at in subst (λ (n : ℕ). IsNewSeat machine n seat) (sym (zero-add k)) (record { at_table = new.0; has = new.1 }));
      }
