use Rattle.std.proofs.Common.{◌∙◌, List, [], Bool, ap, arith}
use Rattle.sig_hub.proofs.Gathered.{as_many, no_seats, are_back, finished}
use Rattle.sig_hub.proofs.ending.close.Goals as goal
use Rattle.sig_hub.specs.Ends.{listed}

pub with_pollers-seats-requires : goal.with_pollers-seats-requires
with_pollers-seats-requires c =
    let left = as_many _ _ (c.with_left-seats.ensures.seats [] (no_seats _ c.requires.room.no_seat)) in
    omega (arith, c.with_left-seats.ensures.capacity, c.requires.room.seats)

pub close-states-requires : goal.close-states-requires
close-states-requires c =
    let are = c.with_pollers-seats.ensures.seats _ (c.with_left-seats.ensures.seats [] (no_seats _ c.requires.room.no_seat)) in
    are_back _ _ c.hub.view_is c.args.back _ _ are c.from_vec.ensures c.hub.invariant c.requires.back c.requires.all

pub returns : goal.returns
returns c =
    let are = c.with_pollers-seats.ensures.seats _ (c.with_left-seats.ensures.seats [] (no_seats _ c.requires.room.no_seat)) in
    finished _ _ c.hub.view_is c.args.back _ _ are c.from_vec.ensures _ _ _ c.requires.back c.requires.all c.close-states.ensures.states c.close-states.ensures.ready c.close-states.ensures.heard
    (c.from_vec-told.ensures ∙ c.ready_tasks.ensures ∙ ap (λ (ready : List Bool). listed ready 0) c.as_slice.ensures)
