use Rattle.std.proofs.Common.{◌∙◌, ap}
use Rattle.sig_flag.proofs.Gathers.{gathers, gathered_more, last_rests}
use Rattle.sig_flag.proofs.closing.gather.Goals as goal

pub join_seat-requires : goal.join_seat-requires
join_seat-requires g c =
    let rests = last_rests _ _ _ _ _ _ c.in-Some.seat c.seats.invariant c.in-Some.ensures.last in
    (c.seats.invariant.same_table ∙ c.requires.first, rests.at_table, ap (λ (m : _). m.1) rests.has, c.requires.words, gathers _ _ _ _ _ _ _)

pub seats-preserved : goal.seats-preserved
seats-preserved g c = gathered_more _ _ _ _ _ _ _ c.in-Some.seat c.seats.invariant c.in-Some.ensures.last c.join_seat.ensures.0 c.join_seat.ensures.2
