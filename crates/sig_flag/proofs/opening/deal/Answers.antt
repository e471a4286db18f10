use Rattle.std.proofs.Common.{◌<◌, ap, arith}
use Rattle.sig_flag.proofs.Peels.{next_account, peels, dealt_more}
use Rattle.sig_flag.proofs.opening.deal.Goals as goal

pub split_seat-requires : goal.split_seat-requires
split_seat-requires g c =
    let more : c.seats._number < c.args.shared.now.key.seats = omega (arith, c.requires.count) in
    let next = next_account _ _ _ _ _ _ c.seats.invariant more in
    (c.seats.invariant.left.at_table, c.requires.words, peels _ _ _ _ _ _ _ (ap (λ (m : _). m.0) next.2))

pub seats-preserved : goal.seats-preserved
seats-preserved g c =
    let more : c.seats._number < c.args.shared.now.key.seats = omega (arith, c.requires.count) in
    let split = c.split_seat.ensures in
    dealt_more _ _ _ _ _ _ c.split_seat.result _ _ c.seats.invariant more split.0 split.2 (split.3) split.4 c.in_ok-push.ensures.items
