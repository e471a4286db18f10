use Rattle.std.proofs.Common.{rules, ◌≡◌, w64, to_z, of_z, append_assoc}
use Rattle.sig_flat.proofs.flattening.Flatten.give_other.Goals as goal

pub returns : goal.returns
returns c =
    let same : to_z w64 (of_z w64 c.args.value) ≡ c.args.value = search rules in
    let block = rw same at c.block.ensures in
    rw (c.in_ok-removes.ensures, append_assoc, block, c.begins-place.ensures.place, c.block_len.ensures.len) at c.inserts.ensures
