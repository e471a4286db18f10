use Rattle.std.proofs.Common.{rules, ◌≡◌, [], length}
use Rattle.std.proofs.lemmas.List.{get_or-set_same}
use Rattle.sig_diff.specs.Differences.{applied}
use Rattle.sig_flat.specs.Flattening.{bank_next, part_at}
use Rattle.sig_flat.specs.laws.Flattening.{bank_leads}
use Rattle.sig_flat.proofs.Standing.{given_after}
use Rattle.sig_ops.proofs.Sizing.{length_applied}
use Rattle.sig_flat.proofs.flattening.Flatten.step_bank.Goals as goal

pub returns-in_err-change_part-clause-law : goal.returns-in_err-change_part-clause-law
returns-in_err-change_part-clause-law c = bank_leads c.args.self.now c.args.child c.args.diff.now c.requires.child c.requires.lawful

pub returns-clause-law : goal.returns-clause-law
returns-clause-law c = bank_leads c.args.self.now c.args.child c.args.diff.now c.requires.child c.requires.lawful

pub give_blocks-requires-clause-changed : goal.give_blocks-requires-clause-changed
give_blocks-requires-clause-changed c =
    let op = c.args.self.now in
    let parts : c.as_slice.result.now ≡ (bank_next op c.args.child c.args.diff.now).parts = search rules in
    let len : c.part_len-old_len.result ≡ length (part_at op c.args.child) = search rules in
    rw (parts, len, get_or-set_same op.parts c.args.child (applied (part_at op c.args.child) c.args.diff.now) [] c.requires.child)
    (length_applied (part_at op c.args.child) c.args.diff.now c.requires.lawful)

pub returns-clause-given : goal.returns-clause-given
returns-clause-given c =
    let op = c.args.self.now in
    let parts : c.as_slice.result.now ≡ (bank_next op c.args.child c.args.diff.now).parts = search rules in
    let outer : c.as_slice-2.result.now ≡ op.outer = search rules in
    let len : c.part_len-old_len.result ≡ length (part_at op c.args.child) = search rules in
    rw (given_after op c.args.child c.args.diff.now 0 op.outer) (rw (parts, outer, len) at c.give_blocks.ensures)
