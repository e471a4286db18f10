use Rattle.std.proofs.Common.{◌≡◌, ◌∙◌, ap, map}
use Rattle.std.specs.Vec.{with_items}
use Rattle.sig_hist.specs.Plain.{leaf_checked}
use Rattle.sig_hist.proofs.Knowing.{all_written}
use Rattle.sig_hist.proofs.Listing.{check_all, listed_checked}
use Rattle.sig_hist.proofs.bells.Bells.check.Goals as goal

all_checked : (c : goal.After-self-1) → (with_items c.self.inside.leaves c.check.new.leaves).items ≡ map (leaf_checked c.args.source c.args.version) c.self.inside.leaves.items
all_checked c =
    all_written c.self.inside.leaves.items c.check.new.leaves _ (c.check.auto.leaves ∙ c.as_mut_slice.ensures.len)
    ∙ rw (c.as_mut_slice.ensures.value, c.as_slice.ensures.value) at c.check.ensures
    ∙ check_all c.args.source c.args.version c.self.invariant

pub invariant_of-self : goal.invariant_of-self
invariant_of-self c = rw (all_checked c) (listed_checked c.args.source c.args.version c.self.invariant)

pub returns : goal.returns
returns c = all_checked c ∙ ap (map (leaf_checked c.args.source c.args.version)) c.self.view_is
