use Rattle.std.proofs.Common.{rules}
use Rattle.sig_ops.specs.TagIndex.{entry_shifted, is_elsewhere}
use Rattle.sig_ops.proofs.TagIndexes.{retained}
use Rattle.sig_ops.proofs.enumerating.take_out.Goals as goal

pub returns : goal.returns
returns c =
    retained _ (is_elsewhere c.args.place) (entry_shifted c.args.place c.args.len) _ (λ entry stays next after called. search rules)
    c.args.index.now.items c.retain_mut.new.self.items c.retain_mut.ensures.filtered
