use Rattle.sig_diff.specs.declared.contents.Content.TheVariants.{Map}
use Rattle.sig_hist.proofs.Entries.{within_cap}
use Rattle.sig_hist.proofs.changes.edit_map.Goals as goal

pub returns-in-Put-clause-within : goal.returns-in-Put-clause-within
returns-in-Put-clause-within c = within_cap (Map c.args.entries.now) c.args.cap c.args.edit.now c.as_slice.ensures.rising c.requires

pub returns-in-Delete-clause-within : goal.returns-in-Delete-clause-within
returns-in-Delete-clause-within c = within_cap (Map c.args.entries.now) c.args.cap c.args.edit.now c.as_slice.ensures.rising c.requires
