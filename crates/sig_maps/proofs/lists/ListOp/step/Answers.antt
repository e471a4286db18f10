use Rattle.sig_diff.specs.Entries.{IsRising}
use Rattle.sig_maps.specs.laws.Tables.{list_leads}
use Rattle.sig_maps.proofs.lists.ListOp.step.Goals as goal

pub returns-in_err-give-clause-law : goal.returns-in_err-give-clause-law
returns-in_err-give-clause-law g c =
    let rising : IsRising c.args.self.now = rw (← c.self.view_is) c.self.invariant in
    list_leads g.met.L.Listing.listing c.args.self.now c.args.diff.now rising c.requires.lawful

pub returns-clause-law : goal.returns-clause-law
returns-clause-law g c =
    let rising : IsRising c.args.self.now = rw (← c.self.view_is) c.self.invariant in
    list_leads g.met.L.Listing.listing c.args.self.now c.args.diff.now rising c.requires.lawful
