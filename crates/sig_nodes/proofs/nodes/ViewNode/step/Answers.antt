use Rattle.std.proofs.Common.{◌∙◌, ap}
use Rattle.sig_nodes.proofs.MapArms.{map_goes, of_map_flow}
use Rattle.sig_nodes.proofs.News.{list_news, map_news, on_err_known}
use Rattle.sig_nodes.proofs.Tagging.{tagged_lawful, tagged_short, tagged_stands}
use Rattle.sig_maps.specs.Tables.{entries_gives}
use Rattle.sig_rows.specs.declared.rows.Body.{Body}
use Rattle.sig_nodes.proofs.nodes.ViewNode.step.Goals as goal

pub pairs-requires-clause-lawful : goal.pairs-requires-clause-lawful
pairs-requires-clause-lawful g c =
    (map_goes c.in_ok-diffs-in-Entries.ensures.taken c.requires.can (rw c.in-Entries.is at c.requires.short) (rw c.in-Entries.is at c.requires.stands)).lawful

pub pairs-requires-clause-short_map : goal.pairs-requires-clause-short_map
pairs-requires-clause-short_map g c =
    (map_goes c.in_ok-diffs-in-Entries.ensures.taken c.requires.can (rw c.in-Entries.is at c.requires.short) (rw c.in-Entries.is at c.requires.stands)).few

pub pairs-requires-clause-short : goal.pairs-requires-clause-short
pairs-requires-clause-short g c =
    (map_goes c.in_ok-diffs-in-Entries.ensures.taken c.requires.can (rw c.in-Entries.is at c.requires.short) (rw c.in-Entries.is at c.requires.stands)).short

pub returns-in_ok-pairs-in-Entries-clause-flow : goal.returns-in_ok-pairs-in-Entries-clause-flow
returns-in_ok-pairs-in-Entries-clause-flow g c =
    rw (c.in-Entries.is, c.in_ok-pairs-in-Entries.ensures.given) (ap Body.Pairs (of_map_flow c.in_ok-diffs-in-Entries.ensures.taken entries_gives c.requires.can (rw c.in-Entries.is at c.requires.stands)))

pub returns-in_ok-pairs-in-Entries-clause-stands : goal.returns-in_ok-pairs-in-Entries-clause-stands
returns-in_ok-pairs-in-Entries-clause-stands g c =
    rw c.step-in-Entries.ensures.tree (c.in_ok-pairs-in-Entries.ensures.state ∙ (map_goes c.in_ok-diffs-in-Entries.ensures.taken c.requires.can (rw c.in-Entries.is at c.requires.short) (rw c.in-Entries.is at c.requires.stands)).replay)

pub tagged-requires-clause-lawful : goal.tagged-requires-clause-lawful
tagged-requires-clause-lawful g c =
    let below = c.in_ok-diffs-in-Enumerate.ensures.taken in
    let is = c.in-Enumerate.is in
    tagged_lawful below c.requires.can (rw is at c.requires.short) (rw is at c.requires.stands).0

pub tagged-requires-clause-short : goal.tagged-requires-clause-short
tagged-requires-clause-short g c =
    let below = c.in_ok-diffs-in-Enumerate.ensures.taken in
    let is = c.in-Enumerate.is in
    tagged_short below c.requires.can (rw is at c.requires.short) (rw is at c.requires.stands).0

pub returns-in_ok-tagged-in-Enumerate-clause-stands : goal.returns-in_ok-tagged-in-Enumerate-clause-stands
returns-in_ok-tagged-in-Enumerate-clause-stands g c =
    let below = c.in_ok-diffs-in-Enumerate.ensures.taken in
    let is = c.in-Enumerate.is in (
      tagged_stands below c.requires.can (rw is at c.requires.short) (rw is at c.requires.stands).0 c.tagged.new.op c.in_ok-tagged-in-Enumerate.ensures.state,
      below.stands,
    )

pub returns-in_err-pairs-in-Entries-clause-news : goal.returns-in_err-pairs-in-Entries-clause-news
returns-in_err-pairs-in-Entries-clause-news g c = on_err_known c.from_residual-in_err-pairs-in-Entries.result (map_news c.in_ok-diffs-in-Entries.ensures.taken c.in_err-pairs-in-Entries.ensures.some)

pub returns-in_err-tagged-in-Enumerate-clause-news : goal.returns-in_err-tagged-in-Enumerate-clause-news
returns-in_err-tagged-in-Enumerate-clause-news g c = on_err_known c.from_residual-in_err-tagged-in-Enumerate.result (list_news c.in_ok-diffs-in-Enumerate.ensures.taken c.in_err-tagged-in-Enumerate.ensures.some)
