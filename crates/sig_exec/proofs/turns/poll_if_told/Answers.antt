use Rattle.std.proofs.Common.{◌∙◌, true, false, Option, ap, subst}
use Rattle.sig_hist.specs.Ports.{PortState}
use Rattle.sig_hub.specs.Polls.{Token, port_of}
use Rattle.sig_view.specs.Tasks.{first_of}
use Rattle.sig_exec.specs.Jobs.{HasGone, Keeps, StaysForOthers}
use Rattle.sig_exec.proofs.Moments.{stays_then}
use Rattle.sig_exec.proofs.Works.{asked_gone, holds_asked, none_asked, stays_asked, untold_gone, watching_asked}
use Rattle.sig_exec.proofs.turns.poll_if_told.Goals as goal

pub poll-requires-in-Some-collect-clause-watching : goal.poll-requires-in-Some-collect-clause-watching
poll-requires-in-Some-collect-clause-watching g c = watching_asked (port_of c.args.pass.now) _ c.args.task c.collect.ensures.sound true c.in-Some-collect.ensures.state _ c.requires.watching

pub poll-requires-in-Some-collect-clause-holds : goal.poll-requires-in-Some-collect-clause-holds
poll-requires-in-Some-collect-clause-holds g c =
    let s : PortState = port_of c.args.pass.now in
    let t : PortState = port_of c.collect.new.pass in
    let none = subst (λ (told : Option Token). Keeps c.args.hub.now s c.args.task told) c.in-None.is c.requires.keeps in
    let more = (stays_asked s t c.args.task c.collect.ensures.sound true c.in-Some-collect.ensures.state).goes_on.more in
    ap t.tokens (ap (λ (task : _). task (first_of c.args.view.now.task)) more.task ∙ c.requires.first) ∙ holds_asked s t c.args.task c.collect.ensures.sound c.in-Some-collect.ensures.state none

pub returns-in-Some-collect-clause-others : goal.returns-in-Some-collect-clause-others
returns-in-Some-collect-clause-others g c =
    let s : PortState = port_of c.args.pass.now in
    let t : PortState = port_of c.collect.new.pass in
    let u : PortState = port_of c.poll-in-Some-collect.new.pass in
    let asked = stays_asked s t c.args.task c.collect.ensures.sound true c.in-Some-collect.ensures.state in
    let its_task = ap (λ (task : _). task (first_of c.args.view.now.task)) asked.goes_on.more.task ∙ c.requires.first in
    stays_then s t u c.args.task asked (subst (StaysForOthers t u) its_task c.poll-in-Some-collect.ensures.others)

pub returns-in-Some-collect-clause-gone : goal.returns-in-Some-collect-clause-gone
returns-in-Some-collect-clause-gone g c =
    let s : PortState = port_of c.args.pass.now in
    let t : PortState = port_of c.collect.new.pass in
    let u : PortState = port_of c.poll-in-Some-collect.new.pass in
    let none = subst (λ (told : Option Token). Keeps c.args.hub.now s c.args.task told) c.in-None.is c.requires.keeps in
    let asked = stays_asked s t c.args.task c.collect.ensures.sound true c.in-Some-collect.ensures.state in
    let its_task = ap (λ (task : _). task (first_of c.args.view.now.task)) asked.goes_on.more.task ∙ c.requires.first in
    asked_gone s t c.args.task c.collect.ensures.sound u c.in-Some-collect.ensures.state none _ _ _
    (subst (λ (task : _). HasGone t u task c.args.view.now c.poll-in-Some-collect.new.view c.poll-in-Some-collect.result) its_task c.poll-in-Some-collect.ensures.gone)

pub returns-in-None-collect-clause-is_in : goal.returns-in-None-collect-clause-is_in
returns-in-None-collect-clause-is_in g c =
    let s : PortState = port_of c.args.pass.now in
    let t : PortState = port_of c.collect.new.pass in
    let none = subst (λ (told : Option Token). Keeps c.args.hub.now s c.args.task told) c.in-None.is c.requires.keeps in
    (watching_asked s t c.args.task c.collect.ensures.sound false c.in-None-collect.ensures.state _ c.requires.watching, c.requires.open, none_asked s t c.args.task c.collect.ensures.sound c.in-None-collect.ensures.state none)

pub returns-in-None-collect-clause-gone : goal.returns-in-None-collect-clause-gone
returns-in-None-collect-clause-gone g c =
    let s : PortState = port_of c.args.pass.now in
    let t : PortState = port_of c.collect.new.pass in
    let none = subst (λ (told : Option Token). Keeps c.args.hub.now s c.args.task told) c.in-None.is c.requires.keeps in
    untold_gone s t c.args.task c.collect.ensures.sound c.in-None-collect.ensures.state none c.args.view.now
