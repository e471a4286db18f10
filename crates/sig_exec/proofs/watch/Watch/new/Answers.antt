use Rattle.std.proofs.Common.{◌∙◌, ap}
use Rattle.sig_exec.proofs.Starts.{watch_starts}
use Rattle.sig_exec.specs.Views.{caps_of}
use Rattle.sig_exec.proofs.watch.Watch.new.Goals as goal

pub returns-clause-ok : goal.returns-clause-ok
returns-clause-ok c =
    let caps = c.in_ok-caps.ensures ∙ ap caps_of c.as_slice.ensures in
    watch_starts _ _ _ c.in_ok-plan.plan c.in_ok-caps.caps _ _ _ _ c.in_ok-plan.ensures.plan (c.is_sound.ensures.0 c.if-not-is_sound.false) c.in_ok-hub.ensures caps c.in_ok-exec.ensures.jobs c.in_ok-exec.ensures.start c.of.ensures.hub c.of.ensures.writers c.of.ensures.pass c.of.ensures.exec
