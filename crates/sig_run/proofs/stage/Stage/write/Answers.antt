use Rattle.std.proofs.Common.{◌≡◌, ◌∙◌, ℕ, ◌+◌, ◌<◌, length, get_or, slice_set, refl, ap, sym, subst}
use Rattle.std.proofs.lemmas.List.{get_or_default}
use Rattle.sig_report.proofs.Events.{GoesOn, writer_goes}
use Rattle.sig_report.proofs.Views.{no_shares}
use Rattle.sig_report.specs.Lawful.{all_views}
use Rattle.sig_report.specs.Playing.{Played, by_writer}
use Rattle.sig_run.proofs.Viewing.{views_later}
use Rattle.sig_run.proofs.Writing.{may_write}
use Rattle.sig_run.specs.Stages.{played_of}
use Rattle.sig_run.proofs.stage.Stage.write.Goals as goal

pub write_next-requires-clause-open_to : goal.write_next-requires-clause-open_to
write_next-requires-clause-open_to c =
    let stage = c.args.self.now in
    let within : c.args.writer < length stage.done.items = rw c.requires.step.play.done c.requires.writer in
    let done : c.index-done.result.now ≡ get_or stage.done.items c.args.writer 0 = c.index-done.ensures ∙ get_or_default stage.done.items c.args.writer _ 0 within in
    rw (c.in_ok-caller.ensures, c.edits_of.ensures, done) (may_write c.args.script.now c.requires.step.playable (played_of stage) c.requires.step.play stage.port refl c.args.writer)

pub returns-clause-played : goal.returns-clause-played
returns-clause-played c =
    let stage = c.args.self.now in
    let within : c.args.writer < length stage.done.items = rw c.requires.step.play.done c.requires.writer in
    let done : c.index-done.result.now ≡ get_or stage.done.items c.args.writer 0 = c.index-done.ensures ∙ get_or_default stage.done.items c.args.writer _ 0 within in
    let counts : slice_set stage.done.items c.args.writer c.in_ok-next.next ≡ (by_writer c.args.script.now c.args.writer (played_of stage)).done =
    ap (slice_set stage.done.items c.args.writer) (c.in_ok-next.ensures ∙ ap (λ (count : ℕ). count + 1) done) in
    let sources : c.write_next.new.port.sources ≡ (by_writer c.args.script.now c.args.writer (played_of stage)).sources =
    rw (c.in_ok-caller.ensures, c.edits_of.ensures, done) at c.in_ok-write_next.ensures.written in
    λ i. record (played_of stage) { done = counts i; sources = sources i }

pub returns-clause-step : goal.returns-clause-step
returns-clause-step c =
    let script = c.args.script.now in
    let step = c.requires.step in
    let played = returns-clause-played c in
    let goes : GoesOn script (played_of c.args.self.now) (by_writer script c.args.writer (played_of c.args.self.now)) =
    writer_goes script (no_shares script step.playable.built) step.playable.no_leaves (played_of c.args.self.now) step.play c.args.writer in
    let later : GoesOn script (played_of c.args.self.now) _ = subst (λ (later : Played). GoesOn script (played_of c.args.self.now) later) (sym played) goes in
    record {
      playable = step.playable;
      play = later.play;
      sound = c.in_ok-write_next.ensures.more.sound;
      views = views_later c.args.self.now.port c.write_next.new.port c.in_ok-write_next.ensures.more (all_views script) c.args.self.now.views.items step.views;
    }
