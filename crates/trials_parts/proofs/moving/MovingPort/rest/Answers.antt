use Rattle.std.proofs.Common.{◌≡◌, ◌∙◌, ap, false}
use Rattle.sig_hist.proofs.Knowing.{all_written}
use Rattle.sig_hist.specs.Ports.{PortState, at_rest, looked}
use Rattle.sig_hist.specs.declared.ports.Version.{Version}
use Rattle.trials_parts.specs.Moving.{OneSource, known}
use Rattle.trials_parts.proofs.Seeing.{known_at_rest}
use Rattle.trials_parts.proofs.moving.MovingPort.rest.Goals as goal

pub returns-clause-rest : goal.returns-clause-rest
returns-clause-rest c =
    let port : OneSource = record { source = c.self.inside.source; count = c.self.inside.count; leaves = c.self.inside.leaves.items; met = c.self.inside.met.items } in
    let version : Version = record { count = c.args.at; closed = false } in
    let is : c.look-version.result ≡ version = λ i. record { count = c.if-version-at.false i; closed = c.if-version.false i } in
    let before : known port ≡ looked (known c.args.self.now) 0 version =
    ap known c.self.view_is ∙ c.look-version.ensures.state ∙ ap (looked (known c.args.self.now) 0) is in
    let changed = all_written port.leaves c.settle.new.leaves _ (c.settle.auto.leaves ∙ c.as_mut_slice.ensures.len) ∙ rw c.as_mut_slice.ensures.value at c.settle.ensures in
    (rw (← is) c.look-version.ensures.sight, known_at_rest port _ changed ∙ ap (λ (s : PortState). at_rest s 0) before)
