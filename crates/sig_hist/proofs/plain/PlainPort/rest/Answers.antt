use Rattle.std.proofs.Common.{◌≡◌, ◌∙◌, ap, false, refl}
use Rattle.sig_hist.specs.Plain.{OneThread, known, leaf_at, leaf_settled}
use Rattle.sig_hist.specs.Ports.{PortState, at_rest, looked}
use Rattle.sig_hist.specs.declared.ports.Version.{Version}
use Rattle.sig_hist.proofs.Knowing.{known_at_rest, leaves_changed}
use Rattle.sig_hist.proofs.plain.PlainPort.rest.Goals as goal

pub invariant_of-self : goal.invariant_of-self
invariant_of-self c =
    rw c.settle.ensures (leaves_changed (record { sources = c.self.inside.sources.items; leaves = c.self.inside.bells }) leaf_settled (λ leaf. refl) c.self.invariant)

pub returns-clause-rest : goal.returns-clause-rest
returns-clause-rest c =
    let port : OneThread = record { sources = c.self.inside.sources.items; leaves = c.self.inside.bells } in
    let version : Version = record { count = c.args.at; closed = false } in
    let is : c.look-version.result ≡ version = λ i. record { count = c.if-version-at.false i; closed = c.if-version.false i } in
    let before : known port ≡ looked (known c.args.self.now) (leaf_at c.args.self.now c.args.leaf).source version =
    ap known c.self.view_is ∙ c.look-version.ensures.state ∙ ap (looked (known c.args.self.now) (leaf_at c.args.self.now c.args.leaf).source) is in
    (rw (← is) c.look-version.ensures.sight, known_at_rest port _ c.settle.ensures ∙ ap (λ (s : PortState). at_rest s 0) before)
