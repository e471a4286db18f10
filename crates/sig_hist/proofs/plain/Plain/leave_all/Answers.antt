use Rattle.std.proofs.Common.{◌≡◌, ◌∙◌, ◌++◌, map, take, drop, length, ap, arith, length-append, length-drop}
use Rattle.std.proofs.lemmas.List.{length-map, length-take}
use Rattle.sig_hist.specs.Plain.{OneThread, after_leave}
use Rattle.sig_hist.proofs.Knowing.{left_more}
use Rattle.sig_hist.proofs.plain.Plain.leave_all.Goals as goal

pub sources-preserved : goal.sources-preserved
sources-preserved c =
    let port : OneThread = c.args.self.now in
    let sources : c.sources.self.sources ≡ map (after_leave c.args.caller) (take c.sources.source port.sources) ++ drop c.sources.source port.sources = ap (λ (port : OneThread). port.sources) c.sources.invariant in
    let count : length c.self.inside.sources.items ≡ length port.sources = ap (λ (port : OneThread). length port.sources) c.self.view_is in
    let long : length c.sources.self.sources ≡ length port.sources = ap length sources ∙ simp (length-append, length-map, length-take, length-drop) (omega arith) in
    let more = left_more c.args.caller port.sources c.sources.self.sources c.sources.source (omega arith) long sources in
    let leaves : c.sources.self.leaves ≡ port.leaves = ap (λ (port : OneThread). port.leaves) c.sources.invariant in
    c.leave_if_writer.ensures ∙ λ i. record { sources = more i; leaves = leaves i }
