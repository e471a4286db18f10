use Rattle.std.proofs.Common.{◌≡◌, ◌+◌, ◌*◌, ◌++◌, drop}
use Rattle.serde_json.specs.View.{items_view}
use Rattle.sig_script.specs.Building.{defs, signal_from, vector_from}
use Rattle.sig_script.proofs.expressions.+built.Given as goal

abbrev pub decreases-signal_from : goal.decreases-signal_from
decreases-signal_from g l = 3 * l.levels

abbrev pub decreases-vector_from : goal.decreases-vector_from
decreases-vector_from g l = 3 * l.levels

abbrev pub decreases-boxed_signal : goal.decreases-boxed_signal
decreases-boxed_signal g l = 3 * l.levels + 1

abbrev pub decreases-boxed_vector : goal.decreases-boxed_vector
decreases-boxed_vector g l = 3 * l.levels + 1

abbrev pub decreases-signals : goal.decreases-signals
decreases-signals g l = 3 * l.levels + 1

abbrev pub decreases-vectors : goal.decreases-vectors
decreases-vectors g l = 3 * l.levels + 1

abbrev pub decreases-signal_built : goal.decreases-signal_built
decreases-signal_built g l = 3 * l.levels + 2

abbrev pub decreases-vector_built : goal.decreases-vector_built
decreases-vector_built g l = 3 * l.levels + 2

abbrev pub invariant-signals-values : goal.invariant-signals-values
invariant-signals-values g l =
    let f = signal_from (g.L.Lookup.names l.scope.names.now) l.scope.sources l.levels in
    l.bank ++ defs f (items_view (drop l.value-index l.values)) ≡ defs f (items_view l.values)

abbrev pub invariant-vectors-values : goal.invariant-vectors-values
invariant-vectors-values g l =
    let f = vector_from (g.L.Lookup.names l.scope.names.now) l.scope.sources l.levels in
    l.bank ++ defs f (items_view (drop l.value-index l.values)) ≡ defs f (items_view l.values)
