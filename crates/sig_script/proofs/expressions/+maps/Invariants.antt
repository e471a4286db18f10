use Rattle.std.proofs.Common.{◌+◌, ◌*◌}
use Rattle.sig_script.proofs.expressions.+maps.Given as goal

abbrev pub decreases-map_from : goal.decreases-map_from
decreases-map_from g l = 3 * l.levels

abbrev pub decreases-boxed_map : goal.decreases-boxed_map
decreases-boxed_map g l = 3 * l.levels + 1

abbrev pub decreases-map_built : goal.decreases-map_built
decreases-map_built g l = 3 * l.levels + 2
