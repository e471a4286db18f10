use Rattle.sig_maps.specs.laws.Tables.{map_value_leads}
use Rattle.sig_maps.proofs.values.MapValue.step.Goals as goal

pub returns-in_err-mapped-clause-law : goal.returns-in_err-mapped-clause-law
returns-in_err-mapped-clause-law g c = λ entries rising. map_value_leads (g.M.Mapper.maps c.args.self.now) entries c.args.diff.now

pub returns-clause-law : goal.returns-clause-law
returns-clause-law g c = λ entries rising. map_value_leads (g.M.Mapper.maps c.args.self.now) entries c.args.diff.now
