use Rattle.std.proofs.lemmas.List.Elements.{All-set}
use Rattle.trials.specs.Stages.{IsWriting}
use Rattle.trials.proofs.stages.Stage.write.Goals as goal

pub returns-then-writer-len : goal.returns-then-writer-len
returns-then-writer-len g c = record {
  writers = All-set (IsWriting c.args.self.now.hub.machine) c.args.self.now.writers.items c.args.writer c.write_next.new.writing c.write_next.ensures c.requires.writers;
  jobs = c.requires.jobs;
}
