use Rattle.sig_flag.proofs.flags.Flags.collect.Given as goal

abbrev pub ghosts-collect_one : goal.ghosts-collect_one
ghosts-collect_one g a = record { leaves = a.self.now.layout.leaves; number = a.task; at = 0 }
