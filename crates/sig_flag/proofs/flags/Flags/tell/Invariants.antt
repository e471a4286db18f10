use Rattle.sig_flag.proofs.flags.Flags.tell.Given as goal

abbrev pub ghosts-tell_one : goal.ghosts-tell_one
ghosts-tell_one g a = record { leaves = a.self.now.layout.leaves; number = a.task; at = 0 }
