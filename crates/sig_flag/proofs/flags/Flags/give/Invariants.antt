use Rattle.sig_flag.proofs.flags.Flags.give.Given as goal

abbrev pub ghosts-give_among : goal.ghosts-give_among
ghosts-give_among g a = record { leaves = a.self.now.layout.leaves; number = 0; at = 0 }
