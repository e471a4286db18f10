use Rattle.sig_flag.proofs.flags.Flags.look_last.Given as goal

abbrev pub ghosts-look_knowing : goal.ghosts-look_knowing
ghosts-look_knowing g a = record { leaves = a.self.now.layout.leaves; number = a.leaf; at = a.at }
