use Rattle.sig_flag.proofs.flags.Flags.ring.Given as goal

abbrev pub ghosts-ring_one : goal.ghosts-ring_one
ghosts-ring_one g a = record { leaves = a.self.now.layout.leaves; number = a.leaf; at = 0 }
