use Rattle.sig_flag.proofs.flags.Flags.arm.Given as goal

abbrev pub ghosts-arm_one : goal.ghosts-arm_one
ghosts-arm_one g a = record { leaves = a.self.now.layout.leaves; number = a.leaf; at = 0 }
