-- Two statuses by their codes.
use Rattle.std.proofs.Common.{◌≡◌, refl, arith}
use Rattle.sig_run.specs.Program.{code_of}
use Rattle.sig_run.specs.declared.program.Status.{Status}
use Rattle.sig_run.specs.declared.program.Status.TheVariants.{Done, Usage, ReadFault, WriteFault, Script, Memory, TooLarge}

pub done_by_code : (status : Status) → code_of status ≡ 0 → status ≡ Done
done_by_code Done code = refl
done_by_code Usage code = absurd (omega (arith, code))
done_by_code ReadFault code = absurd (omega (arith, code))
done_by_code WriteFault code = absurd (omega (arith, code))
done_by_code Script code = absurd (omega (arith, code))
done_by_code Memory code = absurd (omega (arith, code))
done_by_code TooLarge code = absurd (omega (arith, code))

pub write_fault_by_code : (status : Status) → code_of status ≡ 3 → status ≡ WriteFault
write_fault_by_code Done code = absurd (omega (arith, code))
write_fault_by_code Usage code = absurd (omega (arith, code))
write_fault_by_code ReadFault code = absurd (omega (arith, code))
write_fault_by_code WriteFault code = refl
write_fault_by_code Script code = absurd (omega (arith, code))
write_fault_by_code Memory code = absurd (omega (arith, code))
write_fault_by_code TooLarge code = absurd (omega (arith, code))
