use Rattle.std.proofs.Common.{◌≡◌, Err, arith}
use Rattle.sig_io.specs.declared.reading.ReadError.TheVariants.{NoMemory}
use Rattle.std.proofs.lemmas.Result.{err_from_is_err_and}
use Rattle.sig_io.proofs.Takes.{Takes-more}
use Rattle.sig_io.proofs.reading.read_all.Goals as goal

pub returns-in_err-read_piece-clause-memory : goal.returns-in_err-read_piece-clause-memory
returns-in_err-read_piece-clause-memory g c memory =
    let p = err_from_is_err_and c.from_residual.result c.from_residual.ensures.1 in
    let was : c.read_piece.result ≡ Err NoMemory = cc in
    let read = c.read_piece.ensures.memory was in
    (cc, Takes-more _ _ _ _ _ _ c.pieces.invariant.taken (omega arith) read.1)
