-- A read that copies the next of the bytes in memory to the front of a buffer.
use Rattle.std.proofs.Common.{◌≡◌, ℕ, ◌+◌, ◌<◌, min, List, ◌++◌, Some, length, take, drop, sym, ap, ◌∙◌, arith, take_at, length-take-le, length-append, length-drop, take-append-drop, drop-drop, drop_of_length-le}
use Rattle.std.specs.Io.KnownBytes.{Consumes, IsAtEnd}

pub copy_Consumes : (content left copied buf : List ℕ) (taken piece count : ℕ) → 0 < piece → left ≡ drop taken content → copied ≡ take count left
    → count ≡ min (min (length left) piece) (length buf)
    → Consumes (Some left) (Some (drop (taken + count) content)) (take count (copied ++ drop count buf))
    × (count ≡ 0 → 0 < length (copied ++ drop count buf) → IsAtEnd (Some (drop (taken + count) content)))
copy_Consumes content left copied buf taken piece count some from copy most =
    let back : drop (taken + count) content ≡ drop count left = sym (drop-drop count taken content) ∙ ap (drop count) (sym from) in
    let short = length-take-le count left (omega arith) in
    let front : take count (copied ++ drop count buf) ≡ take count left =
    ap (λ l. take count (l ++ drop count buf)) copy ∙ take_at (take count left) (drop count buf) count short in (
      sym (take-append-drop count left) ∙ ap (λ l. l ++ drop count left) (sym front) ∙ ap (λ l. take count (copied ++ drop count buf) ++ l) (sym back),
      λ none room. back ∙ drop_of_length-le left (omega (arith, short, ap length copy, length-append copied (drop count buf), length-drop count buf)),
    )
