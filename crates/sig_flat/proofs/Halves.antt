-- How long two lists are after a difference of one of them.
use Rattle.std.proofs.Common.{◌≡◌, ◌∙◌, ℕ, ℤ, List, length, ap, sym}
use Rattle.sig_diff.specs.declared.differences.VecDiff.{VecDiff}
use Rattle.sig_diff.specs.Differences.{IsLawful, applied}
use Rattle.sig_flat.specs.Joining.{Halves, joined_next}
use Rattle.sig_ops.specs.Sizes.{resized}
use Rattle.sig_ops.proofs.Sizing.{length_applied}

resized_is : (xs : List ℤ) (long : ℕ) (diff : VecDiff ℤ) → length xs ≡ long → IsLawful diff long →
    resized long diff ≡ length (applied xs diff)
resized_is xs long diff is lawful = ap (λ n. resized n diff) (sym is) ∙ sym (length_applied xs diff (rw is lawful))

module _ (op next : Halves) (left right : List ℤ) (diff : VecDiff ℤ)
    (left_is : length left ≡ op.left) (right_is : length right ≡ op.right) where
  -- of the left one
  pub left_len : IsLawful diff op.left → next ≡ joined_next op 0 diff →
      (next.left ≡ length (applied left diff)) × (next.right ≡ length right)
  left_len lawful is = (
    ap (λ (halves : Halves). halves.left) is ∙ resized_is left op.left diff left_is lawful,
    ap (λ (halves : Halves). halves.right) is ∙ sym right_is,
  )

  -- of the right one
  pub right_len : IsLawful diff op.right → next ≡ joined_next op 1 diff →
      (next.left ≡ length left) × (next.right ≡ length (applied right diff))
  right_len lawful is = (
    ap (λ (halves : Halves). halves.left) is ∙ sym left_is,
    ap (λ (halves : Halves). halves.right) is ∙ resized_is right op.right diff right_is lawful,
  )
