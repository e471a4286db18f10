-- Two facts about a result at once.
use Rattle.std.proofs.Common.{IfOk, OnOk, Result}
use Rattle.std.specs.declared.result.Result.TheVariants.{Ok, Err}

pub if_ok_also : {A E : Type 0} (result : Result A E) (P Q : A → Type 0) (S : Type 0) → ((x : A) → P x → S → Q x) → IfOk result P → OnOk result S → IfOk result Q
if_ok_also (Ok x) P Q S both holds also = both x holds also
if_ok_also (Err e) P Q S both holds also = tt

pub if_ok_both : {A E : Type 0} (result : Result A E) (P Q R : A → Type 0) → ((x : A) → P x → Q x → R x) → IfOk result P → IfOk result Q → IfOk result R
if_ok_both (Ok x) P Q R both holds also = both x holds also
if_ok_both (Err e) P Q R both holds also = tt
