-- Where a run of differences leads: a part of a list goes or comes, with anything before it and behind it.
use Rattle.std.specs.Prelude.{◌≡◌, suc, ◌+◌, ◌-◌, List, [], ◌∷◌, ◌++◌, length, insert, remove, take, refl}
use Rattle.std.proofs.Common.{◌∙◌, ap, add-one, append_assoc, arith}
use Rattle.std.proofs.lemmas.Bool.{lt-ltb, le-leb}
use Rattle.std.proofs.lemmas.Grind.{common_steps}
use Rattle.std.proofs.lemmas.List.{append-nil, length-append, replicate_more}
use Rattle.std.proofs.lemmas.List.Edits.{remove-append_right}
use Rattle.std.proofs.Math.Seq.{take-append_seam}
use Rattle.sig_diff.specs.declared.differences.VecDiff.TheVariants.{InsertAt, RemoveAt, Push, Pop}
use Rattle.sig_flat.specs.Runs.{inserts, pops, pushes, removes}
use Rattle.sig_ops.specs.Leading.{LeadsTo}
use Rattle.sig_ops.specs.laws.Leading.{leads_none, leads_one, leads_append}

module _ {T : Type 0} where
  -- ---- one element

  pub one_goes : (before : List T) (x : T) (after : List T) → LeadsTo (before ++ x ∷ after) (RemoveAt (length before) ∷ []) (before ++ after)
  one_goes before x after =
      let none : length before - length before ≡ 0 = omega arith in
      let goes : remove (before ++ x ∷ after) (length before) ≡ before ++ after = rw none at (remove-append_right before (x ∷ after) (length before) (length before) refl (omega arith)) in
      rw (← goes) (leads_one (before ++ x ∷ after) (RemoveAt (length before)) (lt-ltb _ _ (omega (arith, length-append before (x ∷ after)))))

  pub one_comes : (before : List T) (x : T) (after : List T) → LeadsTo (before ++ after) (InsertAt (length before) x ∷ []) (before ++ x ∷ after)
  one_comes before x after =
      let comes : insert (before ++ after) (length before) x ≡ before ++ x ∷ after = grind (arith, common_steps) in
      rw (← comes) (leads_one (before ++ after) (InsertAt (length before) x) (le-leb _ _ (omega (arith, length-append before after))))

  pub last_goes : (before : List T) (x : T) → LeadsTo (before ++ x ∷ []) (Pop ∷ []) before
  last_goes before x =
      let long = length-append before (x ∷ []) in
      let last : length (before ++ x ∷ []) - 1 ≡ length before = omega (arith, long) in
      let goes : take (length (before ++ x ∷ []) - 1) (before ++ x ∷ []) ≡ before = rw last (take-append_seam before (x ∷ [])) in
      rw goes at (leads_one (before ++ x ∷ []) Pop (lt-ltb _ _ (omega (arith, long))))

  -- ---- runs

  removes_between : (before middle after : List T) → LeadsTo (before ++ (middle ++ after)) (removes (length middle) (length before)) (before ++ after)
  removes_between before [] after = leads_none (before ++ after)
  removes_between before (x ∷ middle) after =
      leads_append (before ++ x ∷ (middle ++ after)) (RemoveAt (length before) ∷ []) (before ++ (middle ++ after)) (removes (length middle) (length before)) (before ++ after)
      (one_goes before x (middle ++ after)) (removes_between before middle after)
      (omega (arith, length-append before (middle ++ after), length-append before (x ∷ (middle ++ after))))

  -- a part goes
  pub removes_lead : (before middle after : List T) → LeadsTo (before ++ middle ++ after) (removes (length middle) (length before)) (before ++ after)
  removes_lead before middle after = rw (append_assoc before middle after) (removes_between before middle after)

  inserts_between : (before middle after : List T) → LeadsTo (before ++ after) (inserts (length before) middle) (before ++ (middle ++ after))
  inserts_between before [] after = leads_none (before ++ after)
  inserts_between before (x ∷ middle) after =
      let rest = inserts_between (before ++ x ∷ []) middle after in
      leads_append (before ++ after) (InsertAt (length before) x ∷ []) (before ++ x ∷ after) (inserts (length before + 1) middle) (before ++ x ∷ (middle ++ after))
      (one_comes before x after) (rw (append_assoc before (x ∷ []) after, append_assoc before (x ∷ []) (middle ++ after), length-append before (x ∷ [])) at rest)
      (omega (arith, length-append before (x ∷ after), length-append before (x ∷ (middle ++ after)), length-append middle after))

  -- a part comes in
  pub inserts_lead : (before middle after : List T) → LeadsTo (before ++ after) (inserts (length before) middle) (before ++ middle ++ after)
  inserts_lead before middle after = rw (append_assoc before middle after) (inserts_between before middle after)

  -- an end goes
  pub pops_lead : (before after : List T) → LeadsTo (before ++ after) (pops (length after)) before
  pops_lead before [] = rw (append-nil before) (leads_none before)
  pops_lead before (x ∷ after) =
      let first = pops_lead (before ++ x ∷ []) after in
      let more : pops {T = T} (length after) ++ Pop ∷ [] ≡ pops (suc (length after)) = replicate_more (length after) Pop ∙ ap pops (add-one (length after)) in
      rw (← more)
      (leads_append (before ++ x ∷ after) (pops (length after)) (before ++ x ∷ []) (Pop ∷ []) before
      (rw (append_assoc before (x ∷ []) after) at first) (last_goes before x)
      (omega (arith, length-append before (x ∷ []), length-append before (x ∷ after))))

  -- an end comes
  pub pushes_lead : (before after : List T) → LeadsTo before (pushes after) (before ++ after)
  pushes_lead before [] = rw (append-nil before) (leads_none before)
  pushes_lead before (x ∷ after) =
      let rest = pushes_lead (before ++ x ∷ []) after in
      leads_append before (Push x ∷ []) (before ++ x ∷ []) (pushes after) (before ++ x ∷ after)
      (leads_one before (Push x) refl) (rw (append_assoc before (x ∷ []) after) at rest)
      (omega (arith, length-append before (x ∷ []), length-append before (x ∷ after)))
