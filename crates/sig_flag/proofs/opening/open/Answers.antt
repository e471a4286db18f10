use Rattle.std.proofs.Common.{◌∙◌, ◌++◌, Bool, map, replicate, sym, subst}
use Rattle.atomic_table.specs.Table.{opening}
use Rattle.sig_flag.proofs.Keeping.{Whole}
use Rattle.sig_flag.proofs.Opens.{opens}
use Rattle.sig_flag.specs.Accounts.{opening_accounts}
use Rattle.sig_flag.specs.Layouts.{Layout}
use Rattle.sig_flag.specs.Words.{word_of}
use Rattle.sig_flag.proofs.opening.open.Goals as goal

pub new-requires : goal.new-requires
new-requires g c =
    subst (λ (layout : Layout). Whole g.V.Kept.plan g.V.Kept.history layout (opening c.as_slice-2.result.now c.in_ok-slots.slots.items (opening_accounts layout))) (λ i. record { plans = map g.V.Kept.plan (sym c.of.ensures i); leaves = sym c.of-2.ensures i; pollers = sym c.of-3.ensures i; seats = c.args.shape.seats })
    (opens _ _ c.args.shape c.args.states _ _ c.requires (c.as_slice-2.ensures.value ∙ c.in_ok-words.ensures ∙ (λ i. map (λ (closed : Bool). word_of 0 closed) (c.as_slice.ensures i) ++ replicate (c.len.ensures i) 0 ++ replicate (c.len-2.ensures i) 1)) c.in_ok-slots.ensures)
