-- How a seat gets a turn and gives it back.
use Rattle.std.proofs.Common.{◌≡◌, ◌∙◌, ℕ, List, [], ◌∷◌, ◌++◌, length, take, drop, min, Option, refl, sym, ap, arith}
use Rattle.std.proofs.Math.Seq.{take-length, take-append_seam}
use Rattle.std.proofs.lemmas.List.{length-take, take-append-le, take-append-drop}
use Rattle.sig_flag.specs.Accounts.{account_of, after_held}
use Rattle.sig_flag.specs.Machines.{Machine, account, Has, HasNoTurn, IsSameSeat, Sits}
use Rattle.sig_flag.specs.declared.accounts.Account.{Account}
use Rattle.sig_hist.specs.Sources.{Source}
use Rattle.sig_hist.specs.declared.ports.Met.{Met}
use Rattle.sig_hub.specs.Passes.{IsStation}
use Rattle.sig_hub.specs.Turns.{PassSeat, IsTrying}

-- ---- what a seat has

pub record Reads (seat : PassSeat) (a : Account) (slots : List (ℕ × Option Source)) : Type 0 where
  pub one : seat.me.0 ≡ account seat ∷ []
  pub is : account seat ≡ a
  pub slots_are : seat.me.1 ≡ slots

pub reads : (seat : PassSeat) (a : Account) (slots : List (ℕ × Option Source)) → Has seat a slots → Reads seat a slots
reads seat a slots has =
    let accounts : seat.me.0 ≡ a ∷ [] = ap (λ (me : List Account × List (ℕ × Option Source)). me.0) has in
    let is : account seat ≡ a = ap account_of accounts in
    record {
      one = accounts ∙ ap (λ (b : Account). b ∷ []) (sym is);
      is = is;
      slots_are = ap (λ (me : List Account × List (ℕ × Option Source)). me.1) has;
    }

pub has_both : (seat : PassSeat) (a : Account) (slots : List (ℕ × Option Source)) → seat.me.0 ≡ a ∷ [] → seat.me.1 ≡ slots → Has seat a slots
has_both seat a slots accounts is i = (accounts i, is i)

pub sits_after : (machine : Machine) (old new : PassSeat) (a : Account) (slots : List (ℕ × Option Source)) → Sits machine old → IsSameSeat old new → Has new a slots → Sits machine new
sits_after machine old new a slots sits same has = record { at_table = same.same_table ∙ sits.at_table; one_account = (reads new a slots has).one }

pub sits_at : {machine : Machine} {seat : PassSeat} {number : ℕ} → IsStation machine seat number → Sits machine seat
sits_at station = record { at_table = station.at_table; one_account = station.rests.one_account }

pub same_twice : (old mid new : PassSeat) → IsSameSeat old mid → IsSameSeat mid new → IsSameSeat old new
same_twice old mid new first second = record { same_table = second.same_table ∙ first.same_table; same_id = second.same_id ∙ first.same_id }

-- ---- until the seat has the turn

pub not_tried : (machine : Machine) (seat : PassSeat) → Sits machine seat → HasNoTurn seat → IsTrying seat seat
not_tried machine seat sits rests = record { same = record { same_table = refl; same_id = refl }; met = (account seat).met; more = take-length (account seat).met; has = has_both seat (account seat) [] sits.one_account rests.no_state }

-- of three lists each begins with the one before it
pub met_later : (one two three : List Met) → take (length one) two ≡ one → take (length two) three ≡ two → take (length one) three ≡ one
met_later one two three first second =
    let long : min (length one) (length two) ≡ length one = sym (length-take (length one) two) ∙ ap length first in
    ap (take (length one)) (sym (take-append-drop (length two) three) ∙ ap (λ (front : List Met). front ++ drop (length two) three) second) ∙ take-append-le (length one) two (drop (length two) three) (omega (arith, long)) ∙ first

-- the word was found held once more
pub tried_on : (old mid new : PassSeat) (source word : ℕ) → IsTrying old mid → IsSameSeat mid new → Has new (after_held (account mid) source word) [] → IsTrying old new
tried_on old mid new source word trying same has =
    let now = reads mid _ [] trying.has in
    record {
      same = same_twice old mid new trying.same same;
      met = trying.met ++ record { source = source; word = word } ∷ [];
      more = met_later (account old).met trying.met (trying.met ++ record { source = source; word = word } ∷ []) trying.more (take-append_seam trying.met (record { source = source; word = word } ∷ []));
      has = has ∙ (λ i. (record (now.is i) { met = (now.is i).met ++ record { source = source; word = word } ∷ [] } ∷ [], []));
    }

pub sits_still : (machine : Machine) (old new : PassSeat) → Sits machine old → IsTrying old new → Sits machine new
sits_still machine old new sits trying = sits_after machine old new _ [] sits trying.same trying.has

pub rests_still : (old new : PassSeat) → HasNoTurn old → IsTrying old new → HasNoTurn new
rests_still old new rests trying = let now = reads new _ [] trying.has in record { no_turn = ap (λ (a : Account). a.turn) now.is ∙ rests.no_turn; no_state = now.slots_are }
