-- The seats of passes.
use Rattle.std.specs.Prelude.{◌≡◌, ℕ, ◌+◌, ◌≤◌, List, [], map, length, vec_capacity, All}
use Rattle.atomic_table.specs.Seated.{TableId}
use Rattle.sig_flag.specs.Machines.{account}
use Rattle.sig_flag.specs.declared.accounts.Account.{Account}
use Rattle.sig_hub.specs.Passes.{Pass, IsAtRest}
use Rattle.sig_hub.specs.Turns.{PassSeat}
use Rattle.sig_hub.specs.declared.ending.FinishingRoom.{FinishingRoom}
use Rattle.sig_hub.specs.declared.ending.Returned.{Returned}

-- a seat between two calls
abbrev pub Rests : PassSeat → Type 0
Rests seat = IsAtRest seat (account seat).number

-- where a seat or a pass is, and its account there
abbrev pub at_seat : PassSeat → TableId × Account
at_seat seat = (seat.table_id, account seat)

abbrev pub at_pass : Pass → TableId × Account
at_pass pass = (pass.hub.id, pass.account)

-- the seats of these passes, one each and in their order
pub record AreSeatsOf (passes : List Pass) (seats : List PassSeat) : Type 0 where
  pub same : map at_seat seats ≡ map at_pass passes
  pub at_rest : All Rests seats

-- room for the seats of all passes that come back, and for so many tasks
pub record IsRoomFor (back : Returned) (tasks : ℕ) (room : FinishingRoom) : Type 0 where
  pub no_seat : room.seats.items ≡ []
  pub seats : length back.left + length back.pollers ≤ vec_capacity room.seats
  pub no_task : room.told.items ≡ []
  pub told : tasks ≤ vec_capacity room.told
