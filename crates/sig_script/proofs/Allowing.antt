-- The allowances of a source: their writers' numbers rise, and their room is that of the source.
use Rattle.std.proofs.Common.{◌≡◌, ℕ, ◌+◌, ◌<◌, List, [], ◌∷◌, ◌++◌, false, map, sum, refl, arith}
use Rattle.std.proofs.lemmas.Grind.{common_steps}
use Rattle.sig_hist.specs.Sources.{AreDistinct, is_among, room_of, writers_of}
use Rattle.sig_hist.specs.declared.plans.SourcePlan.{SourcePlan}
use Rattle.sig_script.specs.Growths.{clipped}
use Rattle.sig_script.specs.Plans.{allowances, share_plans}
use Rattle.sig_script.specs.Rooms.{writer_room}
use Rattle.sig_script.specs.declared.types.ShareDef.{ShareDef}
use Rattle.sig_script.specs.declared.types.WriterDef.{WriterDef}

pub room_of_allowances : (source number : ℕ) (writers : List WriterDef) → room_of (allowances source number writers) ≡ sum (map (writer_room source) writers)
room_of_allowances source number [] = refl
room_of_allowances source number (writer ∷ writers) = grind (arith, common_steps, room_of_allowances source (number + 1) writers)

-- the writers behind a number are above it
among_later : (source low number : ℕ) (writers : List WriterDef) → low < number → is_among low (writers_of (allowances source number writers)) ≡ false
among_later source low number [] below = refl
among_later source low number (writer ∷ writers) below = grind (arith, common_steps, among_later source low (number + 1) writers (omega arith))

pub distinct_allowances : (source number : ℕ) (writers : List WriterDef) → AreDistinct (writers_of (allowances source number writers))
distinct_allowances source number [] = tt
distinct_allowances source number (writer ∷ writers) = grind (arith, common_steps, among_later source number (number + 1) writers (omega arith), distinct_allowances source (number + 1) writers)

-- the rooms so far are clipped, and the plans of the shares that are left come behind those so far
pub record WithSharePlans (plans : List SourcePlan) (rooms : List ℕ) (caller : ℕ) (left : List ShareDef) (all : List SourcePlan) : Type 0 where
  pub exact : List ℕ
  pub are_clipped : rooms ≡ map clipped exact
  pub go_on : plans ++ share_plans caller exact left ≡ all
