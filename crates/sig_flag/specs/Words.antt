-- The word of a source: how many entries its history has, whether it is closed, and whether a seat has its turn.
use Rattle.std.specs.Prelude.{ℕ, ◌+◌, ◌*◌, ◌/◌, ◌%◌, ◌==◌, List, length, Bool, if◌then◌else◌}
use Rattle.sig_hist.specs.Histories.{is_closed}
use Rattle.sig_hist.specs.Sources.{writers_of}
use Rattle.sig_hist.specs.declared.edits.Entry.{Entry}
use Rattle.sig_hist.specs.declared.plans.SourcePlan.{SourcePlan}
use Rattle.sig_hist.specs.declared.ports.Version.{Version}

-- the word while nobody has the turn. It is one more while a seat has it
abbrev pub word_of : ℕ → Bool → ℕ
word_of count closed = 4 * count + (if closed then 2 else 0)

abbrev pub free_word : SourcePlan → List Entry → ℕ
free_word plan history = word_of (length history) (is_closed (writers_of plan.allow) history)

-- what a word shows
abbrev pub version_in : ℕ → Version
version_in word = record { count = word / 4; closed = word / 2 % 2 == 1 }

abbrev pub is_held : ℕ → Bool
is_held word = word % 2 == 1
