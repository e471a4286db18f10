-- What contracts see of a filter: its test, and the list that it stands for.
use Rattle.std.specs.Prelude.{◌≤◌, List, length}
use Rattle.sig_diff.specs.declared.differences.VecDiff.{VecDiff}
use Rattle.sig_diff.specs.Differences.{IsLawful, applied}

pub record Filter (P T : Type 0) : Type 0 where
  pub tester : P
  pub items : List T

-- the filter of the list after the difference
abbrev pub filter_next : {P T : Type 0} → Filter P T → VecDiff T → Filter P T
filter_next filter diff = record { tester = filter.tester; items = applied filter.items diff }

-- it can go a step by the difference: the list takes it, and is short before it and after it
pub record FilterStep {P T : Type 0} (filter : Filter P T) (diff : VecDiff T) : Type 0 where
  pub lawful : IsLawful diff (length filter.items)
  pub short : length filter.items ≤ 65536
  pub short_after : length (applied filter.items diff) ≤ 65536
