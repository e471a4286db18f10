-- What a machine is made for, and where its words are: those of the sources come first, then the bells of the leaves, and then the ready words
-- of the tasks.
use Rattle.std.specs.Prelude.{ℕ, ◌+◌, ◌<◌, List, length, slice_index, slice_index_or}
use Rattle.sig_flag.specs.declared.shape.LeafPlan.{LeafPlan}
use Rattle.sig_hist.specs.declared.plans.SourcePlan.{SourcePlan}

pub record Layout : Type 0 where
  pub plans : List SourcePlan
  pub leaves : List LeafPlan
  -- of each task the number of the seat that polls it
  pub pollers : List ℕ
  -- how many seats there are
  pub seats : ℕ

-- the leaf that stands at the numbers that no leaf has
abbrev pub no_leaf : LeafPlan
no_leaf = record { source = 0; task = 0 }

abbrev pub leaf_at : List LeafPlan → ℕ → LeafPlan
leaf_at leaves leaf = slice_index_or leaves leaf no_leaf

-- a leaf among so many sources and tasks
pub record IsLeafOf (sources tasks : ℕ) (leaf : LeafPlan) : Type 0 where
  pub of_source : leaf.source < sources
  pub of_task : leaf.task < tasks

module _ (layout : Layout) where
  -- the place of a leaf's bell
  abbrev pub bell_of : ℕ → ℕ
  bell_of leaf = length layout.plans + leaf

  -- the place of a task's ready word
  abbrev pub ready_of : ℕ → ℕ
  ready_of task = length layout.plans + length layout.leaves + task

  -- the place after the last word
  abbrev pub words_of : ℕ
  words_of = length layout.plans + length layout.leaves + length layout.pollers

  -- the seat that polls the leaf's task
  abbrev pub poller_of : ℕ → ℕ
  poller_of leaf = slice_index layout.pollers (leaf_at layout.leaves leaf).task
