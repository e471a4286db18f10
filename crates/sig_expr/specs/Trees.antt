-- View expressions as trees whose leaves have labels: sources, places among the leaves, or whatever a definition needs.
use Rattle.std.specs.Prelude.{ℤ}
use Rattle.sig_expr.specs.declared.functions.Fun.{Fun}
use Rattle.sig_expr.specs.declared.functions.Pred.{Pred}

-- maps
pub data MapTree (L : Type 0) : Type 0 where
  map_source : L → MapTree L
  mapped_values : Fun → MapTree L → MapTree L

mutual
  -- signals
  pub data SigTree (L : Type 0) : Type 0 where
    cell : L → SigTree L
    mapped_signal : Fun → SigTree L → SigTree L
    deduped : SigTree L → SigTree L
    switched : SigTree L → SigTrees L → SigTree L
    length_of : VecTree L → SigTree L
    total_of : VecTree L → SigTree L
    at_key : ℤ → ℤ → MapTree L → SigTree L

  -- lists
  pub data VecTree (L : Type 0) : Type 0 where
    vector : L → VecTree L
    mapped : Fun → VecTree L → VecTree L
    filtered : Pred → VecTree L → VecTree L
    filtered_by : VecTree L → SigTrees L → VecTree L
    mapped_by : VecTree L → SigTrees L → VecTree L
    sorted : Fun → VecTree L → VecTree L
    joined : VecTree L → VecTree L → VecTree L
    flattened : VecTree L → VecTrees L → VecTree L
    picked : SigTree L → VecTrees L → VecTree L
    keys_in : MapTree L → VecTree L
    values_in : MapTree L → VecTree L

  -- banks
  pub data SigTrees (L : Type 0) : Type 0 where
    no_signals : SigTrees L
    more_signals : SigTree L → SigTrees L → SigTrees L

  pub data VecTrees (L : Type 0) : Type 0 where
    no_lists : VecTrees L
    more_lists : VecTree L → VecTrees L → VecTrees L

-- whole views
pub data ViewTree (L : Type 0) : Type 0 where
  signal_view : SigTree L → ViewTree L
  vector_view : VecTree L → ViewTree L
  map_view : MapTree L → ViewTree L
  entries_view : MapTree L → ViewTree L
  tagged_view : VecTree L → ViewTree L
