-- Each element stands for a list, its block, and the blocks are joined (std's `flat_map`).
use Rattle.std.specs.Prelude.{ℕ, List, take, length}
use Rattle.std.specs.List.{flat_map}

-- where the block of the element at a place begins
abbrev pub offset : {X T : Type 0} → (X → List T) → List X → ℕ → ℕ
offset block xs index = length (flat_map block (take index xs))
