-- What is answered to who asks for a plan. Assumes nothing.
use Rattle.std.specs.Prelude.{ℕ, cond, ◌||◌, [], ◌∷◌, nat_lt}
use Rattle.refusal.specs.Judged.{Rules}
use Rattle.refusal.specs.declared.Refusal.TheVariants.{FanOut, Capacity, TooFewCells}
use Rattle.tree_store.specs.Levels.{cells_needed}
use Rattle.tree_store.specs.declared.planning.Plan.{Plan}

-- When a plan of fan-out k and capacity n is refused over so many cells: by 9 unless k is from 2 to 64, by 10 unless n is
-- from 1 to 1048576, by 11 when the cells are fewer than needed.
abbrev pub plan_rules : ℕ → ℕ → ℕ → Rules
plan_rules k n cells = (nat_lt k 2 || nat_lt 64 k, FanOut) ∷ (nat_lt n 1 || nat_lt 1048576 n, Capacity) ∷ (nat_lt cells (cells_needed k n), TooFewCells) ∷ []

-- A plan's fan-out, its capacity and the cells that it needs.
abbrev pub figures : Plan → ℕ × ℕ × ℕ
figures p = (p.shape.fan_out, p.shape.capacity, p.cells)

-- How many figures a tree of the plan takes over so many cells: none where they are too few.
abbrev pub places : Plan → ℕ → ℕ
places p count = cond (nat_lt count p.cells) 0 p.shape.capacity
