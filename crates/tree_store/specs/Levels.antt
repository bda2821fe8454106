-- The levels of a tree with fan-out k over n cells. Assumes nothing.
use Rattle.std.specs.Prelude.{◌≡◌, ℕ, zero, suc, ◌+◌, ◌-◌, ◌/◌, ◌%◌, ◌<◌, ◌≤◌, min, cond, nat_le}

-- One cell for every k of n, a rest counting too.
abbrev pub covering : ℕ → ℕ → ℕ
covering k n = n / k + min 1 (n % k)

-- How many cells level l has.
abbrev pub level_width : ℕ → ℕ → ℕ → ℕ
level_width k n zero = n
level_width k n (suc l) = covering k (level_width k n l)

-- Where level l begins: the levels follow one another, level 0 first.
abbrev pub level_start : ℕ → ℕ → ℕ → ℕ
level_start k n zero = 0
level_start k n (suc l) = level_start k n l + level_width k n l

-- How many levels there are until one has one cell, looking at no more than `more` above this one.
unfoldable pub levels_within : ℕ → ℕ → ℕ → ℕ
levels_within zero k n = 1
levels_within (suc more) k n = cond (nat_le n 1) 1 (suc (levels_within more k (covering k n)))

-- Twenty halvings bring the largest capacity, 1048576, to 1.
unfoldable pub level_count : ℕ → ℕ → ℕ
level_count k n = levels_within 20 k n

-- The cells of all levels.
unfoldable pub cells_needed : ℕ → ℕ → ℕ
cells_needed k n = level_start k n (level_count k n)

-- The highest of so many levels is the first that has one cell.
pub record Levelled (k n levels : ℕ) : Type 0 where
  pub some : 1 ≤ levels
  pub top : level_width k n (levels - 1) ≡ 1
  pub wider : (l : ℕ) → l < levels - 1 → 1 < level_width k n l
