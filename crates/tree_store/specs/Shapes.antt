-- What is said of the cells of a tree, of a tree's shape. Assumes nothing.
use Rattle.std.specs.Prelude.{ℕ, List}
use Rattle.group.specs.Kind.{Kind}
use Rattle.tree_store.specs.Levels.{level_start}
use Rattle.tree_store.specs.Cells.{Holds, Entered, raised}
use Rattle.tree_store.specs.declared.shape.Shape.{Shape}

-- How many cells all its levels have.
abbrev pub cells_of : Shape → ℕ
cells_of s = level_start s.fan_out s.capacity s.levels

-- Every cell of each level holds the sum of its block of the figures.
abbrev pub HoldsIn : {G V : Type 0} → Kind G V → Shape → List G → List G → Type 0
HoldsIn kind s = Holds kind s.fan_out s.capacity s.levels

-- Figure x, of number n, was entered in one cell of each level.
abbrev pub EnteredIn : {G V : Type 0} → Kind G V → Shape → ℕ → G → List G → List G → Type 0
EnteredIn kind s = Entered kind s.fan_out s.capacity s.levels

-- The cells once it is in one cell of each level from 0 to l.
abbrev pub raised_in : {G V : Type 0} → Kind G V → Shape → ℕ → G → List G → ℕ → List G
raised_in kind s = raised kind s.fan_out s.capacity
