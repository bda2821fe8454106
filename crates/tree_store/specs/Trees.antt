-- What a tree is. Assumes nothing.
use Rattle.std.specs.Prelude.{◌-◌, cond, List, length, take, nat_lt}
use Rattle.group.specs.Kind.{Kind}
use Rattle.store.specs.Contents.{Contents}
use Rattle.tree_store.specs.Cells.{cleared}
use Rattle.tree_store.specs.Shapes.{HoldsIn, raised_in}
use Rattle.tree_store.specs.declared.planning.Plan.{Plan}
use Rattle.tree_store.specs.declared.tree.TreeStore.{TreeStore}

-- Its figures are the first cells of the lowest level, as many as are used.
abbrev pub tree : {G : Type 0} → TreeStore G → Contents G
tree s = record { entries = take s.used s.cells.now; capacity = s.shape.capacity }

-- Every cell holds the sum of its block of the figures.
abbrev pub Summed : {G V : Type 0} → Kind G V → TreeStore G → Type 0
Summed kind s = HoldsIn kind s.shape (tree s).entries s.cells.now

-- The cells once one more figure is in one cell of each level.
abbrev pub with_figure : {G V : Type 0} → Kind G V → TreeStore G → G → List G
with_figure kind s x = raised_in kind s.shape (length (tree s).entries) x s.cells.now (s.shape.levels - 1)

-- The cells under a new tree: those of the plan set to zero, or none touched where they are too few.
abbrev pub begun : {G : Type 0} → G → Plan → List G → List G
begun none p cells = cond (nat_lt (length cells) p.cells) cells (cleared none p.cells cells)
