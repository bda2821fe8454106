-- Rows and their nodes. Assumes nothing.
use Rattle.std.specs.Prelude.{◌≡◌, ℕ, ◌-◌, Bool, List, map, take, drop, replicate}
use Rattle.cover.specs.declared.node.Node.{Node}
use Rattle.cover.specs.Tree.{sound}
use Rattle.grant.specs.declared.grant.row.Row.{Row}

abbrev pub node_of : Row → Node
node_of r = record { level = r.level; index = r.index }

-- The nodes of the first rows lie in the tree, rise, and no two are the halves of one node.
abbrev pub sound_rows : ℕ → ℕ → List Row → Bool
sound_rows height count rows = sound height (map node_of (take count rows))

-- Row (0, 0) with seed zero.
abbrev pub zero_row : Row
zero_row = record { level = 0; index = 0; seed = record { high = 0; low = 0 } }

-- No seed stands behind the first rows.
abbrev pub BlankAfter : ℕ → List Row → Type 0
BlankAfter count rows = drop count rows ≡ replicate (128 - count) zero_row
