use Rattle.std.proofs.Common.{◌≡◌, ◌+◌, ◌-◌, ◌/◌, ◌^◌, ◌<◌, length}
use Rattle.tree_store.specs.Levels.{level_start, level_width}
use Rattle.tree_store.specs.Cells.{raised}
use Rattle.tree_store.proofs.tree.TreeStore.raise.Given as goal

abbrev pub invariant-loop-below : goal.invariant-loop-below
invariant-loop-below g l =
    (l.start ≡ level_start l.shape.fan_out l.shape.capacity l.below)
    × (l.width ≡ level_width l.shape.fan_out l.shape.capacity l.below)
    × (l.at ≡ l.number / l.shape.fan_out ^ l.below)
    × (l.cells ≡ raised g.G.Group.kind l.shape.fan_out l.shape.capacity l.number l.figure l.initial.cells l.below)
    × (l.below < l.shape.levels - 1 → l.start + l.width + l.at / l.shape.fan_out < length l.cells)
