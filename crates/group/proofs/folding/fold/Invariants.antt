use Rattle.std.proofs.Common.{◌≡◌, ◌≤◌, length, take}
use Rattle.group.specs.Kind.{sum}
use Rattle.group.proofs.folding.fold.Given as goal

abbrev pub invariant-loop-figure : goal.invariant-loop-figure
invariant-loop-figure g l = let k = g.G.Group.kind in (l.figure-index ≤ length l.figures) × (k.value l.total ≡ sum k (take l.figure-index l.figures))
