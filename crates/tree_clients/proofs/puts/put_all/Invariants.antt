use Rattle.std.proofs.Common.{◌≤◌, length, take}
use Rattle.tree_clients.proofs.Putting.{Filling}
use Rattle.tree_clients.proofs.puts.put_all.Given as goal

abbrev pub invariant-loop-figure : goal.invariant-loop-figure
invariant-loop-figure g l = (l.figure-index ≤ length l.figures) × Filling g.G.Group.kind l.initial.store (take l.figure-index l.figures) l.store
