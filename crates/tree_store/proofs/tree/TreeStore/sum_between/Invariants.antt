use Rattle.tree_store.proofs.Reading.{Reads}
use Rattle.tree_store.proofs.tree.TreeStore.sum_between.Given as goal

abbrev pub invariant-loop-level : goal.invariant-loop-level
invariant-loop-level g l =
    Reads g.G.Group.kind l.shape.fan_out l.shape.capacity l.shape.levels l.self.used l.a l.b l.whole l.self.cells.now l.level l.start l.width l.from l.to l.total
