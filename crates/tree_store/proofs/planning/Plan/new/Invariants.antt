use Rattle.std.proofs.Common.{◌≤◌}
use Rattle.tree_store.proofs.Climbs.{Climb}
use Rattle.tree_store.proofs.planning.Plan.new.Given as goal

abbrev pub invariant-loop-width : goal.invariant-loop-width
invariant-loop-width l = (2 ≤ l.fan_out) × Climb l.fan_out l.capacity l.top l.width l.needed

abbrev pub decreases-loop-width : goal.decreases-loop-width
decreases-loop-width l = l.width
