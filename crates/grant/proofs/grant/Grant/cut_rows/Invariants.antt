use Rattle.std.proofs.Common.{◌≡◌, ◌++◌, map, drop}
use Rattle.cover.specs.Cut.{left_rows}
use Rattle.cover.specs.Listed.{listed}
use Rattle.grant.specs.Rows.{node_of}
use Rattle.grant.proofs.grant.Grant.cut_rows.Given as goal

abbrev pub invariant-loop-row : goal.invariant-loop-row
invariant-loop-row g l = listed l.nodes ++ left_rows l.span (map node_of (drop l.row-index l.row-items)) ≡ listed l.fn.nodes ++ left_rows l.span (map node_of l.row-items)
