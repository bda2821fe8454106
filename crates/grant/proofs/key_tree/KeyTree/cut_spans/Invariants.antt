use Rattle.std.proofs.Common.{◌≡◌, ◌++◌, drop}
use Rattle.cover.specs.Cut.{spans_rows}
use Rattle.cover.specs.Listed.{listed}
use Rattle.grant.proofs.key_tree.KeyTree.cut_spans.Given as goal

abbrev pub invariant-loop-span : goal.invariant-loop-span
invariant-loop-span g l = listed l.nodes ++ spans_rows l.self.height.levels (drop l.span-index l.spans) ≡ listed l.fn.nodes ++ spans_rows l.self.height.levels l.spans
