use Rattle.std.proofs.Common.{ap, ◌∙◌, arith, rules}
use Rattle.group.proofs.Sums.{sum-next}
use Rattle.group.proofs.folding.fold.Goals as goal

pub loop-figure-preserved : goal.loop-figure-preserved
loop-figure-preserved g c =
    let k = g.G.Group.kind in
    let added = rw c.loop-figure.invariant.1 at (ap k.value c.add-total.ensures ∙ k.plus_counts _ _) in
    (omega arith, added ∙ sum-next k c.args.figures.now c.loop-figure.figure-index _ c.loop-figure-test.true (search rules))
