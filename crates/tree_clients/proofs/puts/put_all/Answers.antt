use Rattle.std.proofs.Common.{take, refl, arith, rules}
use Rattle.tree_clients.proofs.Putting.{filling-next}
use Rattle.tree_clients.proofs.puts.put_all.Goals as goal

pub loop-figure-preserved : goal.loop-figure-preserved
loop-figure-preserved g c =
    let kind = g.G.Group.kind in
    let figures = c.args.figures.now in
    let i = c.loop-figure.figure-index in
    let h = c.put.ensures in
    let last = c.put.new.self in (
      omega arith,
      filling-next kind tt c.args.store.now c.loop-figure.store last (take i figures) _ c.put.result c.loop-figure.invariant.1 h.answers h.leaves h.spares h.keeps h.writes h.place h.shape figures i refl c.loop-figure-test.true (search rules),
    )
