use Rattle.std.proofs.Common.{◌≡◌, ◌≤◌, length, take}
use Rattle.tree_clients.specs.Puts.{filled}
use Rattle.bench_totals.proofs.put_all.Given as goal

abbrev pub invariant-loop-figure : goal.invariant-loop-figure
invariant-loop-figure g l =
    (l.figure-index ≤ length l.figures)
    × (g.S.Store.contents l.store ≡ filled (g.S.Store.contents l.initial.store) (take l.figure-index l.figures))
    × (g.S.Store.sound l.initial.store → g.S.Store.sound l.store)
