use Rattle.std.proofs.Common.{◌≡◌}
use Rattle.bench_totals.specs.Rounds.{rounds_sum}
use Rattle.bench_totals.proofs.rounds_of.Given as goal

abbrev pub invariant-loop-round : goal.invariant-loop-round
invariant-loop-round g l = g.S.Store.sound l.store → l.all ≡ rounds_sum (g.S.Store.contents l.store).entries l.round
