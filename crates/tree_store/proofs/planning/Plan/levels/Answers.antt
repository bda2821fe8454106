use Rattle.std.proofs.Common.{sym, subst}
use Rattle.tree_store.specs.Levels.{Levelled}
use Rattle.tree_store.proofs.Climbs.{count-levelled}
use Rattle.tree_store.proofs.planning.Plan.levels.Goals as goal

pub returns-clause-until : goal.returns-clause-until
returns-clause-until c =
    let p = c.args.self.now.shape in
    subst (Levelled p.fan_out p.capacity) (sym p.levelled) (count-levelled p.fan_out p.capacity p.fanned.0 c.args.self.now.some p.sized)
