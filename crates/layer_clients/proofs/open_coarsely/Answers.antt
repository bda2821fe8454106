use Rattle.layer_clients.proofs.Opened.{coarse_law}
use Rattle.layer_clients.proofs.open_coarsely.Goals as goal

pub returns-clause-faithful : goal.returns-clause-faithful
returns-clause-faithful g c owner poster calls posts reached posted =
    coarse_law g.G.Group.kind c.args.step owner poster (g.O.KeySource.keys c.args.other.now) posted (c.open.ensures.faithful owner calls reached).2.0
