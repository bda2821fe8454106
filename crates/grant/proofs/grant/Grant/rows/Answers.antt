use Rattle.cover.proofs.Sound.{sound-cover}
use Rattle.grant.specs.Grants.{nodes_of}
use Rattle.grant.proofs.grant.Grant.rows.Goals as goal

pub returns-clause-cover : goal.returns-clause-cover
returns-clause-cover g c = let s = c.args.self.now in sound-cover s.height.levels (nodes_of s) s.sound
