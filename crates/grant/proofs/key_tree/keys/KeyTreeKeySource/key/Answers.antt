use Rattle.std.proofs.Common.{arith}
use Rattle.grant.proofs.Keyed.{root_key}
use Rattle.grant.proofs.key_tree.keys.KeyTreeKeySource.key.Goals as goal

pub returns : goal.returns
returns g c =
    let tree = c.args.self.now in
    let e = g.C.Cipher.encrypted in
    let width = g.G.Group.KEY_WORDS in
    let made = g.G.Group.made in
    let root = root_key e width made c.args.number tree.height.levels tree.root tree.height.fits in
    grind (arith, c.key.ensures, c.levels.ensures)
