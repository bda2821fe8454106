use Rattle.grant_clients.proofs.Shares.{shared}
use Rattle.grant_clients.proofs.open_granted.Goals as goal

pub returns : goal.returns
returns g c =
    let e = g.C.Cipher.encrypted in
    shared e g.G.Group.kind g.G.Group.KEY_WORDS g.G.Group.made g.S.Store.contents g.S.Store.sound c.args.store.now c.args.grant.now c.args.a c.args.b c.open.result c.open.ensures.faithful
