use Rattle.std.proofs.Common.{◌≡◌, ◌<◌, min, length, is_some, sym, ap, ◌∙◌, arith}
use Rattle.store.specs.Flat.{flat}
use Rattle.layer_clients.proofs.Twice.{second-has, second-counts}
use Rattle.layer_clients.proofs.second_key.Goals as goal

pub returns-clause-answers : goal.returns-clause-answers
returns-clause-answers g c =
    let made = c.new-envelopes.ensures.begins in
    let room : (flat c.new-envelopes.result).capacity ≡ min (length c.args.cells.now) 1048576 = ap (λ s. s.capacity) made in
    let p = c.post.ensures in
    let has = second-has g.G.Group.kind c.args.step (g.F.KeySource.keys c.args.fine.now) (g.O.KeySource.keys c.args.other.now) (ap (λ s. s.entries) made) p.does p.fits c.post-2.ensures.fits in (
      λ s.
          let h = has.0 (ap is_some (sym c.key.ensures) ∙ s) in
          (h.0, h.1, omega (arith, h.2, room), h.3, h.4, h.5, h.6),
      λ h.
          let free : 1 < (flat c.new-envelopes.result).capacity = omega (arith, h.2, room) in
          ap is_some c.key.ensures ∙ has.1 (h.0, h.1, free, h.3, h.4, h.5, h.6),
    )

pub returns-clause-counts : goal.returns-clause-counts
returns-clause-counts g c x is =
    let new = ap (λ s. s.entries) c.new-envelopes.ensures.begins in
    let p = c.post.ensures in
    second-counts g.G.Group.kind c.args.step (g.F.KeySource.keys c.args.fine.now) (g.O.KeySource.keys c.args.other.now) new p.does p.fits c.post-2.ensures.fits x (sym c.key.ensures ∙ is)
