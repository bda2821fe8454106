use Rattle.std.proofs.Common.{◌+◌, take, sym, ◌∙◌, subst}
use Rattle.tree_store.specs.Cells.{Entered}
use Rattle.tree_store.specs.declared.shape.Shape.{Shape}
use Rattle.tree_store.proofs.Places.{Sound}
use Rattle.tree_store.proofs.Shapes.{stands, used_long}
use Rattle.tree_store.proofs.Rising.{sound_put, figures_put, entered}
use Rattle.tree_store.proofs.tree.calls.TreeStoreStore.put.Goals as goal

pub returns-clause-leaves : goal.returns-clause-leaves
returns-clause-leaves g c =
    let s = c.args.self.now in
    let h = c.raise.ensures in
    let front = figures_put g.G.Group.kind s.shape.fan_out s.shape.capacity s.shape.levels s.used s.cells.now c.args.figure (stands s) c.if-self.false in
    λ i. record { entries = ((λ j. take (h.used j + 1) (h.writes j)) ∙ front) i; capacity = (h.shape i).capacity }

pub returns-clause-keeps : goal.returns-clause-keeps
returns-clause-keeps g c = λ sound.
    let kind = g.G.Group.kind in
    let s = c.args.self.now in
    let t = c.raise.new.self in
    let h = c.raise.ensures in
    let k = s.shape.fan_out in
    let put = sound_put kind k s.shape.capacity s.shape.levels s.used s.cells.now c.args.figure (stands s) c.if-self.false sound in
    subst (λ (p : Shape). Sound kind p.fan_out p.capacity p.levels (t.used + 1) t.cells.now) (sym h.shape)
    (subst (λ u. Sound kind k s.shape.capacity s.shape.levels (u + 1) t.cells.now) (sym h.used) (subst (Sound kind k s.shape.capacity s.shape.levels (s.used + 1)) (sym h.writes) put))

pub returns-clause-enters : goal.returns-clause-enters
returns-clause-enters g c = λ e.
    let kind = g.G.Group.kind in
    let s = c.args.self.now in
    let t = c.raise.new.self in
    let k = s.shape.fan_out in
    let put = entered kind k s.shape.capacity s.shape.levels s.used s.cells.now c.args.figure (stands s) c.if-self.false in
    subst (λ n. Entered kind k s.shape.capacity s.shape.levels n c.args.figure s.cells.now t.cells.now) (used_long s) (subst (Entered kind k s.shape.capacity s.shape.levels s.used c.args.figure s.cells.now) (sym c.raise.ensures.writes) put)
