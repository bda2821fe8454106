use Rattle.std.proofs.Common.{◌≡◌, ◌*◌, ◌/◌, ◌≤◌, cond, eqb, eq-eqb, sym, ◌∙◌, arith, rules}
use Rattle.std.proofs.lemmas.Bool.{ne_eqb, cond-true, cond-false}
use Rattle.std.proofs.lemmas.Grind.{common_steps}
use Rattle.tree_store.specs.Levels.{covering}
use Rattle.tree_store.proofs.Above.{Above, above}
use Rattle.tree_store.proofs.Shapes.{stands, some_level, places_room}
use Rattle.tree_store.proofs.Reading.{reads_on, reads_last}
use Rattle.tree_store.proofs.tree.TreeStore.sum_between.Given as given
use Rattle.tree_store.proofs.tree.TreeStore.sum_between.Goals as goal
use Rattle.tree_store.proofs.tree.TreeStore.sum_between.Goals.{Else-first-last, then-whole, else-whole}

last_is : (g : given.Over) (c : goal.Else-first-last g) → c.if-whole.last ≡ cond (eqb c.args.b c.args.self.now.used) (covering c.args.self.now.shape.fan_out c.loop-level.to) (c.loop-level.to / c.args.self.now.shape.fan_out)
last_is g c =
    elim c.if-whole.branch [
      | then-whole w ↦ w.last-is ∙ w.above-last.ensures ∙ sym (cond-true _ _ _ (eq-eqb c.args.b c.args.self.now.used w.if-whole.true))
      | else-whole w ↦ w.last-is ∙ sym (cond-false _ _ _ (ne_eqb c.args.b c.args.self.now.used w.if-whole.false))
    ]

-- the cells one level up
over : (g : given.Over) (c : goal.Else-first-last g) → Above c.args.self.now.shape.fan_out c.loop-level.from c.loop-level.to c.above-first.result c.if-whole.last (eqb c.args.b c.args.self.now.used)
over g c =
    above c.args.self.now.shape.fan_out c.loop-level.from c.loop-level.to c.above-first.result c.if-whole.last (eqb c.args.b c.args.self.now.used)
    (omega (arith, c.args.self.now.shape.fanned.0)) c.above-first.ensures (last_is g c) c.if-first-last.false

pub overflow_sub-level-end : goal.overflow_sub-level-end
overflow_sub-level-end g c = some_level c.args.self.now

pub loop-level-init : goal.loop-level-init
loop-level-init g c = let places = places_room c.args.self.now in grind (arith, common_steps)

pub overflow_mul-first : goal.overflow_mul-first
overflow_mul-first g c =
    let u = over g (goal.at.overflow_mul-first g c).Else-first-last in
    let h : c.above-first.result * c.args.self.now.shape.fan_out ≤ 1048576 = omega (arith, u.inner) in
    search rules

pub read-before-requires-clause-within : goal.read-before-requires-clause-within
read-before-requires-clause-within g c = omega (arith, (over g (goal.at.read-before-requires-clause-within g c).Else-first-last).inner)

pub overflow_mul-last : goal.overflow_mul-last
overflow_mul-last g c =
    let u = over g (goal.at.overflow_mul-last g c).Else-first-last in
    let h : c.if-whole.last * c.args.self.now.shape.fan_out ≤ 1048640 = omega (arith, u.near, c.args.self.now.shape.fanned.1) in
    search rules

pub loop-level-preserved : goal.loop-level-preserved
loop-level-preserved g c =
    reads_on g.G.Group.kind c.args.self.now.shape.fan_out c.args.self.now.shape.capacity c.args.self.now.shape.levels c.args.self.now.used c.args.self.now.cells.now (stands c.args.self.now) c.args.a c.args.b (eqb c.args.b c.args.self.now.used)
    c.loop-level.level c.loop-level.start c.loop-level.width c.loop-level.from c.loop-level.to c.loop-level.total c.above-first.result c.if-whole.last c.min.result c.above-width.result
    c.read-before.result c.read-after.result c.add.result c.add-total.result
    c.loop-level.invariant (omega arith) c.if-first-last.false (over g (goal.at.loop-level-preserved g c).Else-first-last) c.min.ensures c.above-width.ensures c.read-before.ensures c.read-after.ensures c.add.ensures c.add-total.ensures

pub read-requires-clause-within : goal.read-requires-clause-within
read-requires-clause-within g c = omega (arith, some_level c.args.self.now)

pub returns : goal.returns
returns g c =
    let some = some_level c.args.self.now in
    reads_last g.G.Group.kind c.args.self.now.shape.fan_out c.args.self.now.shape.capacity c.args.self.now.shape.levels c.args.self.now.used c.args.self.now.cells.now (stands c.args.self.now) c.args.a c.args.b (eqb c.args.b c.args.self.now.used)
    c.loop-level.level c.loop-level.start c.loop-level.width c.loop-level.from c.loop-level.to c.loop-level.total c.read.result c.add-2.result c.loop-level.invariant (omega arith) c.read.ensures c.add-2.ensures
