use Rattle.std.proofs.Common.{◌≡◌, List, ◌++◌, drop, replicate, length, sym, ap, ◌∙◌, subst, arith, rules}
use Rattle.std.proofs.lemmas.Bool.{le-ltb, cond-false}
use Rattle.tree_store.specs.Cells.{cleared}
use Rattle.tree_store.proofs.Climbs.{count_none}
use Rattle.tree_store.proofs.Places.{Sound}
use Rattle.tree_store.proofs.Shapes.{plan_cells}
use Rattle.tree_store.proofs.Standing.{filled_with, cleared_front, cleared-long, sound_new}
use Rattle.tree_store.proofs.tree.TreeStore.new.Given as given
use Rattle.tree_store.proofs.tree.TreeStore.new.Goals as goal
use Rattle.tree_store.proofs.tree.TreeStore.new.Goals.{After-fill_with}

pub invariant_of-shape : goal.invariant_of-shape
invariant_of-shape g c = record { fanned = c.args.plan.shape.fanned; sized = omega arith; levelled = sym (count_none c.args.plan.shape.fan_out) }

-- what lies in the cells once those of the plan are filled
over : (g : given.Over) (c : goal.After-fill_with g) → c.fill_with.new.self ++ drop c.args.plan.cells c.args.cells.now ≡ cleared g.G.Group.kind.zero c.args.plan.cells c.args.cells.now
over g c =
    let none = g.G.Group.kind.zero in
    let first = c.identity-none.ensures in
    let each = filled_with _ none (λ f. f.0.now ≡ none) (λ f k x now step. (search rules, search rules)) c.fill_with.new.self _ _ first c.fill_with.ensures.ran.1 in
    cleared_front none c.args.plan.cells c.args.cells.now c.fill_with.new.self c.if-cells-plan.false (each ∙ ap (λ n. replicate n none) c.fill_with.ensures.len)

pub invariant_of-result-2 : goal.invariant_of-result-2
invariant_of-result-2 g c =
    let p = c.args.plan in
    let cells = c.args.cells.now in
    let long = cleared-long g.G.Group.kind.zero p.cells cells c.if-cells-plan.false in
    record { room = rw (over g (goal.at.invariant_of-result-2 g c).After-fill_with) (omega (arith, plan_cells p)); within = omega arith }

pub returns-clause-sound : goal.returns-clause-sound
returns-clause-sound g c =
    let p = c.args.plan in
    subst (λ (now : List _). Sound g.G.Group.kind p.shape.fan_out p.shape.capacity p.shape.levels 0 now)
    (sym (over g (goal.at.returns-clause-sound g c).After-fill_with)) (sound_new g.G.Group.kind p c.args.cells.now)

pub returns-clause-touches : goal.returns-clause-touches
returns-clause-touches g c =
    over g (goal.at.returns-clause-touches g c).After-fill_with ∙ sym (cond-false _ _ _ (le-ltb (length c.args.cells.now) c.args.plan.cells c.if-cells-plan.false))
