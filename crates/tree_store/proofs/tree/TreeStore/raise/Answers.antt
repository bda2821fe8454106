use Rattle.std.proofs.Common.{◌≡◌, suc, ◌+◌, ◌-◌, ◌/◌, ◌^◌, set, sym, refl, ap, ◌∙◌, add-one, arith, length-set}
use Rattle.std.proofs.lemmas.List.{set-set}
use Rattle.tree_store.specs.Levels.{covering, level_start, level_width}
use Rattle.tree_store.specs.Cells.{raised}
use Rattle.tree_store.proofs.Places.{lowest, next_up, raised_again, raised-more}
use Rattle.tree_store.proofs.Shapes.{some_level, inside}
use Rattle.tree_store.proofs.tree.TreeStore.raise.Goals as goal

pub overflow_sub-below-end : goal.overflow_sub-below-end
overflow_sub-below-end g c = some_level c.args.self.now

pub loop-below-init : goal.loop-below-init
loop-below-init g c =
    let s = c.args.self.now in
    let low = lowest s.shape.fan_out s.used in (
      refl,
      refl,
      low,
      sym (set-set s.cells.now s.used c.args.figure c.args.figure),
      λ more. omega (arith, inside s 0 0 s.shape.capacity s.used refl refl low more c.requires, length-set s.cells.now s.used c.args.figure),
    )

pub loop-below-preserved : goal.loop-below-preserved
loop-below-preserved g c =
    let kind = g.G.Group.kind in
    let s = c.args.self.now in
    let t = c.loop-below in
    let k = s.shape.fan_out in
    let most = s.shape.capacity in
    let l = t.below in
    let start_is : t.start + t.width ≡ level_start k most (suc l) = omega (arith, t.invariant.0, t.invariant.1) in
    let width_is : c.above-width.result ≡ level_width k most (suc l) = c.above-width.ensures ∙ ap (covering k) t.invariant.1 in
    let at-is : t.at / k ≡ s.used / k ^ suc l = ap (λ m. m / k) t.invariant.2 ∙ next_up k s.used l in
    let i = t.start + t.width + t.at / k in
    let first = set s.cells.now s.used c.args.figure in
    simp add-one (
      start_is,
      width_is,
      at-is,
      raised-more kind k most s.used c.args.figure first t.cells l i c.index-cells-i.result c.add.result
          t.invariant.3 (omega (arith, start_is, at-is)) (t.invariant.4 c.loop-below-test.true) c.index-cells-i.is c.add.ensures,
      λ more. omega (
        arith,
        inside s (suc l) (t.start + t.width) c.above-width.result (t.at / k) start_is width_is at-is more c.requires,
        t.auto.cells,
        length-set s.cells.now s.used c.args.figure,
        length-set t.cells i c.add.result,
      ),
    )

pub returns-clause-writes : goal.returns-clause-writes
returns-clause-writes g c =
    let kind = g.G.Group.kind in
    let s = c.args.self.now in
    let t = c.loop-below in
    let k = s.shape.fan_out in
    let most = s.shape.capacity in
    let e : t.below ≡ s.shape.levels - 1 = omega arith in
    t.invariant.3 ∙ raised_again kind k most s.used c.args.figure s.cells.now t.below ∙ ap (raised kind k most s.used c.args.figure s.cells.now) e
