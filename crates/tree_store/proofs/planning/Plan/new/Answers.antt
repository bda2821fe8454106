use Rattle.std.proofs.Common.{add-one, arith}
use Rattle.std.proofs.lemmas.Bool.Decides.{nat_tests}
use Rattle.tree_store.proofs.Climbs.{climb-first, climb-more, climb_last, climb-cells}
use Rattle.tree_store.proofs.planning.Plan.new.Goals as goal

pub loop-width-init : goal.loop-width-init
loop-width-init c = (c.if-fan_out-lt2.false, climb-first c.args.fan_out c.args.capacity c.if-capacity-lt1.false c.if-capacity-gt-MAX_CAPACITY.false)

pub loop-width-preserved : goal.loop-width-preserved
loop-width-preserved c =
    let on = climb-more c.loop-width.invariant.1 c.loop-width.invariant.0 c.loop-width-test.true in
    (c.loop-width.invariant.0, simp (c.div_ceil-width.ensures, add-one) on)

pub returns-then-cells-needed-clause-refuses : goal.returns-then-cells-needed-clause-refuses
returns-then-cells-needed-clause-refuses c =
    let e = climb-cells c.loop-width.invariant.1 c.loop-width-test.false in
    grind (arith, nat_tests)

pub invariant_of-shape : goal.invariant_of-shape
invariant_of-shape c =
    let f = climb_last c.loop-width.invariant.1 c.loop-width-test.false in
    record { fanned = (c.if-fan_out-lt2.false, c.if-fan_out-gt64.false); sized = c.if-capacity-gt-MAX_CAPACITY.false; levelled = omega arith }

pub invariant_of-result : goal.invariant_of-result
invariant_of-result c = record { some = c.if-capacity-lt1.false; counted = climb-cells c.loop-width.invariant.1 c.loop-width-test.false }
