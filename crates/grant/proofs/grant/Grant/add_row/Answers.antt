use Rattle.std.proofs.Common.{◌<◌, length, sym, ◌∙◌, arith, length-set}
use Rattle.std.proofs.lemmas.List.{length-take-le}
use Rattle.std.proofs.lemmas.Bool.Decides.{nat_tests}
use Rattle.cover.proofs.Steps.{passed_on}
use Rattle.grant.specs.Rows.{zero_row}
use Rattle.grant.proofs.Filled.{behind_one}
use Rattle.grant.proofs.Added.{added_sound, added_refused, added_passed}
use Rattle.grant.proofs.grant.Grant.add_row.Goals as goal

pub returns-in_err-check_after-clause-answers : goal.returns-in_err-check_after-clause-answers
returns-in_err-check_after-clause-answers g c =
    let s = c.args.self.now in
    passed_on c.from_residual.ensures.1 ∙ sym (added_refused s c.args.row c.last_node.ensures c.node.ensures _ c.in_err-check_after.ensures.answers)

pub invariant_of-self-clause-sized : goal.invariant_of-self-clause-sized
invariant_of-self-clause-sized g c = let s = c.args.self.now in length-set s.rows s.count _ ∙ s.sized

pub invariant_of-self-clause-sound : goal.invariant_of-self-clause-sound
invariant_of-self-clause-sound g c =
    let s = c.args.self.now in
    let room : s.count < length s.rows = omega arith in
    added_sound s c.args.row c.last_node.ensures c.node.ensures room (sym c.in_ok-check_after.ensures.answers)

pub invariant_of-self-clause-clear : goal.invariant_of-self-clause-clear
invariant_of-self-clause-clear g c =
    let s = c.args.self.now in
    behind_one s.rows s.count c.args.row zero_row s.clear

pub returns-clause-answers : goal.returns-clause-answers
returns-clause-answers g c =
    let s = c.args.self.now in
    let told = added_passed s c.args.row c.last_node.ensures c.node.ensures (sym c.in_ok-check_after.ensures.answers) in
    let long = length-take-le s.count s.rows (omega arith) in
    grind (arith, nat_tests)
