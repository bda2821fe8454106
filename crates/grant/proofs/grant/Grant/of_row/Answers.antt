use Rattle.std.proofs.Common.{sym}
use Rattle.grant.proofs.Added.{first_sound}
use Rattle.grant.proofs.grant.Grant.of_row.Goals as goal

pub invariant_of-result-clause-sound : goal.invariant_of-result-clause-sound
invariant_of-result-clause-sound g c = first_sound c.in_ok-height.height.levels c.args.row c.node.ensures (sym c.in_ok-check_after.ensures.answers)
