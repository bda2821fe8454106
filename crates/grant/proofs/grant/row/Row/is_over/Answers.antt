use Rattle.std.proofs.Common.{arith}
use Rattle.std.proofs.lemmas.Bool.Decides.{nat_tests}
use Rattle.grant.specs.Rows.{node_of}
use Rattle.grant.proofs.Found.{stands_is}
use Rattle.grant.proofs.grant.row.Row.is_over.Goals as goal

pub returns-then-self-le32 : goal.returns-then-self-le32
returns-then-self-le32 c =
    let is = stands_is (node_of c.args.self.now) c.args.number in
    grind (arith, nat_tests)
