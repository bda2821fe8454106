use Rattle.std.proofs.Common.{◌≡◌, ap, arith, rules}
use Rattle.group.proofs.tally.MomentsGroup.same.Goals as goal

pub returns-clause-whenever : goal.returns-clause-whenever
returns-clause-whenever c = λ e.
    let count : c.args.self.count ≡ c.args.other.count = omega (arith, ap (λ t. t.first.0) e) in
    let total : c.args.self.sum ≡ c.args.other.sum = omega (arith, ap (λ t. t.second.0) e) in
    let squares : c.args.self.squares ≡ c.args.other.squares = omega (arith, ap (λ t. t.third.0) e) in
    search rules
