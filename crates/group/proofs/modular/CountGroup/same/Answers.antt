use Rattle.std.proofs.Common.{◌≡◌, ap, arith, rules}
use Rattle.group.proofs.modular.CountGroup.same.Goals as goal

pub returns-clause-whenever : goal.returns-clause-whenever
returns-clause-whenever c = λ e.
    let value : c.args.self.value ≡ c.args.other.value = omega (arith, ap (λ r. r.0) e) in
    search rules
