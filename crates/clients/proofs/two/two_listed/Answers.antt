use Rattle.std.proofs.Common.{ap, arith}
use Rattle.clients.proofs.two.two_listed.Goals as goal

pub returns-clause-plainly : goal.returns-clause-plainly
returns-clause-plainly g c = record {
  of_counts = λ v x y e. omega (arith, ap (λ r. r.0) e);
  of_flags = λ v x y e. e;
  of_moments = λ v x y e. (omega (arith, ap (λ r. r.first.0) e), omega (arith, ap (λ r. r.second.0) e), omega (arith, ap (λ r. r.third.0) e));
}
