-- The numbers below 2^64, added modulo 2^64. Assumes nothing.
use Rattle.std.specs.Prelude.{◌≡◌, ℕ, ◌+◌, ◌-◌, ◌%◌, ◌^◌, ◌<◌}
use mathlib.Core.HLevel.{Σ_prop_path}
use Rattle.std.proofs.Common.{mod-lt, arith, lit<}
use Rattle.std.proofs.Math.Bridge.{le_prop}
use Rattle.group.specs.Kind.{Abelian}

abbrev pub Residue : Type 0
Residue = (n : ℕ) × (n < 2 ^ 64)

abbrev pub residue : ℕ → Residue
residue n = (n % 2 ^ 64, mod-lt n (lit< tt))

-- Two residues are the same where their numbers are.
pub same : {x y : Residue} → x.0 ≡ y.0 → x ≡ y
same p = Σ_prop_path (λ n. le_prop) p

abbrev pub residues : Abelian Residue
residues = record {
  zero = residue 0;
  plus = λ x y. residue (x.0 + y.0);
  minus = λ x. residue (2 ^ 64 - x.0);
  assoc = λ x y z. same (omega arith);
  comm = λ x y. same (omega arith);
  unit = λ x. same (omega arith);
  inverse = λ x. same (omega arith);
}
