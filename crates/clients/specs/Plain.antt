-- What adding up means at each of three kinds, in plain arithmetic. Assumes nothing.
use Rattle.std.specs.Prelude.{◌≡◌, ◌+◌, ◌%◌, ◌^◌, bit_xor}
use Rattle.group.specs.Kind.{Kind}
use Rattle.group.specs.declared.modular.Count.{Count}
use Rattle.group.specs.declared.tally.Moments.{Moments}
use Rattle.group.specs.declared.xor.Flags.{Flags}

-- The figure counts as the sum of the two.
abbrev pub Sums : {G V : Type 0} → Kind G V → G → G → G → Type 0
Sums k v x y = k.value v ≡ k.sums.plus (k.value x) (k.value y)

-- A figure that counts as a sum is the sum modulo 2^64 of the numbers, of each of the three numbers, or the exclusive or of the bits.
pub record PlainSums {C F M : Type 0} (counts : Kind Count C) (flags : Kind Flags F) (moments : Kind Moments M) : Type 0 where
  pub of_counts : (v x y : Count) → Sums counts v x y → v.value % 2 ^ 64 ≡ (x.value + y.value) % 2 ^ 64
  pub of_flags : (v x y : Flags) → Sums flags v x y → v.bits ≡ bit_xor x.bits y.bits
  pub of_moments : (v x y : Moments) → Sums moments v x y →
      (v.count % 2 ^ 64 ≡ (x.count + y.count) % 2 ^ 64) × (v.sum % 2 ^ 64 ≡ (x.sum + y.sum) % 2 ^ 64) × (v.squares % 2 ^ 64 ≡ (x.squares + y.squares) % 2 ^ 64)
