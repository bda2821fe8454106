-- A mixColumn column from four entries of the spread table.
-- Assumes nothing.
use Rattle.std.proofs.Common.{◌≡◌, ℕ, ◌^◌, ◌<◌, refl, ap, ◌∙◌, ap₂}
use lib.Bits.{bit_xor, xor_lt}
use Rattle.cipher.specs.Aes.{column, xor_column, dot, mix_column}
use Rattle.cipher.specs.Tables.{spread_of}
use Rattle.cipher.specs.Field.{sbox}
use Rattle.cipher.proofs.Bridge.{bytes, right1, right2, right8, right16, column-xor, column-right8, column-right16}

-- the right sides are the same column by column of the matrix
matrix : (a b c d : ℕ)
    → xor_column (xor_column (spread_of a) (right1 (spread_of b))) (right2 (xor_column (spread_of c) (right1 (spread_of d))))
    ≡ mix_column (bytes (sbox a) (sbox b) (sbox c) (sbox d))
unfolding xor_column spread_of mix_column dot
matrix a b c d = refl

-- two spread columns, the second one row lower
pair : (p q a b : ℕ) → q < 2 ^ 32 → column p ≡ spread_of a → column q ≡ spread_of b
    → column (bit_xor p (right8 q)) ≡ xor_column (spread_of a) (right1 (spread_of b))
pair p q a b hq ep eq =
    column-xor p (right8 q) ∙ ap₂ xor_column ep (column-right8 q hq ∙ ap right1 eq)

pub mixing : (p q u v a b c d : ℕ) → q < 2 ^ 32 → v < 2 ^ 32 → bit_xor u (right8 v) < 2 ^ 32
    → column p ≡ spread_of a → column q ≡ spread_of b → column u ≡ spread_of c → column v ≡ spread_of d
    → column (bit_xor (bit_xor p (right8 q)) (right16 (bit_xor u (right8 v)))) ≡ mix_column (bytes (sbox a) (sbox b) (sbox c) (sbox d))
mixing p q u v a b c d hq hv hx ep eq eu ev =
    column-xor (bit_xor p (right8 q)) (right16 (bit_xor u (right8 v)))
    ∙ ap₂ xor_column (pair p q a b hq ep eq) (column-right16 (bit_xor u (right8 v)) hx ∙ ap right2 (pair u v c d hv eu ev))
    ∙ matrix a b c d

-- the bound that `mixing` asks for
pub xor_below : (a b : ℕ) → a < 2 ^ 32 → b < 2 ^ 32 → bit_xor a b < 2 ^ 32
xor_below a b = xor_lt 32 a b

pub ruleset mixes = (mixing, xor_below)
