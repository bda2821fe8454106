-- The field GF(2^8) and the S-box of AES. A byte is a polynomial over bits, bit k being the coefficient of x^k; sums are
-- exclusive ors, and products are taken modulo x^8 + x^4 + x^3 + x + 1.
-- Assumes nothing.
use Rattle.std.specs.Prelude.{ℕ, zero, suc, ◌+◌, ◌-◌, ◌*◌, ◌/◌, ◌%◌, ◌^◌, cond, ◌==◌, bit_xor}

-- a times x: the bit that leaves the byte, x^8, comes back as x^4 + x^3 + x + 1
abbrev pub double : ℕ → ℕ
double a = bit_xor (a * 2 % 256) (a / 128 * 0x1b)

-- a times the polynomial of the n low bits of b
abbrev pub product : ℕ → ℕ → ℕ → ℕ
product zero a b = 0
product (suc n) a b = bit_xor (b % 2 * a) (product n (double a) (b / 2))

abbrev pub times : ℕ → ℕ → ℕ
times a b = product 8 a b

-- the first of the n numbers from b on whose product with a is 1, and 0 where none is
abbrev pub first_inverse : ℕ → ℕ → ℕ → ℕ
first_inverse a zero b = 0
first_inverse a (suc n) b = cond (times a b == 1) b (first_inverse a n (suc b))

-- the inverse of a in the field, and 0 for 0
abbrev pub inverse : ℕ → ℕ
inverse a = first_inverse a 256 0

-- a byte rotated left by k bits
abbrev pub rotated : ℕ → ℕ → ℕ
rotated k b = b * 2 ^ k % 256 + b / 2 ^ (8 - k)

-- b, and b rotated left by 1, 2, 3 and 4, and hex 63, all xored
abbrev pub affine : ℕ → ℕ
affine b = bit_xor (bit_xor (bit_xor (bit_xor (bit_xor b (rotated 1 b)) (rotated 2 b)) (rotated 3 b)) (rotated 4 b)) 0x63

-- the rule of the S-box
abbrev pub sbox_rule : ℕ → ℕ
sbox_rule a = affine (inverse a)

-- the S-box, as contracts cite it: it does not unfold by itself, so that no proof searches for the inverse of an unknown byte
unfoldable pub sbox : ℕ → ℕ
sbox a = sbox_rule a
