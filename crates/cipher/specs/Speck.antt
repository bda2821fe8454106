-- Speck128/128, as its designers define it. A key is (l, k) and a block (x, y), each (high word, low word); sums are
-- modulo 2^64.
-- Assumes nothing.
use Rattle.std.specs.Prelude.{ℕ, zero, suc, ◌+◌, ◌*◌, ◌/◌, ◌%◌, ◌^◌, bit_or, bit_xor}
use Rattle.cipher.specs.declared.Block.{Block}
use Rattle.cipher.specs.declared.speck.Progress.{Progress}

-- a word of 64 bits rotated right by 8
abbrev pub right8 : ℕ → ℕ
right8 x = bit_or (x / 2 ^ 8) ((x * 2 ^ 56) % 2 ^ 64)

-- a word of 64 bits rotated left by 3
abbrev pub left3 : ℕ → ℕ
left3 y = bit_or ((y * 2 ^ 3) % 2 ^ 64) (y / 2 ^ 61)

-- the new x: ((x rotated right 8) + y) xor k
abbrev pub new_high : Block → ℕ → ℕ
new_high p k = bit_xor ((right8 p.high + p.low) % 2 ^ 64) k

-- one round on (x, y) with the round key k; the new y is (y rotated left 3) xor the new x
abbrev pub rounded : Block → ℕ → Block
rounded p k = record { high = new_high p k; low = bit_xor (left3 p.low) (new_high p k) }

-- the key words (l, k) as round i begins: each step is a round with the round's number as its key
unfoldable pub keys : Block → ℕ → Block
keys key zero = key
keys key (suc i) = rounded (keys key i) i

-- the block (x, y) as round i begins: round i uses the low key word
unfoldable pub text : Block → Block → ℕ → Block
text key block zero = block
text key block (suc i) = rounded (text key block i) (keys key i).low

-- 32 rounds
abbrev pub speck : Block → Block → Block
speck key block = text key block 32

-- what the code holds as round i begins
abbrev pub progress : Block → Block → ℕ → Progress
progress key block i = record { keys = keys key i; text = text key block i }

-- round i, on the block and on the key words
abbrev pub stepped : Progress → ℕ → Progress
stepped p i = record { keys = rounded p.keys i; text = rounded p.text p.keys.low }
