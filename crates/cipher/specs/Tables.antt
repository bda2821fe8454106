-- The two tables of the code, by their rules.
-- Assumes nothing.
use Rattle.std.specs.Prelude.{ℕ, List, map}
use Rattle.std.specs.List.{range_with_len}
use Rattle.cipher.specs.Aes.{Column}
use Rattle.cipher.specs.Field.{times, sbox_rule, sbox}

-- the S-box at 0, 1 and on up to 255
abbrev pub sbox_table : List ℕ
sbox_table = map sbox_rule (range_with_len 0 256)

-- the first column of the mixing matrix, (2 1 1 3), times the byte s
abbrev pub spread_byte : ℕ → Column
spread_byte s = record { r0 = times 2 s; r1 = times 1 s; r2 = times 1 s; r3 = times 3 s }

-- what the byte x, in row 0, adds to its mixed column: it goes through the S-box first
unfoldable pub spread_of : ℕ → Column
spread_of x = spread_byte (sbox x)

-- the same at 0, 1 and on up to 255
abbrev pub spread_table : List Column
spread_table = map (λ x. spread_byte (sbox_rule x)) (range_with_len 0 256)
