-- AES-128, as FIPS 197 defines it. Bytes are numbers below 256, the high byte of a word first.
-- Assumes nothing.
use Rattle.std.specs.Prelude.{ℕ, zero, suc, ◌+◌, ◌-◌, ◌*◌, ◌/◌, ◌%◌, ◌^◌, cond, List, [], ◌∷◌, ◌==◌, bit_xor, slice_index}
use Rattle.cipher.specs.Field.{times, sbox}
use Rattle.cipher.specs.declared.Block.{Block}

-- four bytes, row 0 first: a column of the state, or a word of the key
pub record Column : Type 0 where
  pub r0 : ℕ
  pub r1 : ℕ
  pub r2 : ℕ
  pub r3 : ℕ

-- four columns: the state between two rounds, or a round key
pub record State : Type 0 where
  pub c0 : Column
  pub c1 : Column
  pub c2 : Column
  pub c3 : Column

-- the four bytes of a word of 32 bits
abbrev pub bytes_of : ℕ → Column
bytes_of n = record { r0 = n / 2 ^ 24 % 256; r1 = n / 2 ^ 16 % 256; r2 = n / 2 ^ 8 % 256; r3 = n % 256 }

-- the same, as contracts cite it: it does not unfold by itself
unfoldable pub column : ℕ → Column
column n = bytes_of n

-- the word of four bytes
unfoldable pub word : Column → ℕ
word c = c.r0 * 2 ^ 24 + c.r1 * 2 ^ 16 + c.r2 * 2 ^ 8 + c.r3

-- byte 4c + r of a block, counted from its high byte, stands in column c, row r
abbrev pub state_of_block : Block → State
state_of_block b = record {
  c0 = column (b.high / 2 ^ 32);
  c1 = column (b.high % 2 ^ 32);
  c2 = column (b.low / 2 ^ 32);
  c3 = column (b.low % 2 ^ 32);
}

unfoldable pub block_of_state : State → Block
block_of_state s = record {
  high = word s.c0 * 2 ^ 32 + word s.c1;
  low = word s.c2 * 2 ^ 32 + word s.c3;
}

-- exclusive or, byte by byte
unfoldable pub xor_column : Column → Column → Column
xor_column a b = record {
  r0 = bit_xor a.r0 b.r0;
  r1 = bit_xor a.r1 b.r1;
  r2 = bit_xor a.r2 b.r2;
  r3 = bit_xor a.r3 b.r3;
}

abbrev pub xor_state : State → State → State
xor_state s k = record {
  c0 = xor_column s.c0 k.c0;
  c1 = xor_column s.c1 k.c1;
  c2 = xor_column s.c2 k.c2;
  c3 = xor_column s.c3 k.c3;
}

abbrev pub each_column : (Column → Column) → State → State
each_column f s = record { c0 = f s.c0; c1 = f s.c1; c2 = f s.c2; c3 = f s.c3 }

-- each byte goes through the S-box
unfoldable pub sub_column : Column → Column
sub_column c = record { r0 = sbox c.r0; r1 = sbox c.r1; r2 = sbox c.r2; r3 = sbox c.r3 }

abbrev pub sub_bytes : State → State
sub_bytes = each_column sub_column

-- row r moves left by r columns: column c gets row r of column c + r, counted modulo 4
unfoldable pub diagonal : Column → Column → Column → Column → Column
diagonal a b c d = record { r0 = a.r0; r1 = b.r1; r2 = c.r2; r3 = d.r3 }

abbrev pub shift_rows : State → State
shift_rows s = record {
  c0 = diagonal s.c0 s.c1 s.c2 s.c3;
  c1 = diagonal s.c1 s.c2 s.c3 s.c0;
  c2 = diagonal s.c2 s.c3 s.c0 s.c1;
  c3 = diagonal s.c3 s.c0 s.c1 s.c2;
}

-- one row of the mixing matrix, (p q r s), times a column, in the field
unfoldable pub dot : ℕ → ℕ → ℕ → ℕ → Column → ℕ
dot p q r s c =
    bit_xor (bit_xor (times p c.r0) (times q c.r1)) (bit_xor (times r c.r2) (times s c.r3))

unfoldable pub mix_column : Column → Column
mix_column c = record { r0 = dot 2 3 1 1 c; r1 = dot 1 2 3 1 c; r2 = dot 1 1 2 3 c; r3 = dot 3 1 1 2 c }

abbrev pub mix_columns : State → State
mix_columns = each_column mix_column

-- the constants of the key schedule, for the words 4, 8 and on up to 40
abbrev pub constants : List ℕ
constants = 0x01 ∷ 0x02 ∷ 0x04 ∷ 0x08 ∷ 0x10 ∷ 0x20 ∷ 0x40 ∷ 0x80 ∷ 0x1b ∷ 0x36 ∷ []

-- a key word with its bytes rotated one place left, put through the S-box, and the first byte xored with a constant
unfoldable pub rot_sub : ℕ → Column → Column
rot_sub constant u = record {
  r0 = bit_xor (sbox u.r1) constant;
  r1 = sbox u.r2;
  r2 = sbox u.r3;
  r3 = sbox u.r0;
}

-- what word i of the key schedule takes from the word u before it: where 4 divides i, the rotated and substituted word
-- with the constant for i / 4, else u itself
unfoldable pub carried : ℕ → Column → Column
carried i u = cond (i % 4 == 0) (rot_sub (slice_index constants (i / 4 - 1)) u) u

-- the words of the key schedule: the key, and then each the exclusive or of the word four places back and what it takes
-- from the word before it
unfoldable pub key_word : State → ℕ → Column
key_word key zero = key.c0
key_word key (suc zero) = key.c1
key_word key (suc (suc zero)) = key.c2
key_word key (suc (suc (suc zero))) = key.c3
key_word key (suc (suc (suc (suc i)))) = xor_column (key_word key i) (carried (4 + i) (key_word key (suc (suc (suc i)))))

-- round key r has the words 4r to 4r + 3 as columns
unfoldable pub round_key : State → ℕ → State
round_key key r = record {
  c0 = key_word key (4 * r);
  c1 = key_word key (4 * r + 1);
  c2 = key_word key (4 * r + 2);
  c3 = key_word key (4 * r + 3);
}

-- the state s after rounds 1 to r, none of them the last, under the round keys
unfoldable pub rounds : (ℕ → State) → State → ℕ → State
rounds keys s zero = s
rounds keys s (suc r) = xor_state (mix_columns (shift_rows (sub_bytes (rounds keys s r)))) (keys (suc r))

-- round key 0 is xored in first; nine rounds follow, and round 10, which does not mix
abbrev pub ciphered : (ℕ → State) → State → State
ciphered keys s = xor_state (shift_rows (sub_bytes (rounds keys (xor_state s (keys 0)) 9))) (keys 10)

unfoldable pub aes : Block → Block → Block
aes key block = block_of_state (ciphered (round_key (state_of_block key)) (state_of_block block))
