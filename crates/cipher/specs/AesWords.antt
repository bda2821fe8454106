-- AES on columns held as words of 32 bits: what the parts of the code mean in the terms of `Aes`.
-- Assumes nothing.
use Rattle.std.specs.Prelude.{ℕ, List, slice_index}
use Rattle.cipher.specs.Aes.{Column, State, column, xor_column, rot_sub}
use Rattle.cipher.specs.declared.aes.Words.{Words}

abbrev pub state_of_words : Words → State
state_of_words s = record { c0 = column s.c0; c1 = column s.c1; c2 = column s.c2; c3 = column s.c3 }

-- the column of four bytes, row 0 first
abbrev pub column_of : List ℕ → Column
column_of bs = record { r0 = slice_index bs 0; r1 = slice_index bs 1; r2 = slice_index bs 2; r3 = slice_index bs 3 }

-- a round key from the one before it and a constant, column by column
abbrev pub next0 : ℕ → State → Column
next0 constant k = xor_column k.c0 (rot_sub constant k.c3)

abbrev pub next1 : ℕ → State → Column
next1 constant k = xor_column k.c1 (next0 constant k)

abbrev pub next2 : ℕ → State → Column
next2 constant k = xor_column k.c2 (next1 constant k)

abbrev pub next3 : ℕ → State → Column
next3 constant k = xor_column k.c3 (next2 constant k)

abbrev pub next_key : ℕ → State → State
next_key constant k = record {
  c0 = next0 constant k;
  c1 = next1 constant k;
  c2 = next2 constant k;
  c3 = next3 constant k;
}
