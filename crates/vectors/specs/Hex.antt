-- What hex digits mean. A text is the list of its bytes.
-- Assumes nothing.
use Rattle.std.specs.Prelude.{ℕ, ◌+◌, ◌-◌, ◌*◌, ◌%◌, ◌^◌, cond, ◌&&◌, List, [], ◌∷◌, length, take, drop, Some, None, Option, ◌==◌, nat_le}
use Rattle.cipher.specs.declared.Block.{Block}

-- the value of a digit: 0 to 9, and a to f in small letters
abbrev pub digit_of : ℕ → Option ℕ
digit_of b = cond (nat_le 48 b && nat_le b 57) (Some (b - 48)) (cond (nat_le 97 b && nat_le b 102) (Some (b - 87)) None)

-- the next digit's value added to the number n so far, modulo 2^64
abbrev pub next : ℕ → Option ℕ → Option ℕ
next n None = None
next n (Some d) = Some ((n * 16 % 2 ^ 64 + d) % 2 ^ 64)

-- the number that digits write after those of the number so far, modulo 2^64; nothing where one is no digit
abbrev pub number_from : Option ℕ → List ℕ → Option ℕ
number_from None bs = None
number_from (Some n) [] = Some n
number_from (Some n) (b ∷ bs) = number_from (next n (digit_of b)) bs

-- a block from its two words, if both are there
abbrev pub block_from : Option ℕ → Option ℕ → Option Block
block_from None low = None
block_from (Some h) None = None
block_from (Some h) (Some l) = Some record { high = h; low = l }

-- a block is written in 32 digits, those of its high word first
unfoldable pub block_of : List ℕ → Option Block
block_of text =
    cond (length text == 32) (block_from (number_from (Some 0) (take 16 text)) (number_from (Some 0) (take 16 (drop 16 text)))) None
