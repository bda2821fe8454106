-- The lines of a file of test vectors, and what they come to under a cipher.
-- Assumes nothing.
use Rattle.std.specs.Prelude.{ℕ, ◌+◌, ◌-◌, ◌^◌, min, Bool, false, cond, ◌&&◌, List, [], ◌∷◌, ◌++◌, length, take, drop, Some, None, Option, ◌==◌, slice_index, codes, decimal}
use Rattle.cipher.specs.declared.Block.{Block}
use Rattle.vectors.specs.declared.lines.Tally.{Tally}
use Rattle.vectors.specs.declared.lines.Vector.{Vector}
use Rattle.vectors.specs.declared.lines.Verdict.{Verdict}
use Rattle.vectors.specs.declared.lines.Verdict.TheVariants.{Comment, Agrees, Differs, Malformed}
use Rattle.vectors.specs.Hex.{block_of}

-- the blanks between the three blocks
abbrev pub has_blanks : List ℕ → Bool
has_blanks line = slice_index line 32 == 32 && slice_index line 65 == 32

-- a vector from its three blocks, if all are there
abbrev pub vector_from : Option Block → Option Block → Option Block → Option Vector
vector_from None block answer = None
vector_from (Some k) None answer = None
vector_from (Some k) (Some b) None = None
vector_from (Some k) (Some b) (Some a) = Some record { key = k; block = b; answer = a }

-- the vector of a line that has its blanks
abbrev pub parted : List ℕ → Option Vector
parted line = vector_from (block_of (take 32 line)) (block_of (take 32 (drop 33 line))) (block_of (take 32 (drop 66 line)))

-- a vector is written in 98 bytes: its key, its block and the block that the cipher gives, with a blank between each two
abbrev pub vector_of : List ℕ → Option Vector
vector_of line = cond (length line == 98) (cond (has_blanks line) (parted line) None) None

-- whether the cipher gave the block that the vector states
abbrev pub compared : Block → Block → Verdict
compared made answer =
    cond (made.high == answer.high) (cond (made.low == answer.low) Agrees Differs) Differs

abbrev pub judged : (Block → Block → Block) → Option Vector → Verdict
judged cipher None = Malformed
judged cipher (Some v) = compared (cipher v.key v.block) v.answer

-- a comment begins with #
abbrev pub is_comment : List ℕ → Bool
is_comment [] = false
is_comment (b ∷ bs) = b == 35

-- a line that is no comment is a vector, or malformed
abbrev pub verdict : (Block → Block → Block) → List ℕ → Verdict
verdict cipher line = cond (is_comment line) Comment (judged cipher (vector_of line))

-- one more, but no more than the largest number of 64 bits
abbrev pub one_more : ℕ → ℕ
one_more n = min (n + 1) (2 ^ 64 - 1)

-- a tally with one line more; comments do not count
abbrev pub counted : Tally → Verdict → Tally
counted t Comment = t
counted t Agrees = record { agree = one_more t.agree; differ = t.differ; malformed = t.malformed }
counted t Differs = record { agree = t.agree; differ = one_more t.differ; malformed = t.malformed }
counted t Malformed = record { agree = t.agree; differ = t.differ; malformed = one_more t.malformed }

-- what is printed of a tally
abbrev pub tally_text : Tally → List ℕ
tally_text t = decimal t.agree ++ codes " agree, " ++ decimal t.differ ++ codes " differ, " ++ decimal t.malformed ++ codes " not in form"

-- the tally of no lines
abbrev pub empty : Tally
empty = record { agree = 0; differ = 0; malformed = 0 }

abbrev pub is_newline : ℕ → Bool
is_newline b = b == 10

-- the tally of a text under a judge of lines, where `line` was read of the current line and t counts the lines before it.
-- A newline ends a line, and so does the end of the text, unless nothing was read of the line
abbrev pub tallied_from : (List ℕ → Verdict) → List ℕ → Tally → List ℕ → Tally
tallied_from judge line t [] = cond (length line == 0) t (counted t (judge line))
tallied_from judge line t (b ∷ bs) =
    cond (b == 10) (tallied_from judge [] (counted t (judge line)) bs) (tallied_from judge (line ++ (b ∷ [])) t bs)

-- the tally of a whole text of test vectors
abbrev pub tallied : (Block → Block → Block) → List ℕ → Tally
tallied cipher text = tallied_from (verdict cipher) [] empty text
