-- The published figures, as one table: what the definitions give, and what was published.
-- Assumes nothing.
use Rattle.std.specs.Prelude.{◌≡◌, ℕ, List, [], ◌∷◌}
use Rattle.cipher.specs.Aes.{aes}
use Rattle.cipher.specs.Field.{sbox}
use Rattle.cipher.specs.Speck.{speck}
use Rattle.cipher.specs.declared.Block.{Block}

pub record Figure : Type 0 where
  pub given : List ℕ
  pub published : List ℕ

abbrev pub pair : ℕ → ℕ → Block
pair h l = record { high = h; low = l }

abbrev pub words : Block → List ℕ
words b = b.high ∷ b.low ∷ []

abbrev pub figure : List ℕ → List ℕ → Figure
figure g p = record { given = g; published = p }

-- AES-128 by FIPS 197, appendix C; Speck128/128 by its designers' test vectors; two values of the S-box
abbrev pub figures : List Figure
figures =
    figure (words (aes (pair 0x0001020304050607 0x08090a0b0c0d0e0f) (pair 0x0011223344556677 0x8899aabbccddeeff)))
    (0x69c4e0d86a7b0430 ∷ 0xd8cdb78070b4c55a ∷ [])
    ∷ figure (words (speck (pair 0x0f0e0d0c0b0a0908 0x0706050403020100) (pair 0x6c61766975716520 0x7469206564616d20)))
    (0xa65d985179783265 ∷ 0x7860fedf5c570d18 ∷ [])
    ∷ figure (sbox 0x53 ∷ []) (0xed ∷ [])
    ∷ figure (sbox 0x00 ∷ []) (0x63 ∷ [])
    ∷ []

abbrev pub Each : (Figure → Type 0) → List Figure → Type 0
Each P [] = Unit {0}
Each P (f ∷ fs) = P f × Each P fs

-- in each row, the definitions give what was published
abbrev pub FiguresStand : Type 0
FiguresStand = Each (λ f. f.given ≡ f.published) figures
