-- Which figures fit their columns, and how long lines are. Assumes nothing.
use Rattle.std.proofs.Common.{◌≡◌, ℕ, ◌+◌, ◌-◌, ◌*◌, ◌%◌, ◌^◌, ◌<◌, ◌≤◌, List, [], ◌∷◌, ◌++◌, length, set, replicate, decimal, refl, ap, ◌∙◌, subst, arith, pow-add}
use native.Mathlib.Nat.{pow-le-pow_right}
use Rattle.std.proofs.lemmas.List.{length-append, length-replicate, length_push}
use Rattle.std.proofs.lemmas.Fmt.{length-decimal-le, decimal_by_steps}
use Rattle.grant.specs.declared.grant.row.Row.{Row}
use Rattle.grant_text.specs.Columns.{column}
use Rattle.grant_text.specs.Texts.{sizes, heading, row_line}
use Rattle.grant_text.specs.Readings.{FitsLine}
use Rattle.grant_text.proofs.Figures.{length-column}

pub column-room : (w n : ℕ) → length (column w n) ≡ w → length (decimal n) ≤ w
unfolding column
column-room w n e =
    let blanks : List ℕ = replicate (w - length (decimal n)) 32 in
    let long : length blanks ≡ w - length (decimal n) = length-replicate (w - length (decimal n)) 32 in
    omega (arith, e, length-append blanks (decimal n))

-- a number is below the power of ten with as many zeros as it has digits
decimal-below : (n : ℕ) → n < 2 ^ 64 → n < 10 ^ length (decimal n)
decimal-below =
    decimal_by_steps (λ n ds. n < 10 ^ length ds)
    (λ n h. h)
    (λ n ds ge h.
    let more : 10 ^ length (ds ++ ((48 + n % 10) ∷ [])) ≡ 10 ^ length ds * 10 = ap (λ (k : ℕ). 10 ^ k) (length_push ds (48 + n % 10)) ∙ pow-add 10 (length ds) 1 in
    omega (arith, more))

-- and a number fits what its digits fit
pub digits-fit : (w n : ℕ) → n < 2 ^ 64 → length (decimal n) ≤ w → n < 10 ^ w
digits-fit w n small room = omega (arith, decimal-below n small, pow-le-pow_right {n = 10} (omega arith) room)

-- what fits its column
pub fits_3 : (n : ℕ) → n < 10 ^ 3 → length (decimal n) ≤ 3
fits_3 n h = length-decimal-le 3 n (omega arith) h (omega arith)

pub fits_4 : (n : ℕ) → n < 10 ^ 4 → length (decimal n) ≤ 4
fits_4 n h = length-decimal-le 4 n (omega arith) h (omega arith)

pub fits_11 : (n : ℕ) → n < 10 ^ 11 → length (decimal n) ≤ 11
fits_11 n h = length-decimal-le 11 n (omega arith) h (omega arith)

pub fits_21 : (n : ℕ) → n < 2 ^ 64 → length (decimal n) ≤ 21
fits_21 n h = length-decimal-le 21 n (omega arith) (omega arith) h

pub ruleset fitting = (fits_3, fits_4, fits_11, fits_21)

pub length-row_line : (r : Row) → FitsLine r → length (row_line r) ≡ 57
unfolding row_line
length-row_line r fits =
    simp length-append (omega (
      arith,
      length-column 3 r.level (fits_3 _ fits.0),
      length-column 11 r.index (fits_11 _ fits.1),
      length-column 21 r.seed.high (fits_21 _ fits.2),
      length-column 21 r.seed.low (fits_21 _ fits.3),
    ))

pub length-heading : (h k : ℕ) → h < 10 ^ 3 → k < 10 ^ 4 → length (heading h k) ≡ 12
unfolding sizes
length-heading h k low few = simp length-append (omega (arith, length-column 3 h (fits_3 h low), length-column 4 k (fits_4 k few)))

-- a column over the whole of a part that is w wide
pub wide : (w n : ℕ) (part out : List ℕ) → length part ≡ w → out ≡ column (length part) n → out ≡ column w n
wide w n part out long is = subst (λ k. out ≡ column k n) long is

-- the one byte of a part is written
pub last_byte : (part : List ℕ) (b : ℕ) → length part ≡ 1 → set part 0 b ≡ b ∷ []
last_byte [] b long = absurd (omega arith)
last_byte (x ∷ []) b long = refl
last_byte (x ∷ (y ∷ part)) b long = absurd (omega arith)
