-- The number of a text, one digit further.
-- Assumes nothing.
use Rattle.std.proofs.Common.{◌≡◌, ℕ, ◌+◌, ◌<◌, List, length, get_or, drop, Some, ap, add-one, drop-cons}
use Rattle.vectors.specs.Hex.{digit_of, next, number_from}

pub one_digit : (n : ℕ) (xs : List ℕ) (i : ℕ) → i < length xs
    → number_from (Some n) (drop i xs) ≡ number_from (next n (digit_of (get_or xs i 0))) (drop (i + 1) xs)
one_digit n xs i h = rw add-one (ap (number_from (Some n)) (drop-cons xs i 0 h))
