-- What is answered to a parcel of some grams. Assumes nothing.
use Rattle.std.specs.Prelude.{ℕ, ◌*◌, [], ◌∷◌, nat_lt}
use Rattle.refusal.specs.Judged.{Rules}
use Rattle.refusal.specs.declared.Refusal.TheVariants.{Weight}
use Rattle.group.specs.declared.tally.Moments.{Moments}

-- Above 2147483647 grams it is refused.
abbrev pub parcel_rules : ℕ → Rules
parcel_rules grams = (nat_lt 2147483647 grams, Weight) ∷ []

-- One parcel, its weight and the square of its weight.
abbrev pub parcel_line : ℕ → Moments
parcel_line grams = record { count = 1; sum = grams; squares = grams * grams }
