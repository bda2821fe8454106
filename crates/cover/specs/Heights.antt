-- Which numbers are heights of key trees. Assumes nothing.
use Rattle.std.specs.Prelude.{ℕ, not, ◌&&◌, [], ◌∷◌, Ok, Err, Result, nat_le}
use Rattle.refusal.specs.declared.Refusal.{Refusal}
use Rattle.refusal.specs.declared.Refusal.TheVariants.{Height as WrongHeight}
use Rattle.refusal.specs.Judged.{Rules}
use Rattle.cover.specs.declared.height.Height.{Height}

-- By 8 when the height is not one from 1 to 32.
abbrev pub height_rules : ℕ → Rules
height_rules height = (not (nat_le 1 height && nat_le height 32), WrongHeight) ∷ []

-- The answer to the making of a height, with the height as its number.
abbrev pub told : Result Height Refusal → Result ℕ Refusal
told (Ok h) = Ok h.levels
told (Err why) = Err why
