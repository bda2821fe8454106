-- What a store means: a list of figures that grows at its end, up to a capacity. Assumes nothing.
use Rattle.std.specs.Prelude.{ℕ, zero, suc, ◌-◌, List, [], ◌∷◌, ◌++◌, length, take, drop, Some, None, Option, nat_le, nat_lt}
use Rattle.refusal.specs.Judged.{Rules}
use Rattle.refusal.specs.declared.Refusal.TheVariants.{Reversed, Full, Beyond}

-- Figure i of a list, where it has one.
abbrev pub nth : {G : Type 0} → List G → ℕ → Option G
nth [] i = None
nth (x ∷ xs) zero = Some x
nth (x ∷ xs) (suc i) = nth xs i

-- Figures a to b - 1 of a list.
abbrev pub between : {G : Type 0} → ℕ → ℕ → List G → List G
between a b xs = take (b - a) (drop a xs)

-- The figures of a store, and how many it may hold.
pub record Contents (G : Type 0) : Type 0 where
  pub entries : List G
  pub capacity : ℕ

abbrev pub empty : {G : Type 0} → ℕ → Contents G
empty capacity = record { entries = []; capacity = capacity }

-- One figure more, at the end.
abbrev pub push : {G : Type 0} → Contents G → G → Contents G
push c x = record { entries = c.entries ++ (x ∷ []); capacity = c.capacity }

-- When put refuses: by 31 when full.
abbrev pub put_rules : {G : Type 0} → Contents G → Rules
put_rules c = (nat_le c.capacity (length c.entries), Full) ∷ []

-- When figures a up to b of so many are refused: by 1 when a > b, by 32 when b is beyond the last.
abbrev pub span_rules : ℕ → ℕ → ℕ → Rules
span_rules count a b = (nat_lt b a, Reversed) ∷ (nat_lt count b, Beyond) ∷ []

-- When total of a up to b refuses.
abbrev pub total_rules : {G : Type 0} → Contents G → ℕ → ℕ → Rules
total_rules c a b = span_rules (length c.entries) a b
