-- Which keys a source has. Assumes nothing.
use Rattle.std.specs.Prelude.{◌≡◌, ℕ, Bool, true, cond, not, is_some, Some, None, Option, ◌==◌}
use Rattle.group.specs.Kind.{Kind}

-- The keys, by number.
abbrev pub Keys : Type 0 → Type 0
Keys G = ℕ → Option G

abbrev pub Has : {G : Type 0} → Keys G → ℕ → Type 0
Has source i = is_some (source i) ≡ true

-- The same as a test, for rules.
abbrev pub lacks : {G : Type 0} → Keys G → ℕ → Bool
lacks source i = not (is_some (source i))

-- Key i of a source; zero stands in for one that it lacks.
abbrev pub or_zero : {G V : Type 0} → Kind G V → Option G → G
or_zero k (Some x) = x
or_zero k None = k.zero

abbrev pub key : {G V : Type 0} → Kind G V → Keys G → ℕ → G
key k source i = or_zero k (source i)

-- Two keys, at two numbers.
abbrev pub two_keys : {G : Type 0} → ℕ → G → ℕ → G → Keys G
two_keys from before to after i = cond (i == from) (Some before) (cond (i == to) (Some after) None)

-- The keys of the two count as the same wherever both have one.
abbrev pub Agree : {G V : Type 0} → Kind G V → Keys G → Keys G → Type 0
Agree {G} k one other = (i : ℕ) (x y : G) → one i ≡ Some x → other i ≡ Some y → k.value x ≡ k.value y
