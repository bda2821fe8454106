-- Which keys a source has that stands on others. Assumes nothing.
use Rattle.std.specs.Prelude.{ℕ, ◌/◌, ◌%◌, cond, List, Some, None, Option, ◌==◌}
use Rattle.group.specs.Kind.{Kind}
use Rattle.store.specs.Contents.{nth}
use Rattle.source.specs.Sources.{Keys}

-- Of two figures where both are there; else none.
abbrev pub both : {G : Type 0} → (G → G → G) → Option G → Option G → Option G
both f (Some x) (Some y) = Some (f x y)
both f (Some x) None = None
both f None y = None

-- The sums of two sources' keys.
abbrev pub joint : {G V : Type 0} → Kind G V → Keys G → Keys G → Keys G
joint k one other i = both k.plus (one i) (other i)

-- Key i, where step divides i: envelope i / step less key i / step of the other source.
abbrev pub coarse : {G V : Type 0} → Kind G V → ℕ → List G → Keys G → Keys G
coarse k step envelopes other i =
    cond (step == 0) None (cond (i % step == 0) (both (λ x y. k.plus x (k.minus y)) (nth envelopes (i / step)) (other (i / step))) None)
