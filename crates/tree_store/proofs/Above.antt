-- From a stretch of cells to the whole cells one level up. Assumes nothing.
use Rattle.std.proofs.Common.{◌≡◌, ℕ, ◌+◌, ◌*◌, ◌/◌, ◌<◌, ◌≤◌, Bool, true, false, cond, sym, ap, mul-le-mul_right, add-mul, div-mul-le_self, arith}
use Rattle.std.proofs.lemmas.Bool.{true≢false}
use Rattle.tree_store.specs.Levels.{covering}
use Rattle.tree_store.proofs.Widths.{covering_reaches}

-- cells from to `to` of one level, and the whole cells over them: first to last, one level up
pub record Above (k from to first last : ℕ) (whole : Bool) : Type 0 where
  pub reach : from ≤ first * k
  pub inner : first * k ≤ to
  pub near : last * k < to + k
  pub cover : last ≤ covering k to
  pub past : whole ≡ true → to ≤ last * k
  pub full : whole ≡ false → last * k ≤ to

pub above : (k from to first last : ℕ) (whole : Bool) → 0 < k → first ≡ covering k from → last ≡ cond whole (covering k to) (to / k) → first < last → Above k from to first last whole
above k from to first last true h f t lt =
    let a = covering_reaches k from h in
    let b = covering_reaches k to h in
    let fk : first * k ≡ covering k from * k = ap (λ m. m * k) f in
    let lk : last * k ≡ covering k to * k = ap (λ m. m * k) t in
    let m = mul-le-mul_right {m = first + 1} {n = last} k (omega arith) in
    let e = add-mul first 1 k in
    record { reach = omega arith; inner = omega arith; near = omega arith; cover = omega arith; past = λ _. omega arith; full = λ e. absurd (true≢false e) }
above k from to first last false h f t lt =
    let a = covering_reaches k from h in
    let b = covering_reaches k to h in
    let fk : first * k ≡ covering k from * k = ap (λ m. m * k) f in
    let lk : last * k ≡ to / k * k = ap (λ m. m * k) t in
    let d = div-mul-le_self to k in
    let m = mul-le-mul_right {m = first} {n = last} k (omega arith) in
    record { reach = omega arith; inner = omega arith; near = omega arith; cover = omega arith; past = λ e. absurd (true≢false (sym e)); full = λ _. omega arith }
