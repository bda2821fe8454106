-- How the widths and the starts of the levels compare. Assumes nothing.
use Rattle.std.proofs.Common.{◌≡◌, ℕ, zero, suc, ◌+◌, ◌-◌, ◌*◌, ◌/◌, ◌%◌, ◌^◌, ◌<◌, ◌≤◌, min, ◌⊎◌, sym, refl, ap, ◌∙◌, inl, inr, ⊎_elim, mul-le-mul_right, mod-lt, mul_assoc, mul_comm, add-mul, mul-le-mul_left, pow-suc, div-add-mod', zero-mul, mul-one, arith}
use native.Mathlib.Nat.{pow-zero, pow-succ', lt_of_mul-lt-mul_left, zero-div, zero-mod}
use Rattle.std.proofs.lemmas.Bool.{cases_lt}
use Rattle.tree_store.specs.Levels.{covering, level_width, level_start}

pub cancel : (a b k : ℕ) → a * k < b * k → a < b
cancel a b k h = lt_of_mul-lt-mul_left k (let p = mul_comm a k in let q = mul_comm b k in omega arith)

either : (r : ℕ) → (r ≡ 0) ⊎ (min 1 r ≡ 1)
either zero = inl refl
either (suc r) = inr (omega arith)

-- what covers n reaches to n, and no whole cell further
pub covering_reaches : (k n : ℕ) → 0 < k → (n ≤ covering k n * k) × (covering k n * k < n + k)
covering_reaches k n h =
    let whole = div-add-mod' n k in
    let rest = mod-lt n h in
    let spread : covering k n * k ≡ n / k * k + min 1 (n % k) * k = add-mul (n / k) (min 1 (n % k)) k in
    ⊎_elim
    (λ (e : n % k ≡ 0). let none : min 1 (n % k) * k ≡ 0 = ap (λ r. min 1 r * k) e ∙ zero-mul k in (omega arith, omega arith))
    (λ (e : min 1 (n % k) ≡ 1). let one : min 1 (n % k) * k ≡ 1 * k = ap (λ m. m * k) e in (omega arith, omega arith))
    (either (n % k))

pub covering-some : (k n : ℕ) → 0 < k → 0 < n → 0 < covering k n
covering-some k n h some = cancel 0 (covering k n) k (let r = covering_reaches k n h in let z = zero-mul k in omega arith)

pub covering_mono : (k m n : ℕ) → 0 < k → m ≤ n → covering k m ≤ covering k n
covering_mono k m n h le =
    let a = covering_reaches k m h in
    let b = covering_reaches k n h in
    let s = add-mul (covering k n) 1 k in
    let c = cancel (covering k m) (covering k n + 1) k (omega arith) in
    omega arith

-- (c - 1) * k < n, so twice what comes before the last covering cell is below n
before_last : (k n : ℕ) → 2 ≤ k → 0 < n → covering k n + covering k n < n + 2
before_last k n h some =
    let positive : 0 < k = omega arith in
    let c = covering k n in
    let p = covering-some k n positive some in
    let r = covering_reaches k n positive in
    let split : c * k ≡ (c - 1) * k + 1 * k = ap (λ m. m * k) (let e : c ≡ (c - 1) + 1 = omega arith in e) ∙ add-mul (c - 1) 1 k in
    let twice : (c - 1) * 2 ≤ (c - 1) * k = mul-le-mul_left (c - 1) h in
    omega arith

pub covering-less : (k n : ℕ) → 2 ≤ k → 1 < n → covering k n < n
covering-less k n h many = let b = before_last k n h (omega arith) in omega arith

pub covering-halves : (k n m : ℕ) → 2 ≤ k → 0 < n → n ≤ 2 ^ suc m → covering k n ≤ 2 ^ m
covering-halves k n m h some small = let b = before_last k n h some in let p = pow-suc 2 m in omega arith

-- the cells of a level, each over k ^ l figures, reach over all n
pub width_reaches : (k n : ℕ) → 0 < k → (l : ℕ) → n ≤ level_width k n l * k ^ l
width_reaches k n h zero = let e = pow-zero k in let m = mul-one n in rw e (omega arith)
width_reaches k n h (suc l) =
    let w = level_width k n l in
    let below = width_reaches k n h l in
    let one = mul-le-mul_right (k ^ l) (covering_reaches k w h).0 in
    let e : covering k w * k * k ^ l ≡ covering k w * k ^ suc l = mul_assoc (covering k w) k (k ^ l) ∙ ap (λ p. covering k w * p) (sym (pow-succ' k l)) in
    omega arith

-- a level ends where those above it begin, or before
pub ends-before : (k n l m : ℕ) → l < m → level_start k n l + level_width k n l ≤ level_start k n m
ends-before k n l zero h = absurd (omega arith)
ends-before k n l (suc m) h =
    ⊎_elim
    (λ (lt : l < m). let b = ends-before k n l m lt in omega arith)
    (λ (ge : m ≤ l). let e : l ≡ m = omega arith in rw e (omega arith))
    (cases_lt l m)

pub start_mono : (k n l m : ℕ) → l ≤ m → level_start k n l ≤ level_start k n m
start_mono k n l m h =
    ⊎_elim
    (λ (lt : l < m). let b = ends-before k n l m lt in omega arith)
    (λ (ge : m ≤ l). let e : l ≡ m = omega arith in rw e (omega arith))
    (cases_lt l m)

covering_most : (k n : ℕ) → 2 ≤ k → covering k n ≤ n
covering_most k zero h = let d = zero-div k in let m = zero-mod k in omega arith
covering_most k (suc n) h = let b = before_last k (suc n) h (omega arith) in omega arith

pub width_most : (k n : ℕ) → 2 ≤ k → (l : ℕ) → level_width k n l ≤ n
width_most k n h zero = omega arith
width_most k n h (suc l) = let c = covering_most k (level_width k n l) h in let w = width_most k n h l in omega arith
