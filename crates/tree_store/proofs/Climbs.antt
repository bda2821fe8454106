-- Climbing from level 0 until a level has one cell. Assumes nothing.
use Rattle.std.proofs.Common.{◌≡◌, ℕ, zero, suc, ◌+◌, ◌-◌, ◌*◌, ◌^◌, ◌<◌, ◌≤◌, cond, leb, sym, refl, ap, ◌∙◌, subst, ⊎_elim, arith}
use Rattle.std.proofs.lemmas.Bool.{le-leb, lt-leb, cond_both, cases_lt}
use Rattle.tree_store.specs.Levels.{covering, level_width, level_start, levels_within, level_count, cells_needed, Levelled}
use Rattle.tree_store.proofs.Widths.{covering-some, covering-less, covering-halves}

-- at level `at`, which is `width` wide, with `cells` in the levels so far
pub record Climb (k n at width cells : ℕ) : Type 0 where
  pub more : ℕ
  pub limit : at + more ≡ 20
  pub width_is : width ≡ level_width k n at
  pub cells_are : cells ≡ level_start k n (suc at)
  pub some : 1 ≤ width
  pub few : width ≤ 1048576
  pub small : width ≤ 2 ^ more
  pub bounded : cells ≤ suc at * 1048576
  pub counted : level_count k n ≡ at + levels_within more k width

pub climb-first : (k n : ℕ) → 1 ≤ n → n ≤ 1048576 → Climb k n 0 n n
unfolding level_count
climb-first k n some few = record {
  more = 20;
  limit = refl;
  width_is = refl;
  cells_are = omega arith;
  some = some;
  few = few;
  small = few;
  bounded = omega arith;
  counted = omega arith;
}

climb_on : (k n at width cells more : ℕ) → at + more ≡ 20 → width ≡ level_width k n at → cells ≡ level_start k n (suc at) → width ≤ 1048576 → width ≤ 2 ^ more → cells ≤ suc at * 1048576 → level_count k n ≡ at + levels_within more k width → 2 ≤ k → 1 < width → Climb k n (suc at) (covering k width) (cells + covering k width)
unfolding levels_within
climb_on k n at width cells zero limit width_is cells_are few small bounded counted h many = absurd (omega arith)
climb_on k n at width cells (suc more) limit width_is cells_are few small bounded counted h many =
    let less = covering-less k width h many in
    record {
      more = more;
      limit = omega arith;
      width_is = ap (covering k) width_is;
      cells_are = let e = ap (covering k) width_is in omega arith;
      some = covering-some k width (omega arith) (omega arith);
      few = omega arith;
      small = covering-halves k width more h (omega arith) small;
      bounded = omega arith;
      counted = counted ∙ ap (λ b. at + cond b 1 (suc (levels_within more k (covering k width)))) (lt-leb width 1 many) ∙ omega arith;
    }

pub climb-more : {k n at width cells : ℕ} → Climb k n at width cells → 2 ≤ k → 1 < width → Climb k n (suc at) (covering k width) (cells + covering k width)
climb-more {k} {n} {at} {width} {cells} c h many =
    climb_on k n at width cells c.more c.limit c.width_is c.cells_are c.few c.small c.bounded c.counted h many

ended : (more k width : ℕ) → width ≤ 1 → levels_within more k width ≡ 1
unfolding levels_within
ended zero k width h = refl
ended (suc more) k width h = ap (λ b. cond b 1 (suc (levels_within more k (covering k width)))) (le-leb width 1 h)

pub climb_last : {k n at width cells : ℕ} → Climb k n at width cells → width ≤ 1 → level_count k n ≡ suc at
climb_last {k} {n} {at} {width} {cells} c h = let e = ended c.more k width h in let f = c.counted in omega arith

pub climb-cells : {k n at width cells : ℕ} → Climb k n at width cells → width ≤ 1 → cells ≡ cells_needed k n
unfolding cells_needed
climb-cells {k} {n} {at} {width} {cells} c h = c.cells_are ∙ ap (level_start k n) (sym (climb_last c h))

some-within : (more k n : ℕ) → 1 ≤ levels_within more k n
unfolding levels_within
some-within zero k n = omega arith
some-within (suc more) k n =
    cond_both (leb n 1) 1 (suc (levels_within more k (covering k n))) (λ m. 1 ≤ m) (λ _. omega arith) (λ _. omega arith)

pub count-some : (k n : ℕ) → 1 ≤ level_count k n
unfolding level_count
count-some k n = some-within 20 k n

pub count_none : (k : ℕ) → level_count k 0 ≡ 1
unfolding level_count levels_within
count_none k = refl

-- the levels over a level are those over the one below it, but one
shifted : (k n l : ℕ) → level_width k (covering k n) l ≡ level_width k n (suc l)
shifted k n zero = refl
shifted k n (suc l) = ap (covering k) (shifted k n l)

top_within : (more k n : ℕ) → 2 ≤ k → n ≤ 2 ^ more → (levels_within more k n ≤ suc more) × (level_width k n (levels_within more k n - 1) ≤ 1)
unfolding levels_within
top_within zero k n h small = (omega arith, omega arith)
top_within (suc more) k n h small =
    ⊎_elim
    (λ (one : n < 2).
    let e = ap (λ b. cond b 1 (suc (levels_within more k (covering k n)))) (le-leb n 1 (omega arith)) in
    (omega arith, subst (λ m. level_width k n (m - 1) ≤ 1) (sym e) (let small : n ≤ 1 = omega arith in small)))
    (λ (many : 2 ≤ n).
    let e = ap (λ b. cond b 1 (suc (levels_within more k (covering k n)))) (lt-leb n 1 many) in
    let halved = covering-halves k n more h (omega arith) small in
    let rest = top_within more k (covering k n) h halved in
    let m = levels_within more k (covering k n) in
    let some = some-within more k (covering k n) in
    let up : level_width k n (suc (m - 1)) ≤ 1 = let s = shifted k n (m - 1) in omega (arith, rest.1) in
    let i : suc (m - 1) ≡ suc m - 1 = omega arith in
    (omega (arith, rest.0), subst (λ c. level_width k n (c - 1) ≤ 1) (sym e) (subst (λ c. level_width k n c ≤ 1) i up)))
    (cases_lt n 2)

-- the top level has one cell, and is the 21st at most
pub top_one : (k n : ℕ) → 2 ≤ k → n ≤ 1048576 → (level_count k n ≤ 21) × (level_width k n (level_count k n - 1) ≤ 1)
unfolding level_count
top_one k n h small = top_within 20 k n h small

width_some : (k n l : ℕ) → 0 < k → 1 ≤ n → 1 ≤ level_width k n l
width_some k n zero h some = some
width_some k n (suc l) h some = covering-some k (level_width k n l) h (width_some k n l h some)

wider-within : (more k n l : ℕ) → l < levels_within more k n - 1 → 1 < level_width k n l
unfolding levels_within
wider-within zero k n l low = absurd (omega arith)
wider-within (suc more) k n l low =
    ⊎_elim
    (λ (one : n < 2). let e = ap (λ b. cond b 1 (suc (levels_within more k (covering k n)))) (le-leb n 1 (omega arith)) in absurd (omega (arith, low, e)))
    (λ (many : 2 ≤ n). let e = ap (λ b. cond b 1 (suc (levels_within more k (covering k n)))) (lt-leb n 1 many) in below l many (λ m up. wider-within more k (covering k n) m up) (omega (arith, low, e)))
    (cases_lt n 2)
  where
    below : (m : ℕ) → 2 ≤ n → ((m : ℕ) → m < levels_within more k (covering k n) - 1 → 1 < level_width k (covering k n) m) → m < levels_within more k (covering k n) → 1 < level_width k n m
    below zero many above h = many
    below (suc m) many above h = subst (λ w. 1 < w) (shifted k n m) (above m (omega arith))

-- the counted levels are those until one has one cell
pub count-levelled : (k n : ℕ) → 2 ≤ k → 1 ≤ n → n ≤ 1048576 → Levelled k n (level_count k n)
unfolding level_count
count-levelled k n h some small = record {
  some = count-some k n;
  top = let t = top_one k n h small in let w = width_some k n (level_count k n - 1) (omega arith) some in omega (arith, t.1, w);
  wider = λ l low. wider-within 20 k n l low;
}
