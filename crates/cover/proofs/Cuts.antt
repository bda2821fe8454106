-- What the cutting of a node by a span gives. Assumes nothing.
use Rattle.std.proofs.Common.{◌≡◌, ℕ, zero, suc, ◌+◌, ◌-◌, ◌*◌, ◌^◌, ◌<◌, ◌≤◌, true, false, cond, ◌⊎◌, List, [], ◌∷◌, ◌++◌, sym, refl, ap, ◌∙◌, subst, ⊎_elim, arith}
use mathlib.Core.List.Memᴰ
use mathlib.Core.List.{Memᴰ}
use Rattle.std.proofs.lemmas.Bool.{cond_both}
use Rattle.std.proofs.lemmas.Bool.Decides.{nat_tests}
use Rattle.cover.specs.declared.node.Node.{Node}
use Rattle.cover.specs.Tree.{first_key, past, parent, Rising}
use Rattle.cover.specs.Cut.{node, outside, within, cut}
use Rattle.cover.proofs.Geometry.{climb, climb-parent, climb-level, climb-first, climb-past, first_past, halves, parent-left, parent-right, first_left, past-right}

apart_from : (from to : ℕ) (n : Node) → outside from to n ≡ true → (to ≤ first_key n) ⊎ (past n ≤ from)
apart_from from to n e = grind (arith, nat_tests)

meets_from : (from to : ℕ) (n : Node) → outside from to n ≡ false → (first_key n < to) × (from < past n)
meets_from from to n e = grind (arith, nat_tests)

within-from : (from to : ℕ) (n : Node) → within from to n ≡ true → (from ≤ first_key n) × (past n ≤ to)
within-from from to n e = grind (arith, nat_tests)

not_within : (from to : ℕ) (n : Node) → within from to n ≡ false → from ≤ first_key n → past n ≤ to → ⊥
not_within from to n e f p = grind (arith, nat_tests)

-- What holds of a node apart from the span, of one within it, and of any other where it holds of its halves, holds of each cut.
module _ (from to : ℕ) (P : ℕ → ℕ → List Node → Type 0) where
  pub by_cut : ((level index : ℕ) → (to ≤ first_key (node level index)) ⊎ (past (node level index) ≤ from) → P level index [])
      → ((level index : ℕ) → from ≤ first_key (node level index) → past (node level index) ≤ to → P level index (node level index ∷ []))
      → ((level index : ℕ) → first_key (node (suc level) index) < to → from < past (node (suc level) index) → (from ≤ first_key (node (suc level) index) → past (node (suc level) index) ≤ to → ⊥)
      → P level (2 * index) (cut from to level (2 * index)) → P level (2 * index + 1) (cut from to level (2 * index + 1)) → P (suc level) index (cut from to level (2 * index) ++ cut from to level (2 * index + 1)))
      → (level index : ℕ) → P level index (cut from to level index)
  unfolding cut
  by_cut apart whole partly zero index =
      cond_both (outside from to (node 0 index)) [] (node 0 index ∷ []) (P 0 index)
      (λ e. apart 0 index (apart_from from to (node 0 index) e))
      (λ e. let o = meets_from from to (node 0 index) e in whole 0 index (omega arith) (omega arith))
  by_cut apart whole partly (suc level) index =
      let n = node (suc level) index in
      let parts = cut from to level (2 * index) ++ cut from to level (2 * index + 1) in
      let left = by_cut apart whole partly level (2 * index) in
      let right = by_cut apart whole partly level (2 * index + 1) in
      cond_both (outside from to n) [] (cond (within from to n) (n ∷ []) parts) (P (suc level) index)
      (λ e. apart (suc level) index (apart_from from to n e))
      (λ e. cond_both (within from to n) (n ∷ []) parts (P (suc level) index)
      (λ w. let h = within-from from to n w in whole (suc level) index h.0 h.1)
      (λ w. let o = meets_from from to n e in partly level index o.0 o.1 (not_within from to n w) left right))

-- A row of a cut lies under the node and in the span, and where it is not the node itself, its parent is not in the span.
pub record CutRow (from to level index : ℕ) (n : Node) : Type 0 where
  pub up : ℕ
  pub under : climb up n ≡ node level index
  pub low : from ≤ first_key n
  pub high : past n ≤ to
  pub top : 0 < up → from ≤ first_key (parent n) → past (parent n) ≤ to → ⊥

pub row_under : {from to level index : ℕ} {n : Node} → CutRow from to level index n → (n.level ≤ level) × (first_key (node level index) ≤ first_key n) × (past n ≤ past (node level index))
row_under {n = n} r =
    let up = r.up in (
      omega (arith, climb-level up n, ap (λ (k : Node). k.level) r.under),
      subst (λ (k : Node). first_key k ≤ first_key n) r.under (climb-first up n),
      subst (λ (k : Node). past n ≤ past k) r.under (climb-past up n),
    )

up_one : (from to l index half : ℕ) (n : Node) → parent (node l half) ≡ node (suc l) index → (from ≤ first_key (node (suc l) index) → past (node (suc l) index) ≤ to → ⊥) → CutRow from to l half n → CutRow from to (suc l) index n
up_one from to l index half n e not r = record {
  up = suc r.up;
  under = ap parent r.under ∙ e;
  low = r.low;
  high = r.high;
  top = λ _ f p. go r.up r.under r.top f p;
}
  where
    go : (d : ℕ) → climb d n ≡ node l half → (0 < d → from ≤ first_key (parent n) → past (parent n) ≤ to → ⊥) → from ≤ first_key (parent n) → past (parent n) ≤ to → ⊥
    go zero u t f p =
        let q : parent n ≡ node (suc l) index = ap parent u ∙ e in
        not (subst (λ (m : Node). from ≤ first_key m) q f) (subst (λ (m : Node). past m ≤ to) q p)
    go (suc d) u t f p = t (omega arith) f p

pub cut_row : (from to level index : ℕ) (n : Node) → Memᴰ n (cut from to level index) → CutRow from to level index n
cut_row from to =
    by_cut from to (λ level index rows. (n : Node) → Memᴰ n rows → CutRow from to level index n)
    (λ level index o n m. absurd (Memᴰ.not-nil m))
    (λ level index f p n m.
    let q : n ≡ node level index = Memᴰ.eq_of_singleton m in
    record { up = 0; under = q; low = subst (λ (k : Node). from ≤ first_key k) (sym q) f; high = subst (λ (k : Node). past k ≤ to) (sym q) p; top = λ z. absurd (omega arith) })
    (λ level index a b not left right n m.
    ⊎_elim (λ (h : Memᴰ n (cut from to level (2 * index))). up_one from to level index (2 * index) n (parent-left level index) not (left n h))
    (λ (h : Memᴰ n (cut from to level (2 * index + 1))). up_one from to level index (2 * index + 1) n (parent-right level index) not (right n h))
    (Memᴰ.append_cases (cut from to level (2 * index)) m))

never_apart : (from to level index : ℕ) (n : Node) → CutRow from to level index n → (to ≤ first_key (node level index)) ⊎ (past (node level index) ≤ from) → ⊥
never_apart from to level index n r o =
    let u = row_under r in
    let c = first_past n in
    let low = r.low in
    let high = r.high in
    ⊎_elim (λ (h : to ≤ first_key (node level index)). omega arith) (λ (h : past (node level index) ≤ from). omega arith) o

has-whole : (from to level index : ℕ) (n : Node) → CutRow from to level index n → from ≤ first_key (node level index) → past (node level index) ≤ to → Memᴰ n (node level index ∷ [])
has-whole from to level index n r f p = go r.up r.under r.top
  where
    go : (d : ℕ) → climb d n ≡ node level index → (0 < d → from ≤ first_key (parent n) → past (parent n) ≤ to → ⊥) → Memᴰ n (node level index ∷ [])
    go zero u t = Memᴰ.head u
    go (suc d) u t =
        let v : climb d (parent n) ≡ node level index = sym (climb-parent d n) ∙ u in
        let a = subst (λ (k : Node). first_key k ≤ first_key (parent n)) v (climb-first d (parent n)) in
        let b = subst (λ (k : Node). past (parent n) ≤ past k) v (climb-past d (parent n)) in
        absurd (t (omega arith) (omega arith) (omega arith))

has-part : (from to level index : ℕ) (n : Node) → (from ≤ first_key (node (suc level) index) → past (node (suc level) index) ≤ to → ⊥)
    → (CutRow from to level (2 * index) n → Memᴰ n (cut from to level (2 * index))) → (CutRow from to level (2 * index + 1) n → Memᴰ n (cut from to level (2 * index + 1)))
    → CutRow from to (suc level) index n → Memᴰ n (cut from to level (2 * index) ++ cut from to level (2 * index + 1))
has-part from to level index n not left right r = go r.up r.under r.top
  where
    go : (d : ℕ) → climb d n ≡ node (suc level) index → (0 < d → from ≤ first_key (parent n) → past (parent n) ≤ to → ⊥) → Memᴰ n (cut from to level (2 * index) ++ cut from to level (2 * index + 1))
    go zero u t = absurd (not (subst (λ (k : Node). from ≤ first_key k) u r.low) (subst (λ (k : Node). past k ≤ to) u r.high))
    go (suc d) u t =
        let t' : 0 < d → from ≤ first_key (parent n) → past (parent n) ≤ to → ⊥ = λ _. t (omega arith) in
        ⊎_elim
        (λ (h : climb d n ≡ node level (2 * index)). Memᴰ.append_left (cut from to level (2 * index + 1)) (left (record { up = d; under = h; low = r.low; high = r.high; top = t' })))
        (λ (h : climb d n ≡ node level (2 * index + 1)). Memᴰ.append_right (cut from to level (2 * index)) (right (record { up = d; under = h; low = r.low; high = r.high; top = t' })))
        (halves (climb d n) level index u)

pub cut_has : (from to level index : ℕ) (n : Node) → CutRow from to level index n → Memᴰ n (cut from to level index)
cut_has from to =
    by_cut from to (λ level index rows. (n : Node) → CutRow from to level index n → Memᴰ n rows)
    (λ level index o n r. absurd (never_apart from to level index n r o))
    (λ level index f p n r. has-whole from to level index n r f p)
    (λ level index a b not left right n r. has-part from to level index n not (left n) (right n) r)

-- lists of nodes in rising order
pub rising-lower : (a b to : ℕ) (ns : List Node) → a ≤ b → Rising b to ns → Rising a to ns
rising-lower a b to [] h r = omega arith
rising-lower a b to (n ∷ ns) h r = (omega arith, r.1)

pub rising-append : (a b c : ℕ) (ms ns : List Node) → Rising a b ms → Rising b c ns → Rising a c (ms ++ ns)
rising-append a b c [] ns r s = rising-lower a b c ns r s
rising-append a b c (m ∷ ms) ns r s = (r.0, rising-append (past m) b c ms ns r.1 s)

-- the bounds may be drawn in to any two between which each node lies
pub rising-between : (a b lo hi : ℕ) (ns : List Node) → Rising a b ns → lo ≤ hi → ((n : Node) → Memᴰ n ns → (lo ≤ first_key n) × (past n ≤ hi)) → Rising lo hi ns
rising-between a b lo hi [] r h each = h
rising-between a b lo hi (n ∷ ns) r h each =
    let x = each n (Memᴰ.head refl) in
    (x.0, upper (past n) ns r.1 x.1 (λ m k. (each m (Memᴰ.tail k)).1))
  where
    upper : (a : ℕ) (ns : List Node) → Rising a b ns → a ≤ hi → ((n : Node) → Memᴰ n ns → past n ≤ hi) → Rising a hi ns
    upper a [] r h each = h
    upper a (n ∷ ns) r h each = (r.0, upper (past n) ns r.1 (each n (Memᴰ.head refl)) (λ m k. each m (Memᴰ.tail k)))

pub cut-rising : (from to level index : ℕ) → Rising (first_key (node level index)) (past (node level index)) (cut from to level index)
cut-rising from to =
    by_cut from to (λ level index rows. Rising (first_key (node level index)) (past (node level index)) rows)
    (λ level index o. omega (arith, first_past (node level index)))
    (λ level index f p. (omega arith, omega arith))
    (λ level index a b not left right.
    rising-append (first_key (node (suc level) index)) (past (node level (2 * index))) (past (node (suc level) index)) (cut from to level (2 * index)) (cut from to level (2 * index + 1))
    (subst (λ (x : ℕ). Rising x (past (node level (2 * index))) (cut from to level (2 * index))) (first_left level index) left)
    (subst (λ (x : ℕ). Rising (first_key (node level (2 * index + 1))) x (cut from to level (2 * index + 1))) (past-right level index) right))

-- the rows of a cut lie in the span
pub cut-between : (from to level index : ℕ) → from ≤ to → Rising from to (cut from to level index)
cut-between from to level index h = rising-between (first_key (node level index)) (past (node level index)) from to (cut from to level index) (cut-rising from to level index) h (λ n m. let r = cut_row from to level index n m in (r.low, r.high))

-- the cut by the tests that the code makes
pub cut_apart : (from to level index : ℕ) → (to ≤ first_key (node level index)) ⊎ (past (node level index) ≤ from) → cut from to level index ≡ []
unfolding cut
cut_apart from to zero index o = grind (arith, nat_tests)
cut_apart from to (suc level) index o = grind (arith, nat_tests)

pub cut-whole : (from to level index : ℕ) → from ≤ first_key (node level index) → past (node level index) ≤ to → cut from to level index ≡ node level index ∷ []
unfolding cut
cut-whole from to zero index f p = let fp = first_past (node zero index) in grind (arith, nat_tests)
cut-whole from to (suc level) index f p = let fp = first_past (node (suc level) index) in grind (arith, nat_tests)

pub record Halved (from to level index : ℕ) : Type 0 where
  pub above : 0 < level
  pub left_in : (2 * index + 1) * 2 ^ (level - 1) ≤ past (node level index)
  pub right_in : (2 * index + 1 + 1) * 2 ^ (level - 1) ≤ past (node level index)
  pub parts : cut from to level index ≡ cut from to (level - 1) (2 * index) ++ cut from to (level - 1) (2 * index + 1)

pub cut-partly : (from to level index : ℕ) → first_key (node level index) < to → from < past (node level index) → (from ≤ first_key (node level index) → past (node level index) ≤ to → ⊥) → Halved from to level index
cut-partly from to level index a b not =
    by_cut from to (λ l i rows. first_key (node l i) < to → from < past (node l i) → (from ≤ first_key (node l i) → past (node l i) ≤ to → ⊥) → cut from to l i ≡ rows → Halved from to l i)
    (λ l i o a b not e. absurd (⊎_elim (λ (h : to ≤ first_key (node l i)). omega arith) (λ (h : past (node l i) ≤ from). omega arith) o))
    (λ l i f p a b not e. absurd (not f p))
    (λ l i _ _ _ _ _ a b not e.
    let m : suc l - 1 ≡ l = omega arith in
    let right = past-right l i in
    let inside = first_past (node l (2 * i + 1)) in
    record { above = omega arith; left_in = rw m (omega arith); right_in = rw m (omega arith); parts = rw m e })
    level index a b not refl
