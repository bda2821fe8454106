-- Sound rows are the rows of the keys under them. Assumes nothing.
use Rattle.std.proofs.Common.{◌≡◌, ℕ, zero, suc, ◌+◌, ◌*◌, ◌^◌, ◌<◌, ◌≤◌, true, false, ltb, leb, ◌⊎◌, List, [], ◌∷◌, sym, refl, ap, ◌∙◌, subst, inl, inr, ⊎_elim, add-mul, arith}
use mathlib.Core.List.Memᴰ
use mathlib.Core.List.{Memᴰ}
use native.Mathlib.Nat.{div-eq_of_lt-le}
use lib.Pow.{pow-lt}
use Rattle.std.proofs.lemmas.Bool.Decides.{same_from_decides}
use Rattle.std.proofs.lemmas.Bool.{cases_lt, both_ways, leb-true, le-leb, ltb-true, lt-ltb, or_cases, or_left, or_right, and_parts, and_from}
use Rattle.cover.specs.declared.node.Node.{Node}
use Rattle.cover.specs.Tree.{first_key, past, parent, KeySet, Whole, RowOf, Rising, Cover, stands, held}
use Rattle.cover.specs.Cut.{node}
use Rattle.cover.proofs.Geometry.{climb, climb-parent, climb-level, climb-first, climb-past, first_past, same-node, first_left, past-right, parent-left, parent-right}
use Rattle.cover.proofs.Covers.{under_whole, row-above}
use Rattle.cover.proofs.Members.{rising_member}

pub from-held : (ns : List Node) (k : ℕ) → held ns k ≡ true → (n : Node) × Memᴰ n ns × (first_key n ≤ k) × (k < past n)
from-held [] k e = absurd (both_ways false refl e)
from-held (x ∷ ns) k e = step (from-held ns k) (or_cases (stands x k) (held ns k) e)
  where
    step : (held ns k ≡ true → (n : Node) × Memᴰ n ns × (first_key n ≤ k) × (k < past n)) → (stands x k ≡ true) ⊎ (held ns k ≡ true) → (n : Node) × Memᴰ n (x ∷ ns) × (first_key n ≤ k) × (k < past n)
    step below (inl h) = let q = and_parts (leb (first_key x) k) (ltb k (past x)) h in (x, Memᴰ.head refl, leb-true (first_key x) k q.0, ltb-true k (past x) q.1)
    step below (inr h) = let q = below h in (q.0, Memᴰ.tail q.1, q.2, q.3)

pub in_held : (ns : List Node) (n : Node) (k : ℕ) → Memᴰ n ns → first_key n ≤ k → k < past n → held ns k ≡ true
in_held [] n k m a b = absurd (Memᴰ.not-nil m)
in_held (x ∷ ns) n k m a b =
    ⊎_elim
    (λ (e : n ≡ x). or_left (stands x k) (held ns k) (subst (λ (z : Node). stands z k ≡ true) e (and_from (leb (first_key n) k) (ltb k (past n)) (le-leb (first_key n) k a) (lt-ltb k (past n) b))))
    (λ (q : Memᴰ n ns). or_right (stands x k) (held ns k) (in_held ns n k q a b))
    (Memᴰ.cases_cons m)

-- two nodes of one level over one key are one
same_over : (m n : Node) (k : ℕ) → m.level ≡ n.level → first_key m ≤ k → k < past m → first_key n ≤ k → k < past n → m ≡ n
same_over m n k e a b c d =
    let c' = subst (λ (l : ℕ). n.index * 2 ^ l ≤ k) (sym e) c in
    let d' = subst (λ (l : ℕ). k < (n.index + 1) * 2 ^ l) (sym e) d in
    same-node e (sym (div-eq_of_lt-le (2 ^ m.level) a b) ∙ div-eq_of_lt-le (2 ^ m.level) c' d')

abbrev pub NoHalves : List Node → Type 0
NoHalves ns = (l j : ℕ) → Memᴰ (node l (2 * j)) ns → Memᴰ (node l (2 * j + 1)) ns → ⊥

-- a node wholly under rows, no two of which are halves of one node, lies under one of them
under-row : (ns : List Node) → NoHalves ns → (l j : ℕ) → Whole (held ns) (node l j) → (d : ℕ) × Memᴰ (climb d (node l j)) ns
under-row ns apart zero j w =
    let q = from-held ns (first_key (node 0 j)) (w (first_key (node 0 j)) (omega arith) (first_past (node 0 j))) in
    let n = q.0 in
    let e : climb n.level (node 0 j) ≡ n = same_over (climb n.level (node 0 j)) n (first_key (node 0 j)) (omega (arith, climb-level n.level (node 0 j))) (climb-first n.level (node 0 j)) (omega (arith, climb-past n.level (node 0 j), first_past (node 0 j))) q.2 q.3 in
    (n.level, subst (λ (x : Node). Memᴰ x ns) (sym e) q.1)
under-row ns apart (suc l) j w =
    parts
    (under-row ns apart l (2 * j) (λ k a b. w k (omega (arith, first_left l j)) (omega (arith, past-right l j, first_past (node l (2 * j + 1))))))
    (under-row ns apart l (2 * j + 1) (λ k a b. w k (omega (arith, first_left l j, first_past (node l (2 * j)))) (omega (arith, past-right l j))))
  where
    up : (half d : ℕ) → parent (node l half) ≡ node (suc l) j → Memᴰ (climb (suc d) (node l half)) ns → Memᴰ (climb d (node (suc l) j)) ns
    up half d e m = subst (λ (x : Node). Memᴰ x ns) (climb-parent d (node l half) ∙ ap (climb d) e) m

    both : (a b : ℕ) → Memᴰ (climb a (node l (2 * j))) ns → Memᴰ (climb b (node l (2 * j + 1))) ns → (d : ℕ) × Memᴰ (climb d (node (suc l) j)) ns
    both zero zero m n = absurd (apart l j m n)
    both zero (suc b) m n = (b, up (2 * j + 1) b (parent-right l j) n)
    both (suc a) b m n = (a, up (2 * j) a (parent-left l j) m)

    parts : (d : ℕ) × Memᴰ (climb d (node l (2 * j))) ns → (d : ℕ) × Memᴰ (climb d (node l (2 * j + 1))) ns → (d : ℕ) × Memᴰ (climb d (node (suc l) j)) ns
    parts p q = both p.0 q.0 p.1 q.1

-- two rows over one key are one
pub one-row : (a b : ℕ) (ns : List Node) (m n : Node) (k : ℕ) → Rising a b ns → Memᴰ m ns → Memᴰ n ns → first_key m ≤ k → k < past m → first_key n ≤ k → k < past n → m ≡ n
one-row a b [] m n k r p q c d e f = absurd (Memᴰ.not-nil p)
one-row a b (x ∷ ns) m n k r p q c d e f = step (one-row (past x) b ns m n k r.1) (Memᴰ.cases_cons p) (Memᴰ.cases_cons q)
  where
    step : (Memᴰ m ns → Memᴰ n ns → first_key m ≤ k → k < past m → first_key n ≤ k → k < past n → m ≡ n) → (m ≡ x) ⊎ Memᴰ m ns → (n ≡ x) ⊎ Memᴰ n ns → m ≡ n
    step below (inl g) (inl h) = g ∙ sym h
    step below (inl g) (inr h) = absurd (omega (arith, (rising_member (past x) b ns n r.1 h).0, subst (λ (z : Node). k < past z) g d))
    step below (inr g) (inl h) = absurd (omega (arith, (rising_member (past x) b ns m r.1 g).0, subst (λ (z : Node). k < past z) h f))
    step below (inr g) (inr h) = below g h c d e f

low-level : (height : ℕ) (n : Node) → past n ≤ 2 ^ height → n.level ≤ height
low-level height n h =
    ⊎_elim (λ (q : height < n.level). absurd (omega (arith, pow-lt q, add-mul n.index 1 (2 ^ n.level)))) (λ (q : n.level ≤ height). q) (cases_lt height n.level)

pub own-cover : (height : ℕ) (ns : List Node) → Rising 0 (2 ^ height) ns → NoHalves ns → Cover height (held ns) ns
own-cover height ns up apart = record {
  rising = up;
  row = λ n m. let inside = (rising_member 0 (2 ^ height) ns n up m).1 in record {
    low = low-level height n inside;
    inside = inside;
    whole = λ k a b. in_held ns n k m a b;
    top = inr (λ w. no_parent n m (under-row ns apart (parent n).level (parent n).index w));
  };
  all = λ n r. at n r (under-row ns apart n.level n.index r.whole);
}
  where
    no_parent : (n : Node) → Memᴰ n ns → (d : ℕ) × Memᴰ (climb d (parent n)) ns → ⊥
    no_parent n m q =
        let r = climb q.0 (parent n) in
        let fp = first_past n in
        let e : r ≡ n = one-row 0 (2 ^ height) ns r n (first_key n) up q.1 m (omega (arith, climb-first q.0 (parent n), climb-first 1 n)) (omega (arith, climb-past q.0 (parent n), climb-past 1 n)) (omega arith) fp in
        omega (arith, climb-level q.0 (parent n), ap (λ (x : Node). x.level) e)

    at : (n : Node) → RowOf height (held ns) n → (d : ℕ) × Memᴰ (climb d n) ns → Memᴰ n ns
    at n r q = go q.0 q.1
      where
        go : (d : ℕ) → Memᴰ (climb d n) ns → Memᴰ n ns
        go zero m = m
        go (suc d) m =
            let low = low-level height (climb (suc d) n) (rising_member 0 (2 ^ height) ns (climb (suc d) n) up m).1 in
            absurd (⊎_elim
            (λ (e : n.level ≡ height). omega (arith, climb-level (suc d) n))
            (λ (no_whole : Whole (held ns) (parent n) → ⊥). no_whole (under_whole (held ns) d (parent n) (subst (λ (x : Node). Whole (held ns) x) (climb-parent d n) (λ k a b. in_held ns (climb (suc d) n) k m a b))))
            r.top)

-- A row stands over a key exactly when the key is in the set.
pub held-keys : (height : ℕ) (keys : KeySet) (ns : List Node) (k : ℕ) → Cover height keys ns → k < 2 ^ height → held ns k ≡ keys k
held-keys height keys ns k c h =
    same_from_decides (held ns k) (keys k) (λ e. let q = from-held ns k e in (c.row q.0 q.1).whole k q.2 q.3, back) (λ e. e, λ e. e)
  where
    back : keys k ≡ true → held ns k ≡ true
    back e =
        let n = node 0 k in
        let a = row-above height keys n (omega arith) (omega arith) (λ i p q. let s : k ≡ i = omega arith in subst (λ (x : ℕ). keys x ≡ true) s e) in
        in_held ns (climb a.0 n) k (c.all (climb a.0 n) a.1) (omega (arith, climb-first a.0 n)) (omega (arith, climb-past a.0 n))
