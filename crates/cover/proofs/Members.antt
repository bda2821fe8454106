-- Members of lists that are joined, and of lists of nodes in rising order. Assumes nothing.
use Rattle.std.proofs.Common.{◌≡◌, ℕ, ◌≤◌, ◌⊎◌, List, [], ◌∷◌, ◌++◌, sym, refl, ◌∙◌, subst, inl, inr, arith}
use mathlib.Core.List.Memᴰ
use mathlib.Core.List.{Memᴰ}
use Rattle.std.specs.List.{flat_map}
use Rattle.cover.specs.declared.node.Node.{Node}
use Rattle.cover.specs.Tree.{first_key, past, Rising}
use Rattle.cover.proofs.Geometry.{first_past}

pub from_joined : {X A : Type 0} (f : X → List A) (xs : List X) (a : A) → Memᴰ a (flat_map f xs) → (x : X) × Memᴰ x xs × Memᴰ a (f x)
from_joined f [] a m = absurd (Memᴰ.not-nil m)
from_joined {X} {A} f (x ∷ xs) a m = step (from_joined f xs a) (Memᴰ.append_cases (f x) m)
  where
    step : (Memᴰ a (flat_map f xs) → (y : X) × Memᴰ y xs × Memᴰ a (f y)) → Memᴰ a (f x) ⊎ Memᴰ a (flat_map f xs) → (y : X) × Memᴰ y (x ∷ xs) × Memᴰ a (f y)
    step below (inl h) = (x, Memᴰ.head refl, h)
    step below (inr h) = let b = below h in (b.0, Memᴰ.tail b.1, b.2)

pub in_joined : {X A : Type 0} (f : X → List A) (xs : List X) (x : X) (a : A) → Memᴰ x xs → Memᴰ a (f x) → Memᴰ a (flat_map f xs)
in_joined f [] x a m h = absurd (Memᴰ.not-nil m)
in_joined {X} {A} f (y ∷ xs) x a m h = step (λ k. in_joined f xs x a k h) (Memᴰ.cases_cons m)
  where
    step : (Memᴰ x xs → Memᴰ a (flat_map f xs)) → (x ≡ y) ⊎ Memᴰ x xs → Memᴰ a (f y ++ flat_map f xs)
    step below (inl e) = Memᴰ.append_left (flat_map f xs) (subst (λ (z : X). Memᴰ a (f z)) e h)
    step below (inr k) = Memᴰ.append_right (f y) (below k)

pub rising_member : (a b : ℕ) (ns : List Node) (n : Node) → Rising a b ns → Memᴰ n ns → (a ≤ first_key n) × (past n ≤ b)
rising_member a b [] n r m = absurd (Memᴰ.not-nil m)
rising_member a b (x ∷ ns) n r m = step (rising-ends (past x) b ns r.1) (rising_member (past x) b ns n r.1) (Memᴰ.cases_cons m)
  where
    rising-ends : (a b : ℕ) (ns : List Node) → Rising a b ns → a ≤ b
    rising-ends a b [] r = r
    rising-ends a b (x ∷ ns) r = omega (arith, rising-ends (past x) b ns r.1, first_past x, r.0)

    step : past x ≤ b → (Memᴰ n ns → (past x ≤ first_key n) × (past n ≤ b)) → (n ≡ x) ⊎ Memᴰ n ns → (a ≤ first_key n) × (past n ≤ b)
    step h below (inl e) = (subst (λ (z : Node). a ≤ first_key z) (sym e) r.0, subst (λ (z : Node). past z ≤ b) (sym e) h)
    step h below (inr k) = let q = below k in (omega (arith, first_past x, r.0), q.1)

-- two lists in rising order with the same members are one list
pub same_members : (a b c d : ℕ) (ms ns : List Node) → Rising a b ms → Rising c d ns → ((n : Node) → Memᴰ n ms → Memᴰ n ns) → ((n : Node) → Memᴰ n ns → Memᴰ n ms) → ms ≡ ns
same_members a b c d [] [] r s f g = refl
same_members a b c d [] (n ∷ ns) r s f g = absurd (Memᴰ.not-nil (g n (Memᴰ.head refl)))
same_members a b c d (m ∷ ms) [] r s f g = absurd (Memᴰ.not-nil (f m (Memᴰ.head refl)))
same_members a b c d (m ∷ ms) (n ∷ ns) r s f g =
    let e : m ≡ n = heads (Memᴰ.cases_cons (f m (Memᴰ.head refl))) (Memᴰ.cases_cons (g n (Memᴰ.head refl))) in
    cc (e, same_members (past m) b (past n) d ms ns r.1 s.1 (λ k h. tails ns (λ q. later ms r.1 k h (q ∙ sym e)) (Memᴰ.cases_cons (f k (Memᴰ.tail h)))) (λ k h. tails ms (λ q. later' ns s.1 k h (q ∙ e)) (Memᴰ.cases_cons (g k (Memᴰ.tail h)))))
  where
    heads : (m ≡ n) ⊎ Memᴰ m ns → (n ≡ m) ⊎ Memᴰ n ms → m ≡ n
    heads (inl e) o = e
    heads (inr h) (inl e) = sym e
    heads (inr h) (inr k) =
        absurd (omega (arith, (rising_member (past n) d ns m s.1 h).0, (rising_member (past m) b ms n r.1 k).0, first_past m, first_past n))

    later : (ls : List Node) → Rising (past m) b ls → (k : Node) → Memᴰ k ls → k ≡ m → ⊥
    later ls r k h e = omega (arith, subst (λ (z : Node). past m ≤ first_key z) e (rising_member (past m) b ls k r h).0, first_past m)

    later' : (ls : List Node) → Rising (past n) d ls → (k : Node) → Memᴰ k ls → k ≡ n → ⊥
    later' ls r k h e = omega (arith, subst (λ (z : Node). past n ≤ first_key z) e (rising_member (past n) d ls k r h).0, first_past n)

    tails : {k x : Node} (ls : List Node) → (k ≡ x → ⊥) → (k ≡ x) ⊎ Memᴰ k ls → Memᴰ k ls
    tails ls not (inl e) = absurd (not e)
    tails ls not (inr h) = h
