-- The test of rows, and what it says. Assumes nothing.
use Rattle.std.proofs.Common.{◌≡◌, ℕ, ◌+◌, ◌*◌, ◌/◌, ◌^◌, ◌<◌, ◌≤◌, Bool, true, false, not, eqb, leb, ◌⊎◌, List, [], ◌∷◌, sym, refl, ap, ◌∙◌, subst, inl, inr, ⊎_elim, add-mul, arith, pow_pos}
use mathlib.Core.List.Memᴰ
use mathlib.Core.List.{Memᴰ}
use Rattle.std.specs.List.{list_all}
use Rattle.std.proofs.lemmas.Bool.Decides.{nat_tests}
use Rattle.std.proofs.lemmas.Bool.{cases_Bool, cases_lt, both_ways, leb-true, le-leb, eq-eqb, and_parts, and_from, not-true, not_from_false}
use Rattle.cover.specs.declared.node.Node.{Node}
use Rattle.cover.specs.Tree.{first_key, past, parent, KeySet, Whole, RowOf, Rising, Cover, held, rising, halves, is_distinct, sound, neighbours}
use Rattle.cover.specs.Cut.{node}
use Rattle.cover.proofs.Geometry.{pow-next, first_past}
use Rattle.cover.proofs.Covers.{le-cancel}
use Rattle.cover.proofs.Held.{NoHalves, own-cover}
use Rattle.cover.proofs.Members.{rising_member}

pub rising-from : (a b : ℕ) (ns : List Node) → rising a b ns ≡ true → Rising a b ns
rising-from a b [] e = leb-true a b e
rising-from a b (n ∷ ns) e = let h = and_parts (leb a (first_key n)) (rising (past n) b ns) e in (leb-true a (first_key n) h.0, rising-from (past n) b ns h.1)

pub to_rising : (a b : ℕ) (ns : List Node) → Rising a b ns → rising a b ns ≡ true
to_rising a b [] r = le-leb a b r
to_rising a b (n ∷ ns) r = and_from (leb a (first_key n)) (rising (past n) b ns) (le-leb a (first_key n) r.0) (to_rising (past n) b ns r.1)

passes : {K : Type 0} (p : K → Bool) (xs : List K) (x : K) → list_all p xs ≡ true → Memᴰ x xs → p x ≡ true
passes p [] x e m = absurd (Memᴰ.not-nil m)
passes {K} p (y ∷ xs) x e m =
    let h = and_parts (p y) (list_all p xs) e in
    ⊎_elim (λ (q : x ≡ y). subst (λ (z : K). p z ≡ true) (sym q) h.0) (λ (q : Memᴰ x xs). passes p xs x h.1 q) (Memᴰ.cases_cons m)

to_pass : {K : Type 0} (p : K → Bool) (xs : List K) → ((x : K) → Memᴰ x xs → p x ≡ true) → list_all p xs ≡ true
to_pass p [] f = refl
to_pass p (y ∷ xs) f = and_from (p y) (list_all p xs) (f y (Memᴰ.head refl)) (to_pass p xs (λ x m. f x (Memᴰ.tail m)))

-- of two members one comes first, or they are one
apart_from : (ns : List Node) (m n : Node) → is_distinct halves ns ≡ true → Memᴰ m ns → Memᴰ n ns → halves m n ≡ true → halves n m ≡ true → m ≡ n
apart_from [] m n e p q h g = absurd (Memᴰ.not-nil p)
apart_from (x ∷ ns) m n e p q h g = step (apart_from ns m n) (Memᴰ.cases_cons p) (Memᴰ.cases_cons q)
  where
    each : (list_all (λ y. not (halves x y)) ns ≡ true) × (is_distinct halves ns ≡ true)
    each = and_parts (list_all (λ y. not (halves x y)) ns) (is_distinct halves ns) e

    step : (is_distinct halves ns ≡ true → Memᴰ m ns → Memᴰ n ns → halves m n ≡ true → halves n m ≡ true → m ≡ n) → (m ≡ x) ⊎ Memᴰ m ns → (n ≡ x) ⊎ Memᴰ n ns → m ≡ n
    step below (inl a) (inl b) = a ∙ sym b
    step below (inl a) (inr b) = absurd (both_ways (halves x n) (not-true (halves x n) (passes (λ y. not (halves x y)) ns n each.0 b)) (subst (λ (z : Node). halves z n ≡ true) a h))
    step below (inr a) (inl b) = absurd (both_ways (halves x m) (not-true (halves x m) (passes (λ y. not (halves x y)) ns m each.0 a)) (subst (λ (z : Node). halves z m ≡ true) b g))
    step below (inr a) (inr b) = below each.1 a b h g

no_halves : (ns : List Node) → is_distinct halves ns ≡ true → NoHalves ns
no_halves ns e l j p q =
    let a = node l (2 * j) in
    let b = node l (2 * j + 1) in
    let same = apart_from ns a b e p q (and_from (eqb l l) (eqb (2 * j / 2) ((2 * j + 1) / 2)) (eq-eqb l l refl) (eq-eqb (2 * j / 2) ((2 * j + 1) / 2) (omega arith))) (and_from (eqb l l) (eqb ((2 * j + 1) / 2) (2 * j / 2)) (eq-eqb l l refl) (eq-eqb ((2 * j + 1) / 2) (2 * j / 2) (omega arith))) in
    omega (arith, ap (λ (x : Node). x.index) same)

-- Sound rows are the rows of the keys under them.
pub sound-cover : (height : ℕ) (ns : List Node) → sound height ns ≡ true → Cover height (held ns) ns
sound-cover height ns e =
    let h = and_parts (rising 0 (2 ^ height) ns) (is_distinct halves ns) e in own-cover height ns (rising-from 0 (2 ^ height) ns h.0) (no_halves ns h.1)

-- the halves of one node stand side by side
halves_next : (x y : Node) → past x ≤ first_key y → halves x y ≡ true → (x.level ≡ y.level) × (x.index / 2 ≡ y.index / 2) × (y.index ≡ x.index + 1)
halves_next x y up e =
    let h = halves_level x y e in
    let up' : (x.index + 1) * 2 ^ x.level ≤ y.index * 2 ^ x.level = subst (λ (l : ℕ). (x.index + 1) * 2 ^ x.level ≤ y.index * 2 ^ l) (sym h.0) up in
    let after : x.index + 1 ≤ y.index = le-cancel (x.index + 1) y.index (2 ^ x.level) (pow_pos x.level) up' in
    (h.0, h.1, omega (arith, h.1))
  where
    halves_level : (x y : Node) → halves x y ≡ true → (x.level ≡ y.level) × (x.index / 2 ≡ y.index / 2)
    halves_level x y e = grind (arith, nat_tests)

-- In rising order, two rows that are the halves of one node are neighbours.
meet-halves : (x y : Node) → past x ≤ first_key y → halves x y ≡ true → past x ≡ first_key y
meet-halves x y up e =
    let h = halves_next x y up e in
    subst (λ (l : ℕ). past x ≡ y.index * 2 ^ l) h.0 (ap (λ (i : ℕ). i * 2 ^ x.level) (sym h.2))

-- two rows of a set are not the halves of one node
not-halves : (height : ℕ) (keys : KeySet) (x y : Node) → RowOf height keys x → RowOf height keys y → past x ≤ first_key y → halves x y ≡ true → ⊥
not-halves height keys x y r s up e =
    let h = halves_next x y up e in
    let level = h.0 in
    let index = h.1 in
    let next = h.2 in
    let start : first_key (parent x) ≡ first_key x = pow-next (x.index / 2) x.level ∙ ap (λ (i : ℕ). i * 2 ^ x.level) (let q : x.index / 2 * 2 ≡ x.index = omega arith in q) in
    let end : past (parent x) ≡ (y.index + 1) * 2 ^ x.level = pow-next (x.index / 2 + 1) x.level ∙ ap (λ (i : ℕ). i * 2 ^ x.level) (let q : (x.index / 2 + 1) * 2 ≡ y.index + 1 = omega arith in q) in
    let end' : past (parent x) ≡ past y = subst (λ (l : ℕ). past (parent x) ≡ (y.index + 1) * 2 ^ l) level end in
    let seam : past x ≡ first_key y = meet-halves x y up e in
    ⊎_elim
    (λ (t : x.level ≡ height).
    let big = subst (λ (l : ℕ). (x.index + 1) * 2 ^ l ≤ first_key y) t up in
    omega (arith, s.inside, first_past y, add-mul x.index 1 (2 ^ height)))
    (λ (t : Whole keys (parent x) → ⊥).
    t (λ k a b. ⊎_elim (λ (q : k < past x). r.whole k (omega arith) q) (λ (q : past x ≤ k). s.whole k (omega arith) (omega arith)) (cases_lt k (past x))))
    r.top

cover_distinct : (height : ℕ) (keys : KeySet) (a b : ℕ) (ns : List Node) → Rising a b ns → ((n : Node) → Memᴰ n ns → RowOf height keys n) → is_distinct halves ns ≡ true
cover_distinct height keys a b [] r f = refl
cover_distinct height keys a b (x ∷ ns) r f =
    and_from (list_all (λ y. not (halves x y)) ns) (is_distinct halves ns)
    (to_pass (λ y. not (halves x y)) ns (λ y m. ⊎_elim (λ (e : halves x y ≡ true). absurd (not-halves height keys x y (f x (Memᴰ.head refl)) (f y (Memᴰ.tail m)) (rising_member (past x) b ns y r.1 m).0 e)) (λ (e : halves x y ≡ false). not_from_false (halves x y) e) (cases_Bool (halves x y))))
    (cover_distinct height keys (past x) b ns r.1 (λ n m. f n (Memᴰ.tail m)))

-- The rows of a set are sound.
pub cover-sound : (height : ℕ) (keys : KeySet) (ns : List Node) → Cover height keys ns → sound height ns ≡ true
cover-sound height keys ns c =
    and_from (rising 0 (2 ^ height) ns) (is_distinct halves ns) (to_rising 0 (2 ^ height) ns c.rising) (cover_distinct height keys 0 (2 ^ height) ns c.rising c.row)

distinct_from : (a b : ℕ) (ns : List Node) → Rising a b ns → neighbours ns ≡ true → is_distinct halves ns ≡ true
distinct_from a b [] r e = refl
distinct_from a b (x ∷ ns) r e =
    let h = and_parts (elim ns [ [] ↦ true | m ∷ ms ↦ not (halves x m) ]) (neighbours ns) e in
    and_from (list_all (λ y. not (halves x y)) ns) (is_distinct halves ns) (to_pass (λ y. not (halves x y)) ns (each ns r.1 h.0)) (distinct_from (past x) b ns r.1 h.1)
  where
    each : (ms : List Node) → Rising (past x) b ms → elim ms [ [] ↦ true | m ∷ ls ↦ not (halves x m) ] ≡ true → (y : Node) → Memᴰ y ms → not (halves x y) ≡ true
    each [] s f y m = absurd (Memᴰ.not-nil m)
    each (n ∷ ms) s f y m =
        ⊎_elim
        (λ (q : y ≡ n). subst (λ (z : Node). not (halves x z) ≡ true) (sym q) f)
        (λ (q : Memᴰ y ms). ⊎_elim (λ (t : halves x y ≡ true). let far = (rising_member (past n) b ms y s.1 q).0 in let near = first_past n in let start = s.0 in absurd (omega (arith, meet-halves x y (omega arith) t))) (λ (t : halves x y ≡ false). not_from_false (halves x y) t) (cases_Bool (halves x y)))
        (Memᴰ.cases_cons m)

-- Rows read one by one, each tested against the one before it, are sound.
pub neighbours-sound : (height : ℕ) (ns : List Node) → rising 0 (2 ^ height) ns ≡ true → neighbours ns ≡ true → sound height ns ≡ true
neighbours-sound height ns r e = and_from (rising 0 (2 ^ height) ns) (is_distinct halves ns) r (distinct_from 0 (2 ^ height) ns (rising-from 0 (2 ^ height) ns r) e)
