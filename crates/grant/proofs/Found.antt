-- The row over a key. Assumes nothing.
use Rattle.std.proofs.Common.{◌≡◌, ℕ, zero, suc, ◌+◌, ◌*◌, ◌/◌, ◌%◌, ◌^◌, ◌<◌, ◌≤◌, Bool, true, false, cond, ltb, leb, List, [], ◌∷◌, map, length, get_or, take, Option, Some, ◌≢◌, sym, refl, ap, ◌∙◌, subst, arith, pow_pos}
use mathlib.Core.List.Memᴰ
use mathlib.Core.List.{Memᴰ}
use native.Mathlib.Nat.{div-eq_of_lt-le}
use Rattle.std.specs.List.{find}
use Rattle.std.proofs.Math.ListN.{get_or-map}
use Rattle.std.proofs.lemmas.Nat.{shr_split, mod_below}
use Rattle.std.proofs.lemmas.List.{get_or-take}
use Rattle.std.proofs.lemmas.Bool.{cases_Bool, leb-true, ltb-true, and_parts}
use Rattle.std.proofs.lemmas.Bool.Decides.{eqb_tells, nat_tests}
use Rattle.std.proofs.Math.Dec.{eqb}
use Rattle.cover.specs.declared.node.Node.{Node}
use Rattle.cover.specs.Tree.{first_key, past, stands, held, RowOf}
use Rattle.cover.proofs.Sound.{sound-cover}
use Rattle.grant.specs.declared.grant.row.Row.{Row}
use Rattle.grant.specs.Rows.{zero_row, node_of, sound_rows}
use Rattle.grant.specs.Grants.{row_over}

pub member_at : {X : Type 0} (xs : List X) (i : ℕ) (d : X) → i < length xs → Memᴰ (get_or xs i d) xs
member_at [] i d h = absurd (omega arith)
member_at (x ∷ xs) zero d h = Memᴰ.head refl
member_at (x ∷ xs) (suc i) d h = Memᴰ.tail (member_at xs i d (omega arith))

pub member_map : {X Y : Type 0} (f : X → Y) (xs : List X) (x : X) → Memᴰ x xs → Memᴰ (f x) (map f xs)
member_map f [] x m = absurd (Memᴰ.not-nil m)
member_map f (y ∷ xs) x m = mathlib.Core.Logic.⊎_elim (λ (e : x ≡ y). Memᴰ.head (ap f e)) (λ (q : Memᴰ x xs). Memᴰ.tail (member_map f xs x q)) (mathlib.Core.List.Memᴰ.cases_cons m)

-- each row of a grant is one of the cover of the keys under the rows
row_in : (height count : ℕ) (rows : List Row) (r : Row) → sound_rows height count rows ≡ true → Memᴰ r (take count rows) → RowOf height (held (map node_of (take count rows))) (node_of r)
row_in height count rows r e m = (sound-cover height (map node_of (take count rows)) e).row (node_of r) (member_map node_of (take count rows) r m)

stands_at : (n : Node) (k : ℕ) → k / 2 ^ n.level ≡ n.index → stands n k ≡ true
stands_at n k e =
    let low = subst (λ (x : ℕ). x * 2 ^ n.level + Prim.Native.Nat.◌%◌ k (2 ^ n.level) ≡ k) e (shr_split k n.level) in
    let less = mod_below k (2 ^ n.level) (pow_pos n.level) in
    let end = native.Mathlib.Nat.add-mul n.index 1 (2 ^ n.level) in
    grind (arith, nat_tests)

stands-not : (n : Node) (k : ℕ) → (k / 2 ^ n.level ≡ n.index → ⊥) → stands n k ≡ false
stands-not n k not =
    mathlib.Core.Logic.⊎_elim
    (λ (e : stands n k ≡ true). let h = and_parts (leb (first_key n) k) (ltb k (past n)) e in absurd (not (div-eq_of_lt-le (2 ^ n.level) (leb-true (first_key n) k h.0) (ltb-true k (past n) h.1))))
    (λ (e : stands n k ≡ false). e)
    (cases_Bool (stands n k))

pub stands_is : (n : Node) (k : ℕ) → eqb (k / 2 ^ n.level) n.index ≡ stands n k
stands_is n k =
    mathlib.Core.Logic.⊎_elim
    (λ (h : (eqb (k / 2 ^ n.level) n.index ≡ true) × (k / 2 ^ n.level ≡ n.index)). h.0 ∙ sym (stands_at n k h.1))
    (λ (h : (eqb (k / 2 ^ n.level) n.index ≡ false) × (k / 2 ^ n.level ≢ n.index)). h.0 ∙ sym (stands-not n k h.1))
    (eqb_tells (k / 2 ^ n.level) n.index)

-- The test of a search: a shift by a level that takes the level by 64, as the wrapping one does.
abbrev pub meets : ℕ → Row → Bool
meets k r = eqb (k / 2 ^ (r.level % 64)) r.index

-- among rows that are not above the highest level, where no shift wraps, the first over the key is found
pub find_over : (rs : List Row) (k : ℕ) → ((r : Row) → Memᴰ r rs → r.level ≤ 32) → find (meets k) rs ≡ row_over rs k
find_over [] k low = refl
find_over (r ∷ rs) k low =
    let here = low r (Memᴰ.head refl) in
    let plain : r.level % 64 ≡ r.level = omega (arith, here) in
    let is : meets k r ≡ stands (node_of r) k = ap (λ (l : ℕ). eqb (k / 2 ^ l) r.index) plain ∙ stands_is (node_of r) k in
    let there = find_over rs k (λ x m. low x (Memᴰ.tail m)) in
    ap (λ (b : Bool). cond b (Some r) (find (meets k) rs)) is ∙ ap (λ (o : Option Row). cond (stands (node_of r) k) (Some r) o) there

pub under_member : (rs : List Row) (k : ℕ) (r : Row) → row_over rs k ≡ Some r → Memᴰ r rs × (stands (node_of r) k ≡ true)
under_member [] k r e = let z : ◌≡◌ {A = ℕ} 0 1 = cc in absurd (omega arith)
under_member (x ∷ rs) k r e = by (stands (node_of x) k) refl e (under_member rs k r)
  where
    by : (b : Bool) → stands (node_of x) k ≡ b → cond b (Some x) (row_over rs k) ≡ Some r → (row_over rs k ≡ Some r → Memᴰ r rs × (stands (node_of r) k ≡ true)) → Memᴰ r (x ∷ rs) × (stands (node_of r) k ≡ true)
    by true s e below = let q : r ≡ x = cc in (Memᴰ.head q, subst (λ (z : Row). stands (node_of z) k ≡ true) (sym q) s)
    by false s e below = let q = below e in (Memᴰ.tail q.0, q.1)

pub under-inside : (height count : ℕ) (rows : List Row) (k : ℕ) (r : Row) → sound_rows height count rows ≡ true → row_over (take count rows) k ≡ Some r → RowOf height (held (map node_of (take count rows))) (node_of r)
under-inside height count rows k r e u = row_in height count rows r e (under_member (take count rows) k r u).0

pub rows-low : (height count : ℕ) (rows : List Row) → height ≤ 32 → sound_rows height count rows ≡ true → (r : Row) → Memᴰ r (take count rows) → r.level ≤ 32
rows-low height count rows high e r m = let inside = row_in height count rows r e m in omega (arith, inside.low)

pub node_at : (count : ℕ) (rows : List Row) (i : ℕ) → i < count → get_or (map node_of (take count rows)) i (node_of zero_row) ≡ node_of (get_or rows i zero_row)
node_at count rows i h = get_or-map node_of (take count rows) i zero_row ∙ ap node_of (get_or-take count rows i zero_row h)
