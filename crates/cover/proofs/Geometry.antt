-- Where a node, its parent and its halves begin and end. Assumes nothing.
use Rattle.std.proofs.Common.{◌≡◌, ℕ, zero, suc, ◌+◌, ◌*◌, ◌/◌, ◌^◌, ◌<◌, ◌≤◌, ◌⊎◌, sym, refl, ap, ◌∙◌, inl, inr, mul_assoc, add-one, arith, pow_pos}
use native.Mathlib.Nat.{pow-succ'}
use Rattle.std.proofs.lemmas.Nat.{mul-le}
use Rattle.std.proofs.lemmas.Bool.{cases_eq}
use Rattle.cover.specs.declared.node.Node.{Node}
use Rattle.cover.specs.Tree.{first_key, past, parent}
use Rattle.cover.specs.Cut.{node}

pub pow-up : (b l : ℕ) → b * 2 ^ suc l ≡ (b * 2) * 2 ^ l
pow-up b l = ap (λ (e : ℕ). b * e) (pow-succ' 2 l) ∙ sym (mul_assoc b 2 (2 ^ l))

pub pow-next : (b l : ℕ) → b * 2 ^ (l + 1) ≡ (b * 2) * 2 ^ l
pow-next b l = ap (λ (e : ℕ). b * 2 ^ e) (add-one l) ∙ pow-up b l

pub first-parent : (n : Node) → first_key (parent n) ≤ first_key n
first-parent n = rw (pow-next (n.index / 2) n.level) (mul-le (n.index / 2 * 2) (2 ^ n.level) n.index (2 ^ n.level) (omega arith) (omega arith))

pub past-parent : (n : Node) → past n ≤ past (parent n)
past-parent n = rw (pow-next (n.index / 2 + 1) n.level) (mul-le (n.index + 1) (2 ^ n.level) ((n.index / 2 + 1) * 2) (2 ^ n.level) (omega arith) (omega arith))

pub first_past : (n : Node) → first_key n < past n
first_past n = omega (arith, native.Mathlib.Nat.add-mul n.index 1 (2 ^ n.level), pow_pos n.level)

pub same-node : {m n : Node} → m.level ≡ n.level → m.index ≡ n.index → m ≡ n
same-node p q = λ i. record { level = p i; index = q i }

-- the node so many levels up
abbrev pub climb : ℕ → Node → Node
climb zero n = n
climb (suc d) n = parent (climb d n)

pub climb-parent : (d : ℕ) (n : Node) → climb (suc d) n ≡ climb d (parent n)
climb-parent zero n = refl
climb-parent (suc d) n = ap parent (climb-parent d n)

pub climb-level : (d : ℕ) (n : Node) → (climb d n).level ≡ n.level + d
climb-level zero n = omega arith
climb-level (suc d) n = omega (arith, climb-level d n)

pub climb-first : (d : ℕ) (n : Node) → first_key (climb d n) ≤ first_key n
climb-first zero n = omega arith
climb-first (suc d) n = omega (arith, climb-first d n, first-parent (climb d n))

pub climb-past : (d : ℕ) (n : Node) → past n ≤ past (climb d n)
climb-past zero n = omega arith
climb-past (suc d) n = omega (arith, climb-past d n, past-parent (climb d n))

pub halves : (m : Node) (l j : ℕ) → parent m ≡ node (suc l) j → (m ≡ node l (2 * j)) ⊎ (m ≡ node l (2 * j + 1))
halves m l j e =
    let level : m.level ≡ l = omega (arith, ap (λ (n : Node). n.level) e) in
    let index : m.index / 2 ≡ j = ap (λ (n : Node). n.index) e in
    mathlib.Core.Logic.⊎_elim (λ (p : m.index ≡ 2 * j). inl (same-node level p)) (λ (p : m.index ≡ 2 * j → ⊥). let q : m.index ≡ 2 * j + 1 = omega (arith, p) in inr (same-node level q)) (cases_eq m.index (2 * j))

pub parent-left : (l j : ℕ) → parent (node l (2 * j)) ≡ node (suc l) j
parent-left l j = same-node (omega arith) (omega arith)

pub parent-right : (l j : ℕ) → parent (node l (2 * j + 1)) ≡ node (suc l) j
parent-right l j = same-node (omega arith) (omega arith)

pub first_left : (l j : ℕ) → first_key (node l (2 * j)) ≡ first_key (node (suc l) j)
first_left l j = ap (λ (e : ℕ). e * 2 ^ l) (native.Mathlib.Nat.mul_comm 2 j) ∙ sym (pow-up j l)

pub meet : (l j : ℕ) → past (node l (2 * j)) ≡ first_key (node l (2 * j + 1))
meet l j = refl

pub past-right : (l j : ℕ) → past (node l (2 * j + 1)) ≡ past (node (suc l) j)
past-right l j = ap (λ (e : ℕ). e * 2 ^ l) (let q : 2 * j + 1 + 1 ≡ (j + 1) * 2 = omega arith in q) ∙ sym (pow-up (j + 1) l)
