-- Which keys a grant has that holds what was granted. Assumes nothing.
use Rattle.std.proofs.Common.{◌≡◌, ℕ, ◌+◌, ◌-◌, ◌*◌, ◌/◌, ◌^◌, ◌<◌, ◌≤◌, Bool, true, false, cond, ◌||◌, ltb, List, [], ◌∷◌, map, Some, None, Option, sym, refl, ap, ◌∙◌, ⊎_elim, mul_assoc, arith, pow_pos, pow-add}
use native.Mathlib.Nat.{div-eq_of_lt-le}
use Rattle.std.proofs.lemmas.Bool.{cases_lt, or_from, cond-true, cond-false, lt-ltb, le-ltb}
use Rattle.std.proofs.lemmas.Bool.Decides.{nat_tests}
use Rattle.cover.specs.declared.node.Node.{Node}
use Rattle.cover.specs.Tree.{first_key, past, stands, held}
use Rattle.std.proofs.lemmas.Nat.{mul-le}
use Rattle.cover.proofs.Covers.{le-cancel}
use Rattle.cover.proofs.Held.{held-keys}
use Rattle.cipher.specs.declared.Block.{Block}
use Rattle.grant.specs.declared.grant.row.Row.{Row}
use Rattle.grant.specs.declared.grant.Grant.{Grant}
use Rattle.grant.specs.Seeds.{Encrypted, walk, leaf_words, tree_words, figured}
use Rattle.grant.specs.Rows.{node_of}
use Rattle.grant.specs.Grants.{rows_of, nodes_of, row_over, words_from, grant_keys, Granted, only, granted_keys, Holds, Serves}
use Rattle.grant.proofs.Walks.{walk-walk}
use Rattle.grant.proofs.Found.{under_member, member_map}

pub stands_from : (n : Node) (k : ℕ) → stands n k ≡ true → (first_key n ≤ k) × (k < past n)
stands_from n k e = grind (arith, nat_tests)

-- the index of the node so many levels above that stands over the first key of a node
pub index-above : (m n : Node) → n.level ≤ m.level → stands m (first_key n) ≡ true → m.index ≡ n.index / 2 ^ (m.level - n.level)
index-above m n l e =
    let h = stands_from m (first_key n) e in
    let d = m.level - n.level in
    let split : 2 ^ m.level ≡ 2 ^ d * 2 ^ n.level = ap (λ (x : ℕ). 2 ^ x) (let q : m.level ≡ d + n.level = omega arith in q) ∙ pow-add 2 d n.level in
    let scaled : (i : ℕ) → i * 2 ^ m.level ≡ (i * 2 ^ d) * 2 ^ n.level = λ i. ap (λ (x : ℕ). i * x) split ∙ sym (mul_assoc i (2 ^ d) (2 ^ n.level)) in
    let low : m.index * 2 ^ d ≤ n.index = le-cancel (m.index * 2 ^ d) n.index (2 ^ n.level) (pow_pos n.level) (omega (arith, scaled m.index, h.0)) in
    let high : n.index < (m.index + 1) * 2 ^ d = ⊎_elim (λ (q : n.index < (m.index + 1) * 2 ^ d). q) (λ (q : (m.index + 1) * 2 ^ d ≤ n.index). absurd (omega (arith, mul-le ((m.index + 1) * 2 ^ d) (2 ^ n.level) n.index (2 ^ n.level) q (omega arith), scaled (m.index + 1), h.1))) (cases_lt n.index ((m.index + 1) * 2 ^ d)) in
    sym (div-eq_of_lt-le (2 ^ d) low high)

pub under_none : (rs : List Row) (k : ℕ) → row_over rs k ≡ None → held (map node_of rs) k ≡ false
under_none [] k e = refl
under_none (r ∷ rs) k e = by (stands (node_of r) k) refl e (under_none rs k)
  where
    by : (b : Bool) → stands (node_of r) k ≡ b → cond b (Some r) (row_over rs k) ≡ None → (row_over rs k ≡ None → held (map node_of rs) k ≡ false) → (stands (node_of r) k || held (map node_of rs) k) ≡ false
    by true s e below = let z : ◌≡◌ {A = ℕ} 0 1 = cc in absurd (omega arith)
    by false s e below = or_from (stands (node_of r) k) (held (map node_of rs) k) s (below e)

module _ {C : Type 0} (e : Encrypted) (a : Granted) (g : Grant C) (h : Holds e a g) where
  row_word : (k : ℕ) (r : Row) → row_over (rows_of g) k ≡ Some r → (k < 2 ^ a.height) × (a.numbers k ≡ true) × (walk e r.seed r.level k ≡ walk e a.root a.height k)
  row_word k r u =
      let m = under_member (rows_of g) k r u in
      let n = node_of r in
      let over = stands_from n k m.1 in
      let row = h.rows.row n (member_map node_of (rows_of g) r m.0) in
      let low = row.low in
      let index : r.index ≡ k / 2 ^ r.level = sym (div-eq_of_lt-le (2 ^ r.level) over.0 over.1) in
      let sum : a.height - r.level + r.level ≡ a.height = omega arith in (
        omega (arith, row.inside, over.1),
        row.whole k over.0 over.1,
        ap (λ (s : Block). walk e s r.level k) (h.seeds r m.0 ∙ ap (λ (i : ℕ). walk e a.root (a.height - r.level) i) index)
            ∙ sym (walk-walk e a.root (a.height - r.level) r.level k)
            ∙ ap (λ (d : ℕ). walk e a.root d k) sum,
      )

  pub serves : Serves e a g
  serves k = by (row_over (rows_of g) k) refl
    where
      tree : Option (List ℕ)
      tree = tree_words e a.height a.root k

      none : a.numbers k ≡ false → None ≡ only a.numbers (tree_words e a.height a.root) k
      none f = sym (cond-false (a.numbers k) (tree_words e a.height a.root k) None f)

      past_end : (b : Bool) → 2 ^ a.height ≤ k → None ≡ cond b (tree_words e a.height a.root k) None
      past_end true l = sym (cond-false (ltb k (2 ^ a.height)) (Some (leaf_words e (walk e a.root a.height k))) None (le-ltb k (2 ^ a.height) l))
      past_end false l = refl

      by : (o : Option Row) → row_over (rows_of g) k ≡ o → words_from e (row_over (rows_of g) k) k ≡ only a.numbers (tree_words e a.height a.root) k
      by None u =
          ap (λ (o : Option Row). words_from e o k) u
          ∙ ⊎_elim
          (λ (l : k < 2 ^ a.height). none (sym (held-keys a.height a.numbers (nodes_of g) k h.rows l) ∙ under_none (rows_of g) k u))
          (λ (l : 2 ^ a.height ≤ k). past_end (a.numbers k) l)
          (cases_lt k (2 ^ a.height))
      by (Some r) u =
          let w = row_word k r u in
          let leaf = leaf_words e (walk e a.root a.height k) in
          ap (λ (o : Option Row). words_from e o k) u
          ∙ ap (λ (s : Block). Some (leaf_words e s)) w.2
          ∙ sym (cond-true (ltb k (2 ^ a.height)) (Some leaf) None (lt-ltb k (2 ^ a.height) w.0))
          ∙ sym (cond-true (a.numbers k) (tree_words e a.height a.root k) None w.1)

-- figures of the words
figured-only : {G : Type 0} (width : ℕ) (made : List ℕ → G) (b : Bool) (o : Option (List ℕ)) → figured width made (cond b o None) ≡ cond b (figured width made o) None
figured-only width made true o = refl
figured-only width made false o = refl

pub has-keys : {C G : Type 0} (e : Encrypted) (width : ℕ) (made : List ℕ → G) (a : Granted) (g : Grant C) (k : ℕ) → Serves e a g → grant_keys e width made g k ≡ granted_keys e width made a k
has-keys e width made a g k s = ap (figured width made) (s k) ∙ figured-only width made (a.numbers k) (tree_words e a.height a.root k)
