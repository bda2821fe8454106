-- Rows that pass one after the other are sound, and sound rows pass. Assumes nothing.
use Rattle.std.proofs.Common.{◌≡◌, ℕ, ◌+◌, ◌-◌, ◌*◌, ◌^◌, ◌<◌, ◌≤◌, true, false, not, List, [], ◌∷◌, ◌++◌, Some, None, Option, sym, refl, ap, ◌∙◌, subst, ⊎_elim, arith, pow_pos, pow-add}
use mathlib.Core.List.{Memᴰ}
use lib.Pow.{pow-lt}
use Rattle.std.proofs.lemmas.Nat.{mul-le}
use Rattle.std.specs.List.{list_all}
use Rattle.std.proofs.lemmas.Bool.{cases_lt, le-leb, ltb-false, le-ltb, both_ways, and_parts, and_from, not_from_true, not_from_false, not-true, not-false}
use Rattle.refusal.specs.Judged.{first}
use Rattle.refusal.specs.Judged.{Rules}
use Rattle.refusal.proofs.Judging.{Clear, clear, unrefused, first_passes}
use Rattle.std.proofs.lemmas.List.{append_assoc, append-nil}
use Rattle.std.proofs.lemmas.Bool.Decides.{nat_tests}
use Rattle.cover.specs.declared.node.Node.{Node}
use Rattle.cover.specs.Tree.{first_key, past, Rising, halves, neighbours, rising, is_distinct, sound}
use Rattle.cover.specs.Next.{in_tree, next_rules, list_rules, last_of, PassingIsSound}
use Rattle.cover.proofs.Geometry.{first_past}
use Rattle.cover.proofs.Sound.{rising-from, to_rising, neighbours-sound, sound-cover}
use Rattle.cover.proofs.Covers.{le-cancel}

module _ (height : ℕ) (n : Node) where
  split : n.level ≤ height → 2 ^ (height - n.level) * 2 ^ n.level ≡ 2 ^ height
  split low = sym (pow-add 2 (height - n.level) n.level) ∙ ap (λ (x : ℕ). 2 ^ x) (let q : height - n.level + n.level ≡ height = omega arith in q)

  pub tree-low : in_tree height n ≡ true → n.level ≤ height
  tree-low e = grind (arith, nat_tests)

  pub tree-index : in_tree height n ≡ true → n.index < 2 ^ (height - n.level)
  tree-index e = grind (arith, nat_tests)

  pub tree-past : in_tree height n ≡ true → past n ≤ 2 ^ height
  tree-past e =
      let i = tree-index e in
      subst (λ (x : ℕ). past n ≤ x) (split (tree-low e)) (mul-le (n.index + 1) (2 ^ n.level) (2 ^ (height - n.level)) (2 ^ n.level) (omega arith) (omega arith))

  pub past-tree : n.level ≤ height → past n ≤ 2 ^ height → in_tree height n ≡ true
  past-tree low end =
      let up : (n.index + 1) * 2 ^ n.level ≤ 2 ^ (height - n.level) * 2 ^ n.level = subst (λ (x : ℕ). past n ≤ x) (sym (split low)) end in
      let few : n.index + 1 ≤ 2 ^ (height - n.level) = le-cancel (n.index + 1) (2 ^ (height - n.level)) (2 ^ n.level) (pow_pos n.level) up in
      grind (arith, nat_tests)

  -- a node that ends inside the tree is one of the tree
  pub ends-inside : past n ≤ 2 ^ height → in_tree height n ≡ true
  ends-inside end =
      let least = mul-le 1 (2 ^ n.level) (n.index + 1) (2 ^ n.level) (omega arith) (omega arith) in
      ⊎_elim
      (λ (h : height < n.level). absurd (omega (arith, pow-lt h)))
      (λ (h : n.level ≤ height). past-tree h end)
      (cases_lt height n.level)

  pub low_first : in_tree height n ≡ true → first_key n < 2 ^ height
  low_first e = omega (arith, first_past n, tree-past e)

-- a node outside the tree ends above each node of it
pub ends_above : (height : ℕ) (n m : Node) → in_tree height n ≡ true → in_tree height m ≡ false → first_key n < past m
ends_above height n m e f =
    ⊎_elim
    (λ (h : first_key n < past m). h)
    (λ (h : past m ≤ first_key n). absurd (both_ways (in_tree height m) f (ends-inside height m (omega (arith, low_first height n e)))))
    (cases_lt (first_key n) (past m))

module _ (height : ℕ) where
  pass_after : (m : Node) (ns : List Node) → past m ≤ 2 ^ height → Clear (list_rules height (Some m) ns) → Rising (past m) (2 ^ height) ns × (neighbours (m ∷ ns) ≡ true)
  pass_after m [] up c = (up, refl)
  pass_after m (n ∷ ns) up c =
      let rest = pass_after n ns (tree-past height n (not-false (in_tree height n) c.0)) c.1.1.1 in (
        (ltb-false (first_key n) (past m) c.1.0, rest.0),
        and_from (not (halves m n)) (neighbours (n ∷ ns)) (not_from_false (halves m n) c.1.1.0) rest.1,
      )

  passed : (ns : List Node) → Clear (list_rules height None ns) → sound height ns ≡ true
  passed [] c = neighbours-sound height [] (le-leb 0 (2 ^ height) (omega arith)) refl
  passed (n ∷ ns) c =
      let rest = pass_after n ns (tree-past height n (not-false (in_tree height n) c.0)) c.1 in
      neighbours-sound height (n ∷ ns) (to_rising 0 (2 ^ height) (n ∷ ns) (omega arith, rest.0)) rest.1

  back-after : (m : Node) (ns : List Node) → ((n : Node) → Memᴰ n ns → in_tree height n ≡ true) → Rising (past m) (2 ^ height) ns → is_distinct halves (m ∷ ns) ≡ true → Clear (list_rules height (Some m) ns)
  back-after m [] t r d = tt
  back-after m (n ∷ ns) t r d =
      let each = and_parts (list_all (λ y. not (halves m y)) (n ∷ ns)) (is_distinct halves (n ∷ ns)) d in
      let here = and_parts (not (halves m n)) (list_all (λ y. not (halves m y)) ns) each.0 in
      (not_from_true (in_tree height n) (t n (Memᴰ.head refl)), (le-ltb (first_key n) (past m) r.0, (not-true (halves m n) here.0, back-after n ns (λ k p. t k (Memᴰ.tail p)) r.1 each.1)))

  back : (ns : List Node) → ((n : Node) → Memᴰ n ns → in_tree height n ≡ true) → Rising 0 (2 ^ height) ns → is_distinct halves ns ≡ true → Clear (list_rules height None ns)
  back [] t r d = tt
  back (n ∷ ns) t r d = (not_from_true (in_tree height n) (t n (Memᴰ.head refl)), back-after n ns (λ k p. t k (Memᴰ.tail p)) r.1 d)

  pub sound-passes : (ns : List Node) → sound height ns ≡ true → Clear (list_rules height None ns)
  sound-passes ns e =
      let c = sound-cover height ns e in
      let h = and_parts (rising 0 (2 ^ height) ns) (is_distinct halves ns) e in
      back ns (λ n m. past-tree height n (c.row n m).low (c.row n m).inside) (rising-from 0 (2 ^ height) ns h.0) h.1

pub passing_is_sound : PassingIsSound
passing_is_sound height ns =
    (λ p. passed height ns (clear (list_rules height None ns) p), λ e. unrefused (list_rules height None ns) (sound-passes height ns e))

-- nodes after nodes
pub list_rules-append : (height : ℕ) (before : Option Node) (ns ms : List Node) → list_rules height before (ns ++ ms) ≡ list_rules height before ns ++ list_rules height (last_of before ns) ms
list_rules-append height before [] ms = refl
list_rules-append height before (n ∷ ns) ms =
    ap (λ (rs : Rules). next_rules height before n ++ rs) (list_rules-append height (Some n) ns ms)
    ∙ sym (append_assoc (next_rules height before n) (list_rules height (Some n) ns) (list_rules height (last_of (Some n) ns) ms))

-- one node more
pub list_rules-more : (height : ℕ) (before : Option Node) (ns : List Node) (n : Node) → list_rules height before (ns ++ (n ∷ [])) ≡ list_rules height before ns ++ next_rules height (last_of before ns) n
list_rules-more height before ns n =
    list_rules-append height before ns (n ∷ []) ∙ ap (λ (rs : Rules). list_rules height before ns ++ rs) (append-nil (next_rules height (last_of before ns) n))

pub sound_more : (height : ℕ) (ns : List Node) (n : Node) → sound height ns ≡ true → first (next_rules height (last_of None ns) n) ≡ None → sound height (ns ++ (n ∷ [])) ≡ true
sound_more height ns n e p =
    (passing_is_sound height (ns ++ (n ∷ []))).0
    (ap first (list_rules-more height None ns n) ∙ first_passes (list_rules height None ns) (next_rules height (last_of None ns) n) ((passing_is_sound height ns).1 e) ∙ p)
