-- The nodes of a key tree, the keys under each, and the cover of a set of keys. Assumes nothing.
use Rattle.std.specs.Prelude.{◌≡◌, ℕ, ◌+◌, ◌*◌, ◌/◌, ◌^◌, ◌<◌, ◌≤◌, Bool, true, false, not, ◌&&◌, ◌||◌, ◌⊎◌, ◌↔◌, List, [], ◌∷◌, ◌==◌, nat_le, nat_lt}
use Rattle.std.specs.List.{list_all}
use mathlib.Core.List.{Memᴰ}
use Rattle.cover.specs.declared.node.Node.{Node}
use Rattle.cover.specs.declared.node.Span.{Span}

-- Node (level, index) stands over the keys from index · 2^level up to, not including, (index + 1) · 2^level.
abbrev pub first_key : Node → ℕ
first_key n = n.index * 2 ^ n.level

abbrev pub past : Node → ℕ
past n = (n.index + 1) * 2 ^ n.level

abbrev pub parent : Node → Node
parent n = record { level = n.level + 1; index = n.index / 2 }

-- A set of key numbers, by its test.
abbrev pub KeySet : Type 0
KeySet = ℕ → Bool

-- Each key under the node is in the set.
abbrev pub Whole : KeySet → Node → Type 0
Whole keys n = (k : ℕ) → first_key n ≤ k → k < past n → keys k ≡ true

-- A row of a set: a node of the tree that lies wholly in the set, and is the root or has a parent that does not.
pub record RowOf (height : ℕ) (keys : KeySet) (n : Node) : Type 0 where
  pub low : n.level ≤ height
  pub inside : past n ≤ 2 ^ height
  pub whole : Whole keys n
  pub top : (n.level ≡ height) ⊎ (Whole keys (parent n) → ⊥)

-- Each node begins where the one before ends, or later; all lie between two keys.
abbrev pub Rising : ℕ → ℕ → List Node → Type 0
Rising from to [] = from ≤ to
Rising from to (n ∷ ns) = (from ≤ first_key n) × Rising (past n) to ns

-- The cover of a set of keys in a tree of this height: the rows of the set, all of them, in rising order.
pub record Cover (height : ℕ) (keys : KeySet) (nodes : List Node) : Type 0 where
  pub rising : Rising 0 (2 ^ height) nodes
  pub row : (n : Node) → Memᴰ n nodes → RowOf height keys n
  pub all : (n : Node) → RowOf height keys n → Memᴰ n nodes

-- A span names the keys from its `from` up to, not including, its `to`.
abbrev pub named : Span → KeySet
named s k = nat_le s.from k && nat_lt k s.to

abbrev pub named_by : List Span → KeySet
named_by [] k = false
named_by (s ∷ ss) k = named s k || named_by ss k

abbrev pub both : KeySet → KeySet → KeySet
both a b k = a k && b k

-- Spans in rising order with a gap between each two, up to a limit: each is not empty, and begins above the end of the one before it.
abbrev pub Spaced : ℕ → ℕ → List Span → Type 0
Spaced from limit [] = Unit {0}
Spaced from limit (s ∷ ss) = (from ≤ s.from) × (s.from < s.to) × (s.to ≤ limit) × Spaced (s.to + 1) limit ss

-- The keys under a node, and those under a list of nodes.
abbrev pub stands : Node → KeySet
stands n k = nat_le (first_key n) k && nat_lt k (past n)

abbrev pub held : List Node → KeySet
held [] k = false
held (n ∷ ns) k = stands n k || held ns k

-- The same as a test: in rising order inside the tree, and no two of them are the halves of one node.
abbrev pub rising : ℕ → ℕ → List Node → Bool
rising from to [] = nat_le from to
rising from to (n ∷ ns) = nat_le from (first_key n) && rising (past n) to ns

abbrev pub halves : Node → Node → Bool
halves m n = m.level == n.level && m.index / 2 == n.index / 2

-- No element of the list is paired with a later one.
abbrev pub is_distinct : {K : Type 0} → (K → K → Bool) → List K → Bool
is_distinct pairs [] = true
is_distinct pairs (x ∷ xs) = list_all (λ y. not (pairs x y)) xs && is_distinct pairs xs

abbrev pub sound : ℕ → List Node → Bool
sound height ns = rising 0 (2 ^ height) ns && is_distinct halves ns

-- Every set of keys has a cover, and only one.
abbrev pub CoverIsOne : Type 0
CoverIsOne = (height : ℕ) (keys : KeySet) → (nodes : List Node) × Cover height keys nodes × ((others : List Node) → Cover height keys others → others ≡ nodes)

-- No node and the one before it are the halves of one node.
abbrev pub neighbours : List Node → Bool
neighbours [] = true
neighbours (n ∷ ns) = elim ns [ [] ↦ true | m ∷ ms ↦ not (halves n m) ] && neighbours ns

-- The cover is empty exactly when the tree has no key of the set.
abbrev pub NoRowsNoKeys : Type 0
NoRowsNoKeys =
    (height : ℕ) (keys : KeySet) (nodes : List Node) → Cover height keys nodes
    → ((nodes ≡ []) ↔ ((k : ℕ) → k < 2 ^ height → keys k ≡ false))
