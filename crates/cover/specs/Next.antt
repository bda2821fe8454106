-- Which node may stand as the next row of a grant. Assumes nothing.
use Rattle.std.specs.Prelude.{◌≡◌, ℕ, ◌-◌, ◌^◌, Bool, true, not, ◌&&◌, ◌↔◌, List, [], ◌∷◌, ◌++◌, Some, None, Option, nat_le, nat_lt}
use Rattle.refusal.specs.declared.Refusal.TheVariants.{RowPlace, RowOrder, RowHalves}
use Rattle.refusal.specs.Judged.{Rules, first}
use Rattle.cover.specs.declared.node.Node.{Node}
use Rattle.cover.specs.Heights.{height_rules}
use Rattle.cover.specs.Tree.{first_key, past, halves, sound}

-- Whether a node is one of the tree of this height.
abbrev pub in_tree : ℕ → Node → Bool
in_tree height n = nat_le n.level height && nat_lt n.index (2 ^ (height - n.level))

-- After another node: by 16 when it begins before that one ends, by 17 when the two are the halves of one node.
abbrev pub after_rules : Option Node → Node → Rules
after_rules None n = []
after_rules (Some m) n = (nat_lt (first_key n) (past m), RowOrder) ∷ (halves m n, RowHalves) ∷ []

-- By 15 when it lies outside the tree, and then by its place after the node before it, if there is one.
abbrev pub next_rules : ℕ → Option Node → Node → Rules
next_rules height before n = (not (in_tree height n), RowPlace) ∷ after_rules before n

-- The same with the height judged first, by 8.
abbrev pub check_rules : ℕ → Option Node → Node → Rules
check_rules height before n = height_rules height ++ next_rules height before n

-- Nodes one after the other.
abbrev pub list_rules : ℕ → Option Node → List Node → Rules
list_rules height before [] = []
list_rules height before (n ∷ ns) = next_rules height before n ++ list_rules height (Some n) ns

-- The last node, or the one before the list where it is empty.
abbrev pub last_of : Option Node → List Node → Option Node
last_of before [] = before
last_of before (n ∷ ns) = last_of (Some n) ns

-- Nodes of which no rule applies are in rising order inside the tree, with no two the halves of one node; and only such pass.
abbrev pub PassingIsSound : Type 0
PassingIsSound = (height : ℕ) (ns : List Node) → (first (list_rules height None ns) ≡ None) ↔ (sound height ns ≡ true)
