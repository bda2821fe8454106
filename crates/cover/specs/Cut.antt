-- The cutting of a node by a span, and what it has to do with covers. Assumes nothing.
use Rattle.std.specs.Prelude.{ℕ, zero, suc, ◌+◌, ◌*◌, ◌^◌, Bool, cond, not, ◌&&◌, ◌||◌, List, [], ◌∷◌, ◌++◌, length, Result, MatchResult, ◌≡◌, ◌<◌, nat_le, nat_lt}
use Rattle.cover.specs.declared.node.Node.{Node}
use Rattle.cover.specs.declared.node.Span.{Span}
use Rattle.std.specs.List.{flat_map}
use Rattle.refusal.specs.declared.Refusal.{Refusal}
use Rattle.refusal.specs.declared.Refusal.TheVariants.{RowPlace, TooManyRows}
use Rattle.refusal.specs.Judged.{Rules}
use Rattle.cover.specs.Tree.{first_key, past, KeySet, Cover, Spaced, named, named_by, both}

abbrev pub node : ℕ → ℕ → Node
node level index = record { level = level; index = index }

abbrev pub outside : ℕ → ℕ → Node → Bool
outside from to n = nat_le to (first_key n) || nat_le (past n) from

abbrev pub within : ℕ → ℕ → Node → Bool
within from to n = nat_le from (first_key n) && nat_le (past n) to

-- A node apart from the span gives nothing, one within it gives itself, and another what its left half gives, then what its right half gives.
unfoldable pub cut : (from to level index : ℕ) → List Node
cut from to zero index = cond (outside from to (node 0 index)) [] (node 0 index ∷ [])
cut from to (suc level) index =
    cond (outside from to (node (suc level) index)) []
    (cond (within from to (node (suc level) index)) (node (suc level) index ∷ [])
    (cut from to level (2 * index) ++ cut from to level (2 * index + 1)))

-- Whether a node lies in a tree of the greatest height.
abbrev pub placed : Node → Bool
placed n = nat_le n.level 32 && nat_le (past n) (2 ^ 32)

-- When a cut refuses: by 15 when the node is in no tree, by 7 when there would be over 128 nodes.
abbrev pub cut_rules : Node → ℕ → Rules
cut_rules n rows = (not (placed n), RowPlace) ∷ (nat_lt 128 rows, TooManyRows) ∷ []

-- Nodes are added where there is room for all of them, and refused by 7 where the list would have over 128.
abbrev pub Adds : Result (Unit {0}) Refusal → List Node → List Node → List Node → Type 0
Adds answer before more after = MatchResult answer (λ _. after ≡ before ++ more) (λ why. (why ≡ TooManyRows) × (128 < length (before ++ more)))

-- The same for whatever says that there is no room.
abbrev pub Fills : {E : Type 0} → Result (Unit {0}) E → List Node → List Node → List Node → Type 0
Fills answer before more after = MatchResult answer (λ _. after ≡ before ++ more) (λ _. 128 < length (before ++ more))

-- What the root gives, cut by each span, and what each node gives, cut by one span.
abbrev pub spans_rows : ℕ → List Span → List Node
spans_rows height ss = flat_map (λ (s : Span). cut s.from s.to height 0) ss

abbrev pub left_rows : Span → List Node → List Node
left_rows s ns = flat_map (λ (n : Node). cut s.from s.to n.level n.index) ns

-- The root, cut by spaced spans, gives the cover of the keys that they name.
abbrev pub CutsCover : Type 0
CutsCover = (height : ℕ) (spans : List Span) → Spaced 0 (2 ^ height) spans → Cover height (named_by spans) (spans_rows height spans)

-- The nodes of a cover, cut by a span, give the cover of the keys in both.
abbrev pub CutsNarrow : Type 0
CutsNarrow =
    (height : ℕ) (keys : KeySet) (span : Span) (nodes : List Node) → Cover height keys nodes → Cover height (both keys (named span)) (left_rows span nodes)
