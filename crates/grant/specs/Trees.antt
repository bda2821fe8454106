-- A key tree by its height and its root. Assumes nothing.
use Rattle.std.specs.Prelude.{ℕ, Ok, Err, Result}
use Rattle.refusal.specs.declared.Refusal.{Refusal}
use Rattle.cipher.specs.declared.Block.{Block}
use Rattle.grant.specs.declared.key_tree.KeyTree.{KeyTree}

-- The answer to the making of a tree, with the tree as its height and root.
abbrev pub tree_data : {C : Type 0} → Result (KeyTree C) Refusal → Result (ℕ × Block) Refusal
tree_data (Ok t) = Ok (t.height.levels, t.root)
tree_data (Err why) = Err why
