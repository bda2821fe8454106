-- Grants made row by row, and the key that a single row gives. Assumes nothing.
use Rattle.std.specs.Prelude.{ℕ, Bool, cond, ◌&&◌, List, [], ◌∷◌, ◌++◌, length, take, Some, None, Ok, Err, Result, nat_le}
use Rattle.refusal.specs.declared.Refusal.{Refusal}
use Rattle.refusal.specs.declared.Refusal.TheVariants.{TooManyRows}
use Rattle.refusal.specs.Judged.{Rules}
use Rattle.cover.specs.Tree.{stands}
use Rattle.cover.specs.Next.{next_rules, last_of}
use Rattle.source.specs.Sources.{Keys}
use Rattle.grant.specs.declared.grant.row.Row.{Row}
use Rattle.grant.specs.declared.grant.Grant.{Grant}
use Rattle.grant.specs.Seeds.{Encrypted, walk, leaf_words}
use Rattle.grant.specs.Rows.{node_of}
use Rattle.grant.specs.Grants.{rows_of, nodes_of}

-- The answer to the making of a grant, with the grant as its height and rows.
abbrev pub grant_data : {C : Type 0} → Result (Grant C) Refusal → Result (ℕ × List Row) Refusal
grant_data (Ok g) = Ok (g.height.levels, rows_of g)
grant_data (Err why) = Err why

-- When a row more is refused: by its place in the tree and after the last row, and then by 7 when there are 128 rows.
abbrev pub add_rules : {C : Type 0} → Grant C → Row → Rules
add_rules g row = next_rules g.height.levels (last_of None (nodes_of g)) (node_of row) ++ ((nat_le 128 (length (rows_of g)), TooManyRows) ∷ [])

-- Whether a row is one of some tree and stands over the key.
abbrev pub over : ℕ → Row → Bool
over k row = nat_le row.level 32 && stands (node_of row) k

-- The key that a row gives, where it is a row of some tree and stands over the key.
abbrev pub row_key : {G : Type 0} → Encrypted → ℕ → (List ℕ → G) → Row → Keys G
row_key e width made row k =
    cond (over k row) (Some (made (take width (leaf_words e (walk e row.seed row.level k))))) None
