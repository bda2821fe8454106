-- What one issue does, and one narrow. Assumes nothing.
use Rattle.std.specs.Prelude.{◌≡◌, ℕ, ◌-◌, ◌≤◌, true, List, length, Ok, Err}
use mathlib.Core.List.{Memᴰ}
use Rattle.refusal.specs.declared.Refusal.{Refusal}
use Rattle.refusal.specs.Judged.{judged}
use Rattle.cover.specs.declared.node.Node.{Node}
use Rattle.cover.specs.declared.node.Span.{Span}
use Rattle.cover.specs.Tree.{first_key, stands, Cover, named, named_by, both}
use Rattle.cipher.specs.declared.Block.{Block}
use Rattle.grant.specs.declared.grant.row.Row.{Row}
use Rattle.grant.specs.declared.grant.Grant.{Grant}
use Rattle.grant.specs.Seeds.{Encrypted, walk}
use Rattle.grant.specs.Rows.{node_of}
use Rattle.grant.specs.Rules.{Answer, issue_rules, narrow_rules}
use Rattle.grant.specs.Grants.{rows_of, nodes_of, numbers_of, Granted, Holds}

-- What an accepted issue grants: the keys that its spans name, of its tree.
abbrev pub issued_keys : ℕ → Block → List Span → Granted
issued_keys height root spans = record { height = height; root = root; numbers = named_by spans }

-- The row lies under a row of the list, and its seed comes from that row's.
abbrev pub ComesFrom : Encrypted → List Row → Row → Type 0
ComesFrom e rows x =
    (y : Row) × Memᴰ y rows × (stands (node_of y) (first_key (node_of x)) ≡ true) × (x.level ≤ y.level)
    × (x.seed ≡ walk e y.seed (y.level - x.level) x.index)

-- An issue with so many words of scratch is judged by its rules, with the cover of the keys that its spans name. An accepted one
-- leaves the grant that cover with the tree's seeds, a refused one leaves the grant as it was.
pub record Issues {C : Type 0} (e : Encrypted) (height : ℕ) (root : Block) (spans : List Span) (words : ℕ) (before : Grant C) (answer : Answer) (after : Grant C) : Type 0 where
  pub answers : (rows : List Node) → Cover height (named_by spans) rows → answer ≡ judged (issue_rules words height spans (length rows)) tt
  pub holds : answer ≡ Ok tt → Holds e (issued_keys height root spans) after
  pub kept : (why : Refusal) → answer ≡ Err why → after ≡ before

-- A narrow of any grant is judged by its rules, with the cover of the keys that are under the grant's rows and in the span. An accepted
-- one leaves that cover, each row with its seed from the row above it; a refused one leaves the grant as it was.
pub record Narrows {C : Type 0} (e : Encrypted) (span : Span) (words : ℕ) (before : Grant C) (answer : Answer) (after : Grant C) : Type 0 where
  pub answers : (rows : List Node) → Cover before.height.levels (both (numbers_of before) (named span)) rows → answer ≡ judged (narrow_rules words before.height.levels span (length rows)) tt
  pub height : answer ≡ Ok tt → after.height.levels ≡ before.height.levels
  pub rows : answer ≡ Ok tt → Cover before.height.levels (both (numbers_of before) (named span)) (nodes_of after)
  pub seeds : answer ≡ Ok tt → (x : Row) → Memᴰ x (rows_of after) → ComesFrom e (rows_of before) x
  pub kept : (why : Refusal) → answer ≡ Err why → after ≡ before
