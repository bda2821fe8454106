-- What the cells of a tree hold: fan-out k, over a lowest level of `most` cells. Assumes nothing.
use Rattle.std.specs.Prelude.{◌≡◌, ℕ, zero, suc, ◌+◌, ◌*◌, ◌/◌, ◌^◌, ◌<◌, ◌≢◌, List, ◌++◌, length, get_or, drop, replicate, slice_index_or, slice_set}
use Rattle.group.specs.Kind.{Kind, sum}
use Rattle.store.specs.Contents.{between}
use Rattle.tree_store.specs.Levels.{level_width, level_start}

-- Cell j of level l stands for figures j·k^l up to, not including, (j+1)·k^l.
abbrev pub block : {G : Type 0} → ℕ → ℕ → ℕ → List G → List G
block k l j figures = between (j * k ^ l) ((j + 1) * k ^ l) figures

-- Every cell of each level holds the sum of its block of the figures.
abbrev pub Holds : {G V : Type 0} → Kind G V → ℕ → ℕ → ℕ → List G → List G → Type 0
Holds kind k most levels figures cells =
    (l j : ℕ) → l < levels → j < level_width k most l → kind.value (slice_index_or cells (level_start k most l + j) kind.zero) ≡ sum kind (block k l j figures)

-- The cell of level l that figure n is in.
abbrev pub place : ℕ → ℕ → ℕ → ℕ → ℕ
place k most n l = level_start k most l + n / k ^ l

-- The cells once figure x, of number n, is in one cell of each level from 0 to l.
abbrev pub raised : {G V : Type 0} → Kind G V → ℕ → ℕ → ℕ → G → List G → ℕ → List G
raised kind k most n x cells zero = slice_set cells n x
raised kind k most n x cells (suc l) =
    slice_set (raised kind k most n x cells l) (place k most n (suc l)) (kind.plus (slice_index_or (raised kind k most n x cells l) (place k most n (suc l)) kind.zero) x)

-- Figure x, of number n, was written to its cell of the lowest level and added to one cell of each level above; no other cell changed.
pub record Entered {G V : Type 0} (kind : Kind G V) (k most levels n : ℕ) (x : G) (before after : List G) : Type 0 where
  pub long : length after ≡ length before
  pub lowest : get_or after n kind.zero ≡ x
  pub above : (l : ℕ) → 0 < l → l < levels → slice_index_or after (place k most n l) kind.zero ≡ kind.plus (slice_index_or before (place k most n l) kind.zero) x
  pub others : (p : ℕ) → ((l : ℕ) → l < levels → p ≢ place k most n l) → slice_index_or after p kind.zero ≡ slice_index_or before p kind.zero

-- The first cells set to zero, the others as they were.
abbrev pub cleared : {G : Type 0} → G → ℕ → List G → List G
cleared none count cells = replicate count none ++ drop count cells
