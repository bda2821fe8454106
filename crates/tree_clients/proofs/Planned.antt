-- A new tree, over enough cells and over too few. Assumes nothing.
use Rattle.std.proofs.Common.{◌≡◌, ℕ, ◌<◌, ◌≤◌, List, length}
use Rattle.std.proofs.lemmas.Bool.{lt-ltb, le-ltb, cond-true, cond-false}
use Rattle.tree_store.specs.Cells.{cleared}
use Rattle.tree_store.specs.Plans.{places}
use Rattle.tree_store.specs.Trees.{begun}
use Rattle.tree_store.specs.declared.planning.Plan.{Plan}

module _ (p : Plan) where
  pub enough : (count : ℕ) → p.cells ≤ count → places p count ≡ p.shape.capacity
  enough count h = cond-false _ _ _ (le-ltb count p.cells h)

  pub short : (count : ℕ) → count < p.cells → places p count ≡ 0
  short count h = cond-true _ _ _ (lt-ltb count p.cells h)

  pub begun-enough : {G : Type 0} (none : G) (cells : List G) → p.cells ≤ length cells → begun none p cells ≡ cleared none p.cells cells
  begun-enough none cells h = cond-false _ _ _ (le-ltb (length cells) p.cells h)

  pub begun-short : {G : Type 0} (none : G) (cells : List G) → length cells < p.cells → begun none p cells ≡ cells
  begun-short none cells h = cond-true _ _ _ (lt-ltb (length cells) p.cells h)
