-- Whether a node lies in a tree of the greatest height, and what its cutting answers. Assumes nothing.
use Rattle.std.proofs.Common.{◌≡◌, ℕ, ◌^◌, ◌<◌, ◌≤◌, true, false, List, ◌++◌, length, Ok, Err, ap, subst, ⊎_elim, arith, length-append}
use Rattle.std.proofs.lemmas.Bool.{cases_Bool, both_ways}
use Rattle.std.proofs.lemmas.Bool.Decides.{nat_tests}
use Rattle.refusal.specs.declared.Refusal.{Refusal}
use Rattle.refusal.specs.declared.Refusal.TheVariants.{RowPlace, TooManyRows}
use Rattle.refusal.specs.Judged.{judged}
use Rattle.cover.specs.declared.node.Node.{Node}
use Rattle.cover.specs.declared.node.Span.{Span}
use Rattle.cover.specs.Tree.{past}
use Rattle.cover.specs.Cut.{cut, placed, cut_rules}
use Rattle.cover.specs.Next.{in_tree}
use Rattle.cover.proofs.Passing.{tree-low, tree-past, past-tree}

pub placed_in : (n : Node) → n.level ≤ 32 → past n ≤ 2 ^ 32 → placed n ≡ true
placed_in n low h = grind (arith, nat_tests)

pub placed_tree : (n : Node) → in_tree 32 n ≡ true → placed n ≡ true
placed_tree n e = placed_in n (tree-low 32 n e) (tree-past 32 n e)

pub placed_nowhere : (n : Node) → in_tree 32 n ≡ false → placed n ≡ false
placed_nowhere n e = ⊎_elim (λ (h : placed n ≡ true). absurd (both_ways (in_tree 32 n) e (past-tree 32 n (parts h).0 (parts h).1))) (λ (h : placed n ≡ false). h) (cases_Bool (placed n))
  where
    parts : placed n ≡ true → (n.level ≤ 32) × (past n ≤ 2 ^ 32)
    parts h = grind (arith, nat_tests)

-- the answers
module _ (n : Node) (rows : ℕ) where
  pub out_of_place : placed n ≡ false → Err RowPlace ≡ judged (cut_rules n rows) (tt {0})
  out_of_place e = grind (arith, nat_tests)

  pub no_room : placed n ≡ true → 128 < rows → Err TooManyRows ≡ judged (cut_rules n rows) (tt {0})
  no_room e l = grind (arith, nat_tests)

  pub room : placed n ≡ true → rows ≤ 128 → Ok tt ≡ judged (cut_rules n rows) (tt {0})
  room e l = grind (arith, nat_tests)

  -- a node in place is refused for want of room alone
  full : (why : Refusal) → placed n ≡ true → Err why ≡ judged (cut_rules n rows) (tt {0}) → (why ≡ TooManyRows) × (128 < rows)
  full why e r = grind (arith, nat_tests)

-- and a list with too many nodes is not mended by what comes after
pub too_many : (s : Span) {m n : Node} (before rest all : List Node) {why : Refusal} → m ≡ n → n.level ≤ 32 → past n ≤ 2 ^ 32 → before ++ (cut s.from s.to n.level n.index ++ rest) ≡ all
    → Err why ≡ judged (cut_rules m (length (before ++ cut s.from s.to m.level m.index))) (tt {0}) → (why ≡ TooManyRows) × (128 < length all)
too_many s {m} {n} before rest all {why} is low inside e answers =
    let here = cut s.from s.to n.level n.index in
    let w = full n (length (before ++ here)) why (placed_in n low inside) (subst (λ (x : Node). Err why ≡ judged (cut_rules x (length (before ++ cut s.from s.to x.level x.index))) (tt {0})) is answers) in
    (w.0, omega (arith, w.1, ap length e, length-append before (here ++ rest), length-append here rest, length-append before here))
