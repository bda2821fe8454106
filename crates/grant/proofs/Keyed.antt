-- The key of a row. Assumes nothing.
use Rattle.std.proofs.Common.{◌≡◌, ℕ, ◌+◌, ◌*◌, ◌^◌, ◌≤◌, List, Some, Option, sym, ap, arith}
use mathlib.Core.List.{Memᴰ}
use Rattle.std.proofs.lemmas.Bool.Decides.{nat_tests}
use Rattle.cipher.specs.declared.Block.{Block}
use Rattle.grant.specs.declared.grant.row.Row.{Row}
use Rattle.grant.specs.Seeds.{Encrypted, figured, figures, tree_keys}
use Rattle.grant.specs.Grants.{row_over, words_from, grant_words}
use Rattle.grant.specs.Filling.{row_key}
use Rattle.grant.proofs.Found.{under_member}

module _ {G : Type 0} (e : Encrypted) (width : ℕ) (made : List ℕ → G) (k : ℕ) where
  -- of the row over the key it is the key of all the rows
  pub found_key : (rs : List Row) (r : Row) → ((x : Row) → Memᴰ x rs → x.level ≤ 32) → row_over rs k ≡ Some r → row_key e width made r k ≡ figures width made (grant_words e rs) k
  found_key rs r low found =
      let under = under_member rs k r found in
      let here = low r under.0 in
      let stands = under.1 in
      let words = ap (λ (o : Option Row). figured width made (words_from e o k)) (sym found) in
      grind (arith, nat_tests)

  abbrev root : ℕ → Block → Row
  root height seed = record { level = height; index = 0; seed = seed }

  -- of a tree's root it is the key of the tree
  pub root_key : (height : ℕ) (seed : Block) → height ≤ 32 → row_key e width made (root height seed) k ≡ tree_keys e width made height seed k
  root_key height seed low =
      let first : 0 * 2 ^ height ≡ 0 = omega arith in
      let past : (0 + 1) * 2 ^ height ≡ 2 ^ height = omega arith in
      grind (arith, nat_tests)
