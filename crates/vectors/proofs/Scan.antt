-- A text cut at its newlines: its first line, and the tally of what follows.
-- Assumes nothing.
use Rattle.std.proofs.Common.{◌≡◌, ℕ, suc, ◌+◌, ◌≤◌, ◌<◌, true, false, cond, eqb, List, [], ◌∷◌, ◌++◌, length, Some, None, take, drop, not, ne_eqb, sym, ap, ◌∙◌, ap₂, arith, length-append, append-nil, append_assoc}
use Rattle.std.proofs.lemmas.Grind.{common_steps}
use Rattle.std.specs.List.{after_first, before_first, position, position_or_len}
use Rattle.vectors.specs.declared.lines.Tally.{Tally}
use Rattle.vectors.specs.declared.lines.Verdict.{Verdict}
use Rattle.vectors.specs.Lines.{counted, is_newline, tallied_from}

pub found : (xs : List ℕ) (i : ℕ) → Some i ≡ position is_newline xs → position_or_len is_newline xs ≡ i
found xs i e = grind (arith, common_steps)

pub missing : (xs : List ℕ) → None ≡ position is_newline xs → length xs ≤ position_or_len is_newline xs
missing xs e = grind (arith, common_steps)

module _ (judge : List ℕ → Verdict) where
  -- `line` was read of the first line
  counts : (line : List ℕ) (t : Tally) (xs : List ℕ) → 0 < length line + length xs
      → tallied_from judge line t xs ≡ tallied_from judge [] (counted t (judge (line ++ before_first is_newline xs))) (after_first is_newline xs)
  counts line t [] h =
      let some : length line ≡ 0 → ⊥ = λ z. omega (arith, h, z) in
      ap (λ b. cond b t (counted t (judge line))) (ne_eqb (length line) 0 some)
      ∙ ap (λ l. counted t (judge l)) (sym (append-nil line))
  counts line t (b ∷ xs) h =
      let n = position_or_len is_newline xs in
      elim (eqb b 10) as (λ v.
      cond v (tallied_from judge [] (counted t (judge line)) xs) (tallied_from judge (line ++ (b ∷ [])) t xs)
      ≡ tallied_from judge [] (counted t (judge (line ++ take (cond (not v) (1 + n) 0) (b ∷ xs)))) (drop (cond (not v) (1 + n) 0 + 1) (b ∷ xs))) [
        | true ↦ ap (λ l. tallied_from judge [] (counted t (judge l)) xs) (sym (append-nil line))
        | false ↦
            let more : length (line ++ (b ∷ [])) ≡ length line + 1 = length-append line (b ∷ []) in
            let taken : suc n ≡ 1 + n = omega arith in
            let dropped : suc (n + 1) ≡ 1 + n + 1 = omega arith in
            counts (line ++ (b ∷ [])) t xs (omega (arith, more))
            ∙ ap (λ l. tallied_from judge [] (counted t (judge l)) (drop (n + 1) xs)) (append_assoc line (b ∷ []) (take n xs))
            ∙ ap₂ (λ (i j : ℕ). tallied_from judge [] (counted t (judge (line ++ take i (b ∷ xs)))) (drop j (b ∷ xs))) taken dropped
      ]

  pub first_counts : (t : Tally) (xs : List ℕ) → eqb (length xs) 0 ≡ false
      → tallied_from judge [] t xs ≡ tallied_from judge [] (counted t (judge (before_first is_newline xs))) (after_first is_newline xs)
  first_counts t [] e = cc
  first_counts t (b ∷ xs) e = counts [] t (b ∷ xs) (omega arith)
