use Rattle.std.proofs.Common.{◌≡◌, ℕ, ◌^◌, ◌<◌, ◌≤◌, List, ◌∷◌, ◌++◌, length, get_or, take, drop, decimal, sym, ap, ◌∙◌, arith, rules}
use Rattle.std.proofs.lemmas.List.{drop_more}
use Rattle.grant_text.specs.Columns.{column}
use Rattle.grant_text.specs.Texts.{sizes}
use Rattle.grant_text.proofs.Cuts.{column_once, sizes_parts, sizes_front}
use Rattle.grant_text.proofs.heading.read_sizes.Goals as goal

-- What stands after each column of the sizes that was taken.
module _ (s : List ℕ) (h k : ℕ) (sh : h < 2 ^ 64) (sk : k < 2 ^ 64) (e : take 8 s ≡ sizes h k) (p : ℕ) (rest : List ℕ) (sp : p < 2 ^ 64) (got : (length (decimal p) ≤ 3) × (s ≡ column 3 p ++ rest)) where
  after_height : rest ≡ column 4 k ++ (10 ∷ drop 8 s)
  after_height = let parts = sizes_parts s h k e in (column_once 3 p h _ _ sp sh got.0 parts.0 (sym got.1 ∙ parts.2)).1

  after_count : (q : ℕ) (more : List ℕ) → q < 2 ^ 64 → (length (decimal q) ≤ 4) × (rest ≡ column 4 q ++ more) → more ≡ 10 ∷ drop 8 s
  after_count q more sq next = (column_once 4 q k _ _ sq sk next.0 (sizes_parts s h k e).1 (sym next.1 ∙ after_height)).1

pub returns-in_err-height : goal.returns-in_err-height
returns-in_err-height c =
    rw c.from_residual.ensures (λ h k sh sk e. let p = sizes_parts c.args.rest.now h k e in c.in_err-height.ensures h _ sh p.0 p.2)

pub returns-in_err-count : goal.returns-in_err-count
returns-in_err-count c =
    rw c.from_residual-in_err-count.ensures (λ h k sh sk e.
    c.in_err-count.ensures k _ sk (sizes_parts c.args.rest.now h k e).1 (after_height c.args.rest.now h k sh sk e c.in_ok-height.height _ (search rules) c.in_ok-height.ensures))

pub returns-in_default : goal.returns-in_default
returns-in_default c h k sh sk e =
    let is = after_count c.args.rest.now h k sh sk e c.in_ok-height.height _ (search rules) c.in_ok-height.ensures c.in_ok-count.count _ (search rules) c.in_ok-count.ensures in
    omega (arith, c.in_default.len_below, ap length is)

pub returns-in_default-2 : goal.returns-in_default-2
returns-in_default-2 c h k sh sk e =
    let is = after_count c.args.rest.now h k sh sk e c.in_ok-height.height _ (search rules) c.in_ok-height.ensures c.in_ok-count.count _ (search rules) c.in_ok-count.ensures in
    omega (arith, ap (λ l. get_or l 0 0) is)

pub returns-in-10 : goal.returns-in-10
returns-in-10 c =
    let got = c.in_ok-height.ensures in
    let next = c.in_ok-count.ensures in
    let rest = c.in_ok-count.rest.now in
    let newline : rest ≡ 10 ∷ drop 1 rest = drop_more rest 0 0 (omega (arith, c.in-10.len_at_least)) ∙ ap (λ b. b ∷ drop 1 rest) (search rules) in
    sizes_front c.args.rest.now (drop 1 rest) _ _ got.0 next.0 (got.1 ∙ ap (λ l. column 3 c.in_ok-height.height ++ l) (next.1 ∙ ap (λ l. column 4 c.in_ok-count.count ++ l) newline))
