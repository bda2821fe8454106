use Rattle.std.proofs.Common.{◌≡◌, ℕ, ◌^◌, ◌<◌, ◌≤◌, List, [], ◌∷◌, ◌++◌, length, decimal, refl, sym, ◌∙◌, arith, rules}
use Rattle.grant.specs.declared.grant.row.Row.{Row}
use Rattle.grant_text.specs.Columns.{column}
use Rattle.grant_text.specs.Texts.{row_line}
use Rattle.grant_text.specs.Readings.{FitsLine}
use Rattle.grant_text.proofs.Cuts.{column_once}
use Rattle.grant_text.proofs.Widths.{digits-fit, fits_3, fits_11, fits_21}
use Rattle.grant_text.proofs.line.read_line.Goals as goal

-- What stands after each column of a row's line that was taken.
module _ (s : List ℕ) (x : Row) (fits : FitsLine x) (e : s ≡ row_line x) (level : ℕ) (a : List ℕ) (small : level < 2 ^ 64) (got : (length (decimal level) ≤ 3) × (s ≡ column 3 level ++ a)) where
  after_level : a ≡ column 11 x.index ++ (column 21 x.seed.high ++ (column 21 x.seed.low ++ (10 ∷ [])))
  unfolding row_line
  after_level = (column_once 3 level x.level _ _ small (omega (arith, fits.0)) got.0 (fits_3 _ fits.0) (sym got.1 ∙ e)).1

  module _ (index : ℕ) (b : List ℕ) (small' : index < 2 ^ 64) (got' : (length (decimal index) ≤ 11) × (a ≡ column 11 index ++ b)) where
    after_index : b ≡ column 21 x.seed.high ++ (column 21 x.seed.low ++ (10 ∷ []))
    after_index = (column_once 11 index x.index _ _ small' (omega (arith, fits.1)) got'.0 (fits_11 _ fits.1) (sym got'.1 ∙ after_level)).1

    module _ (high : ℕ) (d : List ℕ) (small'' : high < 2 ^ 64) (got'' : (length (decimal high) ≤ 21) × (b ≡ column 21 high ++ d)) where
      after_high : d ≡ column 21 x.seed.low ++ (10 ∷ [])
      after_high = (column_once 21 high x.seed.high _ _ small'' fits.2 got''.0 (fits_21 _ fits.2) (sym got''.1 ∙ after_index)).1

      after_low : (low : ℕ) (end : List ℕ) → low < 2 ^ 64 → (length (decimal low) ≤ 21) × (d ≡ column 21 low ++ end) → end ≡ 10 ∷ []
      after_low low end under last = (column_once 21 low x.seed.low _ _ under fits.3 last.0 (fits_21 _ fits.3) (sym last.1 ∙ after_high)).1

pub returns-in_err-level : goal.returns-in_err-level
unfolding row_line
returns-in_err-level c =
    rw c.from_residual.ensures (λ x fits e. c.in_err-level.ensures x.level _ (omega (arith, fits.0)) (fits_3 _ fits.0) e)

pub returns-in_err-index : goal.returns-in_err-index
returns-in_err-index c =
    rw c.from_residual-in_err-index.ensures (λ x fits e.
    c.in_err-index.ensures x.index _ (omega (arith, fits.1)) (fits_11 _ fits.1)
    (after_level c.args.s.now x fits e c.in_ok-level.level _ (search rules) c.in_ok-level.ensures))

pub returns-in_err-high : goal.returns-in_err-high
returns-in_err-high c =
    rw c.from_residual-in_err-high.ensures (λ x fits e.
    c.in_err-high.ensures x.seed.high _ fits.2 (fits_21 _ fits.2)
    (after_index c.args.s.now x fits e c.in_ok-level.level _ (search rules) c.in_ok-level.ensures c.in_ok-index.index _ (search rules) c.in_ok-index.ensures))

pub returns-in_err-low : goal.returns-in_err-low
returns-in_err-low c =
    rw c.from_residual-in_err-low.ensures (λ x fits e.
    c.in_err-low.ensures x.seed.low _ fits.3 (fits_21 _ fits.3)
    (after_high c.args.s.now x fits e c.in_ok-level.level _ (search rules) c.in_ok-level.ensures c.in_ok-index.index _ (search rules) c.in_ok-index.ensures c.in_ok-high.high _ (search rules) c.in_ok-high.ensures))

pub overflow_cast-result : goal.overflow_cast-result
overflow_cast-result c =
    let small = digits-fit 3 c.in_ok-level.level (search rules) c.in_ok-level.ensures.0 in
    search rules

pub returns-then-ne : goal.returns-then-ne
returns-then-ne c x fits e =
    let end : c.in_ok-low.end.now ≡ 10 ∷ [] = after_low c.args.s.now x fits e c.in_ok-level.level _ (search rules) c.in_ok-level.ensures c.in_ok-index.index _ (search rules) c.in_ok-index.ensures c.in_ok-high.high _ (search rules) c.in_ok-high.ensures c.in_ok-low.low _ (search rules) c.in_ok-low.ensures in
    search rules

pub returns : goal.returns
unfolding row_line
returns c =
    let end : c.in_ok-low.end.now ≡ 10 ∷ [] = search rules in
    let level = c.in_ok-level.ensures in
    let index = c.in_ok-index.ensures in
    let high = c.in_ok-high.ensures in
    let low = c.in_ok-low.ensures in (
      (digits-fit 3 _ (search rules) level.0, digits-fit 11 _ (search rules) index.0, search rules, search rules),
      rw (level.1, index.1, high.1, low.1, end) refl,
    )
