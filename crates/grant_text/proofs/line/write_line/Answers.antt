use Rattle.std.proofs.Common.{◌++◌, ap, ◌∙◌, arith}
use Rattle.grant_text.specs.Columns.{column}
use Rattle.grant_text.specs.Texts.{row_line}
use Rattle.grant_text.proofs.Widths.{wide, last_byte}
use Rattle.grant_text.proofs.line.write_line.Goals as goal

pub returns-clause-is : goal.returns-clause-is
unfolding row_line
returns-clause-is c =
    let level = wide 3 c.from.result _ _ c.split_at_mut-level.ensures.front_len c.write_column.ensures ∙ ap (column 3) c.from.ensures in
    let index = wide 11 c.args.row.index _ _ c.split_at_mut-index.ensures.front_len c.write_column-2.ensures in
    let high = wide 21 c.args.row.seed.high _ _ c.split_at_mut-high.ensures.front_len c.write_column-3.ensures in
    let low = wide 21 c.args.row.seed.low _ _ c.split_at_mut-low.ensures.front_len c.write_column-4.ensures in
    let end = last_byte c.split_at_mut-low.result.1.now 10 (omega (arith, c.requires.long, c.split_at_mut-level.ensures.back_len, c.split_at_mut-index.ensures.back_len, c.split_at_mut-high.ensures.back_len, c.split_at_mut-low.ensures.back_len)) in
    λ i. level i ++ (index i ++ (high i ++ (low i ++ end i)))
