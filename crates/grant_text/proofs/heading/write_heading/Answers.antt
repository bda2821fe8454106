use Rattle.std.proofs.Common.{◌++◌, ap, ◌∙◌, arith}
use Rattle.grant_text.specs.Columns.{column}
use Rattle.grant_text.specs.Texts.{sizes}
use Rattle.grant_text.proofs.Widths.{wide, last_byte}
use Rattle.grant_text.proofs.heading.write_heading.Goals as goal

pub returns : goal.returns
unfolding sizes
returns c =
    let letters = c.copy_from_slice.ensures.after in
    let height = wide 3 c.from.result _ _ c.split_at_mut-height.ensures.front_len c.write_column.ensures ∙ ap (column 3) c.from.ensures in
    let count = wide 4 c.args.sizes.count _ _ c.split_at_mut-count.ensures.front_len c.write_column-2.ensures in
    let end = last_byte c.split_at_mut-count.result.1.now 10 (omega (arith, c.requires.long, c.split_at_mut-letters.ensures.back_len, c.split_at_mut-height.ensures.back_len, c.split_at_mut-count.ensures.back_len)) in
    λ i. letters i ++ (height i ++ (count i ++ end i))
