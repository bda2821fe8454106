use Rattle.std.proofs.Common.{sym, ◌∙◌}
use Rattle.std.proofs.lemmas.List.{take_rest}
use Rattle.grant_text.proofs.Figures.{column-from, column-split, some_weaker}
use Rattle.grant_text.proofs.columns.read_column.Goals as goal

pub returns : goal.returns
returns c =
    let s = c.args.s.now in
    let b = c.blanks.result in
    let front = c.blanks.ensures.blank in
    some_weaker c.read_decimal.result _ _ _ _
    (λ none n small e. none n small (take_rest s b ∙ column-split s b n small front c.blanks.ensures.stops e))
    (λ n digits. column-from s b n c.blanks.ensures.within front (sym (take_rest s b) ∙ digits))
    c.read_decimal.ensures
