use Rattle.std.proofs.Common.{◌++◌, length, take, ap, ◌∙◌, sym, arith}
use Rattle.std.proofs.lemmas.List.{length-append, take-append-drop, take_at}
use Rattle.grant_text.specs.Columns.{column}
use Rattle.grant_text.proofs.Figures.{length-column, length-column-le}
use Rattle.grant_text.proofs.Widths.{column-room, wide}
use Rattle.grant_text.proofs.columns.take_column.Goals as goal

pub returns-in_err-front : goal.returns-in_err-front
returns-in_err-front c =
    rw c.from_residual.ensures (λ n rest small room e. omega (arith, c.in_err-front.ensures.cases, ap length e, length-append (column c.args.width n) rest, length-column-le c.args.width n))

pub returns-in_err-n : goal.returns-in_err-n
returns-in_err-n c =
    let w = c.args.width in
    let split = c.in_ok-front.ensures.cases in
    rw c.from_residual-in_err-n.ensures (λ n rest small room e. c.in_err-n.ensures n small (split.1 ∙ ap (take w) e ∙ take_at (column w n) rest w (length-column w n room) ∙ ap (λ k. column k n) (sym split.3)))

pub returns : goal.returns
returns c =
    let w = c.args.width in
    let s = c.args.s.now in
    let split = c.in_ok-front.ensures.cases in
    let front = wide w c.in_ok-n.n _ _ split.3 c.in_ok-n.ensures in
    (column-room w c.in_ok-n.n (ap length (sym front) ∙ split.3), sym (take-append-drop w s) ∙ (λ i. (sym split.1 ∙ front) i ++ sym split.2 i))
