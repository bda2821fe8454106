use Rattle.std.proofs.Common.{◌≡◌, ◌-◌, ◌++◌, length, take, drop, replicate, decimal, ap, ◌∙◌, arith, rules}
use Rattle.std.proofs.lemmas.List.{append-nil, drop_all, length-take}
use Rattle.grant_text.specs.Columns.{column}
use Rattle.grant_text.proofs.columns.write_column.Goals as goal

pub returns : goal.returns
unfolding column
returns c =
    let n = c.args.n in
    let out = c.args.out.now in
    let at = c.write_digits-start in
    let many : length (take at.result at.new.buf) ≡ length out - length (decimal n) = omega (arith, length-take at.result at.new.buf, at.auto.buf, at.ensures.start) in
    let blanks : c.fill.new.self ≡ replicate (length out - length (decimal n)) 32 = c.fill.ensures.after (search rules) ∙ ap (λ k. replicate k 32) many in
    let digits : drop at.result at.new.buf ≡ decimal n = at.ensures.written ∙ ap (λ l. decimal n ++ l) (drop_all (length out) out (omega arith)) ∙ append-nil (decimal n) in
    (λ i. blanks i ++ digits i)
