use Rattle.std.proofs.Common.{◌≡◌, ◌++◌, eqb, drop, replicate, sym, ◌∙◌, subst, rules, tests}
use Rattle.std.proofs.lemmas.Iterator.{YieldsList-from_slice}
use Rattle.std.proofs.lemmas.Iterator.Consumers.{count_from_yields_List}
use Rattle.std.proofs.lemmas.Iterator.Search.{YieldsList-from_take_while}
use Rattle.std.proofs.lemmas.List.Folds.{length-prefix_len}
use Rattle.grant_text.proofs.Figures.{blanks_first}
use Rattle.grant_text.proofs.columns.blanks.Goals as goal

pub returns-clause-blank : goal.returns-clause-blank
returns-clause-blank c =
    let s = c.args.s.now in
    let many = count_from_yields_List c.take_while.result _ c.count.ensures.ran (YieldsList-from_take_while _ (λ b. eqb b 32) (YieldsList-from_slice s cc) c.take_while.ensures.closure c.take_while.ensures.done (λ x b q k. search (rules, tests))) ∙ length-prefix_len (λ b. eqb b 32) s in
    subst (λ k. s ≡ replicate k 32 ++ drop k s) (sym many) (blanks_first s)
