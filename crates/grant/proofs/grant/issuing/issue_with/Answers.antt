use Rattle.std.proofs.Common.{◌<◌, List, ◌++◌, length, refl, ◌∙◌, subst, arith}
use Rattle.std.proofs.lemmas.Bool.Decides.{nat_tests}
use Rattle.cover.specs.declared.node.Node.{Node}
use Rattle.cover.specs.Cut.{node, spans_rows}
use Rattle.cover.proofs.Steps.{passed_on}
use Rattle.grant.proofs.Filled.{from_empty}
use Rattle.grant.proofs.Issues.{span_fault, many_rows, low_rows, some-rows, made_sound, accepted}
use Rattle.grant.proofs.grant.issuing.issue_with.Goals as goal

pub returns-in_err-check_spans : goal.returns-in_err-check_spans
returns-in_err-check_spans g c =
    let t = c.args.tree.now in
    let ss = c.args.spans.now in
    let some : 0 < length ss = grind (arith, nat_tests) in
    rw (passed_on c.from_residual.ensures.1)
    (span_fault (length c.args.scratch.now) t.height.levels ss (c.in-Some.ensures.variant.0 refl) some c.if-spans-gt16.false g.C.Cipher.encrypted t.root c.args.grant.now _ c.in_err-check_spans.ensures)

pub returns-in_err-cut_spans : goal.returns-in_err-cut_spans
returns-in_err-cut_spans g c =
    let t = c.args.tree.now in
    let ss = c.args.spans.now in
    let some : 0 < length ss = grind (arith, nat_tests) in
    let w = c.in_err-cut_spans.ensures in
    rw (passed_on c.from_residual-in_err-cut_spans.ensures.1)
    (many_rows (length c.args.scratch.now) t.height.levels ss (c.in-Some.ensures.variant.0 refl) some c.if-spans-gt16.false c.in_ok-check_spans.ensures _ refl g.C.Cipher.encrypted t.root c.args.grant.now _ w.0 (subst (λ (b : List Node). 128 < length (b ++ spans_rows t.height.levels ss)) c.new-list.ensures w.1))

pub seed_rows-requires-clause-below : goal.seed_rows-requires-clause-below
seed_rows-requires-clause-below g c =
    let t = c.args.tree.now in
    let ss = c.args.spans.now in
    let some : 0 < length ss = grind (arith, nat_tests) in
    low_rows (length c.args.scratch.now) t.height.levels ss (c.in-Some.ensures.variant.0 refl) some c.if-spans-gt16.false c.in_ok-check_spans.ensures _ (c.as_slice-nodes.ensures.nodes ∙ from_empty c.new-list.ensures c.in_ok-cut_spans.ensures) (node 0 0)

pub invariant_of-grant-clause-some : goal.invariant_of-grant-clause-some
invariant_of-grant-clause-some g c =
    let t = c.args.tree.now in
    let ss = c.args.spans.now in
    let some : 0 < length ss = grind (arith, nat_tests) in
    some-rows (length c.args.scratch.now) t.height.levels ss (c.in-Some.ensures.variant.0 refl) some c.if-spans-gt16.false c.in_ok-check_spans.ensures _ (c.as_slice-nodes.ensures.nodes ∙ from_empty c.new-list.ensures c.in_ok-cut_spans.ensures)

pub invariant_of-grant-clause-sound : goal.invariant_of-grant-clause-sound
invariant_of-grant-clause-sound g c =
    let t = c.args.tree.now in
    let ss = c.args.spans.now in
    let some : 0 < length ss = grind (arith, nat_tests) in
    made_sound (length c.args.scratch.now) t.height.levels ss (c.in-Some.ensures.variant.0 refl) some c.if-spans-gt16.false c.in_ok-check_spans.ensures _ (c.as_slice-nodes.ensures.nodes ∙ from_empty c.new-list.ensures c.in_ok-cut_spans.ensures)
    g.C.Cipher.encrypted t.root _ c.seed_rows.new.rows c.seed_rows.ensures.made

pub returns : goal.returns
returns g c =
    let t = c.args.tree.now in
    let ss = c.args.spans.now in
    let some : 0 < length ss = grind (arith, nat_tests) in
    accepted (length c.args.scratch.now) t.height.levels ss (c.in-Some.ensures.variant.0 refl) some c.if-spans-gt16.false c.in_ok-check_spans.ensures _ (c.as_slice-nodes.ensures.nodes ∙ from_empty c.new-list.ensures c.in_ok-cut_spans.ensures)
    g.C.Cipher.encrypted t.root _ c.seed_rows.new.rows c.seed_rows.ensures.made c.args.grant.now _ refl refl c.as_slice-nodes.ensures.few
