use Rattle.std.proofs.Common.{◌≡◌, get_or, ◌∙◌, arith, length-set}
use Rattle.cover.specs.Cut.{node}
use Rattle.grant.specs.declared.grant.row.Row.{Row}
use Rattle.grant.specs.Rows.{zero_row}
use Rattle.grant.specs.Grants.{seeded_by}
use Rattle.grant.proofs.Filled.{fill_one, behind_one}
use Rattle.grant.proofs.grant.seeding.seed_rows.Goals as goal

pub loop-i-preserved : goal.loop-i-preserved
loop-i-preserved g c =
    let f = seeded_by (g.S.SeedSource.seed c.args.source.now) in
    let rows = c.loop-i.rows in
    let i = c.loop-i.i in
    let n = get_or c.args.nodes.now i (node 0 0) in
    let row : Row = record { level = n.level; index = n.index; seed = c.seed.result } in
    let same : row ≡ f n = λ j. record { level = n.level; index = n.index; seed = c.seed.ensures j } in
    let inv = c.loop-i.invariant in
    (length-set rows i row ∙ inv.0, behind_one rows i row zero_row inv.1, fill_one f c.args.nodes.now (node 0 0) rows i row (omega arith) (omega arith) inv.2 same)
