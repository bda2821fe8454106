use Rattle.std.proofs.Common.{◌≡◌, ◌-◌, length, option_map, ◌∙◌, rules}
use Rattle.std.specs.List.{slice_get}
use Rattle.grant.specs.Rows.{node_of}
use Rattle.grant.specs.Grants.{rows_of}
use Rattle.grant.proofs.Added.{last_row}
use Rattle.grant.proofs.grant.Grant.last_node.Goals as goal

pub returns : goal.returns
returns g c =
    let rows = rows_of c.args.self.now in
    let last : c.map.result ≡ option_map node_of (slice_get rows (length rows - 1)) = search rules in
    last ∙ last_row rows
