use Rattle.std.proofs.Common.{◌≡◌, map, length, take}
use Rattle.grant.specs.Rows.{BlankAfter}
use Rattle.grant.specs.Grants.{seeded_by}
use Rattle.grant.proofs.grant.seeding.seed_rows.Given as goal

abbrev pub invariant-loop-i : goal.invariant-loop-i
invariant-loop-i g l =
    (length l.rows ≡ 128) × BlankAfter l.i l.rows × (take l.i l.rows ≡ map (seeded_by (g.S.SeedSource.seed l.source)) (take l.i l.nodes))
