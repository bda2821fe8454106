use Rattle.std.proofs.Common.{◌≡◌, ◌-◌, ◌/◌, ◌^◌}
use Rattle.grant.specs.Seeds.{walk, seed_in}
use Rattle.grant.proofs.descent.descend.Given as goal

abbrev pub invariant-loop-d : goal.invariant-loop-d
invariant-loop-d g l = seed_in l.path l.d ≡ walk g.C.Cipher.encrypted (seed_in l.initial.path l.depth) (l.depth - l.d) (l.index / 2 ^ l.d)
