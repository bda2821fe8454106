use Rattle.std.proofs.Common.{◌≡◌, ◌-◌, ◌/◌, ◌^◌}
use Rattle.grant.specs.Seeds.{walk}
use Rattle.grant.proofs.descent.leaf.Given as goal

abbrev pub invariant-loop-d : goal.invariant-loop-d
invariant-loop-d g l = l.at ≡ walk g.C.Cipher.encrypted l.initial.at (l.depth - l.d) (l.index / 2 ^ l.d)
