use Rattle.std.proofs.Common.{◌≡◌, take}
use Rattle.grant.specs.Seeds.{leaf_words}
use Rattle.grant.proofs.descent.figure.Given as goal

abbrev pub invariant-loop-t : goal.invariant-loop-t
invariant-loop-t g l = take l.t l.word-items ≡ take l.t (leaf_words g.C.Cipher.encrypted l.seed)
