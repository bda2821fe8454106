use Rattle.std.proofs.Common.{◌≡◌, [], length}
use Rattle.vectors.specs.Lines.{empty, tallied_from, verdict}
use Rattle.vectors.proofs.lines.tally_of.Given as goal

abbrev pub invariant-loop-rest : goal.invariant-loop-rest
invariant-loop-rest g l =
    tallied_from (verdict g.C.Cipher.encrypted) [] empty l.text ≡ tallied_from (verdict g.C.Cipher.encrypted) [] l.tally l.rest

abbrev pub decreases-loop-rest : goal.decreases-loop-rest
decreases-loop-rest g l = length l.rest
