use Rattle.std.proofs.Common.{◌≡◌, drop, Some}
use Rattle.vectors.specs.Hex.{number_from}
use Rattle.vectors.proofs.hex.read_word.Given as goal

abbrev pub invariant-loop-b : goal.invariant-loop-b
invariant-loop-b l = number_from (Some 0) l.text ≡ number_from (Some l.n) (drop l.b-index l.text)
