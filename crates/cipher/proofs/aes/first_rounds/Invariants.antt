use Rattle.std.proofs.Common.{◌≡◌}
use Rattle.cipher.specs.Aes.{rounds, round_key}
use Rattle.cipher.specs.AesWords.{state_of_words}
use Rattle.cipher.proofs.aes.first_rounds.Given as goal

abbrev pub invariant-loop-constant : goal.invariant-loop-constant
invariant-loop-constant l =
    (state_of_words l.current ≡ round_key (state_of_words l.initial.current) l.constant-index)
    × (state_of_words l.state ≡ rounds (round_key (state_of_words l.initial.current)) (state_of_words l.initial.state) l.constant-index)
