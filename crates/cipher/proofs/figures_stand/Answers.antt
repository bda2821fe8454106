use Rattle.std.proofs.Common.{◌≡◌, refl, ap, ◌∙◌}
use Rattle.cipher.specs.Aes.{aes, block_of_state, ciphered, column, diagonal, dot, mix_column, rot_sub, rounds, state_of_block, sub_column, word, xor_column}
use Rattle.cipher.specs.Field.{sbox}
use Rattle.cipher.specs.Figures.{pair, words}
use Rattle.cipher.specs.Speck.{keys, text}
use Rattle.cipher.specs.declared.Block.{Block}
use Rattle.cipher.proofs.Schedule.{steps, keys-steps}
use Rattle.cipher.proofs.figures_stand.Goals as goal

-- AES with each round key made from the one before it: antt would make each key word again at each use
by-steps : (key block : Block) → aes key block ≡ block_of_state (ciphered (steps (state_of_block key)) (state_of_block block))
unfolding aes
by-steps key block = λ i. block_of_state (ciphered (λ r. keys-steps (state_of_block key) r i) (state_of_block block))

aes-figure : aes (pair 0x0001020304050607 0x08090a0b0c0d0e0f) (pair 0x0011223344556677 0x8899aabbccddeeff)
    ≡ pair 0x69c4e0d86a7b0430 0xd8cdb78070b4c55a
unfolding block_of_state column diagonal dot mix_column rot_sub rounds sbox steps sub_column word xor_column
aes-figure = by-steps _ _ ∙ refl

-- antt computes the others
pub returns-clause-stand : goal.returns-clause-stand
unfolding keys sbox text
returns-clause-stand c = (ap words aes-figure, (refl, (refl, (refl, tt))))
