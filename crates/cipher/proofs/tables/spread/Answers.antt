use Rattle.std.proofs.Common.{ℕ, List, get_or, sym, ap, ◌∙◌, arith}
use lib.ListN.{get_or-map}
use Rattle.std.proofs.lemmas.List.FromFn.{get_or-map-range_with_len}
use Rattle.cipher.specs.Aes.{Column, bytes_of, column}
use Rattle.cipher.specs.Field.{sbox, sbox_rule}
use Rattle.cipher.specs.Tables.{spread_byte, spread_of}
use Rattle.cipher.proofs.tables.spread.Goals as goal

pub returns : goal.returns
unfolding column sbox spread_of
returns c =
    let x = c.args.x in
    ap (λ (i : ℕ). bytes_of (get_or c.spread_entries.result.now i 0)) c.from.ensures
    ∙ sym (get_or-map bytes_of c.spread_entries.result.now x 0)
    ∙ ap (λ (l : List Column). get_or l x (bytes_of 0)) c.spread_entries.ensures
    ∙ get_or-map-range_with_len (λ y. spread_byte (sbox_rule y)) 0 256 x x (bytes_of 0) (omega arith) (omega arith)
