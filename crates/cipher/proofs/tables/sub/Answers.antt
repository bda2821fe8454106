use Rattle.std.proofs.Common.{ℕ, List, get_or, ap, ◌∙◌, arith}
use Rattle.std.proofs.lemmas.List.FromFn.{get_or-map-range_with_len}
use Rattle.cipher.specs.Field.{sbox, sbox_rule}
use Rattle.cipher.proofs.tables.sub.Goals as goal

pub returns : goal.returns
unfolding sbox
returns c =
    let x = c.args.x in
    ap (λ (i : ℕ). get_or c.sbox_entries.result.now i 0) c.from.ensures
    ∙ ap (λ (l : List ℕ). get_or l x 0) c.sbox_entries.ensures
    ∙ get_or-map-range_with_len sbox_rule 0 256 x x 0 (omega arith) (omega arith)
