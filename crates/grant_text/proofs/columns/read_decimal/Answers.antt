use Rattle.std.proofs.Common.{◌≡◌, ◌<◌, length, get_or, arith, rules}
use Rattle.grant_text.proofs.Figures.{read_more, read_stuck, read_done, not-empty, no_zero}
use Rattle.grant_text.proofs.columns.read_decimal.Goals as goal
use Rattle.grant_text.proofs.columns.read_decimal.Goals.{in_default, in_default-2}

pub returns-in-empty : goal.returns-in-empty
returns-in-empty c n small e = not-empty c.args.s.now n small e (omega (arith, c.in-empty.len_below))

pub returns-in-empty-2 : goal.returns-in-empty-2
returns-in-empty-2 c n small e = no_zero c.args.s.now n small e (search rules) (omega (arith, c.in-empty.len_at_least))

pub returns-in_err-n : goal.returns-in_err-n
returns-in_err-n c = rw c.from_residual.ensures (λ m small e. read_stuck c.args.s.now c.loop-b.b-index c.loop-b.n m (omega arith) c.loop-b.invariant.1 c.in_err-n.ensures small e)

pub loop-b-preserved : goal.loop-b-preserved
loop-b-preserved c =
    let inv = c.loop-b.invariant in
    let more = read_more c.args.s.now c.loop-b.b-index c.loop-b.n c.in_ok-n.n (omega arith) (inv.0, inv.1) c.in_ok-n.ensures in
    (more.0, more.1, search rules)

lone : (c : goal.After-loop-b) → (0 < length c.args.s.now) × (get_or c.args.s.now 0 0 ≡ 48 → length c.args.s.now ≡ 1)
lone c = elim c.if-s-lt2.branch [ in_default w ↦ (omega (arith, w.in_default.len_at_least), λ zero. omega (arith, w.in_default.len_at_least, w.in_default.len_below)) | in_default-2 w ↦ (omega (arith, w.in_default.len_at_least), λ zero. grind arith) ]

pub returns : goal.returns
returns c =
    let inv = c.loop-b.invariant in
    read_done c.args.s.now c.loop-b.b-index c.loop-b.n (omega arith) (inv.0, inv.1) inv.2 (lone c).0 (lone c).1
