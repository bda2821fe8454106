use Rattle.std.proofs.Common.{◌≤◌, length, sym, arith, length-take-le}
use Rattle.vectors.proofs.lines.read_vector.Goals as goal

pub slice_bounds-read_block-end : goal.slice_bounds-read_block-end
slice_bounds-read_block-end c =
    let within : 32 ≤ length c.args.line.now = omega arith in
    sym (length-take-le 32 c.args.line.now within)
