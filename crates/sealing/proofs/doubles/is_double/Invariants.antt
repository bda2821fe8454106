use Rattle.sealing.proofs.Deciding.{Turn}
use Rattle.sealing.proofs.doubles.is_double.Given as goal

abbrev pub invariant-loop-i : goal.invariant-loop-i
invariant-loop-i g l =
    let at = l.i-iterator in
    Turn g.G.Group.kind (g.R.KeySource.keys l.reader) l.lines l.others at.count at.iter.a.rest.now at.iter.b.rest.now l.shift l.last
