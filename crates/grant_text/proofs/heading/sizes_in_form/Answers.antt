use Rattle.std.proofs.Common.{arith, rules}
use Rattle.grant_text.proofs.Cuts.{letters_cut, sizes-same}
use Rattle.grant_text.proofs.heading.sizes_in_form.Goals as goal
use Rattle.grant_text.proofs.heading.sizes_in_form.Goals.{then-not-contains-via-then-not-contains, then-not-contains-via-else-not-contains+then-not-contains-2}

pub returns-then-not-contains : goal.returns-then-not-contains
returns-then-not-contains c h k headed =
    let rest = c.in_ok-rest.rest.now in
    let size = headed.0 in
    let same = sizes-same rest c.in_ok-height.height c.in_ok-height.count h k (search rules) (search rules) (omega arith) (omega arith)
    c.in_ok-height.ensures (letters_cut c.args.text.now rest h k c.in_ok-rest.ensures headed.1) in
    elim c.then-not-contains.branch [
      | then-not-contains-via-then-not-contains w ↦ grind arith
      | then-not-contains-via-else-not-contains+then-not-contains-2 w ↦ grind arith
    ]
