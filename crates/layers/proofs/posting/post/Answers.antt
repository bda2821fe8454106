use Rattle.std.proofs.Common.{rules}
use Rattle.layers.proofs.Fitting.{post_continues, push_grows}
use Rattle.layers.proofs.posting.post.Goals as goal

pub returns-then-not-contains-clause-fits : goal.returns-then-not-contains-clause-fits
returns-then-not-contains-clause-fits g c = post_continues _ _ _ _ _ _ (search rules)

pub returns-then-j-capacity-clause-fits : goal.returns-then-j-capacity-clause-fits
returns-then-j-capacity-clause-fits g c = post_continues _ _ _ _ _ _ (search rules)

pub returns-in_err-hiding-clause-fits : goal.returns-in_err-hiding-clause-fits
returns-in_err-hiding-clause-fits g c = post_continues _ _ _ _ _ _ (search rules)

pub returns-in_err-hidden-clause-fits : goal.returns-in_err-hidden-clause-fits
returns-in_err-hidden-clause-fits g c = post_continues _ _ _ _ _ _ (search rules)

pub returns-clause-fits : goal.returns-clause-fits
returns-clause-fits g c = post_continues _ _ _ _ _ _ (search rules)

pub returns-clause-grows : goal.returns-clause-grows
returns-clause-grows g c = push_grows g.G.Group.kind _ _ c.in_ok-put.ensures.leaves
