use Rattle.std.proofs.Common.{rules}
use Rattle.sealing.proofs.Runs.{append_continues}
use Rattle.sealing.proofs.epoch.Running.append.Goals as goal

pub returns-then-n-capacity-clause-faithful : goal.returns-then-n-capacity-clause-faithful
returns-then-n-capacity-clause-faithful g c = append_continues _ _ _ _ _ _ (search rules) (λ s. s)

pub returns-in_err-before-clause-faithful : goal.returns-in_err-before-clause-faithful
returns-in_err-before-clause-faithful g c = append_continues _ _ _ _ _ _ (search rules) (λ s. s)

pub returns-in_err-after-clause-faithful : goal.returns-in_err-after-clause-faithful
returns-in_err-after-clause-faithful g c = append_continues _ _ _ _ _ _ (search rules) (λ s. s)

pub returns-clause-faithful : goal.returns-clause-faithful
returns-clause-faithful g c = append_continues _ _ _ _ _ _ (search rules) c.in_ok-put.ensures.keeps
