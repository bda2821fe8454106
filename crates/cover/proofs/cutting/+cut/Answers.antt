use Rattle.std.proofs.Common.{inl, inr, ⊎_elim, arith}
use Rattle.cover.specs.Listed.{listed}
use Rattle.cover.proofs.Cuts.{cut-partly}
use Rattle.cover.proofs.Steps.{passed_on, step-apart, step-whole, step_left, step_right}
use Rattle.cover.proofs.cutting.+cut.Goals as goal

pub returns-then-span-first-clause-added : goal.returns-then-span-first-clause-added
returns-then-span-first-clause-added t c =
    step-apart c.args.span.from c.args.span.to c.args.level c.args.index (listed c.args.rows.now) (⊎_elim (λ h. inl (omega arith)) (λ h. inr (omega arith)) c.then-span-first.either)

pub returns-then-past-span-2-clause-added : goal.returns-then-past-span-2-clause-added
returns-then-past-span-2-clause-added t c =
    step-whole c.push.result c.args.span.from c.args.span.to c.args.level c.args.index (listed c.args.rows.now) (listed c.push.new.self) (omega arith) (omega arith) c.push.ensures.added

pub cut-requires : goal.cut-requires
cut-requires t c =
    let h = cut-partly c.args.span.from c.args.span.to c.args.level c.args.index (omega arith) (omega arith) (λ p q. omega (arith, c.else-span-first-2.either)) in
    (omega arith, (omega arith, omega (arith, h.left_in)))

pub returns-in_err-cut-clause-added : goal.returns-in_err-cut-clause-added
returns-in_err-cut-clause-added t c =
    let s = c.args.span in
    let before = listed c.args.rows.now in
    let h = cut-partly s.from s.to c.args.level c.args.index (omega arith) (omega arith) (λ p q. omega (arith, c.else-span-first-2.either)) in
    let w = c.in_err-cut.ensures.added in
    rw (passed_on c.from_residual.ensures.1) (step_left s.from s.to c.args.level c.args.index before h w)

pub cut-requires-2 : goal.cut-requires-2
cut-requires-2 t c =
    let h = cut-partly c.args.span.from c.args.span.to c.args.level c.args.index (omega arith) (omega arith) (λ p q. omega (arith, c.else-span-first-2.either)) in
    (omega arith, (omega arith, omega (arith, h.right_in)))

pub returns-clause-added : goal.returns-clause-added
returns-clause-added t c =
    let s = c.args.span in
    let h = cut-partly s.from s.to c.args.level c.args.index (omega arith) (omega arith) (λ p q. omega (arith, c.else-span-first-2.either)) in
    step_right c.cut-2.result s.from s.to c.args.level c.args.index (listed c.args.rows.now) (listed c.cut.new.rows) (listed c.cut-2.new.rows) h c.in_ok-cut.ensures.added c.cut-2.ensures.added
