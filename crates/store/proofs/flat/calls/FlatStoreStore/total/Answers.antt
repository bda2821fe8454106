use Rattle.std.proofs.Common.{◌≡◌, sym, ap, ◌∙◌}
use Rattle.group.specs.Kind.{sum}
use Rattle.store.proofs.Rows.{in_span, between-take}
use Rattle.store.proofs.flat.calls.FlatStoreStore.total.Goals as goal

pub returns-clause-figure : goal.returns-clause-figure
returns-clause-figure g c = λ s x is.
    let k = g.G.Group.kind in
    let store = c.args.self.now in
    let within = in_span store.used c.args.a c.args.b tt c.in_ok-check_span.field-0 c.in_ok-check_span.ensures in
    let same : x ≡ c.fold.result = cc in
    ap k.value same ∙ c.fold.ensures ∙ ap (sum k) (sym (between-take store.cells.now c.args.a c.args.b store.used within.0 within.1))
