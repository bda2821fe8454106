use Rattle.std.proofs.Common.{◌≡◌, ◌<◌, ◌≤◌, length, drop, sym, ap, ◌∙◌, subst, ⊎_elim, rules}
use Rattle.std.proofs.lemmas.Bool.{cases_lt}
use Rattle.tree_store.proofs.Shapes.{plan_cells}
use Rattle.tree_clients.specs.Puts.{top}
use Rattle.tree_clients.proofs.Planned.{short, begun-enough, begun-short}
use Rattle.tree_clients.proofs.Putting.{cleared-beyond}
use Rattle.tree_clients.proofs.puts.fill.Goals as goal

pub returns-clause-beyond : goal.returns-clause-beyond
returns-clause-beyond g c =
    let kind = g.G.Group.kind in
    let p = c.args.plan in
    let cells = c.args.cells.now in
    let s0 = c.new-store.result in
    let s1 = c.put_all.new.store in
    let new = c.new-store.ensures in
    let all = c.put_all.ensures in
    let beyond : drop p.cells s1.cells.now ≡ drop p.cells cells =
    ⊎_elim
    (λ (few : length cells < p.cells). ap (drop p.cells) (all.spares (ap (λ t. t.capacity) new.begins ∙ short p (length cells) few) ∙ new.touches ∙ begun-short p kind.zero cells few))
    (λ (fits : p.cells ≤ length cells).
    let ends : top s0.shape ≡ p.cells = ap top (new.shape fits) ∙ sym (plan_cells p) in
    subst (λ m. drop m s1.cells.now ≡ drop m s0.cells.now) ends all.beyond
    ∙ ap (drop p.cells) (new.touches ∙ begun-enough p kind.zero cells fits) ∙ cleared-beyond kind.zero p.cells cells)
    (cases_lt (length cells) p.cells) in
    search rules
