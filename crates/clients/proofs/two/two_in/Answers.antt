use Rattle.std.proofs.Common.{◌≡◌, [], ◌∷◌, ap, ◌∙◌, subst}
use Rattle.source.specs.Sources.{Keys}
use Rattle.sealing.specs.History.{start, OpenLaw}
use Rattle.clients.specs.Two.{SumOfTwo}
use Rattle.clients.proofs.Twice.{both-accepted}
use Rattle.clients.proofs.two.two_in.Goals as goal

-- Both lines were accepted: the laws of the run give the answer.
pub returns-clause-sums : goal.returns-clause-sums
returns-clause-sums g c sound new =
    let k = g.G.Group.kind in
    let m = g.S.Store in
    let keys = g.K.KeySource.keys in
    let store = c.args.store.now in
    let after = c.append-2.new.store in
    let x = c.args.x in
    let y = c.args.y in
    let s = c.new-epoch.result.source in
    let answer = c.open.result in
    let one = c.in_ok-append.ensures in
    let two = c.in_ok-append-2.ensures in
    let same : (m.contents after).capacity ≡ (m.contents store).capacity = ap (λ d. d.capacity) two.does.leaves ∙ ap (λ d. d.capacity) one.does.leaves in
    let reader : keys c.keys.result.now ≡ keys s = ap keys (c.keys.ensures ∙ c.close-epoch.ensures) in
    let laws = (c.open.ensures.faithful (keys s) _ (two.faithful _ (one.faithful [] (start store sound new)).0).0).2 in
    let opened = subst (λ (r : Keys g.row.G.Denot). OpenLaw k (keys s) r (x ∷ y ∷ []) 0 2 answer) reader laws.0 in
    let told = subst (λ n. SumOfTwo k (keys s) n x y answer) same (both-accepted k (keys s) (m.contents after).capacity x y answer laws.1.1.0 laws.1.0 opened) in
    subst (λ t. SumOfTwo k (keys t) (m.contents store).capacity x y answer) c.new-epoch.ensures told
