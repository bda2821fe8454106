-- A set without keys. Assumes nothing.
use Rattle.std.proofs.Common.{◌≡◌, ℕ, ◌^◌, ◌<◌, false, List, [], ◌∷◌, sym, refl, subst, arith}
use mathlib.Core.List.Memᴰ
use Rattle.std.proofs.lemmas.Bool.{both_ways}
use Rattle.cover.specs.declared.node.Node.{Node}
use Rattle.cover.specs.Tree.{Cover, first_key, NoRowsNoKeys}
use Rattle.cover.proofs.Geometry.{first_past}
use Rattle.cover.proofs.Held.{held-keys}

pub no_rows_no_keys : NoRowsNoKeys
no_rows_no_keys height keys nodes c = (λ e k h. sym (held-keys height keys [] k (subst (λ (x : List Node). Cover height keys x) e c) h), λ f. by nodes c f)
  where
    by : (ns : List Node) → Cover height keys ns → ((k : ℕ) → k < 2 ^ height → keys k ≡ false) → ns ≡ []
    by [] d f = refl
    by (n ∷ ns) d f =
        let r = d.row n (Memᴰ.head refl) in
        let fp = first_past n in
        let inside = r.inside in
        absurd (both_ways (keys (first_key n)) (f (first_key n) (omega arith)) (r.whole (first_key n) (omega arith) fp))
