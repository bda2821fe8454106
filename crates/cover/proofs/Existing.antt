-- Every set of keys has its rows. Assumes nothing.
use Rattle.std.proofs.Common.{◌≡◌, ℕ, zero, suc, ◌+◌, ◌-◌, ◌*◌, ◌^◌, ◌<◌, ◌≤◌, ◌⊎◌, List, [], ◌∷◌, ◌++◌, sym, ap, ◌∙◌, subst, inl, inr, ⊎_elim, arith}
use mathlib.Core.List.Memᴰ
use mathlib.Core.List.{Memᴰ}
use Rattle.cover.specs.declared.node.Node.{Node}
use Rattle.cover.specs.Tree.{first_key, past, parent, KeySet, Whole, RowOf, Rising, Cover, CoverIsOne}
use Rattle.cover.specs.Cut.{node}
use Rattle.cover.proofs.Geometry.{climb, climb-parent, climb-level, climb-past, first_past, halves, parent-left, parent-right, first_left, past-right}
use Rattle.cover.proofs.Cuts.{rising-append}
use Rattle.cover.proofs.Covers.{whole_or, under_whole, root_of, cover_unique}

-- a row of the set under a node
record Part (keys : KeySet) (l j : ℕ) (m : Node) : Type 0 where
  up : ℕ
  under : climb up m ≡ node l j
  whole : Whole keys m
  top : 0 < up → Whole keys (parent m) → ⊥

record Parts (keys : KeySet) (l j : ℕ) : Type 0 where
  rows : List Node
  rising : Rising (first_key (node l j)) (past (node l j)) rows
  part : (m : Node) → Memᴰ m rows → Part keys l j m
  all : (m : Node) → Part keys l j m → Memᴰ m rows

itself : (keys : KeySet) (l j : ℕ) → Whole keys (node l j) → Parts keys l j
itself keys l j w = record {
  rows = node l j ∷ [];
  rising = (omega arith, omega arith);
  part = λ m h. let e = Memᴰ.eq_of_singleton h in record { up = 0; under = e; whole = subst (λ (x : Node). Whole keys x) (sym e) w; top = λ z. absurd (omega arith) };
  all = λ m p. go m p.up p.under p.top;
}
  where
    go : (m : Node) (d : ℕ) → climb d m ≡ node l j → (0 < d → Whole keys (parent m) → ⊥) → Memᴰ m (node l j ∷ [])
    go m zero u t = Memᴰ.head u
    go m (suc d) u t = absurd (t (omega arith) (under_whole keys d (parent m) (subst (λ (x : Node). Whole keys x) (sym (sym (climb-parent d m) ∙ u)) w)))

nothing : (keys : KeySet) (j : ℕ) → (Whole keys (node 0 j) → ⊥) → Parts keys 0 j
nothing keys j no_whole = record {
  rows = [];
  rising = omega (arith, first_past (node 0 j));
  part = λ m h. absurd (Memᴰ.not-nil h);
  all = λ m p. go m p.up p.under p.whole;
}
  where
    go : (m : Node) (d : ℕ) → climb d m ≡ node 0 j → Whole keys m → Memᴰ m []
    go m zero u w = absurd (no_whole (subst (λ (x : Node). Whole keys x) u w))
    go m (suc d) u w = absurd (omega (arith, ap (λ (x : Node). x.level) u))

joint : (keys : KeySet) (l j : ℕ) → (Whole keys (node (suc l) j) → ⊥) → Parts keys l (2 * j) → Parts keys l (2 * j + 1) → Parts keys (suc l) j
joint keys l j no_whole a b = record {
  rows = a.rows ++ b.rows;
  rising = rising-append (first_key (node (suc l) j)) (past (node l (2 * j))) (past (node (suc l) j)) a.rows b.rows (subst (λ (x : ℕ). Rising x (past (node l (2 * j))) a.rows) (first_left l j) a.rising) (subst (λ (x : ℕ). Rising (first_key (node l (2 * j + 1))) x b.rows) (past-right l j) b.rising);
  part = λ m h. ⊎_elim (λ (q : Memᴰ m a.rows). raised m (2 * j) (parent-left l j) (a.part m q)) (λ (q : Memᴰ m b.rows). raised m (2 * j + 1) (parent-right l j) (b.part m q)) (Memᴰ.append_cases a.rows h);
  all = λ m p. go m p.up p.under p.whole p.top;
}
  where
    no_parent : (m : Node) (half d : ℕ) → parent (node l half) ≡ node (suc l) j → climb d m ≡ node l half → (0 < d → Whole keys (parent m) → ⊥) → Whole keys (parent m) → ⊥
    no_parent m half zero e u t w = no_whole (subst (λ (x : Node). Whole keys x) (ap parent u ∙ e) w)
    no_parent m half (suc d) e u t w = t (omega arith) w

    raised : (m : Node) (half : ℕ) → parent (node l half) ≡ node (suc l) j → Part keys l half m → Part keys (suc l) j m
    raised m half e p = record { up = suc p.up; under = ap parent p.under ∙ e; whole = p.whole; top = λ _ w. no_parent m half p.up e p.under p.top w }

    go : (m : Node) (d : ℕ) → climb d m ≡ node (suc l) j → Whole keys m → (0 < d → Whole keys (parent m) → ⊥) → Memᴰ m (a.rows ++ b.rows)
    go m zero u w t = absurd (no_whole (subst (λ (x : Node). Whole keys x) u w))
    go m (suc d) u w t =
        ⊎_elim
        (λ (h : climb d m ≡ node l (2 * j)). Memᴰ.append_left b.rows (a.all m (record { up = d; under = h; whole = w; top = λ _. t (omega arith) })))
        (λ (h : climb d m ≡ node l (2 * j + 1)). Memᴰ.append_right a.rows (b.all m (record { up = d; under = h; whole = w; top = λ _. t (omega arith) })))
        (halves (climb d m) l j u)

parts_of : (keys : KeySet) (l j : ℕ) → Parts keys l j
parts_of keys zero j = ⊎_elim (itself keys 0 j) (nothing keys j) (whole_or keys (node 0 j))
parts_of keys (suc l) j = ⊎_elim (itself keys (suc l) j) (λ (h : Whole keys (node (suc l) j) → ⊥). joint keys l j h (parts_of keys l (2 * j)) (parts_of keys l (2 * j + 1))) (whole_or keys (node (suc l) j))

pub cover_exists : (height : ℕ) (keys : KeySet) → (rows : List Node) × Cover height keys rows
cover_exists height keys =
    let p = parts_of keys height 0 in
    (p.rows, record { rising = low p.rows p.rising; row = λ n m. row n (p.part n m); all = λ n r. p.all n (part n r) })
  where
    low : (rows : List Node) → Rising (first_key (node height 0)) (past (node height 0)) rows → Rising 0 (2 ^ height) rows
    low rows r = subst (λ (x : ℕ). Rising 0 x rows) (let q : past (node height 0) ≡ 2 ^ height = omega arith in q) (subst (λ (x : ℕ). Rising x (past (node height 0)) rows) (let q : first_key (node height 0) ≡ 0 = omega arith in q) r)

    row : (n : Node) → Part keys height 0 n → RowOf height keys n
    row n p =
        let level : n.level + p.up ≡ height = sym (climb-level p.up n) ∙ ap (λ (x : Node). x.level) p.under in
        let high = subst (λ (x : Node). past n ≤ past x) p.under (climb-past p.up n) in
        record { low = omega arith; inside = omega arith; whole = p.whole; top = top p.up level p.top }
      where
        top : (d : ℕ) → n.level + d ≡ height → (0 < d → Whole keys (parent n) → ⊥) → (n.level ≡ height) ⊎ (Whole keys (parent n) → ⊥)
        top zero e t = inl (omega arith)
        top (suc d) e t = inr (t (omega arith))

    part : (n : Node) → RowOf height keys n → Part keys height 0 n
    part n r = record {
      up = height - n.level;
      under = root_of height n r.low r.inside;
      whole = r.whole;
      top = λ z w. ⊎_elim (λ (e : n.level ≡ height). omega arith) (λ (h : Whole keys (parent n) → ⊥). h w) r.top;
    }

pub cover_is_one : CoverIsOne
cover_is_one height keys = let e = cover_exists height keys in (e.0, e.1, λ others o. cover_unique height keys others e.0 o e.1)
