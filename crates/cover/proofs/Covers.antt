-- What is cut is the rows of the set. Assumes nothing.
use Rattle.std.proofs.Common.{◌≡◌, ℕ, zero, suc, ◌+◌, ◌-◌, ◌*◌, ◌/◌, ◌^◌, ◌<◌, ◌≤◌, true, false, ◌⊎◌, List, [], ◌∷◌, sym, refl, ap, ◌∙◌, subst, inl, inr, ⊎_elim, add-mul, arith, pow_pos, pow-add}
use mathlib.Core.List.Memᴰ
use mathlib.Core.List.{Memᴰ}
use Rattle.std.proofs.lemmas.Nat.{mul-le}
use Rattle.std.proofs.lemmas.Bool.{cases_Bool, cases_lt, both_ways, or_cases, or_from, or_left, or_right, and_parts, and_from}
use Rattle.std.proofs.lemmas.Bool.Decides.{nat_tests}
use Rattle.cover.specs.declared.node.Node.{Node}
use Rattle.cover.specs.declared.node.Span.{Span}
use Rattle.cover.specs.Tree.{first_key, past, parent, KeySet, Whole, RowOf, Rising, Cover, named, named_by, both, Spaced}
use Rattle.cover.specs.Cut.{node, cut, spans_rows, left_rows}
use Rattle.cover.proofs.Geometry.{pow-next, climb, climb-parent, climb-level, climb-first, climb-past, first_past, same-node}
use Rattle.cover.proofs.Cuts.{CutRow, row_under, cut_row, cut_has, cut-rising, cut-between, rising-lower, rising-append}
use Rattle.cover.proofs.Members.{from_joined, in_joined, same_members}

-- A set of keys has one list of rows.
pub cover_unique : (height : ℕ) (keys : KeySet) (ms ns : List Node) → Cover height keys ms → Cover height keys ns → ms ≡ ns
cover_unique height keys ms ns a b =
    same_members 0 (2 ^ height) 0 (2 ^ height) ms ns a.rising b.rising (λ n m. b.all n (a.row n m)) (λ n m. a.all n (b.row n m))

-- whether a node lies wholly in a set
scan : (keys : KeySet) (lo c : ℕ) → ((k : ℕ) → lo ≤ k → k < lo + c → keys k ≡ true) ⊎ ((k : ℕ) × (lo ≤ k) × (k < lo + c) × (keys k ≡ false))
scan keys lo zero = inl (λ k a b. absurd (omega arith))
scan keys lo (suc c) = step (scan keys lo c) (cases_Bool (keys (lo + c)))
  where
    step : ((k : ℕ) → lo ≤ k → k < lo + c → keys k ≡ true) ⊎ ((k : ℕ) × (lo ≤ k) × (k < lo + c) × (keys k ≡ false)) → (keys (lo + c) ≡ true) ⊎ (keys (lo + c) ≡ false) → ((k : ℕ) → lo ≤ k → k < lo + suc c → keys k ≡ true) ⊎ ((k : ℕ) × (lo ≤ k) × (k < lo + suc c) × (keys k ≡ false))
    step (inr h) o = inr (h.0, h.1, omega (arith, h.2), h.3)
    step (inl h) (inr e) = inr (lo + c, omega arith, omega arith, e)
    step (inl h) (inl e) =
        inl (λ k a b. ⊎_elim (λ (q : k < lo + c). h k a q) (λ (q : lo + c ≤ k). let s : lo + c ≡ k = omega arith in subst (λ (x : ℕ). keys x ≡ true) s e) (cases_lt k (lo + c)))

pub whole_or : (keys : KeySet) (n : Node) → Whole keys n ⊎ (Whole keys n → ⊥)
whole_or keys n =
    let fp = first_past n in
    ⊎_elim
    (λ (h : (k : ℕ) → first_key n ≤ k → k < first_key n + (past n - first_key n) → keys k ≡ true). inl (λ k a b. h k a (omega arith)))
    (λ (h : (k : ℕ) × (first_key n ≤ k) × (k < first_key n + (past n - first_key n)) × (keys k ≡ false)). inr (λ w. both_ways (keys h.0) h.3 (w h.0 h.1 (omega (arith, h.2)))))
    (scan keys (first_key n) (past n - first_key n))

pub under_whole : (keys : KeySet) (d : ℕ) (n : Node) → Whole keys (climb d n) → Whole keys n
under_whole keys d n w k a b = w k (omega (arith, climb-first d n)) (omega (arith, climb-past d n))

-- a node of the tree has its parents in the tree
pub le-cancel : (a b c : ℕ) → 0 < c → a * c ≤ b * c → a ≤ b
le-cancel a b c p h =
    ⊎_elim (λ (q : b < a). absurd (omega (arith, mul-le (b + 1) c a c (omega arith) (omega arith), add-mul b 1 c))) (λ (q : a ≤ b). q) (cases_lt b a)

parent-inside : (height : ℕ) (n : Node) → n.level < height → past n ≤ 2 ^ height → past (parent n) ≤ 2 ^ height
parent-inside height n l h =
    let rest = height - (n.level + 1) in
    let e : height ≡ rest + (n.level + 1) = omega arith in
    let whole : 2 ^ height ≡ 2 ^ rest * 2 ^ (n.level + 1) = ap (λ (x : ℕ). 2 ^ x) e ∙ pow-add 2 rest (n.level + 1) in
    let half : 2 ^ rest * 2 ^ (n.level + 1) ≡ (2 ^ rest * 2) * 2 ^ n.level = pow-next (2 ^ rest) n.level in
    let few : n.index + 1 ≤ 2 ^ rest * 2 = le-cancel (n.index + 1) (2 ^ rest * 2) (2 ^ n.level) (pow_pos n.level) (omega arith) in
    let q = mul-le (n.index / 2 + 1) (2 ^ (n.level + 1)) (2 ^ rest) (2 ^ (n.level + 1)) (omega arith) (omega arith) in
    omega arith

pub climb-inside : (height d : ℕ) (n : Node) → n.level + d ≤ height → past n ≤ 2 ^ height → past (climb d n) ≤ 2 ^ height
climb-inside height zero n l h = h
climb-inside height (suc d) n l h =
    parent-inside height (climb d n) (omega (arith, climb-level d n)) (climb-inside height d n (omega arith) h)

pub root_of : (height : ℕ) (n : Node) → n.level ≤ height → past n ≤ 2 ^ height → climb (height - n.level) n ≡ node height 0
root_of height n l h =
    let r = climb (height - n.level) n in
    let level : r.level ≡ height = omega (arith, climb-level (height - n.level) n) in
    let inside = climb-inside height (height - n.level) n (omega arith) h in
    let at = subst (λ (x : ℕ). (r.index + 1) * 2 ^ x ≤ 2 ^ height) level inside in
    let few : r.index + 1 ≤ 1 = le-cancel (r.index + 1) 1 (2 ^ height) (pow_pos height) (omega arith) in
    same-node level (omega arith)

-- a node that lies wholly in a set has a row of the set above it
pub row-above : (height : ℕ) (keys : KeySet) (n : Node) → n.level ≤ height → past n ≤ 2 ^ height → Whole keys n → (d : ℕ) × RowOf height keys (climb d n)
row-above height keys n l h w = from (height - n.level) 0 (omega arith) w
  where
    from : (left d : ℕ) → n.level + d + left ≡ height → Whole keys (climb d n) → (d : ℕ) × RowOf height keys (climb d n)
    from zero d e v = (d, record { low = omega (arith, climb-level d n); inside = climb-inside height d n (omega arith) h; whole = v; top = inl (omega (arith, climb-level d n)) })
    from (suc left) d e v =
        ⊎_elim
        (λ (p : Whole keys (climb (suc d) n)). from left (suc d) (omega arith) p)
        (λ (p : Whole keys (climb (suc d) n) → ⊥). (d, record { low = omega (arith, climb-level d n); inside = climb-inside height d n (omega arith) h; whole = v; top = inr p }))
        (whole_or keys (climb (suc d) n))

-- sets with the same keys in the tree have the same rows
row_same : (height : ℕ) (one other : KeySet) (n : Node) → ((k : ℕ) → k < 2 ^ height → one k ≡ other k) → RowOf height one n → RowOf height other n
row_same height one other n same r = record {
  low = r.low;
  inside = r.inside;
  whole = λ k a b. sym (same k (omega (arith, r.inside))) ∙ r.whole k a b;
  top = ⊎_elim (λ (e : n.level ≡ height). inl e) (λ (not : Whole one (parent n) → ⊥). above not (cases_lt n.level height)) r.top;
}
  where
    above : (Whole one (parent n) → ⊥) → (n.level < height) ⊎ (height ≤ n.level) → (n.level ≡ height) ⊎ (Whole other (parent n) → ⊥)
    above not (inl l) = inr (λ w. not (λ k a b. same k (omega (arith, parent-inside height n l r.inside)) ∙ w k a b))
    above not (inr l) = inl (omega (arith, r.low))

pub cover-same : (height : ℕ) (one other : KeySet) (ns : List Node) → ((k : ℕ) → k < 2 ^ height → one k ≡ other k) → Cover height one ns → Cover height other ns
cover-same height one other ns same c = record {
  rising = c.rising;
  row = λ n m. row_same height one other n same (c.row n m);
  all = λ n r. c.all n (row_same height other one n (λ k l. sym (same k l)) r);
}

-- spans

named-at : (s : Span) (k : ℕ) → s.from ≤ k → k < s.to → named s k ≡ true
named-at s k a b = grind (arith, nat_tests)

named-from : (s : Span) (k : ℕ) → named s k ≡ true → (s.from ≤ k) × (k < s.to)
named-from s k e = grind (arith, nat_tests)

not-below : (s : Span) (k : ℕ) → k < s.from → named s k ≡ false
not-below s k h = grind (arith, nat_tests)

not-past : (s : Span) (k : ℕ) → s.to ≤ k → named s k ≡ false
not-past s k h = grind (arith, nat_tests)

in_spans : (ss : List Span) (k : ℕ) → named_by ss k ≡ true → (s : Span) × Memᴰ s ss × (s.from ≤ k) × (k < s.to)
in_spans [] k e = absurd (both_ways false refl e)
in_spans (s ∷ ss) k e = step (in_spans ss k) (or_cases (named s k) (named_by ss k) e)
  where
    step : (named_by ss k ≡ true → (x : Span) × Memᴰ x ss × (x.from ≤ k) × (k < x.to)) → (named s k ≡ true) ⊎ (named_by ss k ≡ true) → (x : Span) × Memᴰ x (s ∷ ss) × (x.from ≤ k) × (k < x.to)
    step below (inl h) = let q = named-from s k h in (s, Memᴰ.head refl, q.0, q.1)
    step below (inr h) = let q = below h in (q.0, Memᴰ.tail q.1, q.2, q.3)

spans_in : (ss : List Span) (s : Span) (k : ℕ) → Memᴰ s ss → named s k ≡ true → named_by ss k ≡ true
spans_in [] s k m h = absurd (Memᴰ.not-nil m)
spans_in (x ∷ ss) s k m h =
    ⊎_elim
    (λ (e : s ≡ x). or_left (named x k) (named_by ss k) (subst (λ (z : Span). named z k ≡ true) e h))
    (λ (q : Memᴰ s ss). or_right (named x k) (named_by ss k) (spans_in ss s k q h))
    (Memᴰ.cases_cons m)

none_below : (from limit : ℕ) (ss : List Span) (k : ℕ) → Spaced from limit ss → k < from → named_by ss k ≡ false
none_below from limit [] k sp h = refl
none_below from limit (s ∷ ss) k sp h =
    or_from (named s k) (named_by ss k) (not-below s k (omega (arith, sp.0))) (none_below (s.to + 1) limit ss k sp.3 (omega (arith, sp.0, sp.1)))

-- A span of a spaced list: the keys right before and after it are in no span.
record Edges (from limit : ℕ) (ss : List Span) (s : Span) : Type 0 where
  later : from ≤ s.from
  some : s.from < s.to
  fits : s.to ≤ limit
  after : named_by ss s.to ≡ false
  before : 0 < s.from → named_by ss (s.from - 1) ≡ false

edges : (from limit : ℕ) (ss : List Span) (s : Span) → Spaced from limit ss → Memᴰ s ss → Edges from limit ss s
edges from limit [] s sp m = absurd (Memᴰ.not-nil m)
edges from limit (x ∷ ss) s sp m = step (edges (x.to + 1) limit ss s sp.3) (Memᴰ.cases_cons m)
  where
    here : Edges from limit (x ∷ ss) x
    here = record {
      later = sp.0;
      some = sp.1;
      fits = sp.2;
      after = or_from (named x x.to) (named_by ss x.to) (not-past x x.to (omega arith)) (none_below (x.to + 1) limit ss x.to sp.3 (omega arith));
      before = λ z. or_from (named x (x.from - 1)) (named_by ss (x.from - 1)) (not-below x (x.from - 1) (omega arith)) (none_below (x.to + 1) limit ss (x.from - 1) sp.3 (omega (arith, sp.1)));
    }

    step : (Memᴰ s ss → Edges (x.to + 1) limit ss s) → (s ≡ x) ⊎ Memᴰ s ss → Edges from limit (x ∷ ss) s
    step below (inl e) = subst (λ (z : Span). Edges from limit (x ∷ ss) z) (sym e) here
    step below (inr q) =
        let b = below q in
        let l = b.later in
        let o = b.some in
        record {
          later = omega (arith, sp.0, sp.1);
          some = b.some;
          fits = b.fits;
          after = or_from (named x s.to) (named_by ss s.to) (not-past x s.to (omega arith)) b.after;
          before = λ z. or_from (named x (s.from - 1)) (named_by ss (s.from - 1)) (not-past x (s.from - 1) (omega arith)) (b.before z);
        }

-- a node wholly in the spans that meets one of them lies in that one
one_span : (from limit : ℕ) (ss : List Span) (s : Span) (n : Node) (k : ℕ) → Edges from limit ss s → Whole (named_by ss) n → first_key n ≤ k → k < past n → s.from ≤ k → k < s.to → (s.from ≤ first_key n) × (past n ≤ s.to)
one_span from limit ss s n k e w a b c d = (
  ⊎_elim (λ (q : first_key n < s.from). absurd (both_ways (named_by ss (s.from - 1)) (e.before (omega arith)) (w (s.from - 1) (omega arith) (omega arith)))) (λ (q : s.from ≤ first_key n). q) (cases_lt (first_key n) s.from),
  ⊎_elim (λ (q : s.to < past n). absurd (both_ways (named_by ss s.to) e.after (w s.to (omega arith) q))) (λ (q : past n ≤ s.to). q) (cases_lt s.to (past n)),
)

spans_rising : (height lo from limit : ℕ) (ss : List Span) → lo ≤ limit → lo ≤ from → Spaced from limit ss → Rising lo limit (spans_rows height ss)
spans_rising height lo from limit [] h l sp = h
spans_rising height lo from limit (s ∷ ss) h l sp =
    rising-append lo s.to limit (cut s.from s.to height 0) (spans_rows height ss)
    (rising-lower lo s.from s.to (cut s.from s.to height 0) (omega (arith, sp.0)) (cut-between s.from s.to height 0 (omega (arith, sp.1))))
    (spans_rising height s.to (s.to + 1) limit ss sp.2 (omega arith) sp.3)

module _ (height : ℕ) (ss : List Span) (sp : Spaced 0 (2 ^ height) ss) where
  span_row : (s : Span) (n : Node) → Memᴰ s ss → CutRow s.from s.to height 0 n → RowOf height (named_by ss) n
  span_row s n m r =
      let root = r.under in
      let level : n.level + r.up ≡ height = sym (climb-level r.up n) ∙ ap (λ (x : Node). x.level) root in
      let high = subst (λ (x : Node). past n ≤ past x) root (climb-past r.up n) in
      record {
        low = omega arith;
        inside = omega arith;
        whole = λ k a b. spans_in ss s k m (named-at s k (omega (arith, r.low)) (omega (arith, r.high)));
        top = top r.up level r.top;
      }
    where
      top : (d : ℕ) → n.level + d ≡ height → (0 < d → s.from ≤ first_key (parent n) → past (parent n) ≤ s.to → ⊥) → (n.level ≡ height) ⊎ (Whole (named_by ss) (parent n) → ⊥)
      top zero e t = inl (omega arith)
      top (suc d) e t =
          inr (λ w. let q = one_span 0 (2 ^ height) ss s (parent n) (first_key n) (edges 0 (2 ^ height) ss s sp m) w (climb-first 1 n) (omega (arith, climb-past 1 n, first_past n)) r.low (omega (arith, first_past n, r.high)) in t (omega arith) q.0 q.1)

  row_span : (n : Node) → RowOf height (named_by ss) n → (s : Span) × Memᴰ s ss × CutRow s.from s.to height 0 n
  row_span n r =
      let at = in_spans ss (first_key n) (r.whole (first_key n) (omega arith) (first_past n)) in
      let s = at.0 in
      let q = one_span 0 (2 ^ height) ss s n (first_key n) (edges 0 (2 ^ height) ss s sp at.1) r.whole (omega arith) (first_past n) at.2 at.3 in (
        s,
        at.1,
        record {
          up = height - n.level;
          under = root_of height n r.low r.inside;
          low = q.0;
          high = q.1;
          top = λ u a b. ⊎_elim (λ (e : n.level ≡ height). omega arith) (λ (not : Whole (named_by ss) (parent n) → ⊥). not (λ k c d. spans_in ss s k at.1 (named-at s k (omega arith) (omega arith)))) r.top;
        },
      )

  -- The cutting of the root by spaced spans, one after the other, gives the rows of the keys that they name.
  pub spans_cover : Cover height (named_by ss) (spans_rows height ss)
  spans_cover = record {
    rising = spans_rising height 0 0 (2 ^ height) ss (omega arith) (omega arith) sp;
    row = λ n m. let f = from_joined (λ (s : Span). cut s.from s.to height 0) ss n m in span_row f.0 n f.1 (cut_row f.0.from f.0.to height 0 n f.2);
    all = λ n r. let f = row_span n r in in_joined (λ (s : Span). cut s.from s.to height 0) ss f.0 n f.1 (cut_has f.0.from f.0.to height 0 n f.2);
  }

-- narrowing

left_rising : (s : Span) (a b : ℕ) (ns : List Node) → Rising a b ns → Rising a b (left_rows s ns)
left_rising s a b [] r = r
left_rising s a b (n ∷ ns) r =
    rising-append a (past n) b (cut s.from s.to n.level n.index) (left_rows s ns)
    (rising-lower a (first_key n) (past n) (cut s.from s.to n.level n.index) r.0 (cut-rising s.from s.to n.level n.index))
    (left_rising s (past n) b ns r.1)

module _ (height : ℕ) (keys : KeySet) (s : Span) where
  both-from : (k : ℕ) → both keys (named s) k ≡ true → (keys k ≡ true) × (s.from ≤ k) × (k < s.to)
  both-from k e = let h = and_parts (keys k) (named s k) e in let q = named-from s k h.1 in (h.0, q.0, q.1)

  whole-within : (n : Node) → Whole (both keys (named s)) n → Whole keys n × (s.from ≤ first_key n) × (past n ≤ s.to)
  whole-within n w =
      let fp = first_past n in
      let last = both-from (past n - 1) (w (past n - 1) (omega arith) (omega arith)) in
      (λ k a b. (both-from k (w k a b)).0, (both-from (first_key n) (w (first_key n) (omega arith) fp)).1, omega (arith, last.2))

  left-row : (r n : Node) → RowOf height keys r → CutRow s.from s.to r.level r.index n → RowOf height (both keys (named s)) n
  left-row r n o c =
      let u = row_under c in
      record {
        low = omega (arith, o.low);
        inside = omega (arith, o.inside);
        whole = λ k a b. and_from (keys k) (named s k) (o.whole k (omega arith) (omega arith)) (named-at s k (omega (arith, c.low)) (omega (arith, c.high)));
        top = top c.up c.under c.top;
      }
    where
      top : (d : ℕ) → climb d n ≡ r → (0 < d → s.from ≤ first_key (parent n) → past (parent n) ≤ s.to → ⊥) → (n.level ≡ height) ⊎ (Whole (both keys (named s)) (parent n) → ⊥)
      top zero e t =
          ⊎_elim (λ (h : r.level ≡ height). inl (ap (λ (x : Node). x.level) e ∙ h)) (λ (not : Whole keys (parent r) → ⊥). inr (λ w. not (subst (λ (x : Node). Whole keys (parent x)) e (whole-within (parent n) w).0))) o.top
      top (suc d) e t = inr (λ w. let q = whole-within (parent n) w in t (omega arith) q.1 q.2)

  row-left : (n : Node) → RowOf height (both keys (named s)) n → (d : ℕ) × RowOf height keys (climb d n) × CutRow s.from s.to (climb d n).level (climb d n).index n
  row-left n o =
      let w = whole-within n o.whole in
      let a = row-above height keys n o.low o.inside w.0 in
      (a.0, a.1, record { up = a.0; under = refl; low = w.1; high = w.2; top = top a.0 a.1 })
    where
      top : (d : ℕ) → RowOf height keys (climb d n) → 0 < d → s.from ≤ first_key (parent n) → past (parent n) ≤ s.to → ⊥
      top zero a z f p = omega arith
      top (suc d) a z f p =
          ⊎_elim
          (λ (e : n.level ≡ height). omega (arith, a.low, climb-level (suc d) n))
          (λ (not : Whole (both keys (named s)) (parent n) → ⊥). not (λ k b c. and_from (keys k) (named s k) (under_whole keys d (parent n) (subst (λ (x : Node). Whole keys x) (climb-parent d n) a.whole) k b c) (named-at s k (omega arith) (omega arith))))
          o.top

  -- The cutting of each row by a span gives the rows of the keys that are in both.
  pub left-cover : (ns : List Node) → Cover height keys ns → Cover height (both keys (named s)) (left_rows s ns)
  left-cover ns c = record {
    rising = left_rising s 0 (2 ^ height) ns c.rising;
    row = λ n m. let f = from_joined (λ (x : Node). cut s.from s.to x.level x.index) ns n m in left-row f.0 n (c.row f.0 f.1) (cut_row s.from s.to f.0.level f.0.index n f.2);
    all = λ n o. let f = row-left n o in in_joined (λ (x : Node). cut s.from s.to x.level x.index) ns (climb f.0 n) n (c.all (climb f.0 n) f.1) (cut_has s.from s.to (climb f.0 n).level (climb f.0 n).index n f.2);
  }
