-- Two posts into a new store. Assumes nothing.
use Rattle.std.proofs.Common.{◌≡◌, ℕ, ◌*◌, ◌/◌, ◌%◌, ◌<◌, ◌≤◌, ◌↔◌, [], ◌∷◌, is_some, Some, Ok, Err, Result, sym, refl, ap, ◌∙◌, subst, arith}
use native.Mathlib.Nat.{mod_self, div_self}
use Rattle.std.proofs.lemmas.Bool.{false≢true}
use Rattle.refusal.specs.declared.Refusal.{Refusal}
use Rattle.group.specs.Kind.{Kind}
use Rattle.store.specs.Contents.{Contents}
use Rattle.source.specs.Sources.{Keys, Has, or_zero, key}
use Rattle.layers.specs.Layers.{coarse}
use Rattle.layers.specs.Posting.{Posts}
use Rattle.layers.specs.Fit.{PostLaw, start, accepted_posts, Continues}

module _ {G : Type 0} (step : ℕ) (fine other : Keys G) (capacity : ℕ) where
  -- Both posts are accepted.
  abbrev pub Both : Type 0
  Both = (1 ≤ step) × (step ≤ 65536) × (1 < capacity) × Has other 0 × Has other 1 × Has fine 0 × Has fine step

  none : 0 * step ≡ 0
  none = omega arith

  once : 1 * step ≡ step
  once = omega arith

  second : (a b : Result ℕ Refusal) → PostLaw step fine other capacity 0 a → PostLaw step fine other capacity (accepted_posts (a ∷ [])) b → ((step % step ≡ 0) × (step / step < accepted_posts (b ∷ a ∷ []))) ↔ Both
  second (Ok i) (Ok j) l m =
      let f = l.accepts.0 refl in
      let s = m.accepts.0 refl in (
        λ h. (f.0, f.1, s.2, f.3, s.3, subst (Has fine) none f.4, subst (Has fine) once s.4),
        λ h. (mod_self step, subst (λ q. q < 2) (sym (div_self h.0)) (omega arith)),
      )
  second (Ok i) (Err e) l m =
      let f = l.accepts.0 refl in (
        λ h. let one : 1 < 1 = subst (λ q. q < 1) (div_self f.0) h.1 in absurd (omega (arith, one)),
        λ h. absurd (false≢true (m.accepts.1 (h.0, h.1, h.2, h.4, subst (Has fine) (sym once) h.6))),
      )
  second (Err e) (Ok j) l m = absurd (false≢true (l.accepts.1 (m.accepts.0 refl)))
  second (Err e) (Err d) l m = (
    λ h. absurd (omega (arith, h.1)),
    λ h. absurd (false≢true (l.accepts.1 (h.0, h.1, omega (arith, h.2), h.3, subst (Has fine) (sym none) h.5))),
  )

module _ {G V : Type 0} (k : Kind G V) (step : ℕ) (fine other : Keys G) where
  same_capacity : {before after : Contents G} (answer : Result ℕ Refusal) → Posts k step fine other before answer after → after.capacity ≡ before.capacity
  same_capacity (Ok j) p = ap (λ c. c.capacity) p.leaves
  same_capacity (Err e) p = ap (λ c. c.capacity) p.leaves

  module _ {before between after : Contents G} {a b : Result ℕ Refusal} (new : before.entries ≡ []) (p : Posts k step fine other before a between) (q : Continues k step fine other before a between) (r : Continues k step fine other between b after) where
    pub second-has : Has (coarse k step after.entries other) step ↔ Both step fine other before.capacity
    second-has =
        let one = q [] (start before new) in
        let two = r (a ∷ []) one.0 in
        let law : PostLaw step fine other before.capacity (accepted_posts (a ∷ [])) b = subst (λ n. PostLaw step fine other n (accepted_posts (a ∷ [])) b) (same_capacity a p) two.1 in
        let way = second step fine other before.capacity a b one.1 law in
        let has = two.2.has step in
        (λ h. way.0 (has.0 h), λ h. has.1 (way.1 h))

    pub second-counts : (x : G) → coarse k step after.entries other step ≡ Some x → k.value x ≡ k.value (key k fine step)
    second-counts x is =
        let one = q [] (start before new) in
        let two = r (a ∷ []) one.0 in
        let figure : key k (coarse k step after.entries other) step ≡ x = ap (or_zero k) is in
        sym (ap k.value figure) ∙ (two.2.counts step (ap is_some is)).1
