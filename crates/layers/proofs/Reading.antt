-- When a coarse source has a key, and which. Assumes nothing.
use Rattle.std.proofs.Common.{◌≡◌, ℕ, zero, suc, ◌*◌, ◌/◌, ◌%◌, ◌<◌, ◌≤◌, Bool, true, false, cond, eqb, ◌↔◌, List, [], ◌∷◌, ◌++◌, length, is_some, Some, None, Option, sym, refl, ap, ◌∙◌, div-add-mod', arith}
use Rattle.std.proofs.lemmas.Bool.{false≢true, eqb-true, eqb-false, eq-eqb, ne_eqb}
use Rattle.group.specs.Kind.{Kind}
use Rattle.store.specs.Contents.{nth}
use Rattle.source.specs.Sources.{Keys, Has, or_zero, key}
use Rattle.layers.specs.Layers.{both, coarse}

module _ {G : Type 0} where
  pub nth-some : (xs : List G) (i : ℕ) → is_some (nth xs i) ≡ true → i < length xs
  nth-some [] i h = absurd (false≢true h)
  nth-some (x ∷ xs) zero h = omega arith
  nth-some (x ∷ xs) (suc i) h = let below = nth-some xs i h in omega arith

  pub some-nth : (xs : List G) (i : ℕ) → i < length xs → is_some (nth xs i) ≡ true
  some-nth [] i h = absurd (omega arith)
  some-nth (x ∷ xs) zero h = refl
  some-nth (x ∷ xs) (suc i) h = some-nth xs i (omega arith)

  pub nth-front : (xs : List G) (y : G) (i : ℕ) → i < length xs → nth (xs ++ (y ∷ [])) i ≡ nth xs i
  nth-front [] y i h = absurd (omega arith)
  nth-front (x ∷ xs) y zero h = refl
  nth-front (x ∷ xs) y (suc i) h = nth-front xs y i (omega arith)

  pub nth_last : (xs : List G) (y : G) → nth (xs ++ (y ∷ [])) (length xs) ≡ Some y
  nth_last [] y = refl
  nth_last (x ∷ xs) y = nth_last xs y

  both_some : (f : G → G → G) (o p : Option G) → (is_some (both f o p) ≡ true) ↔ ((is_some o ≡ true) × (is_some p ≡ true))
  both_some f (Some x) (Some y) = (λ h. (refl, refl), λ h. refl)
  both_some f (Some x) None = (λ h. absurd (false≢true h), λ h. absurd (false≢true h.1))
  both_some f None p = (λ h. absurd (false≢true h), λ h. absurd (false≢true h.0))

  -- The two tests of a coarse source.
  tests_some : (zero-step divides : Bool) (o : Option G) → (is_some (cond zero-step None (cond divides o None)) ≡ true) ↔ ((zero-step ≡ false) × (divides ≡ true) × (is_some o ≡ true))
  tests_some true d o = (λ h. absurd (false≢true h), λ h. absurd (false≢true (sym h.0)))
  tests_some false true o = (λ h. (refl, refl, h), λ h. h.2)
  tests_some false false o = (λ h. absurd (false≢true h), λ h. absurd (false≢true h.1))

  tests_pass : (zero-step divides : Bool) (o : Option G) → zero-step ≡ false → divides ≡ true → cond zero-step None (cond divides o None) ≡ o
  tests_pass z d o p q = rw (p, q)

module _ {G V : Type 0} (k : Kind G V) where
  pub some_is : (o : Option G) → is_some o ≡ true → o ≡ Some (or_zero k o)
  some_is (Some x) h = refl
  some_is None h = absurd (false≢true h)

  pub is_key : (source : Keys G) (i : ℕ) → Has source i → source i ≡ Some (key k source i)
  is_key source i h = some_is (source i) h

  pub coarse-has : (step : ℕ) (envelopes : List G) (other : Keys G) (i : ℕ) →
      Has (coarse k step envelopes other) i ↔ ((1 ≤ step) × (i % step ≡ 0) × (i / step < length envelopes) × Has other (i / step))
  coarse-has step envelopes other i =
      let less = λ (x y : G). k.plus x (k.minus y) in
      let e = nth envelopes (i / step) in
      let o = other (i / step) in
      let tests = tests_some (eqb step 0) (eqb (i % step) 0) (both less e o) in
      let figures = both_some less e o in (
        λ h.
            let t = tests.0 h in
            let f = figures.0 t.2 in
            let some : step ≡ 0 → ⊥ = eqb-false step 0 t.0 in
            (pos step some, eqb-true (i % step) 0 t.1, nth-some envelopes (i / step) f.0, f.1),
        λ h.
            let some : step ≡ 0 → ⊥ = λ e. omega (arith, h.0, e) in
            tests.1 (ne_eqb step 0 some, eq-eqb (i % step) 0 h.1, figures.1 (some-nth envelopes (i / step) h.2, h.3)),
      )
    where
      pos : (n : ℕ) → (n ≡ 0 → ⊥) → 1 ≤ n
      pos zero h = absurd (h refl)
      pos (suc n) h = omega arith

  pub coarse-key : (step : ℕ) (envelopes : List G) (other : Keys G) (i : ℕ) (x y : G) → 1 ≤ step → i % step ≡ 0 → nth envelopes (i / step) ≡ Some x → other (i / step) ≡ Some y →
      coarse k step envelopes other i ≡ Some (k.plus x (k.minus y))
  coarse-key step envelopes other i x y s d p q =
      let some : step ≡ 0 → ⊥ = λ e. omega (arith, s, e) in
      tests_pass (eqb step 0) (eqb (i % step) 0) _ (ne_eqb step 0 some) (eq-eqb (i % step) 0 d)
      ∙ (λ t. both (λ a b. k.plus a (k.minus b)) (p t) (q t))

  -- One envelope more takes no key away.
  pub coarse-more : (step : ℕ) (envelopes : List G) (e : G) (other : Keys G) (i : ℕ) (x : G) → coarse k step envelopes other i ≡ Some x → coarse k step (envelopes ++ (e ∷ [])) other i ≡ Some x
  coarse-more step envelopes e other i x is =
      let within = ((coarse-has step envelopes other i).0 (ap is_some is)).2 in
      ap (λ o. cond (eqb step 0) None (cond (eqb (i % step) 0) (both (λ a b. k.plus a (k.minus b)) o (other (i / step))) None)) (nth-front envelopes e (i / step) within) ∙ is

-- A number that the step divides is its share times the step.
pub divided : (i step : ℕ) → i % step ≡ 0 → i / step * step ≡ i
divided i step d = let whole = div-add-mod' i step in omega (arith, whole, d)
