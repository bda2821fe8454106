-- Parts of a list of figures. Assumes nothing.
use Rattle.std.proofs.Common.{◌≡◌, ℕ, zero, suc, ◌+◌, ◌-◌, ◌<◌, ◌≤◌, List, [], ◌∷◌, ◌++◌, length, take, drop, sym, refl, ap, ◌∙◌, inl, inr, arith, length-take}
use Rattle.std.proofs.lemmas.List.{take_all, drop_all, drop-take, take-append-le, drop-append-le, length_push}
use Rattle.std.proofs.lemmas.Bool.{cases_lt}
use Rattle.store.specs.Contents.{between}

module _ {G : Type 0} where
  pub between_none : (x y : ℕ) (es : List G) → y ≤ x → between x y es ≡ []
  between_none x y es h = let none : y - x ≡ 0 = omega arith in ap (λ n. take n (drop x es)) none

  -- the end is cut off first
  abbrev part : ℕ → ℕ → List G → List G
  part x y es = drop x (take y es)

  as_part : (x y : ℕ) (es : List G) → between x y es ≡ part x y es
  as_part x y es =
      elim (cases_lt y x) [
        | inl over ↦ between_none x y es (omega arith) ∙ sym (drop_all x (take y es) (let l = length-take y es in omega arith))
        | inr within ↦ let e : x + (y - x) ≡ y = omega arith in sym (drop-take x (y - x) es) ∙ ap (λ m. drop x (take m es)) e
      ]

  part-split : (x y z : ℕ) (es : List G) → x ≤ y → y ≤ z → part x z es ≡ part x y es ++ part y z es
  part-split zero zero z es p q = refl
  part-split zero (suc y) zero es p q = absurd (omega arith)
  part-split zero (suc y) (suc z) [] p q = refl
  part-split zero (suc y) (suc z) (e ∷ es) p q = ap (λ r. e ∷ r) (part-split zero y z es (omega arith) (omega arith))
  part-split (suc x) zero z es p q = absurd (omega arith)
  part-split (suc x) (suc y) zero es p q = absurd (omega arith)
  part-split (suc x) (suc y) (suc z) [] p q = refl
  part-split (suc x) (suc y) (suc z) (e ∷ es) p q = part-split x y z es (omega arith) (omega arith)

  pub between_split : (x y z : ℕ) (es : List G) → x ≤ y → y ≤ z → between x z es ≡ between x y es ++ between y z es
  between_split x y z es p q = as_part x z es ∙ part-split x y z es p q ∙ sym (λ i. as_part x y es i ++ as_part y z es i)

  pub between-beyond : (x y : ℕ) (es : List G) → length es ≤ x → between x y es ≡ []
  between-beyond x y es h = as_part x y es ∙ drop_all x (take y es) (let l = length-take y es in omega arith)

  -- two ends past the last figure give the same part
  pub between-past : (x y z : ℕ) (es : List G) → length es ≤ y → length es ≤ z → between x y es ≡ between x z es
  between-past x y z es p q = as_part x y es ∙ ap (drop x) (take_all y es p ∙ sym (take_all z es q)) ∙ sym (as_part x z es)

  -- one figure more
  pub between-push : (x y : ℕ) (es : List G) (f : G) → x ≤ length es → length es < y → between x y (es ++ (f ∷ [])) ≡ between x y es ++ (f ∷ [])
  between-push x y es f p q =
      let l = length_push es f in
      as_part x y (es ++ (f ∷ []))
      ∙ ap (drop x) (take_all y (es ++ (f ∷ [])) (omega arith)) ∙ drop-append-le x es (f ∷ []) p ∙ ap (λ xs. drop x xs ++ (f ∷ [])) (sym (take_all y es (omega arith)))
      ∙ ap (λ xs. xs ++ (f ∷ [])) (sym (as_part x y es))

  pub between-before : (x y : ℕ) (es : List G) (f : G) → y ≤ length es → between x y (es ++ (f ∷ [])) ≡ between x y es
  between-before x y es f p = as_part x y (es ++ (f ∷ [])) ∙ ap (drop x) (take-append-le y es (f ∷ []) p) ∙ sym (as_part x y es)

  pub between-after : (x y : ℕ) (es : List G) (f : G) → length es < x → between x y (es ++ (f ∷ [])) ≡ between x y es
  between-after x y es f p = let l = length_push es f in between-beyond x y (es ++ (f ∷ [])) (omega arith) ∙ sym (between-beyond x y es (omega arith))
