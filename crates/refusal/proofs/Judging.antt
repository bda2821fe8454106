-- What an answer says of the rules that it was judged by. Assumes nothing.
use Rattle.std.proofs.Common.{◌≡◌, true, false, cond, ◌↔◌, [], ◌∷◌, ◌++◌, is_ok, Some, None, Ok, Err, Result, sym, refl, ◌∙◌}
use Rattle.std.proofs.lemmas.Bool.{cond-false, false≢true}
use Rattle.refusal.specs.Judged.{Rules, judged, first, refusal}
use Rattle.refusal.specs.declared.Refusal.{Refusal}

pub some-none : {A : Type 0} {x : A} → Some x ≡ None → ⊥
some-none e = cc

module _ {R : Type 0} where
  pub refusal-judged : (rules : Rules) (x : R) → refusal (judged rules x) ≡ first rules
  refusal-judged [] x = refl
  refusal-judged (rule ∷ rest) x =
      elim rule.0 as (λ t. refusal (cond t (Err rule.1) (judged rest x)) ≡ cond t (Some rule.1) (first rest)) [ true ↦ refl | false ↦ refusal-judged rest x ]

  pub judged-passed : (rules : Rules) (x : R) → first rules ≡ None → judged rules x ≡ Ok x
  judged-passed [] x p = refl
  judged-passed (rule ∷ rest) x p =
      (elim rule.0 as (λ t. cond t (Some rule.1) (first rest) ≡ None → cond t (Err rule.1) (judged rest x) ≡ Ok x)
      [ true ↦ λ q. absurd (some-none q) | false ↦ λ q. judged-passed rest x q ]) p

  pub judged-refused : (rules : Rules) (x : R) {e : Refusal} → first rules ≡ Some e → judged rules x ≡ Err e
  judged-refused [] x p = absurd (some-none (sym p))
  judged-refused (rule ∷ rest) x {e} p =
      (elim rule.0 as (λ t. cond t (Some rule.1) (first rest) ≡ Some e → cond t (Err rule.1) (judged rest x) ≡ Err e)
      [ true ↦ λ q. cc | false ↦ λ q. judged-refused rest x q ]) p

  pub answered : (r : Result R Refusal) → (is_ok r ≡ true) ↔ (refusal r ≡ None)
  answered (Ok x) = (λ p. refl, λ p. refl)
  answered (Err e) = (λ p. absurd (false≢true p), λ p. absurd (some-none p))

-- No rule applies.
abbrev pub Clear : Rules → Type 0
Clear [] = Unit {0}
Clear (rule ∷ rest) = (rule.0 ≡ false) × Clear rest

pub clear : (rules : Rules) → first rules ≡ None → Clear rules
clear [] p = tt
clear (rule ∷ rest) p =
    (elim rule.0 as (λ t. cond t (Some rule.1) (first rest) ≡ None → (t ≡ false) × Clear rest)
    [ true ↦ λ q. absurd (some-none q) | false ↦ λ q. (refl, clear rest q) ]) p

pub unrefused : (rules : Rules) → Clear rules → first rules ≡ None
unrefused [] p = refl
unrefused (rule ∷ rest) p = cond-false rule.0 (Some rule.1) (first rest) p.0 ∙ unrefused rest p.1

-- Rules after others count where none of those applies.
pub first_stays : (rules more : Rules) {e : Refusal} → first rules ≡ Some e → first (rules ++ more) ≡ Some e
first_stays [] more p = absurd (some-none (sym p))
first_stays (rule ∷ rest) more {e} p =
    (elim rule.0 as (λ t. cond t (Some rule.1) (first rest) ≡ Some e → cond t (Some rule.1) (first (rest ++ more)) ≡ Some e)
    [ true ↦ λ q. q | false ↦ λ q. first_stays rest more q ]) p

pub first_passes : (rules more : Rules) → first rules ≡ None → first (rules ++ more) ≡ first more
first_passes [] more p = refl
first_passes (rule ∷ rest) more p =
    (elim rule.0 as (λ t. cond t (Some rule.1) (first rest) ≡ None → cond t (Some rule.1) (first (rest ++ more)) ≡ first more)
    [ true ↦ λ q. absurd (some-none q) | false ↦ λ q. first_passes rest more q ]) p
