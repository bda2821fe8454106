-- The first rule that applies. Assumes nothing.
use Rattle.std.proofs.Common.{◌≡◌, ℕ, [], ◌∷◌, ◌++◌, Ok, Err, sym, refl, ap, ◌∙◌, arith}
use Rattle.refusal.specs.declared.Refusal.{Refusal}
use Rattle.refusal.specs.Judged.{Rules, judged, refusal}
use Rattle.refusal.proofs.Judging.{refusal-judged, judged-refused, first_stays}
use Rattle.grant.specs.Rules.{Answer}

abbrev pub verdict : Rules → Answer
verdict rules = judged rules tt

-- a refusal is no answer
pub refused-ok : {why : Refusal} → ◌≡◌ {A = Answer} (Err why) (Ok tt) → ⊥
refused-ok e = let z : ◌≡◌ {A = ℕ} 0 1 = cc in omega arith

-- the first of rules and of more
pub judged-found : (xs ys : Rules) (n : Refusal) → verdict xs ≡ Err n → verdict (xs ++ ys) ≡ Err n
judged-found xs ys n e = judged-refused (xs ++ ys) tt (first_stays xs ys (sym (refusal-judged xs tt) ∙ ap refusal e))

pub judged-rest : (xs ys : Rules) → verdict xs ≡ Ok tt → verdict (xs ++ ys) ≡ verdict ys
judged-rest [] ys e = refl
judged-rest (a ∷ xs) ys e = let rest = judged-rest xs ys in grind arith
