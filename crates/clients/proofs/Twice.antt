-- What follows, for two appends and an open, from the laws of each. Assumes nothing.
use Rattle.std.proofs.Common.{◌≡◌, ℕ, ◌≤◌, true, leb, [], ◌∷◌, is_ok, Some, None, Ok, Result, sym, ap, ◌∙◌, arith}
use Rattle.std.proofs.lemmas.Bool.{not-false, leb-false}
use Rattle.refusal.specs.Judged.{Rules, first}
use Rattle.refusal.specs.declared.Refusal.{Refusal}
use Rattle.refusal.specs.declared.Refusal.TheVariants.{Full, NoKeyAfter}
use Rattle.refusal.proofs.Judging.{answered, clear, first_passes}
use Rattle.group.specs.Kind.{Kind}
use Rattle.group.proofs.Algebra.{unit-right}
use Rattle.source.specs.Sources.{Keys, Has, Agree, lacks}
use Rattle.sealing.specs.Calls.{append_rules}
use Rattle.sealing.specs.History.{AppendLaw, OpenLaw}
use Rattle.clients.specs.Two.{two_rules, SumOfTwo}

module _ {G V : Type 0} (k : Kind G V) (keys : Keys G) (places : ℕ) (x y : G) where
  free : first (two_rules keys places) ≡ None → (2 ≤ places) × Has keys 0 × Has keys 1 × Has keys 2
  free p =
      let q = clear (two_rules keys places) p in
      (leb-false places 1 q.1.1.1.0, not-false _ q.1.0, not-false _ q.1.1.0, not-false _ q.1.1.1.1.0)

  -- What is left to rule out once the first append is accepted.
  abbrev later : Rules
  later = (leb places 1, Full) ∷ (lacks keys 2, NoKeyAfter) ∷ []

  -- Once the first is accepted, key 1 is there, and what is left of the rules is the second append's.
  rest : {n : ℕ} → AppendLaw keys places 0 (Ok n) → first (two_rules keys places) ≡ first (append_rules keys places 1)
  rest law =
      let q = clear (append_rules keys places 0) (sym law.refuses) in
      let here = q.1.1.0 in
      first_passes (append_rules keys places 0) later (sym law.refuses) ∙ sym (rw here)

  -- Both are accepted, so the open is answered.
  pub both-accepted : {n m : ℕ} (answer : Result G Refusal) → AppendLaw keys places 0 (Ok n) → AppendLaw keys places 1 (Ok m) → OpenLaw k keys keys (x ∷ y ∷ []) 0 2 answer → SumOfTwo k keys places x y answer
  both-accepted answer one two law =
      let none : first (two_rules keys places) ≡ None = rest one ∙ sym two.refuses in
      let has = free none in
      let ok : is_ok answer ≡ true = law.answers.1 (omega arith, omega arith, has.1, has.3) in
      let agree : Agree k keys keys = λ i a b p q. let both : Some a ≡ Some b = sym p ∙ q in let one : a ≡ b = cc in ap k.value one in
      record {
        answered = (λ done. has, λ h. ok);
        refuses = (answered answer).0 ok ∙ sym none;
        figure = λ v is. law.figure agree v is ∙ ap (k.sums.plus (k.value x)) (unit-right k.sums (k.value y));
      }
