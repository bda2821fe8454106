-- A grant as the reader of a run. Assumes nothing.
use Rattle.std.proofs.Common.{◌≡◌, ℕ, ◌^◌, Bool, true, false, cond, not, ◌&&◌, ltb, List, ◌∷◌, length, is_some, Some, None, Option, Result, sym, refl, ap, ◌∙◌}
use Rattle.refusal.specs.Judged.{first}
use Rattle.refusal.specs.declared.Refusal.{Refusal}
use Rattle.refusal.specs.declared.Refusal.TheVariants.{Reversed, Beyond, NoKeyBefore, NoKeyAfter}
use Rattle.refusal.proofs.Judging.{some-none}
use Rattle.group.specs.Kind.{Kind}
use Rattle.store.specs.Contents.{Contents}
use Rattle.source.specs.Sources.{Keys, Agree}
use Rattle.sealing.specs.History.{opened, OpenLaw, Continues}
use Rattle.grant.specs.declared.grant.Grant.{Grant}
use Rattle.grant.specs.Seeds.{Encrypted, figured, leaf_words, walk, tree_keys}
use Rattle.grant.specs.Grants.{Granted, grant_keys, granted_keys}
use Rattle.grant.proofs.Lawfully.{keeps_to}
use Rattle.grant_clients.specs.Sharing.{has, Shares, Shared}

-- a key that was granted is there exactly when the tree has it
some-granted : {G : Type 0} (width : ℕ) (made : List ℕ → G) (b c : Bool) (words : List ℕ) → is_some (cond b (figured width made (cond c (Some words) None)) None) ≡ (b && c)
some-granted width made true true words = refl
some-granted width made true false words = refl
some-granted width made false c words = refl

-- a key that is there is the tree's own
from-tree : {G : Type 0} (b : Bool) (o : Option G) (x y : G) → o ≡ Some x → cond b o None ≡ Some y → x ≡ y
from-tree true o x y p q = let same : Some x ≡ Some y = sym p ∙ q in cc
from-tree false o x y p q = absurd (some-none (sym q))

module _ {C G V : Type 0} (e : Encrypted) (k : Kind G V) (width : ℕ) (made : List ℕ → G) (grant : Grant C) (a : Granted) (same : (i : ℕ) → grant_keys e width made grant i ≡ granted_keys e width made a i) where
  abbrev reader : Keys G
  reader = grant_keys e width made grant

  has_key : (i : ℕ) → is_some (reader i) ≡ has a i
  has_key i = ap is_some (same i) ∙ some-granted width made (a.numbers i) (ltb i (2 ^ a.height)) (leaf_words e (walk e a.root a.height i))

  agree : Agree k (tree_keys e width made a.height a.root) reader
  agree i x y p q = ap k.value (from-tree (a.numbers i) (tree_keys e width made a.height a.root i) x y p (sym (same i) ∙ q))

  pub shares : (lines : List G) (from to : ℕ) (answer : Result G Refusal) → OpenLaw k (tree_keys e width made a.height a.root) reader lines from to answer → Shares k a lines from to answer
  shares lines from to answer law = record {
    answers = (
      λ ok. let h = law.answers.0 ok in (h.0, h.1, sym (has_key from) ∙ h.2, sym (has_key to) ∙ h.3),
      λ h. law.answers.1 (h.0, h.1, has_key from ∙ h.2, has_key to ∙ h.3),
    );
    figure = law.figure agree;
    refuses =
        law.refuses
        ∙ ap (λ (b : Bool). first ((ltb to from, Reversed) ∷ (ltb (length lines) to, Beyond) ∷ (not b, NoKeyBefore) ∷ (not (is_some (reader to)), NoKeyAfter) ∷ mathlib.Core.List.[])) (has_key from)
        ∙ ap (λ (b : Bool). first ((ltb to from, Reversed) ∷ (ltb (length lines) to, Beyond) ∷ (not (has a from), NoKeyBefore) ∷ (not b, NoKeyAfter) ∷ mathlib.Core.List.[])) (has_key to);
  }

-- An open with the grant as its reader.
pub shared : {C G V S : Type 0} (e : Encrypted) (k : Kind G V) (width : ℕ) (made : List ℕ → G) (contents : S → Contents G) (sound : S → Type 0) (store : S) (grant : Grant C) (from to : ℕ) (answer : Result G Refusal) →
    ((owner : Keys G) → Continues k contents sound owner store (opened (grant_keys e width made grant) from to answer) store) → Shared e k width made contents sound store grant from to answer
shared e k width made contents sound store grant from to answer faithful history led a is calls reached =
    let owner = tree_keys e width made a.height a.root in
    let law = (faithful owner calls reached).2.0 in
    shares e k width made grant a (keeps_to e width made grant history led a is) _ from to answer law
