-- The steps of the cutting, over what the code knows. Assumes nothing.
use Rattle.std.proofs.Common.{◌≡◌, ℕ, ◌+◌, ◌-◌, ◌*◌, ◌<◌, ◌≤◌, ◌⊎◌, List, [], ◌∷◌, ◌++◌, length, Err, Result, MatchResult, sym, ap, ◌∙◌, subst, append_assoc, append-nil, arith, length-append}
use Rattle.std.specs.Result.{IsErrAnd}
use Rattle.std.proofs.lemmas.Result.{err_from_is_err_and}
use Rattle.cover.specs.declared.node.Node.{Node}
use Rattle.cover.specs.Tree.{first_key, past}
use Rattle.cover.specs.Cut.{node, cut, Fills}
use Rattle.cover.proofs.Cuts.{cut_apart, cut-whole, Halved}

-- what `?` passes on is the callee's
pub passed_on : {R E : Type 0} {why : E} {r : Result R E} → IsErrAnd r (λ (e : E). e ≡ why) → r ≡ Err why
passed_on {r = r} h = let q = err_from_is_err_and r h in q.1 ∙ ap Err q.2

pub step-apart : (from to level index : ℕ) (before : List Node) → (to ≤ first_key (node level index)) ⊎ (past (node level index) ≤ from) → before ≡ before ++ cut from to level index
step-apart from to level index before o = sym (append-nil before) ∙ ap (λ (x : List Node). before ++ x) (sym (cut_apart from to level index o))

pub step-whole : {E : Type 0} (r : Result (Unit {0}) E) (from to level index : ℕ) (before after : List Node) → from ≤ first_key (node level index) → past (node level index) ≤ to → Fills r before (node level index ∷ []) after → Fills r before (cut from to level index) after
step-whole r from to level index before after f p h = subst (λ (x : List Node). Fills r before x after) (sym (cut-whole from to level index f p)) h

pub step_left : (from to level index : ℕ) (before : List Node) → Halved from to level index → 128 < length (before ++ cut from to (level - 1) (2 * index)) → 128 < length (before ++ cut from to level index)
step_left from to level index before h l =
    let left = cut from to (level - 1) (2 * index) in
    let right = cut from to (level - 1) (2 * index + 1) in
    subst (λ (x : List Node). 128 < length (before ++ x)) (sym h.parts) (omega (arith, length-append before (left ++ right), length-append left right, length-append before left))

pub step_right : {E : Type 0} (r : Result (Unit {0}) E) (from to level index : ℕ) (before mid after : List Node) → Halved from to level index → mid ≡ before ++ cut from to (level - 1) (2 * index) → Fills r mid (cut from to (level - 1) (2 * index + 1)) after → Fills r before (cut from to level index) after
step_right r from to level index before mid after h m w =
    let left = cut from to (level - 1) (2 * index) in
    let right = cut from to (level - 1) (2 * index + 1) in
    let e : mid ++ right ≡ before ++ cut from to level index = ap (λ (x : List Node). x ++ right) m ∙ append_assoc before left right ∙ ap (λ (x : List Node). before ++ x) (sym h.parts) in
    subst (λ (x : List Node). MatchResult r (λ _. after ≡ x) (λ _. 128 < length x)) e w
