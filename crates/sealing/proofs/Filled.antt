-- What a row of accepted lines leaves in a store. Assumes nothing.
use Rattle.std.proofs.Common.{◌≡◌, ℕ, zero, suc, ◌+◌, ◌-◌, ◌<◌, ◌≤◌, List, [], ◌∷◌, ◌++◌, map, length, get_or, take, drop, Ok, sym, refl, ap, ◌∙◌, subst, add-zero, arith}
use Rattle.std.proofs.lemmas.List.{append-nil, append_assoc, length_push, take-map, drop-map}
use Rattle.group.specs.Kind.{Kind, sum}
use Rattle.store.specs.Contents.{Contents, push, between}
use Rattle.source.specs.Sources.{Keys, Has}
use Rattle.sealing.specs.Calls.{seal, Appends, append_rules}
use Rattle.sealing.specs.Doubles.{Fills}
use Rattle.refusal.proofs.Judging.{judged-passed}
use Rattle.sealing.proofs.Runs.{free-append}
use Rattle.sealing.proofs.Telescope.{seals}

module _ {G V : Type 0} (k : Kind G V) (source : Keys G) where
  grow : (before : List G) (l : G) (ls : List G) →
      (before ++ (seal k source (length before) l ∷ [])) ++ seals k source (length (before ++ (seal k source (length before) l ∷ []))) ls ≡ before ++ seals k source (length before) (l ∷ ls)
  grow before l ls =
      let s = seal k source (length before) l in
      ap (λ n. (before ++ (s ∷ [])) ++ seals k source n ls) (length_push before s) ∙ append_assoc before (s ∷ []) (seals k source (length before + 1) ls)

  pub filled : (before : Contents G) (lines : List G) (after : Contents G) → Fills k source before lines after → after.entries ≡ before.entries ++ seals k source (length before.entries) lines
  filled before [] after f = ap (λ c. c.entries) f ∙ sym (append-nil before.entries)
  filled before (l ∷ ls) after f =
      filled f.1 ls after f.3
      ∙ ap (λ c. c.entries ++ seals k source (length c.entries) ls) f.2.leaves
      ∙ grow before.entries l ls

  pub fills : (before : Contents G) (lines : List G) → length before.entries + length lines ≤ before.capacity → ((i : ℕ) → i ≤ length before.entries + length lines → Has source i) →
      Fills k source before lines (record { entries = before.entries ++ seals k source (length before.entries) lines; capacity = before.capacity })
  fills before [] room has = λ i. record { entries = append-nil before.entries i; capacity = before.capacity }
  fills before (l ∷ ls) room has =
      let n = length before.entries in
      let next = push before (seal k source n l) in
      let longer : length next.entries ≡ n + 1 = length_push before.entries (seal k source n l) in
      let free = free-append source before.capacity n (omega arith, has n (omega arith), has (n + 1) (omega arith)) in
      let appends : Appends k source before l (Ok n) next =
      record { answers = sym (judged-passed (append_rules source before.capacity n) n free); leaves = refl } in
      let rest = fills next ls (omega arith) (λ i h. has i (omega arith)) in
      (n, next, appends, subst (λ xs. Fills k source next ls (record { entries = xs; capacity = before.capacity })) (grow before.entries l ls) rest)

module _ {G V : Type 0} (k : Kind G V) where
  pub get_or-seals : (source : Keys G) (n : ℕ) (ls : List G) (i : ℕ) (d e : G) → i < length ls → get_or (seals k source n ls) i e ≡ seal k source (n + i) (get_or ls i d)
  get_or-seals source n [] i d e h = absurd (omega arith)
  get_or-seals source n (l ∷ ls) zero d e h = ap (λ m. seal k source m l) (sym (add-zero n))
  get_or-seals source n (l ∷ ls) (suc i) d e h =
      let ends : (n + 1) + i ≡ n + suc i = omega arith in
      get_or-seals source (n + 1) ls i d e (omega arith) ∙ ap (λ m. seal k source m (get_or ls i d)) ends

  all : List V → V
  all [] = k.sums.zero
  all (v ∷ vs) = k.sums.plus v (all vs)

  sum-all : (xs : List G) → sum k xs ≡ all (map k.value xs)
  unfolding all
  sum-all [] = refl
  sum-all (x ∷ xs) = ap (k.sums.plus (k.value x)) (sum-all xs)

  -- lists that count alike sum alike
  pub sum_alike : (a b : ℕ) (xs ys : List G) → map k.value xs ≡ map k.value ys → sum k (between a b xs) ≡ sum k (between a b ys)
  sum_alike a b xs ys e =
      let part = λ (zs : List G). sym (take-map k.value (b - a) (drop a zs)) ∙ ap (take (b - a)) (sym (drop-map k.value a zs)) in
      sum-all (between a b xs) ∙ ap all (part xs ∙ ap (λ vs. take (b - a) (drop a vs)) e ∙ sym (part ys)) ∙ sym (sum-all (between a b ys))
