-- Lists made from a function of each element, or from no element. Assumes nothing.
use Rattle.std.proofs.Common.{◌≡◌, ℕ, ◌+◌, ◌-◌, ◌<◌, List, [], ◌∷◌, ◌++◌, map, length, get_or, take, drop, set, replicate, sym, refl, ap, ◌∙◌, ⊎_elim, arith}
use mathlib.Core.List.Memᴰ
use mathlib.Core.List.{Memᴰ}
use Rattle.std.proofs.lemmas.List.{take_more, take_more_set, map-append, drop-set-lt, drop-drop, drop-replicate}

pub fill_one : {X Y : Type 0} (f : X → Y) (xs : List X) (d : X) (ys : List Y) (i : ℕ) (y : Y) → i < length xs → i < length ys → take i ys ≡ map f (take i xs) → y ≡ f (get_or xs i d) → take (i + 1) (set ys i y) ≡ map f (take (i + 1) xs)
fill_one {X} {Y} f xs d ys i y h l e g =
    take_more_set ys i y l ∙ ap (λ (t : List Y). t ++ (y ∷ [])) e ∙ ap (λ (z : Y). map f (take i xs) ++ (z ∷ [])) g ∙ sym (map-append f (take i xs) (get_or xs i d ∷ [])) ∙ ap (map f) (sym (take_more xs i d h))

pub from-map : {X Y : Type 0} (f : X → Y) (xs : List X) (y : Y) → Memᴰ y (map f xs) → (x : X) × Memᴰ x xs × (y ≡ f x)
from-map f [] y m = absurd (Memᴰ.not-nil m)
from-map {X} {Y} f (x ∷ xs) y m =
    ⊎_elim (λ (e : y ≡ f x). (x, Memᴰ.head refl, e)) (λ (q : Memᴰ y (map f xs)). let b = from-map f xs y q in (b.0, Memᴰ.tail b.1, b.2)) (Memᴰ.cases_cons m)

pub map_back : {X Y : Type 0} (f : X → Y) (g : Y → X) → ((x : X) → g (f x) ≡ x) → (xs : List X) → map g (map f xs) ≡ xs
map_back f g e [] = refl
map_back f g e (x ∷ xs) = let h = e x in let t = map_back f g e xs in cc (h, t)

-- what stands behind place i after one more place is filled
pub behind_one : {X : Type 0} (xs : List X) (i : ℕ) (x d : X) → drop i xs ≡ replicate (128 - i) d → drop (i + 1) (set xs i x) ≡ replicate (128 - (i + 1)) d
behind_one {X} xs i x d e =
    drop-set-lt (i + 1) xs i x (omega arith)
    ∙ sym (drop-drop 1 i xs)
    ∙ ap (drop 1) e
    ∙ drop-replicate 1 (128 - i) d
    ∙ ap (λ (k : ℕ). replicate k d) (let q : 128 - i - 1 ≡ 128 - (i + 1) = omega arith in q)

-- what was added to an empty list is all of it
pub from_empty : {X : Type 0} {before after more : List X} → before ≡ [] → after ≡ before ++ more → after ≡ more
from_empty {X} {more = more} e h = h ∙ ap (λ (xs : List X). xs ++ more) e
