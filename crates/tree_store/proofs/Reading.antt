-- Sums read from the cells of a tree. Assumes nothing.
use Rattle.std.proofs.Common.{◌≡◌, ℕ, zero, suc, ◌+◌, ◌-◌, ◌*◌, ◌^◌, ◌<◌, ◌≤◌, min, Bool, true, false, List, [], ◌∷◌, ◌++◌, length, get_or, take, drop, sym, refl, ap, ◌∙◌, subst, mul-le-mul_right, mul_assoc, add-one, arith, length-drop, length-take}
use native.Mathlib.Nat.{pow-succ'}
use Rattle.std.proofs.lemmas.List.{take_more, get_or-drop}
use Rattle.group.specs.Kind.{Kind, sum}
use Rattle.group.proofs.Algebra.{unit-right}
use Rattle.group.proofs.Sums.{sum-append, sum-push}
use Rattle.store.specs.Contents.{between}
use Rattle.tree_store.specs.Levels.{covering, level_width, level_start}
use Rattle.tree_store.proofs.Widths.{covering_mono, ends-before, width_most}
use Rattle.tree_store.proofs.Above.{Above}
use Rattle.tree_store.proofs.Parts.{between_split, between_none, between-past}
use Rattle.tree_store.proofs.Places.{Sound, Stands}

-- the same stretch of figures, one level up
up : (k j l : ℕ) → j * k * k ^ l ≡ j * k ^ suc l
up k j l = mul_assoc j k (k ^ l) ∙ ap (λ p. j * p) (sym (pow-succ' k l))

module _ {G V : Type 0} (kind : Kind G V) where
  abbrev plus : V → V → V
  plus = kind.sums.plus

  split_two : (es : List G) (x y z : ℕ) → x ≤ y → y ≤ z → sum kind (between x z es) ≡ plus (sum kind (between x y es)) (sum kind (between y z es))
  split_two es x y z p q = ap (sum kind) (between_split x y z es p q) ∙ sum-append kind (between x y es) (between y z es)

  split_three : (es : List G) (x y z w : ℕ) → x ≤ y → y ≤ z → z ≤ w → sum kind (between x w es) ≡ plus (plus (sum kind (between x y es)) (sum kind (between z w es))) (sum kind (between y z es))
  split_three es x y z w p q r =
      let A = sum kind (between x y es) in
      let B = sum kind (between z w es) in
      let C = sum kind (between y z es) in
      split_two es x y w p (omega arith) ∙ ap (plus A) (split_two es y z w q r ∙ kind.sums.comm C B) ∙ sym (kind.sums.assoc A B C)

  module _ (k most levels n : ℕ) (cells : List G) (room : level_start k most levels ≤ length cells) (s : Sound kind k most levels n cells) where
    -- cells of one level, read one after another
    level_run : (l from m : ℕ) → l < levels → from + m ≤ level_width k most l → sum kind (take m (drop (level_start k most l + from) cells)) ≡ sum kind (between (from * k ^ l) ((from + m) * k ^ l) (take n cells))
    level_run l from zero low fits =
        let e : (from + 0) * k ^ l ≡ from * k ^ l = ap (λ c. c * k ^ l) (omega arith) in
        ap (sum kind) (sym (between_none (from * k ^ l) ((from + 0) * k ^ l) (take n cells) (omega arith)))
    level_run l from (suc m) low fits =
        let es = take n cells in
        let run = drop (level_start k most l + from) cells in
        let ends = ends-before k most l levels low in
        let long = length-drop (level_start k most l + from) cells in
        let at : level_start k most l + from + m ≡ level_start k most l + (from + m) = omega arith in
        let cell = get_or cells (level_start k most l + (from + m)) kind.zero in
        let more : take (suc m) run ≡ take m run ++ (cell ∷ []) =
        ap (λ c. take c run) (sym (add-one m)) ∙ take_more run m kind.zero (omega arith) ∙ ap (λ (c : G). take m run ++ (c ∷ [])) (get_or-drop (level_start k most l + from) cells m kind.zero ∙ ap (λ p. get_or cells p kind.zero) at) in
        let x = from * k ^ l in
        let y = (from + m) * k ^ l in
        let z = (from + m + 1) * k ^ l in
        let last : (from + suc m) * k ^ l ≡ z = ap (λ c. c * k ^ l) (omega arith) in
        let xy : x ≤ y = mul-le-mul_right {m = from} {n = from + m} (k ^ l) (omega arith) in
        let yz : y ≤ z = mul-le-mul_right {m = from + m} {n = from + m + 1} (k ^ l) (omega arith) in
        let front = level_run l from m low (omega arith) in
        let one = s l (from + m) low (omega arith) in
        ap (sum kind) more ∙ sum-push kind (take m run) cell
        ∙ (λ i. plus (front i) (one i))
        ∙ sym (split_two es x y z xy yz)
        ∙ ap (λ w. sum kind (between x w es)) (sym last)

    level-sum : (l start from to : ℕ) → start ≡ level_start k most l → l < levels → from ≤ to → to ≤ level_width k most l → sum kind (take (to - from) (drop (start + from) cells)) ≡ sum kind (between (from * k ^ l) (to * k ^ l) (take n cells))
    level-sum l start from to at low ord fits =
        let e : from + (to - from) ≡ to = omega arith in
        ap (λ p. sum kind (take (to - from) (drop (p + from) cells))) at
        ∙ level_run l from (to - from) low (omega arith)
        ∙ ap (λ c. sum kind (between (from * k ^ l) (c * k ^ l) (take n cells))) e

-- on the way up: in a sound tree what is summed, with the figures of cells from to `to` of level l, is the sum asked for
pub record Reads {G V : Type 0} (kind : Kind G V) (k most levels n a b : ℕ) (whole : Bool) (cells : List G) (l start width from to : ℕ) (total : G) : Type 0 where
  pub start_is : start ≡ level_start k most l
  pub width_is : width ≡ level_width k most l
  pub ordered : from ≤ to
  pub within : to ≤ width
  pub narrow : width ≤ 1048576
  pub room : l < levels → start + width ≤ length cells
  pub ended : whole ≡ true → n ≤ to * k ^ l
  pub left : Sound kind k most levels n cells → kind.sums.plus (kind.value total) (sum kind (between (from * k ^ l) (to * k ^ l) (take n cells))) ≡ sum kind (between a b (take n cells))

module _ {G V : Type 0} (kind : Kind G V) (k most levels n : ℕ) (cells : List G) (t : Stands k most levels n (length cells)) (a b : ℕ) (whole : Bool) where
  abbrev add : V → V → V
  add = kind.sums.plus

  abbrev over : ℕ → ℕ → V
  over x y = sum kind (between x y (take n cells))

  -- what the cells outside those one level up hold, and those one level up
  split_up : (l from to first last : ℕ) → (whole ≡ true → n ≤ to * k ^ l) → Above k from to first last whole → first ≤ last → (w : Bool) → w ≡ whole → over (from * k ^ l) (to * k ^ l) ≡ add (add (over (from * k ^ l) (first * k * k ^ l)) (over (min to (last * k) * k ^ l) (to * k ^ l))) (over (first * k ^ suc l) (last * k ^ suc l))
  split_up l from to first last ended u le false e =
      let K = k ^ l in
      let es = take n cells in
      let edge : min to (last * k) ≡ last * k = omega (arith, u.full (sym e)) in
      let x : from * K ≤ first * k * K = mul-le-mul_right K u.reach in
      let y : first * k * K ≤ last * k * K = mul-le-mul_right K (mul-le-mul_right k le) in
      let z : last * k * K ≤ to * K = mul-le-mul_right K (u.full (sym e)) in
      split_three kind es (from * K) (first * k * K) (last * k * K) (to * K) x y z
      ∙ (λ i. add (add (over (from * K) (first * k * K)) (over (sym edge i * K) (to * K))) (over (up k first l i) (up k last l i)))
  split_up l from to first last ended u le true e =
      let K = k ^ l in
      let es = take n cells in
      let A = over (from * K) (first * k * K) in
      let long = length-take n cells in
      let edge : min to (last * k) ≡ to = omega (arith, u.past (sym e)) in
      let x : from * K ≤ first * k * K = mul-le-mul_right K u.reach in
      let y : first * k * K ≤ to * K = mul-le-mul_right K u.inner in
      let z : to * K ≤ last * k * K = mul-le-mul_right K (u.past (sym e)) in
      let end = ended (sym e) in
      let same : between (first * k * K) (to * K) es ≡ between (first * k * K) (last * k * K) es = between-past (first * k * K) (to * K) (last * k * K) es (omega arith) (omega arith) in
      let none : over (min to (last * k) * K) (to * K) ≡ kind.sums.zero = ap (λ c. over (c * K) (to * K)) edge ∙ ap (sum kind) (between_none (to * K) (to * K) es (omega arith)) in
      split_two kind es (from * K) (first * k * K) (to * K) x y
      ∙ ap (λ (fs : List G). add A (sum kind fs)) same
      ∙ (λ i. add A (over (up k first l i) (up k last l i)))
      ∙ ap (λ v. add v (over (first * k ^ suc l) (last * k ^ suc l))) (sym (unit-right kind.sums A) ∙ ap (add A) (sym none))

  reads_more : (l start width from to : ℕ) (total : G) (first last : ℕ) (before after : G) → Reads kind k most levels n a b whole cells l start width from to total → suc l < levels → first < last → Above k from to first last whole → kind.value before ≡ sum kind (take (first * k - from) (drop (start + from) cells)) → kind.value after ≡ sum kind (take (to - min to (last * k)) (drop (start + min to (last * k)) cells)) → Reads kind k most levels n a b whole cells (suc l) (start + width) (covering k width) first last (kind.plus (kind.plus total before) after)
  reads_more l start width from to total first last before after r low lt u be af =
      let K = k ^ l in
      let fits : to ≤ level_width k most l = omega (arith, r.within, r.width_is) in
      let A = over (from * K) (first * k * K) in
      let B = over (min to (last * k) * K) (to * K) in
      let C = over (first * k ^ suc l) (last * k ^ suc l) in
      let S = kind.value total in
      record {
        start_is = omega (arith, r.start_is, r.width_is);
        width_is = ap (covering k) r.width_is;
        ordered = omega arith;
        within = let c = covering_mono k to width (omega (arith, t.fanned.0)) r.within in omega (arith, u.cover);
        narrow = let w = width_most k most t.fanned.0 (suc l) in let e = ap (covering k) r.width_is in omega (arith, t.sized);
        room = λ low. let e = ends-before k most (suc l) levels low in let wide = ap (covering k) r.width_is in omega (arith, t.room, r.start_is, r.width_is);
        ended = λ e. let p = mul-le-mul_right K (u.past e) in omega (arith, r.ended e, up k last l);
        left = λ s.
            let is-A : kind.value before ≡ A = be ∙ level-sum kind k most levels n cells t.room s l start from (first * k) r.start_is (omega arith) u.reach (omega (arith, u.inner)) in
            let is-B : kind.value after ≡ B = af ∙ level-sum kind k most levels n cells t.room s l start (min to (last * k)) to r.start_is (omega arith) (omega arith) fits in
            let outer : kind.value (kind.plus (kind.plus total before) after) ≡ add S (add A B) =
            kind.plus_counts (kind.plus total before) after ∙ ap (λ v. add v (kind.value after)) (kind.plus_counts total before) ∙ kind.sums.assoc S (kind.value before) (kind.value after) ∙ (λ i. add S (add (is-A i) (is-B i))) in
            ap (λ v. add v C) outer ∙ kind.sums.assoc S (add A B) C ∙ ap (add S) (sym (split_up l from to first last r.ended u (omega arith) whole refl)) ∙ r.left s;
      }

  -- the same, with what the code has for each part
  pub reads_on : (l start width from to : ℕ) (total : G) (first last edge width' : ℕ) (before after half total' : G) → Reads kind k most levels n a b whole cells l start width from to total → suc l < levels → first < last → Above k from to first last whole → edge ≡ min to (last * k) → width' ≡ covering k width → kind.value before ≡ sum kind (take (first * k - from) (drop (start + from) cells)) → kind.value after ≡ sum kind (take (to - edge) (drop (start + edge) cells)) → half ≡ kind.plus total before → total' ≡ kind.plus half after → Reads kind k most levels n a b whole cells (l + 1) (start + width) width' first last total'
  reads_on l start width from to total first last edge width' before after half total' r low lt u ed wi be af ha su =
      let at_edge : kind.value after ≡ sum kind (take (to - min to (last * k)) (drop (start + min to (last * k)) cells)) = af ∙ ap (λ e. sum kind (take (to - e) (drop (start + e) cells))) ed in
      let on = reads_more l start width from to total first last before after r low lt u be at_edge in
      let summed = subst (λ (x : G). Reads kind k most levels n a b whole cells (suc l) (start + width) (covering k width) first last x) (sym (su ∙ ap (λ h. kind.plus h after) ha)) on in
      let wide = subst (λ w. Reads kind k most levels n a b whole cells (suc l) (start + width) w first last total') (sym wi) summed in
      subst (λ m. Reads kind k most levels n a b whole cells m (start + width) width' first last total') (sym (add-one l)) wide

  pub reads_last : (l start width from to : ℕ) (total rest all : G) → Reads kind k most levels n a b whole cells l start width from to total → l < levels → kind.value rest ≡ sum kind (take (to - from) (drop (start + from) cells)) → all ≡ kind.plus total rest → Sound kind k most levels n cells → kind.value all ≡ sum kind (between a b (take n cells))
  reads_last l start width from to total rest all r low is end s =
      ap kind.value end ∙ kind.plus_counts total rest
      ∙ ap (add (kind.value total)) (is ∙ level-sum kind k most levels n cells t.room s l start from to r.start_is low r.ordered (omega (arith, r.within, r.width_is)))
      ∙ r.left s
