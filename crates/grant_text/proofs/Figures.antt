-- Laws of columns: they have their width, are written from the right, and are read back. Assumes nothing.
use Rattle.std.proofs.Common.{◌≡◌, ℕ, ◌+◌, ◌-◌, ◌*◌, ◌^◌, ◌<◌, ◌≤◌, eqb, List, ◌++◌, map, length, get_or, take, drop, replicate, Some, None, decimal, Option, sym, ap, ◌∙◌, subst, ⊎_elim, arith, MatchOption}
use Rattle.std.specs.Str.Parse.{digits_value, AllDigits}
use Rattle.std.specs.Char.{digit_value as value_of_digit}
use Rattle.std.specs.Int.Digits.{number_from_digits, number_from_digits_after}
use Rattle.std.proofs.lemmas.List.{length-append, length-replicate, get_or-replicate, get_or_append_left, get_or-append_right, drop_at, take-append-drop, map-append, length-drop, take_all, get_or-take, ext_get_or}
use Rattle.std.specs.List.{prefix_len}
use Rattle.std.proofs.lemmas.List.Folds.{length-prefix_len}
use Rattle.std.proofs.lemmas.List.Sums.{prefix_len_passes}
use Rattle.std.proofs.lemmas.Int.Digits.{digits_more, digits_value_more, digits_value_is, number_after_append, number_after_ge}
use Rattle.std.proofs.lemmas.Str.Parse.{IsNumeralModel, numerals_by_value, tells_digits, digit_at}
use Rattle.std.proofs.lemmas.Fmt.{decimal_digit, decimal_nonempty, first_decimal, digits_decimal, digits_value-decimal, decimal-digits_value}
use Rattle.std.proofs.lemmas.Bool.{cases_eq, cases_order, eqb-true}
use Rattle.std.proofs.lemmas.Bool.Decides.{nat_tests}
use Rattle.grant_text.specs.Columns.{column}

pub own : IsNumeralModel (AllDigits 10) (digits_value 10)
own = numerals_by_value (AllDigits 10) tells_digits

pub length-column : (w n : ℕ) → length (decimal n) ≤ w → length (column w n) ≡ w
unfolding column
length-column w n h = length-append (replicate (w - length (decimal n)) 32) (decimal n) ∙ ap (λ k. k + length (decimal n)) (length-replicate (w - length (decimal n)) 32) ∙ omega arith

pub length-column-le : (w n : ℕ) → w ≤ length (column w n)
unfolding column
length-column-le w n =
    let blanks : List ℕ = replicate (w - length (decimal n)) 32 in
    let long : length blanks ≡ w - length (decimal n) = length-replicate (w - length (decimal n)) 32 in
    omega (arith, length-append blanks (decimal n))

pub value-front : (k : ℕ) (ds : List ℕ) → digits_value 10 (take k ds) ≤ digits_value 10 ds
value-front k ds =
    let front = map value_of_digit (take k ds) in
    let back = map value_of_digit (drop k ds) in
    let whole : digits_value 10 ds ≡ number_from_digits_after 10 (number_from_digits 10 front) back =
    digits_value_is 10 ds ∙ ap (λ l. number_from_digits 10 (map value_of_digit l)) (sym (take-append-drop k ds))
    ∙ ap (number_from_digits 10) (map-append value_of_digit (take k ds) (drop k ds)) ∙ number_after_append 10 0 front back in
    omega (arith, digits_value_is 10 (take k ds), number_after_ge 10 (number_from_digits 10 front) back (omega arith))

-- what stands before the first byte that is no blank
pub blanks_first : (s : List ℕ) → s ≡ replicate (prefix_len (λ b. eqb b 32) s) 32 ++ drop (prefix_len (λ b. eqb b 32) s) s
blanks_first s =
    let k : ℕ = prefix_len (λ b. eqb b 32) s in
    let long : length (take k s) ≡ k = length-prefix_len (λ b. eqb b 32) s in
    sym (take-append-drop k s)
    ∙ ap (λ l. l ++ drop k s)
    (ext_get_or 0 (take k s) (replicate k 32) (long ∙ sym (length-replicate k 32)) (λ i lt.
    get_or-take k s i 0 (omega (arith, long)) ∙ eqb-true _ 32 (prefix_len_passes (λ b. eqb b 32) s i 0 (omega (arith, long))) ∙ sym (get_or-replicate k i 32 0 (omega (arith, long)))))

-- blanks and then digits are a column
pub column-from : (s : List ℕ) (b n : ℕ) → b ≤ length s → s ≡ replicate b 32 ++ drop b s → drop b s ≡ decimal n → s ≡ column (length s) n
unfolding column
column-from s b n h front back =
    let k : b ≡ length s - length (decimal n) = omega (arith, length-drop b s, ap length back) in
    front ∙ ap (λ l. replicate b 32 ++ l) back ∙ ap (λ m. replicate m 32 ++ decimal n) k

-- and a column splits in no other way
pub column-split : (s : List ℕ) (b n : ℕ) → n < 2 ^ 64 → s ≡ replicate b 32 ++ drop b s → (get_or s b 0 ≡ 32 → ⊥) → s ≡ column (length s) n → drop b s ≡ decimal n
unfolding column
column-split s b n small front stops e =
    let m : ℕ = length s - length (decimal n) in
    let digit = digit_at (decimal n) 0 (digits_decimal own n small) (decimal_nonempty n small) in
    let first : get_or s m 0 ≡ get_or (decimal n) 0 0 =
    ap (λ l. get_or l m 0) e ∙ get_or-append_right (replicate m 32) (decimal n) m m 0 (length-replicate m 32) (omega arith)
    ∙ ap (λ k. get_or (decimal n) k 0) (let z : m - m ≡ 0 = omega arith in z) in
    ⊎_elim
    (λ same. ap (drop b) e ∙ drop_at (replicate m 32) (decimal n) b (length-replicate m 32 ∙ sym same))
    (⊎_elim
    (λ lt. absurd (stops (ap (λ l. get_or l b 0) e ∙ get_or_append_left (replicate m 32) (decimal n) 0 b (subst (λ k. b < k) (sym (length-replicate m 32)) lt) ∙ get_or-replicate m b 32 0 lt)))
    (λ gt.
    let blank : get_or s m 0 ≡ 32 = ap (λ l. get_or l m 0) front ∙ get_or_append_left (replicate b 32) (drop b s) 0 m (subst (λ k. m < k) (sym (length-replicate b 32)) gt) ∙ get_or-replicate b m 32 0 gt in
    absurd (omega arith)))
    (cases_order b m)

digit_value : (x : ℕ) → 48 ≤ x → x < 58 → value_of_digit x ≡ x - 48
digit_value x low high = grind (arith, nat_tests)

-- the turns of `read_decimal`: n is what the first i bytes of s say
module _ (s : List ℕ) (i n : ℕ) where
  pub read_more : (m : ℕ) → i < length s → AllDigits 10 (take i s) × (n ≡ digits_value 10 (take i s)) → (48 ≤ get_or s i 0) × (get_or s i 0 < 58) × (m ≡ n * 10 + (get_or s i 0 - 48)) → AllDigits 10 (take (i + 1) s) × (m ≡ digits_value 10 (take (i + 1) s))
  read_more m h inv got =
      let d = digit_value (get_or s i 0) got.0 got.1 in
      (digits_more 10 s i h inv.0 (omega arith), omega (arith, digits_value_more 10 s i h))

  -- a byte that is no digit, or that makes the number too large, is in no decimal of 64 bits
  pub read_stuck : (m : ℕ) → i < length s → n ≡ digits_value 10 (take i s) → (48 ≤ get_or s i 0 → get_or s i 0 < 58 → 2 ^ 64 ≤ n * 10 + (get_or s i 0 - 48)) → m < 2 ^ 64 → s ≡ decimal m → ⊥
  read_stuck m h inv stuck small e =
      let ds : AllDigits 10 s = subst (AllDigits 10) (sym e) (digits_decimal own m small) in
      let x = digit_at s i ds h in
      let d = digit_value (get_or s i 0) x.0 (omega arith) in
      omega (arith, stuck x.0 (omega arith), digits_value_more 10 s i h, value-front (i + 1) s, ap (digits_value 10) e, digits_value-decimal own m small)

  pub read_done : length s ≤ i → AllDigits 10 (take i s) × (n ≡ digits_value 10 (take i s)) → n < 2 ^ 64 → 0 < length s → (get_or s 0 0 ≡ 48 → length s ≡ 1) → s ≡ decimal n
  read_done h inv small some lone =
      let whole = take_all i s h in
      let ds : AllDigits 10 s = subst (AllDigits 10) whole inv.0 in
      let is : n ≡ digits_value 10 s = inv.1 ∙ ap (digits_value 10) whole in
      sym (ap decimal is ∙ decimal-digits_value own s ds some lone (omega arith))

-- a decimal has a digit, and begins with 0 only where it is a lone 0
pub not-empty : (s : List ℕ) (n : ℕ) → n < 2 ^ 64 → s ≡ decimal n → length s ≡ 0 → ⊥
not-empty s n small e none = omega (arith, ap length e, decimal_nonempty n small)

pub no_zero : (s : List ℕ) (n : ℕ) → n < 2 ^ 64 → s ≡ decimal n → get_or s 0 0 ≡ 48 → 1 < length s → ⊥
no_zero s n small e zero long =
    ⊎_elim
    (λ none. omega (arith, ap length (e ∙ ap decimal none ∙ decimal_digit 0 (omega arith))))
    (λ some. omega (arith, first_decimal n (omega arith) small, ap (λ l. get_or l 0 0) e))
    (cases_eq n 0)

pub some_weaker : {X : Type 0} (o : Option X) (P P' : Type 0) (Q Q' : X → Type 0) → (P → P') → ((x : X) → Q x → Q' x) → MatchOption o P Q → MatchOption o P' Q'
some_weaker None P P' Q Q' f g h = f h
some_weaker (Some x) P P' Q Q' f g h = g x h
