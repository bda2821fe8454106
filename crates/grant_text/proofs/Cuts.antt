-- A text is cut into its columns in one way. Assumes nothing.
use Rattle.std.proofs.Common.{◌≡◌, ℕ, ◌+◌, ◌-◌, ◌^◌, ◌<◌, ◌≤◌, List, [], ◌∷◌, ◌++◌, length, get_or, take, drop, replicate, codes, decimal, sym, ap, ◌∙◌, arith}
use Rattle.std.proofs.lemmas.List.{append_assoc, take-append-drop, length-append, length-replicate, length-take, take_at, drop_at, drop-take, take-take, get_or-append_right, append_cancel_left}
use Rattle.std.proofs.lemmas.Str.Parse.{digit_at}
use Rattle.std.proofs.lemmas.Fmt.{decimal_nonempty, digits_decimal, decimal_injective}
use Rattle.grant_text.specs.Columns.{column}
use Rattle.grant.specs.declared.grant.row.Row.{Row}
use Rattle.grant_text.specs.Texts.{sizes, heading, row_line}
use Rattle.grant_text.specs.Readings.{FitsLine}
use Rattle.grant_text.proofs.Figures.{own, length-column, length-column-le, column-split}
use Rattle.grant_text.proofs.Widths.{column-room, fits_3, fits_11, fits_21}

-- two figures with one column are one figure
pub same-from-column : (w m n : ℕ) → m < 2 ^ 64 → n < 2 ^ 64 → length (column w m) ≡ w → column w m ≡ column w n → m ≡ n
unfolding column
same-from-column w m n small small' long e =
    let b : ℕ = w - length (decimal m) in
    let s : List ℕ = column w m in
    let back : drop b s ≡ decimal m = drop_at (replicate b 32) (decimal m) b (length-replicate b 32) in
    let z : b - b ≡ 0 = omega arith in
    let first : get_or s b 0 ≡ get_or (decimal m) 0 0 = get_or-append_right (replicate b 32) (decimal m) b b 0 (length-replicate b 32) (omega arith) ∙ ap (λ k. get_or (decimal m) k 0) z in
    let digit = digit_at (decimal m) 0 (digits_decimal own m small) (decimal_nonempty m small) in
    let whole : s ≡ column (length s) n = e ∙ ap (λ k. column k n) (sym long) in
    decimal_injective m n small small' (sym back ∙ column-split s b n small' (ap (λ l. replicate b 32 ++ l) (sym back)) (λ blank. omega arith) whole)

pub part_of_take : (a k n : ℕ) (s : List ℕ) → a + k ≤ n → take k (drop a (take n s)) ≡ take k (drop a s)
part_of_take a k n s h =
    let is : n ≡ a + (n - a) = omega arith in
    ap (λ j. take k (drop a (take j s))) is ∙ ap (take k) (drop-take a (n - a) s) ∙ take-take k (n - a) (drop a s) (omega arith)

-- a text begins with one column of a width, and goes on in one way
pub column_once : (w m n : ℕ) (a b : List ℕ) → m < 2 ^ 64 → n < 2 ^ 64 → length (decimal m) ≤ w → length (decimal n) ≤ w → column w m ++ a ≡ column w n ++ b → (m ≡ n) × (a ≡ b)
column_once w m n a b small small' room room' e =
    let long = length-column w m room in
    let long' = length-column w n room' in (
      same-from-column w m n small small' long (sym (take_at (column w m) a w long) ∙ ap (take w) e ∙ take_at (column w n) b w long'),
      sym (drop_at (column w m) a w long) ∙ ap (drop w) e ∙ drop_at (column w n) b w long',
    )

-- the columns of a heading, and what stands after them
pub sizes_parts : (s : List ℕ) (h k : ℕ) → take 8 s ≡ sizes h k → (length (decimal h) ≤ 3) × (length (decimal k) ≤ 4) × (s ≡ column 3 h ++ (column 4 k ++ (10 ∷ drop 8 s)))
unfolding sizes
sizes_parts s h k e =
    let all = ap length e ∙ length-append (column 3 h) (column 4 k ++ (10 ∷ [])) in
    let both = length-append (column 4 k) (10 ∷ []) in
    let most = length-take 8 s in
    let l3 : length (column 3 h) ≡ 3 = omega (arith, all, both, most, length-column-le 3 h, length-column-le 4 k) in
    let l4 : length (column 4 k) ≡ 4 = omega (arith, all, both, most, length-column-le 3 h, length-column-le 4 k) in
    (column-room 3 h l3, column-room 4 k l4, sym (take-append-drop 8 s) ∙ ap (λ l. l ++ drop 8 s) e ∙ simp append_assoc)

pub sizes_front : (s more : List ℕ) (h k : ℕ) → length (decimal h) ≤ 3 → length (decimal k) ≤ 4 → s ≡ column 3 h ++ (column 4 k ++ (10 ∷ more)) → take 8 s ≡ sizes h k
unfolding sizes
sizes_front s more h k low few e =
    let front : List ℕ = column 3 h ++ (column 4 k ++ (10 ∷ [])) in
    let long : length front ≡ 8 = omega (arith, length-append (column 3 h) (column 4 k ++ (10 ∷ [])), length-append (column 4 k) (10 ∷ []), length-column 3 h low, length-column 4 k few) in
    let joined : front ++ more ≡ column 3 h ++ (column 4 k ++ (10 ∷ more)) = simp append_assoc in
    ap (take 8) (e ∙ sym joined) ∙ take_at front more 8 long

pub sizes-same : (s : List ℕ) (h k p q : ℕ) → h < 2 ^ 64 → k < 2 ^ 64 → p < 2 ^ 64 → q < 2 ^ 64 → take 8 s ≡ sizes h k → take 8 s ≡ sizes p q → (h ≡ p) × (k ≡ q)
sizes-same s h k p q sh sk sp sq e f =
    let a = sizes_parts s h k e in
    let b = sizes_parts s p q f in
    let height = column_once 3 h p _ _ sh sp a.0 b.0 (sym a.2 ∙ b.2) in
    (height.0, (column_once 4 k q _ _ sk sq a.1 b.1 height.1).0)

pub row_same : (s : List ℕ) (q r : Row) → FitsLine q → FitsLine r → s ≡ row_line q → s ≡ row_line r → q ≡ r
unfolding row_line
row_same s q r wq wr e f =
    let level = column_once 3 q.level r.level _ _ (omega (arith, wq.0)) (omega (arith, wr.0)) (fits_3 _ wq.0) (fits_3 _ wr.0) (sym e ∙ f) in
    let index = column_once 11 q.index r.index _ _ (omega (arith, wq.1)) (omega (arith, wr.1)) (fits_11 _ wq.1) (fits_11 _ wr.1) level.1 in
    let high = column_once 21 q.seed.high r.seed.high _ _ wq.2 wr.2 (fits_21 _ wq.2) (fits_21 _ wr.2) index.1 in
    let low = column_once 21 q.seed.low r.seed.low _ _ wq.3 wr.3 (fits_21 _ wq.3) (fits_21 _ wr.3) high.1 in
    λ i. record { level = level.0 i; index = index.0 i; seed = record { high = high.0 i; low = low.0 i } }

-- the letters in front
pub letters_cut : (bs rest : List ℕ) (h k : ℕ) → bs ≡ codes "PASS" ++ rest → take 12 bs ≡ heading h k → take 8 rest ≡ sizes h k
letters_cut bs rest h k e f = append_cancel_left (codes "PASS") (take 8 rest) (sizes h k) (ap (take 12) (sym e) ∙ f)
