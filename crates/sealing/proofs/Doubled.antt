-- A list is a double exactly when it sums like the accepted lines between every two of the reader's keys. Assumes nothing.
use Rattle.std.proofs.Common.{◌≡◌, ℕ, zero, suc, ◌+◌, ◌-◌, ◌<◌, ◌≤◌, cond, List, [], ◌∷◌, map, length, get_or, take, is_some, Some, sym, refl, ap, ◌∙◌, subst, inl, inr, zero-add, arith}
use Rattle.std.proofs.lemmas.List.{length-map, get_or-map, get_or_default, same_lists}
use Rattle.std.proofs.lemmas.Bool.{cases_lt, cases_Bool, cond-true, cond-false, both_ways}
use Rattle.group.specs.Kind.{Kind, sum}
use Rattle.group.proofs.Algebra.{swap, cancel, interchange, remove-add, less, plus-no_less}
use Rattle.store.specs.Contents.{empty, nth, between}
use Rattle.source.specs.Sources.{Keys, or_zero, key, Has}
use Rattle.store.proofs.Rows.{nth-within, nth_past}
use Rattle.sealing.specs.Calls.{seal}
use Rattle.sealing.specs.Doubles.{Double, Alike}
use Rattle.refusal.proofs.Judging.{some-none}
use Rattle.sealing.proofs.Drift.{sum-none, drift, drift-next, same-drift}
use Rattle.sealing.proofs.Telescope.{seals, seal-step, telescoped, length-seals}
use Rattle.sealing.proofs.Runs.{Held, same_key}
use Rattle.sealing.proofs.Filled.{filled, fills, get_or-seals, sum_alike}

key_is : {G V : Type 0} (k : Kind G V) (source : Keys G) {i : ℕ} {x : G} → source i ≡ Some x → key k source i ≡ x
key_is k source p = ap (or_zero k) p

-- From a double to its sums.
module _ {G V : Type 0} (k : Kind G V) (owner reader : Keys G) (lines ciphertexts others : List G) (held : Held k owner lines ciphertexts) where
  module _ (d : Double k owner reader ciphertexts others) where
    cells : List G
    cells = (d.sealed (length others) (omega arith)).0.entries

    row : cells ≡ seals k (nth d.keys) 0 others
    unfolding cells
    row = filled k (nth d.keys) (empty (length others)) others (d.sealed (length others) (omega arith)).0 (d.sealed (length others) (omega arith)).1

    same : map k.value cells ≡ map k.value ciphertexts
    unfolding cells
    same = (d.sealed (length others) (omega arith)).2

    pub as_long : length others ≡ length lines
    as_long =
        sym (length-map cells k.value ∙ ap length row ∙ length-seals k (nth d.keys) 0 others)
        ∙ ap length same ∙ length-map ciphertexts k.value ∙ ap length held.row ∙ length-seals k owner 0 lines

    known : (i : ℕ) → i ≤ length others → Has owner i → Has reader i → k.value (key k owner i) ≡ k.value (key k (nth d.keys) i)
    known i h o r =
        let there = ap is_some (nth-within d.keys i k.zero (omega (arith, d.longer))) in
        same_key k (owner i) (nth d.keys i) (λ x y p q. d.agree i x y r p q) o there

    pub sums-alike : Alike k reader lines others
    sums-alike a b ab bn ra rb =
        let p = k.sums.plus in
        let longs = as_long in
        elim (cases_lt a b) [
          | inl some ↦
              let last : b - 1 + 1 ≡ b = omega arith in
              let ka = known a (omega arith) (held.sides a (omega arith)).0 ra in
              let kb = known b bn (subst (Has owner) last (held.sides (b - 1) (omega arith)).1) rb in
              let ours = telescoped k owner a b lines ab (omega arith) in
              let theirs = telescoped k (nth d.keys) a b others ab bn in
              let between-cells : sum k (between a b (seals k (nth d.keys) 0 others)) ≡ sum k (between a b (seals k owner 0 lines)) =
              ap (λ xs. sum k (between a b xs)) (sym row) ∙ sum_alike k a b cells ciphertexts same ∙ ap (λ xs. sum k (between a b xs)) held.row in
              cancel k.sums (sum k (between a b others)) (sum k (between a b lines)) (k.value (key k owner a))
              (ap (p (sum k (between a b others))) ka ∙ sym theirs ∙ (λ i. p (between-cells i) (sym kb i)) ∙ ours)
          | inr none ↦ sum-none k a b others none ∙ sym (sum-none k a b lines none)
        ]

-- The largest number up to n of a key that the reader has, or 0.
pivot : {G : Type 0} → Keys G → ℕ → ℕ
pivot reader zero = 0
pivot reader (suc n) = cond (is_some (reader (suc n))) (suc n) (pivot reader n)

record Pivot {G : Type 0} (reader : Keys G) (i n p : ℕ) : Type 0 where
  low : i ≤ p
  high : p ≤ n
  has : Has reader p

pivot-known : {G : Type 0} (reader : Keys G) (i n : ℕ) → i ≤ n → Has reader i → Pivot reader i n (pivot reader n)
unfolding pivot
pivot-known reader i zero h r = let none : i ≡ 0 = omega arith in record { low = omega arith; high = omega arith; has = subst (Has reader) none r }
pivot-known reader i (suc n) h r =
    elim (cases_Bool (is_some (reader (suc n)))) [
      | inl here ↦ subst (Pivot reader i (suc n)) (sym (cond-true (is_some (reader (suc n))) (suc n) (pivot reader n) here)) (record { low = h; high = omega arith; has = here })
      | inr lacks ↦
          let below : i ≤ n = elim (cases_lt n i) [ inl above ↦ let top : i ≡ suc n = omega arith in absurd (both_ways (is_some (reader (suc n))) lacks (subst (Has reader) top r)) | inr within ↦ within ] in
          let p = pivot-known reader i n below r in
          subst (Pivot reader i (suc n)) (sym (cond-false (is_some (reader (suc n))) (suc n) (pivot reader n) lacks)) (record { low = p.low; high = omega arith; has = p.has })
    ]

table : {G : Type 0} → ℕ → (ℕ → G) → List G
table zero f = []
table (suc n) f = f 0 ∷ table n (λ i. f (suc i))

length-table : {G : Type 0} (n : ℕ) (f : ℕ → G) → length (table n f) ≡ n
unfolding table
length-table zero f = refl
length-table (suc n) f = ap suc (length-table n (λ i. f (suc i)))

nth-table : {G : Type 0} (n : ℕ) (f : ℕ → G) (i : ℕ) → i < n → nth (table n f) i ≡ Some (f i)
unfolding table
nth-table zero f i h = absurd (omega arith)
nth-table (suc n) f zero h = refl
nth-table (suc n) f (suc i) h = nth-table n (λ j. f (suc j)) i (omega arith)

-- A figure that counts as the sum.
folded : {G V : Type 0} → Kind G V → List G → G
folded k [] = k.zero
folded k (x ∷ xs) = k.plus x (folded k xs)

folded-counts : {G V : Type 0} (k : Kind G V) (xs : List G) → k.value (folded k xs) ≡ sum k xs
unfolding folded
folded-counts k [] = k.zero_counts
folded-counts k (x ∷ xs) = k.plus_counts x (folded k xs) ∙ ap (k.sums.plus (k.value x)) (folded-counts k xs)

figure-less : {G V : Type 0} → Kind G V → G → G → G
figure-less k x y = k.plus x (k.minus y)

less-counts : {G V : Type 0} (k : Kind G V) (x y : G) → k.value (figure-less k x y) ≡ less k.sums (k.value x) (k.value y)
unfolding figure-less
less-counts k x y = k.plus_counts x (k.minus y) ∙ ap (k.sums.plus (k.value x)) (k.minus_counts y)

-- From the sums to a key list: each of the owner's keys is moved by the drift up to it, less the drift up to a known key.
module _ {G V : Type 0} (k : Kind G V) (owner reader : Keys G) (lines ciphertexts others : List G) where
  p : ℕ
  p = pivot reader (length others)

  drifted : ℕ → G
  drifted i = figure-less k (folded k (take i others)) (folded k (take i lines))

  drifted-counts : (i : ℕ) → k.value (drifted i) ≡ drift k lines others i
  unfolding drifted
  drifted-counts i = less-counts k _ _ ∙ (λ j. less k.sums (folded-counts k (take i others) j) (folded-counts k (take i lines) j))

  moved : ℕ → G
  moved i = k.plus (key k owner i) (figure-less k (drifted i) (drifted p))

  move : ℕ → V
  move i = less k.sums (drift k lines others i) (drift k lines others p)

  moved-counts : (i : ℕ) → k.value (moved i) ≡ k.sums.plus (k.value (key k owner i)) (move i)
  unfolding moved move
  moved-counts i =
      k.plus_counts (key k owner i) (figure-less k (drifted i) (drifted p))
      ∙ ap (k.sums.plus (k.value (key k owner i))) (less-counts k (drifted i) (drifted p) ∙ (λ j. less k.sums (drifted-counts i j) (drifted-counts p j)))

  new_keys : List G
  new_keys = table (length others + 1) moved

  new_key : (i : ℕ) → i ≤ length others → nth new_keys i ≡ Some (moved i)
  unfolding new_keys
  new_key i h = nth-table (length others + 1) moved i (omega arith)

  new_value : (i : ℕ) → i ≤ length others → k.value (key k (nth new_keys) i) ≡ k.sums.plus (k.value (key k owner i)) (move i)
  new_value i h = ap k.value (key_is k (nth new_keys) (new_key i h)) ∙ moved-counts i

  module _ (long : length others ≡ length lines) where
    move-next : (i : ℕ) → i < length others → move (i + 1) ≡ k.sums.plus (move i) (less k.sums (k.value (get_or others i k.zero)) (k.value (get_or lines i k.zero)))
    unfolding move
    move-next i h =
        ap (λ v. less k.sums v (drift k lines others p))
        (drift-next k lines others i (get_or lines i k.zero) (get_or others i k.zero) (omega arith) h
        (get_or_default lines i _ _ (omega arith)) (get_or_default others i _ _ h))
        ∙ swap k.sums _ _ _

    -- the other line under the new keys is sealed as the line under the owner's
    same-seal : (i : ℕ) → i < length others → k.value (seal k (nth new_keys) i (get_or others i k.zero)) ≡ k.value (seal k owner i (get_or lines i k.zero))
    same-seal i h =
        let s = k.sums.plus in
        let l = get_or lines i k.zero in
        let o = get_or others i k.zero in
        let vl = k.value l in
        let vo = k.value o in
        let c = k.value (seal k owner i l) in
        let ki = k.value (key k owner i) in
        let kn = k.value (key k owner (i + 1)) in
        let gap = less k.sums vo vl in
        let theirs = seal-step k (nth new_keys) i o in
        let ours = seal-step k owner i l in
        let next : k.value (key k (nth new_keys) (i + 1)) ≡ s kn (s (move i) gap) = new_value (i + 1) (omega arith) ∙ ap (s kn) (move-next i h) in
        cancel k.sums (k.value (seal k (nth new_keys) i o)) c (k.value (key k (nth new_keys) (i + 1)))
        (theirs ∙ ap (s vo) (new_value i (omega arith)) ∙ k.sums.comm vo (s ki (move i))
        ∙ ap (s (s ki (move i))) (sym (remove-add k.sums vo vl) ∙ k.sums.comm gap vl)
        ∙ interchange k.sums ki (move i) vl gap
        ∙ ap (λ v. s v (s (move i) gap)) (k.sums.comm ki vl ∙ sym ours)
        ∙ k.sums.assoc c kn (s (move i) gap)
        ∙ ap (s c) (sym next))

    module _ (held : Held k owner lines ciphertexts) (alike : Alike k reader lines others) where
      no_move : (i : ℕ) → i ≤ length others → Has reader i → drift k lines others i ≡ drift k lines others p
      unfolding p
      no_move i h r =
          let known = pivot-known reader i (length others) h r in
          sym (same-drift k lines others i p known.low (alike i p known.low known.high r known.has))

      agrees : (i : ℕ) (x y : G) → Has reader i → owner i ≡ Some x → nth new_keys i ≡ Some y → k.value x ≡ k.value y
      unfolding move new_keys
      agrees i x y r e f =
          elim (cases_lt (length others) i) [
            | inl past ↦ absurd (some-none (sym f ∙ nth_past new_keys i (omega (arith, length-table (length others + 1) moved))))
            | inr within ↦
                let is : Some y ≡ Some (moved i) = sym f ∙ new_key i within in
                let figure : y ≡ moved i = cc in
                sym (ap k.value figure ∙ moved-counts i ∙ plus-no_less k.sums _ _ _ (no_move i within r) ∙ ap k.value (key_is k owner e))
          ]

      same_row : map k.value (seals k (nth new_keys) 0 others) ≡ map k.value ciphertexts
      same_row =
          let theirs = seals k (nth new_keys) 0 others in
          let ours = seals k owner 0 lines in
          let theirs-long : length (map k.value theirs) ≡ length others = length-map theirs k.value ∙ length-seals k (nth new_keys) 0 others in
          let ours-long : length (map k.value ours) ≡ length lines = length-map ours k.value ∙ length-seals k owner 0 lines in
          let z = k.zero in
          same_lists _ _ (theirs-long ∙ long ∙ sym ours-long)
          (λ i d h.
          let within : i < length others = omega arith in
          let in-theirs : i < length theirs = omega (arith, length-seals k (nth new_keys) 0 others) in
          let in-ours : i < length ours = omega (arith, length-seals k owner 0 lines) in
          get_or-map k.value theirs i z d in-theirs
          ∙ ap k.value (get_or-seals k (nth new_keys) 0 others i z z within ∙ ap (λ m. seal k (nth new_keys) m (get_or others i z)) (zero-add i))
          ∙ same-seal i within
          ∙ sym (ap k.value (get_or-seals k owner 0 lines i z z (omega arith) ∙ ap (λ m. seal k owner m (get_or lines i z)) (zero-add i)))
          ∙ sym (get_or-map k.value ours i z d in-ours))
          ∙ ap (map k.value) (sym held.row)

      pub double : Double k owner reader ciphertexts others
      unfolding new_keys
      double = record {
        keys = new_keys;
        longer = omega (arith, length-table (length others + 1) moved);
        agree = agrees;
        sealed = λ capacity room. (
          record { entries = seals k (nth new_keys) 0 others; capacity = capacity },
          fills k (nth new_keys) (empty capacity) others (omega arith) (λ i h. ap is_some (new_key i (omega arith))),
          same_row,
        );
      }
