-- What the loop of is_double knows, and what follows at each way out. Assumes nothing.
use Rattle.std.proofs.Common.{◌≡◌, ℕ, ◌+◌, ◌<◌, ◌≤◌, Bool, true, false, ◌↔◌, ◌⊎◌, List, [], ◌∷◌, length, get_or, drop, Some, None, Option, sym, refl, ap, ◌∙◌, subst, inl, inr, arith}
use borrow.Author.Count.{below_more}
use Rattle.std.proofs.lemmas.Bool.{false≢true}
use Rattle.std.proofs.lemmas.List.{length-drop, drop_more}
use Rattle.group.specs.Kind.{Kind}
use Rattle.source.specs.Sources.{Keys, Has}
use Rattle.sealing.specs.Doubles.{Alike, Decides, Fits}
use Rattle.sealing.proofs.Drift.{drift, shift_next, same-sums, same-drift}
use Rattle.sealing.proofs.Runs.{Held, held}
use Rattle.sealing.proofs.Doubled.{as_long, sums-alike, double}

-- Figure i of a list that goes on from it, and the list from number i + 1 on.
from_front : {G : Type 0} (i : ℕ) (xs rest : List G) (x : G) → x ∷ rest ≡ drop i xs → (i < length xs) × (x ≡ get_or xs i x) × (rest ≡ drop (i + 1) xs)
from_front i xs rest x e =
    let within : i < length xs = omega (arith, ap length e, length-drop i xs) in
    let both : x ∷ rest ≡ get_or xs i x ∷ drop (i + 1) xs = e ∙ drop_more xs i x within in
    (within, (cc), (cc))

module _ {G V : Type 0} (k : Kind G V) (reader : Keys G) (lines others : List G) where
  -- The drift at each of the reader's keys below i, if there is one, counts as the last.
  abbrev pub Known : ℕ → Option G → Type 0
  Known i None = (j : ℕ) → j < i → Has reader j → ⊥
  Known i (Some x) = (at : ℕ) × (at < i) × Has reader at × ((j : ℕ) → j < i → Has reader j → drift k lines others j ≡ k.value x)

  pub known_skip : (i : ℕ) (last : Option G) → Known i last → (Has reader i → ⊥) → Known (i + 1) last
  known_skip i None known lacks = below_more (λ j. Has reader j → ⊥) i known lacks
  known_skip i (Some x) known lacks = (known.0, omega (arith, known.1), known.2, below_more (λ j. Has reader j → drift k lines others j ≡ k.value x) i known.3 (λ r. absurd (lacks r)))

  pub known-take : (i : ℕ) (last : Option G) (shift : G) → Known i last → Has reader i → Fits k last shift → k.value shift ≡ drift k lines others i → Known (i + 1) (Some shift)
  known-take i last shift known has fits is = (i, omega arith, has, below_more (λ j. Has reader j → drift k lines others j ≡ k.value shift) i (earlier last known fits) (λ r. sym is))
    where
      earlier : (last : Option G) → Known i last → Fits k last shift → (j : ℕ) → j < i → Has reader j → drift k lines others j ≡ k.value shift
      earlier None known fits j h r = absurd (known j h r)
      earlier (Some x) known fits j h r = known.3 j h r ∙ fits

  -- Lists that sum alike have the same drift at the next key as at the last.
  fits_since : (i : ℕ) (last : Option G) (shift : G) → i ≤ length others → Known i last → Has reader i → k.value shift ≡ drift k lines others i → Alike k reader lines others → Fits k last shift
  fits_since i None shift within known has is alike = tt
  fits_since i (Some x) shift within known has is alike =
      let at = known.0 in
      let below : at ≤ i = omega (arith, known.1) in
      sym (known.3 at known.1 known.2) ∙ sym (same-drift k lines others at i below (alike at i below within known.2 has)) ∙ sym is

  alike_since : (last : Option G) → Known (length others + 1) last → Alike k reader lines others
  alike_since None known a b ab bn ra rb = absurd (known a (omega arith) ra)
  alike_since (Some x) known a b ab bn ra rb = same-sums k lines others a b ab (known.3 b (omega arith) rb ∙ sym (known.3 a (omega arith) ra))

  -- What the loop knows with i pairs behind it: the lines and the others that are left, the drift so far, and the last of the reader's keys.
  pub record Turn (i : ℕ) (lines-left others-left : List G) (shift : G) (last : Option G) : Type 0 where
    pub within : i ≤ length lines
    pub lines_left : lines-left ≡ drop i lines
    pub others_left : others-left ≡ drop i others
    pub so_far : k.value shift ≡ drift k lines others i
    pub known : Known i last

  pub next_turn : {i n : ℕ} {lines-left others-left ls os : List G} {line other shift s : G} {last next : Option G} → Turn i lines-left others-left shift last → lines-left ≡ line ∷ ls → others-left ≡ other ∷ os →
      n ≡ i + 1 → s ≡ k.plus (k.plus shift other) (k.minus line) → Known (i + 1) next → Turn n ls os s next
  next_turn {i} {ls = ls} {os = os} {line = line} {other = other} {shift = shift} {s = s} {next = next} t p q is moved known =
      let l = from_front i lines ls line (sym p ∙ t.lines_left) in
      let o = from_front i others os other (sym q ∙ t.others_left) in
      let value = ap k.value moved ∙ shift_next k lines others i shift line other l.0 o.0 l.1 o.1 t.so_far in
      subst (λ m. Turn m ls os s next) (sym is) (record { within = omega (arith, l.0); lines_left = l.2; others_left = o.2; so_far = value; known = known })

  -- The sums decide whether the others are a double.
  pub decides : (r : Bool) → (r ≡ true) ↔ ((length others ≡ length lines) × Alike k reader lines others) → Decides k reader lines others r
  decides r sums = record {
    sums = sums;
    double = λ owner calls store reached is.
        let ciphertexts = store.entries in
        let here : Held k owner lines ciphertexts = subst (λ ls. Held k owner ls ciphertexts) is (held k owner (λ c. c) (λ c. Unit {0}) reached) in (
          λ e. let s = sums.0 e in double k owner reader lines ciphertexts others s.0 here s.1,
          λ d. sums.1 (as_long k owner reader lines ciphertexts others here d, sums-alike k owner reader lines ciphertexts others here d),
        );
  }

  -- Each way out after i pairs.
  module _ (long : length lines ≡ length others) {i : ℕ} {lines-left others-left : List G} {shift : G} {last : Option G} (t : Turn i lines-left others-left shift last) where
    fits_alike : Has reader i → Alike k reader lines others → Fits k last shift
    fits_alike has alike = fits_since i last shift (omega (arith, t.within)) t.known has t.so_far alike

    pub differs : Has reader i → (Fits k last shift → ⊥) → Decides k reader lines others false
    differs has unlike = decides false (λ e. absurd (false≢true e), λ s. absurd (unlike (fits_alike has s.1)))

    module _ (end : (lines-left ≡ []) ⊎ (others-left ≡ [])) where
      over : i ≡ length others
      over = elim end [
        | inl none ↦ omega (arith, t.within, ap length none, ap length t.lines_left, length-drop i lines)
        | inr none ↦ omega (arith, t.within, ap length none, ap length t.others_left, length-drop i others)
      ]

      pub without_last : (Has reader (length lines) → ⊥) → Decides k reader lines others true
      without_last lacks =
          let here : i ≡ length lines = over ∙ sym long in
          let known = known_skip i last t.known (λ has. lacks (subst (Has reader) here has)) in
          let alike = alike_since last (subst (λ n. Known (n + 1) last) over known) in
          decides true (λ e. (sym long, alike), λ s. refl)

      pub with_last : {r : Bool} → Has reader (length lines) → (r ≡ true) ↔ Fits k last shift → Decides k reader lines others r
      with_last {r} has way =
          let here : i ≡ length lines = over ∙ sym long in
          let there : Has reader i = subst (Has reader) (sym here) has in
          let alike = λ (f : Fits k last shift). alike_since (Some shift) (subst (λ n. Known (n + 1) (Some shift)) over (known-take i last shift t.known there f t.so_far)) in
          decides r (λ e. (sym long, alike (way.0 e)), λ s. way.1 (fits_alike there s.1))
