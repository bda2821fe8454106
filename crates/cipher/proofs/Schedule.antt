-- Round key r + 1 is made from round key r and one constant. So the code, which holds one round key at a time, makes the round keys
-- that the words of the key schedule give.
-- Assumes nothing.
use Rattle.std.proofs.Common.{◌≡◌, ℕ, zero, suc, ◌+◌, ◌-◌, ◌*◌, ◌/◌, ◌%◌, Bool, false, cond, eqb, get_or, sym, refl, ap, ◌∙◌, arith, add-one, take, get_or-take, ◌<◌}
use Rattle.cipher.specs.Aes.{Column, State, mix_columns, rounds, shift_rows, sub_bytes, xor_column, xor_state, constants, rot_sub, carried, key_word, round_key}
use Rattle.cipher.specs.AesWords.{next_key, next0, next1, next2, next3}

carried-at : (i r : ℕ) (u : Column) → i % 4 ≡ 0 → i / 4 - 1 ≡ r → carried i u ≡ rot_sub (get_or constants r 0) u
unfolding carried
carried-at i r u e f =
    ap (λ (m : ℕ). cond (eqb m 0) (rot_sub (get_or constants (i / 4 - 1) 0) u) u) e
    ∙ ap (λ (m : ℕ). rot_sub (get_or constants m 0) u) f

carried_off : (i k : ℕ) (u : Column) → i % 4 ≡ k → eqb k 0 ≡ false → carried i u ≡ u
unfolding carried
carried_off i k u e f =
    ap (λ (m : ℕ). cond (eqb m 0) (rot_sub (get_or constants (i / 4 - 1) 0) u) u) e
    ∙ ap (λ (b : Bool). cond b (rot_sub (get_or constants (i / 4 - 1) 0) u) u) f

module _ (key : State) (r : ℕ) where
  abbrev x : ℕ
  x = 4 * r

  abbrev constant : ℕ
  constant = get_or constants r 0

  -- round key r, its words counted as the definition of `keyWord` has them
  plain : State
  plain = record { c0 = key_word key x; c1 = key_word key (suc x); c2 = key_word key (suc (suc x)); c3 = key_word key (suc (suc (suc x))) }

  counted : round_key key r ≡ plain
  unfolding round_key plain
  counted =
      let p1 : x + 1 ≡ suc x = omega arith in
      let p2 : x + 2 ≡ suc (suc x) = omega arith in
      let p3 : x + 3 ≡ suc (suc (suc x)) = omega arith in
      λ i. record { c0 = key_word key x; c1 = key_word key (p1 i); c2 = key_word key (p2 i); c3 = key_word key (p3 i) }

  counted_next : round_key key (suc r) ≡ record {
    c0 = key_word key (suc (suc (suc (suc x))));
    c1 = key_word key (suc (suc (suc (suc (suc x)))));
    c2 = key_word key (suc (suc (suc (suc (suc (suc x))))));
    c3 = key_word key (suc (suc (suc (suc (suc (suc (suc x)))))));
  }
  unfolding round_key
  counted_next =
      let p0 : 4 * suc r ≡ suc (suc (suc (suc x))) = omega arith in
      let p1 : 4 * suc r + 1 ≡ suc (suc (suc (suc (suc x)))) = omega arith in
      let p2 : 4 * suc r + 2 ≡ suc (suc (suc (suc (suc (suc x))))) = omega arith in
      let p3 : 4 * suc r + 3 ≡ suc (suc (suc (suc (suc (suc (suc x)))))) = omega arith in
      λ i. record { c0 = key_word key (p0 i); c1 = key_word key (p1 i); c2 = key_word key (p2 i); c3 = key_word key (p3 i) }

  is_next0 : key_word key (suc (suc (suc (suc x)))) ≡ next0 constant plain
  unfolding key_word plain
  is_next0 = ap (xor_column (key_word key x)) (carried-at (4 + x) r (key_word key (suc (suc (suc x)))) (omega arith) (omega arith))

  is_next1 : key_word key (suc (suc (suc (suc (suc x))))) ≡ next1 constant plain
  unfolding key_word plain
  is_next1 =
      ap (xor_column (key_word key (suc x)))
      (carried_off (4 + suc x) 1 (key_word key (suc (suc (suc (suc x))))) (omega arith) refl ∙ is_next0)

  is_next2 : key_word key (suc (suc (suc (suc (suc (suc x)))))) ≡ next2 constant plain
  unfolding key_word plain
  is_next2 =
      ap (xor_column (key_word key (suc (suc x))))
      (carried_off (4 + suc (suc x)) 2 (key_word key (suc (suc (suc (suc (suc x)))))) (omega arith) refl ∙ is_next1)

  is_next3 : key_word key (suc (suc (suc (suc (suc (suc (suc x))))))) ≡ next3 constant plain
  unfolding key_word plain
  is_next3 =
      ap (xor_column (key_word key (suc (suc (suc x)))))
      (carried_off (4 + suc (suc (suc x))) 3 (key_word key (suc (suc (suc (suc (suc (suc x))))))) (omega arith) refl ∙ is_next2)

  pub next_key_lem : round_key key (suc r) ≡ next_key (get_or constants r 0) (round_key key r)
  next_key_lem =
      counted_next ∙ (λ i. record { c0 = is_next0 i; c1 = is_next1 i; c2 = is_next2 i; c3 = is_next3 i })
      ∙ ap (next_key constant) (sym counted)

pub first_key : (key : State) → round_key key 0 ≡ key
unfolding round_key key_word
first_key key = refl

-- the same with places counted by r + 1, as a loop over the first n constants and what follows it read them
pub next_round_key : (key : State) (n r : ℕ) → r < n → round_key key (r + 1) ≡ next_key (get_or (take n constants) r 0) (round_key key r)
next_round_key key n r l = rw add-one (next_key_lem key r ∙ ap (λ c. next_key c (round_key key r)) (sym (get_or-take n constants r 0 l)))

pub last_round_key : (key : State) (r : ℕ) → round_key key (r + 1) ≡ next_key (get_or constants r 0) (round_key key r)
last_round_key key r = rw add-one (next_key_lem key r)

pub one_round : (keys : ℕ → State) (s : State) (r : ℕ) → rounds keys s (r + 1) ≡ xor_state (mix_columns (shift_rows (sub_bytes (rounds keys s r)))) (keys (r + 1))
unfolding rounds
one_round keys s r = rw add-one refl

pub ruleset rounds_in_turn = (first_key, next_round_key, last_round_key, one_round)

-- the round keys, each made from the one before it
unfoldable pub steps : State → ℕ → State
steps key zero = key
steps key (suc r) = next_key (get_or constants r 0) (steps key r)

pub keys-steps : (key : State) (r : ℕ) → round_key key r ≡ steps key r
unfolding steps
keys-steps key zero = first_key key
keys-steps key (suc r) = next_key_lem key r ∙ ap (next_key (get_or constants r 0)) (keys-steps key r)
