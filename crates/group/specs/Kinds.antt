-- The three kinds: numbers modulo 2^64, 64 bits, and three numbers modulo 2^64. Assumes nothing.
use Rattle.std.specs.Prelude.{◌≡◌, ℕ, ◌+◌, ◌-◌, ◌%◌, ◌^◌, List, bit_xor, slice_index, refl}
use Rattle.std.proofs.Common.{arith}
use Rattle.std.specs.Int.Bits.{xor_assoc, xor_self}
use Rattle.std.proofs.lemmas.Nat.{xor_comm}
use Rattle.group.specs.Kind.{Abelian, Kind}
use Rattle.group.specs.Residues.{Residue, residue, residues, same}
use Rattle.group.specs.declared.modular.Count.{Count}
use Rattle.group.specs.declared.tally.Moments.{Moments}
use Rattle.group.specs.declared.xor.Flags.{Flags}

-- A sum and a negation of words, as a machine gives them.
abbrev pub add64 : ℕ → ℕ → ℕ
add64 x y = (x + y) % 2 ^ 64

abbrev pub neg64 : ℕ → ℕ
neg64 x = (2 ^ 64 - x % 2 ^ 64) % 2 ^ 64

-- A number counts as its residue.
abbrev pub counts : Kind Count Residue
counts = record {
  value = λ x. residue x.value;
  sums = residues;
  zero = record { value = 0 };
  plus = λ x y. record { value = add64 x.value y.value };
  minus = λ x. record { value = neg64 x.value };
  zero_counts = refl;
  plus_counts = λ x y. same (omega arith);
  minus_counts = λ x. same (omega arith);
}

-- Bits, added by exclusive or: each figure is its own negation.
abbrev pub bits : Abelian ℕ
bits = record {
  zero = 0;
  plus = bit_xor;
  minus = λ x. x;
  assoc = xor_assoc;
  comm = xor_comm;
  unit = λ x. refl;
  inverse = xor_self;
}

abbrev pub flags : Kind Flags ℕ
flags = record {
  value = λ x. x.bits;
  sums = bits;
  zero = record { bits = 0 };
  plus = λ x y. record { bits = bit_xor x.bits y.bits };
  minus = λ x. x;
  zero_counts = refl;
  plus_counts = λ x y. refl;
  minus_counts = λ x. refl;
}

-- Three values of one group, added each for itself.
pub record Triple (V : Type 0) : Type 0 where
  pub first : V
  pub second : V
  pub third : V

abbrev triple : {V : Type 0} → V → V → V → Triple V
triple x y z = record { first = x; second = y; third = z }

pub same-triple : {V : Type 0} {x x' y y' z z' : V} → x ≡ x' → y ≡ y' → z ≡ z' → triple x y z ≡ triple x' y' z'
same-triple p q r = λ i. triple (p i) (q i) (r i)

abbrev pub triples : {V : Type 0} → Abelian V → Abelian (Triple V)
triples a = record {
  zero = triple a.zero a.zero a.zero;
  plus = λ x y. triple (a.plus x.first y.first) (a.plus x.second y.second) (a.plus x.third y.third);
  minus = λ x. triple (a.minus x.first) (a.minus x.second) (a.minus x.third);
  assoc = λ x y z. same-triple (a.assoc _ _ _) (a.assoc _ _ _) (a.assoc _ _ _);
  comm = λ x y. same-triple (a.comm _ _) (a.comm _ _) (a.comm _ _);
  unit = λ x. same-triple (a.unit _) (a.unit _) (a.unit _);
  inverse = λ x. same-triple (a.inverse _) (a.inverse _) (a.inverse _);
}

-- A count, a sum and a sum of squares.
abbrev pub moments : Kind Moments (Triple Residue)
moments = record {
  value = λ x. triple (residue x.count) (residue x.sum) (residue x.squares);
  sums = triples residues;
  zero = record { count = 0; sum = 0; squares = 0 };
  plus = λ x y. record { count = add64 x.count y.count; sum = add64 x.sum y.sum; squares = add64 x.squares y.squares };
  minus = λ x. record { count = neg64 x.count; sum = neg64 x.sum; squares = neg64 x.squares };
  zero_counts = refl;
  plus_counts = λ x y. same-triple (same (omega arith)) (same (omega arith)) (same (omega arith));
  minus_counts = λ x. same-triple (same (omega arith)) (same (omega arith)) (same (omega arith));
}

-- The figure that the words of a key make.
abbrev pub word_count : List ℕ → Count
word_count w = record { value = slice_index w 0 }

abbrev pub word_flags : List ℕ → Flags
word_flags w = record { bits = slice_index w 0 }

abbrev pub word_moments : List ℕ → Moments
word_moments w = record { count = slice_index w 0; sum = slice_index w 1; squares = slice_index w 2 }
