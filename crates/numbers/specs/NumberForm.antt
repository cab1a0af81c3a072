-- A number form: a type of numbers with the operations that document 01's steps use, and no laws. The steps, the storage and the lists of calls are
-- stated over any number form; `ieee binary64` is the doubles', rounded once at each operation, with one NaN.
use Rattle.std.specs.Prelude.{Bool, false, ℕ}
use lib.Ieee.{Float, nan, inf, fin, Format, binary32, binary64, of_bits, round}
use Rattle.std.specs.Float.Ieee.Scale.{finite}

pub record NumberForm : Type 1 where
  pub Value : Type 0
  pub zero : Value
  pub one : Value
  pub neg : Value → Value
  pub add : Value → Value → Value
  pub sub : Value → Value → Value
  pub mul : Value → Value → Value
  pub div : Value → Value → Value
  pub abs : Value → Value
  pub le : Value → Value → Bool
  pub lt : Value → Value → Bool
  pub is_zero : Value → Bool
  pub is_finite : Value → Bool
  -- what a list gives past its end and a vector before it is written: no step reads it
  pub absent : Value

-- the value of a format that is nearest to a / b
unfoldable pub nearest : Format → ℕ → ℕ → Float
unfolding round
nearest f a b = round f false a b

-- |x|: a NaN's is the NaN
unfoldable pub absolute : Float → Float
absolute nan = nan
absolute (inf s) = inf false
absolute (fin s m e) = fin false m e

-- +0 and 1, by their bits, as the literals 0.0 and 1.0 are in the program logic
abbrev pub zero_of : Format → Float
zero_of f = of_bits f 0

abbrev pub one_of : Format → Float
one_of binary32 = of_bits binary32 0x3F80_0000
one_of binary64 = of_bits binary64 0x3FF0_0000_0000_0000

-- IEEE 754's operations at a format, as the program logic's library has them
abbrev pub ieee : Format → NumberForm
ieee f = record {
  Value = Float;
  zero = zero_of f;
  one = one_of f;
  neg = lib.Ieee.neg;
  add = lib.Ieee.add f;
  sub = lib.Ieee.sub f;
  mul = lib.Ieee.mul f;
  div = lib.Ieee.div f;
  abs = absolute;
  le = lib.Ieee.le;
  lt = lib.Ieee.lt;
  is_zero = λ x. lib.Ieee.eq x (zero_of f);
  is_finite = finite;
  absent = nan;
}

-- a / b and n as doubles, for worked examples
abbrev pub double : ℕ → ℕ → Float
double = nearest binary64

abbrev pub whole : ℕ → Float
whole n = double n 1

-- the largest double and the least above zero
abbrev pub largest : Float
largest = of_bits binary64 0x7FEF_FFFF_FFFF_FFFF

abbrev pub least : Float
least = of_bits binary64 1
