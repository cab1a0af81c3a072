-- `four_dots`: one term of each sum a turn.
use mathlib.Core.Path.{◌≡◌}
use mathlib.Core.List.{List}
use Prim.Native.Nat.{ℕ, ◌≤◌}
use lib.Ieee.{Float, binary64, mul}
use lib.ListN.{length}
use Rattle.numbers.specs.NumberForm.{NumberForm, ieee}
use Rattle.machine.specs.Products.{entry, sum}
use Rattle.products.proofs.four_dots.Given as goal

abbrev N : NumberForm
N = ieee binary64

-- the sum of the first k terms of a row
abbrev terms : ℕ → List Float → List Float → Float
terms k row input = sum N k (λ j. mul binary64 (entry N row j) (entry N input j))

abbrev pub invariant-loop-k : goal.invariant-loop-k
invariant-loop-k l = record {
  within : l.k ≤ length l.a;
  first : l.first ≡ terms l.k l.a l.input;
  second : l.second ≡ terms l.k l.b l.input;
  third : l.third ≡ terms l.k l.c l.input;
  fourth : l.fourth ≡ terms l.k l.d l.input;
}
