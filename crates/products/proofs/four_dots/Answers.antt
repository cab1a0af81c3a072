-- `four_dots`: one term of each sum a turn.
use mathlib.Core.Path.{◌≡◌}
use mathlib.Core.List.{[], ◌∷◌}
use native.Mathlib.Omega.{arith}
use lib.Ieee.{binary64}
use lib.ListN.{length}
use Rattle.numbers.specs.NumberForm.{NumberForm, ieee}
use Rattle.ranges.proofs.Writing.{sum_none, sum_more}
use Rattle.products.proofs.four_dots.Goals as goal

abbrev N : NumberForm
N = ieee binary64

pub loop-k-init : goal.loop-k-init
loop-k-init c = record { within = omega arith; first = sum_none N _; second = sum_none N _; third = sum_none N _; fourth = sum_none N _ }

pub loop-k-preserved : goal.loop-k-preserved
loop-k-preserved c = let h = c.loop-k.invariant in record {
  within = omega arith;
  first = sum_more N _ h.first;
  second = sum_more N _ h.second;
  third = sum_more N _ h.third;
  fourth = sum_more N _ h.fourth;
}

pub returns : goal.returns
returns c =
    let h = c.loop-k.invariant in
    let a : c.loop-k.k ≡ length c.args.a.now = omega arith in
    let b : c.loop-k.k ≡ length c.args.b.now = omega arith in
    let c' : c.loop-k.k ≡ length c.args.c.now = omega arith in
    let d : c.loop-k.k ≡ length c.args.d.now = omega arith in
    let first = rw a at h.first in
    let second = rw b at h.second in
    let third = rw c' at h.third in
    let fourth = rw d at h.fourth in
    λ t. first t ∷ second t ∷ third t ∷ fourth t ∷ []
