-- `restore`: Backward, the entry that it hands over, and Forward.
use native.Mathlib.Omega.{arith}
use lib.Ieee.{binary64}
use Rattle.numbers.specs.NumberForm.{NumberForm, ieee}
use native.Mathlib.Numerals.{add-one}
use Rattle.factors.proofs.Steps.{same_storage_then, performed_after}
use Rattle.stages.proofs.StageLaws.{restored_outcome}
use Rattle.stages.proofs.restore.Goals as goal

abbrev N : NumberForm
N = ieee binary64

pub returns : goal.returns
returns c =
    let after-trim = c.trim-selected in
    let after-backward = c.backward-backward_steps in
    let after-forward = c.forward-forward_steps in
    let a = c.args in
    let g = a.factors.now in
    let p = c.requires in
    let is-s = rw add-one at after-trim.ensures.0 in
    let back = rw add-one at after-backward.ensures.performed in
    let s = back.same_storage in
    let k = back.performed.frame.y_kept.long in
    let r =
    restored_outcome N a.numerics.epsilon a.numerics.tiny g.stride g.n a.column a.last a.columns
    after-trim.result _ _ _ a.w.now _ _ (omega arith) (omega (arith, p.fits, p.long, k)) (omega arith) (omega arith) (omega arith)
    is-s back.performed (rw add-one at after-backward.ensures.counted)
    (performed_after s after-forward.ensures.performed, rw s.stride at after-forward.ensures.counted) in record {
      performed = record { performed = r.0; same_storage = same_storage_then s after-forward.ensures.performed.same_storage };
      counted = r.1;
      few = omega (arith, after-trim.ensures, after-backward.ensures.few, after-forward.ensures.few);
    }
