-- `update`: refused with 12, or performed.
use mathlib.Core.Path.{◌≡◌, refl, sym, ◌∙◌}
use mathlib.Core.Bool.{Bool, true, false}
use native.Mathlib.Omega.{arith}
use mir.Facts.{to_z-of_z}
use Rattle.std.specs.Prelude.{Some, None, if◌then◌else◌}
use Rattle.std.proofs.lemmas.Grind.{common_steps}
use Rattle.lumod_c.proofs.update.Goals as goal

-- an update was named, so nothing was passed over, and it is this update
named_is : {A : Type 0} (b : Bool) (a n : A) → if b then None else Some a ≡ Some n → (b ≡ false) × (a ≡ n)
named_is true a n e = absurd (cc)
named_is false a n e = (refl, cc)

pub returns-in_err-update_room : goal.returns-in_err-update_room
returns-in_err-update_room c =
    let h = named_is _ _ _ (sym c.update_named.ensures.named ∙ c.in_ok-update.ensures.ok_part) in grind (arith, common_steps, to_z-of_z, h.0, h.1)

pub returns : goal.returns
returns c = let h = named_is _ _ _ (sym c.update_named.ensures.named ∙ c.in_ok-update.ensures.ok_part) in grind (arith, common_steps, to_z-of_z, h.0, h.1)
