-- Factors that keep their dimension and the storage that they are lent.
use Rattle.std.specs.Prelude.{◌≡◌}
use Rattle.factors.specs.declared.Factors.{Factors}

-- only what the storage holds may differ
pub record SameStorage (old new : Factors) : Type 0 where
  pub dimension : new.n ≡ old.n
  pub stride : new.stride ≡ old.stride
  pub l : new.l.ghost_name ≡ old.l.ghost_name
  pub u : new.u.ghost_name ≡ old.u.ghost_name
