-- The tests of storage, one law for each way through them.
use mathlib.Core.Path.{◌≡◌}
use mathlib.Core.Bool.{true, false}
use mathlib.Core.Option.{none, some}
use Prim.Native.Nat.{ℕ, ◌≤◌, ◌<◌}
use borrow.Author.Tests.{lt-ltb, le-ltb}
use Rattle.machine.specs.Calls.{refused}
use Rattle.storage.specs.Places.{l_length, u_length, overflows}
use Rattle.managed.specs.Refusals.{dimension_test, size_tests, storage_tests}

module _ (c l u : ℕ) where
  pub size_overflow : overflows c ≡ true → some (refused 2) ≡ size_tests c l u
  unfolding size_tests
  size_overflow h = rw h

  module _ (ho : overflows c ≡ false) where
    pub short_L : l < l_length c → some (refused 3) ≡ size_tests c l u
    unfolding size_tests
    short_L h = rw (ho, lt-ltb l (l_length c) h)

    pub short_U : l_length c ≤ l → u < u_length c → some (refused 13) ≡ size_tests c l u
    unfolding size_tests
    short_U h k = rw (ho, le-ltb l (l_length c) h, lt-ltb u (u_length c) k)

    pub sizes_pass : l_length c ≤ l → u_length c ≤ u → none ≡ size_tests c l u
    unfolding size_tests
    sizes_pass h k = rw (ho, le-ltb l (l_length c) h, le-ltb u (u_length c) k)

module _ (n c l u : ℕ) where
  pub invalid_dimension : c < n → some (refused 1) ≡ storage_tests n c l u
  unfolding dimension_test
  invalid_dimension h = rw (lt-ltb c n h)

  -- a dimension within the capacity leaves it to the sizes
  pub sizes_decide : n ≤ c → size_tests c l u ≡ storage_tests n c l u
  unfolding dimension_test
  sizes_decide h = rw (le-ltb c n h)

  pub storage_passes : n ≤ c → overflows c ≡ false → l_length c ≤ l → u_length c ≤ u → none ≡ storage_tests n c l u
  unfolding dimension_test
  storage_passes hn ho hl hu = rw (le-ltb c n hn) (sizes_pass c l u ho hl hu)
