-- Document 01's bench table for the machine (CallTable), and computed lines for what its rows don't tell apart (TrapTable).
use Rattle.std.specs.Prelude.{◌≡◌, refl, true, false, List, [], ◌∷◌, ◌++◌, ℕ, zero, suc, ◌+◌, ◌-◌, ◌^◌, Float}
use Rattle.std.proofs.Math.Option.{none, some}
use Rattle.std.specs.Float.{nan, binary64}
use Rattle.std.specs.Float.Ieee.{neg}
use Rattle.numbers.specs.NumberForm.{ieee, double, whole}
use Rattle.numbers.specs.Tolerances.{zero_based_epsilon, zero_based_tiny}
use Rattle.machine.specs.Tables.{State, tabulate}
use Rattle.machine.specs.Forward.{forward_acts}
use Rattle.machine.specs.Backward.{trim, backward_skips}
use Rattle.machine.specs.Calls.{Call, push, replace_row, replace_column, remove, solve, solve_transpose, moved, refused_at, Result}
use Rattle.machine.specs.Machine.{step}
use Rattle.machine.specs.BenchStates.{carried_out, call, empty, single, P, Q, square, M, M', identity}

-- the active entries, row by row
pub record Factors : Type 0 where
  pub L : List Float
  pub U : List Float

-- the lists f 0 to f (k - 1), one after another
joined : ℕ → (ℕ → List Float) → List Float
joined zero f = []
joined (suc k) f = joined k f ++ f k

factors : State Float → Factors
unfolding joined
factors S = record {
  L = joined S.n (λ i. tabulate S.n (λ j. S.L i j));
  U = joined S.n (λ i. tabulate (S.n - i) (λ j. S.U i (i + j)));
}

pub record CallTable : Type 0 where
  P_is : factors P ≡ record {
    L = whole 0 ∷ whole 1 ∷ whole 1 ∷ neg (double 1 2) ∷ [];
    U = whole 4 ∷ whole 1 ∷ double 11 2 ∷ [];
  }
  P_solve : (call P (solve (whole 8 ∷ whole 5 ∷ []))).solved ≡ whole 1 ∷ whole 1 ∷ []
  P_transpose_solve : (call P (solve_transpose (whole 6 ∷ whole 7 ∷ []))).solved ≡ whole 1 ∷ whole 1 ∷ []
  P_replace_column : factors (call P (replace_column 0 (whole 1 ∷ whole 8 ∷ []))).after ≡ record {
    L = whole 0 ∷ whole 1 ∷ whole 1 ∷ neg (double 1 8) ∷ [];
    U = whole 8 ∷ whole 1 ∷ double 47 8 ∷ [];
  }
  P_replace_row : factors (call P (replace_row 0 (whole 1 ∷ whole 1 ∷ []))).after ≡ record {
    L = whole 0 ∷ whole 1 ∷ whole 1 ∷ neg (double 1 4) ∷ [];
    U = whole 4 ∷ whole 1 ∷ double 3 4 ∷ [];
  }
  P_remove : factors (call P (remove 1 1)).after ≡ record {
    L = whole 1 ∷ [];
    U = whole 2 ∷ [];
  }
  P_remove_answer : (call P (remove 1 1)).answer ≡ moved none none
  zero_diagonal : (call (single (neg (whole 0))) (solve (whole 5 ∷ []))).answer ≡ refused_at 9 0
  zero_diagonal_stands : (call (single (neg (whole 0))) (solve (whole 5 ∷ []))).solved ≡ whole 5 ∷ []

pub call_table : CallTable
unfolding call factors joined empty single P
call_table = record {
  P_is = refl;
  P_solve = refl;
  P_transpose_solve = refl;
  P_replace_column = refl;
  P_replace_row = refl;
  P_remove = refl;
  P_remove_answer = refl;
  zero_diagonal = refl;
  zero_diagonal_stands = refl;
}

-- ---- beyond the table: what its rows don't tell apart

-- a call under the zero-based tolerances
call_zero_based : State Float → Call Float → Result Float
unfolding call zero_based_epsilon
call_zero_based = step (ieee binary64) zero_based_epsilon zero_based_tiny

pub record TrapTable : Type 0 where
  -- the plain solve takes the L product, and the transpose solve the transposed one
  Q_solve : (call Q (solve (whole 8 ∷ whole 2 ∷ []))).solved ≡ whole 1 ∷ whole 1 ∷ []
  Q_transpose_solve : (call Q (solve_transpose (whole 3 ∷ whole 7 ∷ []))).solved ≡ whole 1 ∷ whole 1 ∷ []
  -- three rows, by what the Rust makes of them: both eliminations with and without exchanges, a trimmed end, rows and columns that move
  M_replace_row : factors (call M (replace_row 1 (neg (whole 2) ∷ neg (whole 2) ∷ whole 3 ∷ []))).after ≡ record {
    L = whole 3 ∷ whole 0 ∷ whole 2 ∷ whole 3 ∷ whole 1 ∷ whole 2 ∷ whole 0 ∷ double 1 2 ∷ neg (whole 1) ∷ [];
    U = whole 2 ∷ neg (whole 2) ∷ whole 1 ∷ neg (whole 4) ∷ whole 4 ∷ whole 4 ∷ [];
  }
  M_replace_column : factors (call M (replace_column 0 (neg (whole 2) ∷ neg (whole 2) ∷ whole 3 ∷ []))).after ≡ record {
    L = whole 0 ∷ whole 2 ∷ whole 0 ∷ double 3 4 ∷ neg (double 3 2) ∷ neg (double 1 2) ∷ double 15 4 ∷ neg (double 3 2) ∷ double 3 2 ∷ [];
    U = neg (whole 4) ∷ neg (whole 2) ∷ whole 1 ∷ whole 2 ∷ whole 2 ∷ whole 3 ∷ [];
  }
  M_remove_first : factors (call M (remove 0 0)).after ≡ record {
    L = neg (whole 1) ∷ neg (whole 1) ∷ double 1 2 ∷ double 5 2 ∷ [];
    U = whole 2 ∷ whole 2 ∷ neg (whole 3) ∷ [];
  }
  M_remove_last_row : factors (call M (remove 2 1)).after ≡ record {
    L = whole 0 ∷ whole 2 ∷ double 3 2 ∷ neg (whole 2) ∷ [];
    U = whole 2 ∷ whole 1 ∷ whole 2 ∷ [];
  }
  trimmed : factors (call M' (replace_row 1 (whole 4 ∷ whole 4 ∷ neg (whole 4) ∷ []))).after ≡ record {
    L = whole 0 ∷ whole 1 ∷ whole 0 ∷ neg (whole 4) ∷ double 1 2 ∷ whole 1 ∷ neg (whole 1) ∷ whole 0 ∷ neg (whole 1) ∷ [];
    U = whole 4 ∷ whole 4 ∷ neg (whole 4) ∷ double 9 2 ∷ whole 4 ∷ whole 1 ∷ [];
  }
  -- remove names the row and the column that it moved, each in its place
  removed_row : (call P (remove 0 1)).answer ≡ moved (some 1) none
  removed_column : (call P (remove 1 0)).answer ≡ moved none (some 1)
  -- Forward's guard is no negation of Backward's: a NaN passes Forward untouched. Whether the call is refused is no part of these two lines
  forward_nan : factors (carried_out (single (whole 2)) (push (nan ∷ []) (whole 6 ∷ []) (whole 1))).after ≡ record {
    L = whole 1 ∷ whole 0 ∷ whole 0 ∷ whole 1 ∷ [];
    U = whole 2 ∷ whole 6 ∷ whole 1 ∷ [];
  }
  -- and Backward's is none of Forward's: a NaN is eliminated there
  backward_nan : (carried_out (identity 3) (replace_column 0 (whole 1 ∷ nan ∷ whole 1 ∷ []))).after.U 1 1 ≡ nan
  -- at their limits: |y| = E × |U| passes Forward, |v| = E × |v(selected)| is skipped, and |v| = E is trimmed
  forward_limit : forward_acts (ieee binary64) (double 1 2) (whole 2) (whole 1) ≡ false
  backward_limit : backward_skips (ieee binary64) (double 1 2) (whole 2) (whole 1) ≡ true
  trim_limit : trim (ieee binary64) (whole 1) 0 2 (λ i. whole 1) ≡ 0
  -- dense(2) is cleared though Backward skips row 2: else U(1,2) would take what stood there
  dense_cleared : (call (identity 4) (replace_column 0 (whole 1 ∷ whole 1 ∷ whole 0 ∷ whole 1 ∷ []))).after.U 1 2 ≡ whole 0
  -- 8191 × 2^-65 lies between the two E's: it passes Forward in one interface and is eliminated in the other
  managed_epsilon_line : factors (call (single (whole 1)) (push (double 8191 (2 ^ 65) ∷ []) (whole 0 ∷ []) (whole 1))).after ≡ record {
    L = whole 1 ∷ whole 0 ∷ whole 0 ∷ whole 1 ∷ [];
    U = whole 1 ∷ whole 0 ∷ whole 1 ∷ [];
  }
  zero_based_epsilon_line : factors (call_zero_based (single (whole 1)) (push (double 8191 (2 ^ 65) ∷ []) (whole 0 ∷ []) (whole 1))).after ≡ record {
    L = whole 1 ∷ whole 0 ∷ neg (double 8191 (2 ^ 65)) ∷ whole 1 ∷ [];
    U = whole 1 ∷ whole 0 ∷ whole 1 ∷ [];
  }

pub trap_table : TrapTable
unfolding call call_zero_based factors joined empty single P Q square M M' identity
trap_table = record {
  Q_solve = refl;
  Q_transpose_solve = refl;
  M_replace_row = refl;
  M_replace_column = refl;
  M_remove_first = refl;
  M_remove_last_row = refl;
  trimmed = refl;
  removed_row = refl;
  removed_column = refl;
  forward_nan = refl;
  backward_nan = refl;
  forward_limit = refl;
  backward_limit = refl;
  trim_limit = refl;
  dense_cleared = refl;
  managed_epsilon_line = refl;
  zero_based_epsilon_line = refl;
}
