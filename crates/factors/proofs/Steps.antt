-- Steps on factors, one after the other.
use mathlib.Core.Path.{◌≡◌, refl, ◌∙◌}
use mathlib.Core.List.{List}
use Prim.Native.Nat.{ℕ, ◌+◌, ◌≤◌, ◌<◌}
use native.Mathlib.Omega.{arith}
use lib.ListN.{length}
use lib.Ieee.{Float, binary64}
use Rattle.numbers.specs.NumberForm.{NumberForm, ieee}
use Rattle.machine.specs.Tables.{Work}
use Rattle.machine.specs.Agreement.{AgreeWithin}
use Rattle.storage.specs.Places.{u_index}
use Rattle.ranges.proofs.RowParts.{part_fits}
use Rattle.buffers.specs.Performed.{Performed}
use Rattle.buffers.proofs.Buffers.{performed_none, performed_then, performed_as, performed_from}
use Rattle.factors.specs.declared.Factors.{Factors}
use Rattle.factors.specs.SameStorage.{SameStorage}
use Rattle.factors.specs.StepPerformed.{work_with, StepPerformed}

abbrev N : NumberForm
N = ieee binary64

pub same_here : {a b : Factors} → b.n ≡ a.n → b.stride ≡ a.stride → b.l.ghost_name ≡ a.l.ghost_name → b.u.ghost_name ≡ a.u.ghost_name → SameStorage a b
same_here n c l u = record { dimension = n; stride = c; l = l; u = u }

pub same_storage_then : {a b d : Factors} → SameStorage a b → SameStorage b d → SameStorage a d
same_storage_then p q = record { dimension = q.dimension ∙ p.dimension; stride = q.stride ∙ p.stride; l = q.l ∙ p.l; u = q.u ∙ p.u }

-- a part of a row of U, from its diagonal on, ends within the buffer
pub u_part_fits : (a : Factors) (row count : ℕ) {d : ℕ} → row < a.stride → row + count ≤ a.stride → d ≡ u_index a.stride row row → d + count ≤ length a.u.now
u_part_fits a row count {d} below within is_d = part_fits a.stride row row count d (omega arith) within is_d (length a.u.now) below a.u_long

pub step_none : {a : Factors} {lo hi k : ℕ} {y v : List Float} → StepPerformed lo hi k (λ S. S) a y v a y v
step_none = record { performed = performed_none N; same_storage = same_here refl refl refl refl }

-- f and then g, where g's result depends only on what f's contract gives
pub step_then : {a b d : Factors} {lo lo₁ lo' hi k : ℕ} {f g : Work Float → Work Float} {y v y₁ v₁ y₂ v₂ : List Float}
    → StepPerformed lo hi k f a y v b y₁ v₁ → StepPerformed lo₁ hi k g b y₁ v₁ d y₂ v₂ → lo₁ ≤ lo'
    → ((S R : Work Float) → AgreeWithin a.n lo hi k S R → AgreeWithin a.n lo' hi k (g S) (g R)) → StepPerformed lo' hi k (λ S. g (f S)) a y v d y₂ v₂
step_then p q h same =
    let s = p.same_storage in record {
      performed = performed_then N p.performed (rw (s.stride, s.dimension) at q.performed) h same;
      same_storage = same_storage_then s q.same_storage;
    }

-- what f makes of these factors may be written another way
pub step_as : {a b : Factors} {lo hi k : ℕ} (f : Work Float → Work Float) {g : Work Float → Work Float} {y v y' v' : List Float}
    → f (work_with a y v) ≡ g (work_with a y v) → StepPerformed lo hi k f a y v b y' v' → StepPerformed lo hi k g a y v b y' v'
step_as f e p = record { performed = performed_as N f e p.performed; same_storage = p.same_storage }

-- less of y may be compared
pub step_from : {a b : Factors} {lo lo' hi k : ℕ} {f : Work Float → Work Float} {y v y' v' : List Float} → lo ≤ lo'
    → StepPerformed lo hi k f a y v b y' v' → StepPerformed lo' hi k f a y v b y' v'
step_from h p = record { performed = performed_from N h p.performed; same_storage = p.same_storage }

-- the bound of v may be written another way
pub step_below : {a b : Factors} {lo hi k k' : ℕ} {f : Work Float → Work Float} {y v y' v' : List Float} → k ≡ k'
    → StepPerformed lo hi k f a y v b y' v' → StepPerformed lo hi k' f a y v b y' v'
step_below e p = rw e at p

-- a step after others, in terms of the storage before them
pub performed_after : {a b d : Factors} {lo hi k : ℕ} {f : Work Float → Work Float} {y v y' v' : List Float} → SameStorage a b
    → StepPerformed lo hi k f b y v d y' v' → Performed N a.stride a.n lo hi k f b.l.now b.u.now y v d.l.now d.u.now y' v'
performed_after s p = rw (s.stride, s.dimension) at p.performed
