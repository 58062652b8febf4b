-- What holds of each kind: 0, 1, and any other, which counts as 2. Assumes nothing.
use mathlib.Core.Path.{◌≡◌, refl}
use mathlib.Core.Logic.{◌≢◌}
use Prim.Native.Nat.{ℕ, zero, suc, ◌*◌, ◌≤◌, ◌<◌}
use native.Mathlib.Omega.{arith}
use Rattle.cut.specs.Cut.{cut_for, used}
use Rattle.cut.specs.inner.Blocks.{Scan}
use Rattle.cut.proofs.Scan.{scan_1, scan_2, scan_4}

pub other_kind : (P : ℕ → Type 0) → ((j : ℕ) → P (suc (suc j))) → (kind : ℕ) → kind ≢ 0 → kind ≢ 1 → P kind
other_kind P f zero a b = absurd (a refl)
other_kind P f (suc zero) a b = absurd (b refl)
other_kind P f (suc (suc j)) a b = f j

-- the blocks of a kind's luma
pub scan_for : (kind : ℕ) → Scan (cut_for kind).across
scan_for zero = scan_4
scan_for (suc zero) = scan_2
scan_for (suc (suc _)) = scan_1

pub across_few : (kind : ℕ) → (cut_for kind).across ≤ 4
across_few zero = omega arith
across_few (suc zero) = omega arith
across_few (suc (suc _)) = omega arith

pub used_is : (kind : ℕ) → used kind ≡ (cut_for kind).across * (cut_for kind).across
used_is zero = refl
used_is (suc zero) = refl
used_is (suc (suc _)) = refl

pub used_few : (kind : ℕ) → used kind ≤ 16
used_few zero = omega arith
used_few (suc zero) = omega arith
used_few (suc (suc _)) = omega arith

-- a number above 2 counts as 2
pub used_past : (n : ℕ) → 2 < n → used n ≡ used 2
used_past zero h = absurd (omega arith)
used_past (suc zero) h = absurd (omega arith)
used_past (suc (suc _)) h = refl

pub cut_past : (n : ℕ) → 2 < n → cut_for n ≡ cut_for 2
cut_past zero h = absurd (omega arith)
cut_past (suc zero) h = absurd (omega arith)
cut_past (suc (suc _)) h = refl
