-- Lines of samples beside a block, and whose neighbourhood they are.
use Rattle.std.specs.Prelude.{◌≡◌, cond, ℕ, ◌+◌, ◌-◌, ◌*◌, ◌<◌, eqb, length, get_or}
use Rattle.basics.specs.Near.{Near}
use Rattle.basics.specs.declared.beside.Beside.{Beside}
use Rattle.samples.specs.declared.line.Line.{Line}
use Rattle.samples.specs.declared.line.Around.{Around}

-- sample i of a line
abbrev pub sample : Line → ℕ → ℕ
sample l i = get_or l.samples.now (l.at + i * l.stride) 0

-- its first n samples lie in the list
abbrev pub Reaches : ℕ → Line → Type 0
Reaches n l = (i : ℕ) → i < n → l.at + i * l.stride < length l.samples.now

-- the corner, then a line's samples from it on
abbrev pub line : ℕ → (ℕ → ℕ) → ℕ → ℕ
line corner side i = cond (eqb i 0) corner (side (i - 1))

-- what stands beside a block in lists of its own
abbrev pub lists : Beside → Around
lists b =
    record {
      sides = b.sides;
      above = record { samples = b.above; at = 0; stride = 1 };
      left = record { samples = b.left; at = 0; stride = 1 };
      corner = b.corner;
    }

-- both lines beside a block of side n lie in their lists
abbrev pub Round : ℕ → Around → Type 0
Round n a = Reaches n a.above × Reaches n a.left

-- they are those of the neighbourhood p
pub record Stands (n : ℕ) (a : Around) (p : Near) : Type 0 where
  pub above_is : (x : ℕ) → x < n → sample a.above x ≡ p (x + 1) 0
  pub left_is : (y : ℕ) → y < n → sample a.left y ≡ p 0 (y + 1)
