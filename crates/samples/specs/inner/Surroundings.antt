-- What is read round a block in a plane lies in it.
use Rattle.std.specs.Prelude.{ℕ, ◌+◌, ◌-◌, ◌*◌, ◌≤◌, ◌<◌}

-- what the test `room_round` says where it holds
pub record Surroundings (n len base stride : ℕ) : Type 0 where
  pub some : 0 < stride
  pub most : stride ≤ 4096
  pub corner : stride < base
  pub row : base + n ≤ len + stride
  pub column : base + (n - 1) * stride ≤ len
