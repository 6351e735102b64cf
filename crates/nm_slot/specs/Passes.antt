-- What a pass says.
use Rattle.std.specs.Prelude.{ℕ}

-- the file system, and the epoch in which its holder may make calls on it
pub record PassNow : Type 0 where
  pub fs : ℕ
  pub epoch : ℕ
