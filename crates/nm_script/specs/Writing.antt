-- What is written behind what was written before.
use Rattle.std.specs.Prelude.{◌≡◌, ℕ, List, [], ◌∷◌, ◌++◌}

-- every line ends with it
abbrev pub line_feed : List ℕ
line_feed = 10 ∷ []

-- what was written before still stands, and perhaps more behind it
pub record Stands (before now : List ℕ) : Type 0 where
  pub more : List ℕ
  pub front : now ≡ before ++ more
