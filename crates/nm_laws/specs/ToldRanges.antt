-- How a refusal with DENIED tells a range (RFC 7530, 16.10.4): by its first byte and its length.
use Rattle.std.specs.Prelude.{◌≤◌, ◌==◌, ℕ, ◌+◌, ◌-◌, if◌then◌else◌}
use Rattle.nm_types.specs.Calls.{greatest}
use Rattle.nm_types.specs.declared.rows.Held.{Held}

-- the length that stands for a range: the greatest one, where it reaches to the end of every file
abbrev pub told_length : ℕ → ℕ → ℕ
told_length first last = if last == greatest then greatest else last + 1 - first

-- it has a byte, and ends at the last of all or before
pub record IsWithin (h : Held) : Type 0 where
  pub order : h.first ≤ h.last
  pub end : h.last ≤ greatest
