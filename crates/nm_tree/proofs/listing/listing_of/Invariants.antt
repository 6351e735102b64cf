use Rattle.std.proofs.Common.{◌≡◌, ◌++◌, map, drop}
use Rattle.nm_rules.specs.Files.{listed}
use Rattle.nm_tree.specs.Answers.{listed_as}
use Rattle.nm_tree.proofs.listing.listing_of.Given as goal

-- what is listed so far, and of the rows that are left, is all
abbrev pub invariant-loop-row : goal.invariant-loop-row
invariant-loop-row l = l.listing ++ map listed_as (listed l.dir l.after (drop l.row-index l.rows)) ≡ map listed_as (listed l.dir l.after l.rows)
