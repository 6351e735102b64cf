-- What `Owners` keeps, and what each call makes of it.
use Rattle.std.specs.Prelude.{ℕ, Bool, not, List, [], filter}
use Rattle.nm_types.specs.Parties.{Party}
use Rattle.nm_types.specs.Owners.{same_owner}
use Rattle.nm_rules.specs.Past.{noted_row}
use Rattle.nm_rules.specs.Seqids.{owner_at, put_owner, owners_after}
use Rattle.nm_rules.specs.Seqids.OwnerWord.{GoneOf}
use Rattle.nm_types.specs.declared.calls.Call.{Call}
use Rattle.nm_types.specs.declared.calls.Owner.{Owner}
use Rattle.nm_types.specs.declared.calls.Reply.{Reply}
use Rattle.nm_types.specs.declared.owners.OwnerRow.{OwnerRow}

-- The owners of one file system that are known, in the order in which they came.
pub record OwnersNow : Type 0 where
  pub table : List OwnerRow

abbrev pub no_owners : OwnersNow
no_owners = record { table = [] }

-- An owner has moved on to this seqid by a call: it and the reply to it are kept.
abbrev pub after_note : OwnersNow → Owner → ℕ → Call → Reply → OwnersNow
after_note o owner seqid call r = record { table = put_owner (noted_row (owner_at owner o.table) owner seqid call r) o.table }

-- Nothing is kept of an owner any more.
abbrev pub after_forget : OwnersNow → Owner → OwnersNow
after_forget o owner = record { table = filter (λ row. not (same_owner owner row.owner)) o.table }

-- An instance has ended: all its owners go.
abbrev pub after_end : OwnersNow → Party → OwnersNow
after_end o party = record { table = owners_after (GoneOf party) o.table }

-- the row is that owner's
abbrev pub is_of : Owner → OwnerRow → Bool
is_of owner row = same_owner owner row.owner
