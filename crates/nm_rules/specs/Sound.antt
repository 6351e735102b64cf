-- What holds of the tables of every legal list.
use Rattle.std.specs.Prelude.{◌≡◌, ◌≤◌, length, ◌==◌, ◌&&◌, not, nat_lt, nat_le, is_none, ℕ, Bool, true, List, [], ◌∷◌, if◌then◌else◌}
use Rattle.std.specs.List.{list_all}
use Rattle.nm_rules.specs.Checks.{is_dir}
use Rattle.nm_rules.specs.Contents.{TreeNow, is_named, file_at, total_size, files_limit, size_limit, total_limit}
use Rattle.nm_types.specs.Owners.{same_kind, same_owner}
use Rattle.nm_rules.specs.Seqids.{owner_at}
use Rattle.nm_rules.specs.Shares.{shares_conflict}
use Rattle.nm_rules.specs.Seen.{Seen}
use Rattle.nm_types.specs.declared.calls.OwnerKind.TheVariants.{Opens}
use Rattle.nm_types.specs.declared.owners.OwnerRow.{OwnerRow}
use Rattle.nm_types.specs.declared.rows.FileRow.{FileRow}
use Rattle.nm_types.specs.declared.rows.LockRow.{LockRow}
use Rattle.nm_types.specs.declared.rows.OpenRow.{OpenRow}

-- the counters rise, each above this one, and none is past the last
abbrev pub rises : ℕ → ℕ → List OpenRow → Bool
rises above last [] = nat_le above last
rises above last (row ∷ rows) = nat_lt above row.counter && rises row.counter last rows

-- The numbers of files rise, each above this one, and none is past the last.
abbrev pub files_rise : ℕ → ℕ → List FileRow → Bool
files_rise above last [] = nat_le above last
files_rise above last (row ∷ rows) = nat_lt above row.number && files_rise row.number last rows

-- Two rows may stand together: of one file they have different owners, whose shares don't conflict.
abbrev pub are_apart : OpenRow → OpenRow → Bool
are_apart a b =
    if a.file == b.file
    then not (same_owner a.owner b.owner) && not (shares_conflict a.access a.deny b.access b.deny)
    else true

-- each row and each later one
abbrev pub all_apart : List OpenRow → Bool
all_apart [] = true
all_apart (row ∷ rows) = list_all (are_apart row) rows && all_apart rows

-- Two entries of one directory have different names.
abbrev pub names_apart : FileRow → FileRow → Bool
names_apart a b = if a.number == 1 then true else not (is_named a.parent a.name b)

abbrev pub all_named_apart : List FileRow → Bool
all_named_apart [] = true
all_named_apart (row ∷ rows) = list_all (names_apart row) rows && all_named_apart rows

pub record IsSound (s : Seen) : Type 0 where
  pub rising : rises 0 s.last s.opens ≡ true
  pub apart : all_apart s.opens ≡ true
  pub numbers : files_rise 0 s.tree.last_file s.tree.table ≡ true
  pub names : all_named_apart s.tree.table ≡ true

-- ---- directories

-- A file but the root is in a directory that is there.
abbrev pub stands_in : List FileRow → FileRow → Bool
stands_in rows row = if row.number == 1 then true else is_dir (file_at row.parent rows)

abbrev pub all_stand_in : List FileRow → Bool
all_stand_in rows = list_all (stands_in rows) rows

-- ---- limits

-- There are at most 4,096 files, each has at most 1 MiB, and all together have at most 64 MiB.
abbrev pub fits_size : FileRow → Bool
fits_size row = nat_le (length row.bytes) size_limit

pub record FilesFit (tree : TreeNow) : Type 0 where
  pub few : length tree.table ≤ files_limit
  pub sizes : list_all fits_size tree.table ≡ true
  pub total : total_size tree.table ≤ total_limit

-- ---- owners

abbrev pub is_known : List OwnerRow → OpenRow → Bool
is_known owners row = not (is_none (owner_at row.owner owners))

abbrev pub is_opener : OpenRow → Bool
is_opener row = same_kind row.owner.kind Opens

abbrev pub is_locker : List OwnerRow → LockRow → Bool
is_locker owners row = not (is_none (owner_at row.owner owners))

-- A live open is of an owner of opens. The owner of each open, live or closed by its owner's kept call, is known, and so is that
-- of each lock stateid.
pub record OwnersAreKnown (s : Seen) : Type 0 where
  pub kinds : list_all is_opener s.opens ≡ true
  pub opens : list_all (is_known s.owners) s.opens ≡ true
  pub closed : list_all (is_known s.owners) s.closed ≡ true
  pub locks : list_all (is_locker s.owners) s.locks ≡ true
