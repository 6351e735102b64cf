-- What `Shares` keeps, and what each call makes of it.
use Rattle.std.specs.Prelude.{◌≡◌, ◌==◌, true, ℕ, ◌+◌, Bool, List, [], Some, Result, Ok, Err, is_none, option_map, bit_or, if◌then◌else◌}
use Rattle.nm_rules.specs.Sound.{rises}
use Rattle.nm_types.specs.Parties.{Party}
use Rattle.nm_rules.specs.Opens.{is_narrower}
use Rattle.nm_rules.specs.Shares.{next_seqid, open_at, open_of, opened_row, renewed_row, narrowed_row, is_opposed, put_open, put_if, opens_after}
use Rattle.nm_rules.specs.Shares.OpenWord.{Drop, DropOf}
use Rattle.nm_types.specs.declared.calls.Owner.{Owner}
use Rattle.nm_types.specs.declared.rows.OpenRow.{OpenRow}
use Rattle.nm_types.specs.declared.refusal.Refusal.{Refusal}
use Rattle.nm_types.specs.declared.refusal.Refusal.TheVariants.{Status, Memory}
use Rattle.nm_types.specs.declared.status.OpStatus.{OpStatus}
use Rattle.nm_types.specs.declared.status.OpStatus.TheVariants.{Inval, ShareDenied}
use Rattle.nm_shares.specs.declared.rows.Change.{Change}
use Rattle.nm_shares.specs.declared.rows.Change.TheVariants.{Joined, Renewed, Narrowed}
use Rattle.nm_shares.specs.declared.state.State.{State}

-- The opens of one file system: its number, whether it grants delegations, the live opens by rising counter, and the
-- counter of the last stateid that was made.
pub record SharesNow : Type 0 where
  pub fs : ℕ
  pub grants : Bool
  pub table : List OpenRow
  pub last : ℕ

abbrev pub no_opens : ℕ → Bool → SharesNow
no_opens fs grants = record { fs = fs; grants = grants; table = []; last = 0 }

abbrev pub state_of : OpenRow → State
state_of row = record { counter = row.counter; seqid = row.seqid }

-- the open that an OPEN leaves: its owner's, joined with what it had, or a new one with the next counter
unfoldable pub row_to_take : ℕ → List OpenRow → Owner → ℕ → ℕ → ℕ → OpenRow
row_to_take last table owner file access deny = opened_row (open_of owner file table) (last + 1) file owner access deny

-- the counter of the last stateid after it
unfoldable pub last_after : ℕ → List OpenRow → Owner → ℕ → ℕ
last_after last table owner file = if is_none (open_of owner file table) then last + 1 else last

-- what an OPEN is answered
unfoldable pub take_answer : SharesNow → Owner → ℕ → ℕ → ℕ → Result State OpStatus
take_answer s owner file access deny =
    if is_opposed owner file access deny s.table then Err ShareDenied else Ok (state_of (row_to_take s.last s.table owner file access deny))

-- what it leaves
unfoldable pub after_take : SharesNow → Owner → ℕ → ℕ → ℕ → SharesNow
after_take s owner file access deny = record s {
  table = put_open (row_to_take s.last s.table owner file access deny) s.table;
  last = last_after s.last s.table owner file;
}

abbrev pub after_close : SharesNow → ℕ → SharesNow
after_close s counter = record s { table = opens_after (Drop counter) s.table }

abbrev pub after_end : SharesNow → Party → SharesNow
after_end s party = record s { table = opens_after (DropOf party) s.table }

-- an OPEN_CONFIRM
abbrev pub after_confirm : SharesNow → ℕ → SharesNow
after_confirm s counter = record s { table = opens_after (put_if (option_map renewed_row (open_at counter s.table))) s.table }

-- an OPEN_DOWNGRADE
abbrev pub after_downgrade : SharesNow → ℕ → ℕ → ℕ → SharesNow
after_downgrade s counter access deny =
    record s { table = opens_after (put_if (option_map (narrowed_row access deny) (open_at counter s.table))) s.table }

-- the counter of a further stateid
abbrev pub after_draw : SharesNow → SharesNow
after_draw s = record s { last = s.last + 1 }

-- the state of an open that is closed, confirmed or narrowed: its seqid goes on by one
abbrev pub renewed_state : OpenRow → State
renewed_state row = record { counter = row.counter; seqid = next_seqid row.seqid }

-- what an OPEN_DOWNGRADE is answered
unfoldable pub downgrade_answer : OpenRow → ℕ → ℕ → Result State OpStatus
downgrade_answer row access deny = if is_narrower access deny (Some row) then Ok (renewed_state row) else Err Inval

-- A call tells what its definition answers. Want of memory is free.
abbrev pub Tells : {A : Type 0} → Result A Refusal → Result A OpStatus → Type 0
Tells (Ok x) answer = answer ≡ Ok x
Tells (Err (Status status)) answer = answer ≡ Err status
Tells (Err Memory) answer = Unit {0}

-- ---- a row whose stateid is told anew

-- the access or the deny that an open then has
abbrev pub access_after : Change → ℕ → ℕ
access_after (Joined access deny) was = bit_or was access
access_after Renewed was = was
access_after (Narrowed access deny) was = access

abbrev pub deny_after : Change → ℕ → ℕ
deny_after (Joined access deny) was = bit_or was deny
deny_after Renewed was = was
deny_after (Narrowed access deny) was = deny

abbrev pub changed_row : Change → OpenRow → OpenRow
changed_row change row =
    record row { seqid = next_seqid row.seqid; access = access_after change row.access; deny = deny_after change row.deny }

abbrev pub changed_at : ℕ → Change → OpenRow → OpenRow
changed_at counter change row = if row.counter == counter then changed_row change row else row

-- What is left of rows where the one of that counter is changed, if there is one.
pub record ChangedTo (counter : ℕ) (change : Change) (last : ℕ) (rows new : List OpenRow) : Type 0 where
  pub put : new ≡ opens_after (put_if (option_map (changed_row change) (open_at counter rows))) rows
  pub rising : rises 0 last new ≡ true

-- What an OPEN leaves of the rows, and what it tells.
pub record Took (last : ℕ) (rows : List OpenRow) (owner : Owner) (file access deny : ℕ) (new : List OpenRow) (told : State) (new_last : ℕ) : Type 0 where
  pub put : new ≡ put_open (row_to_take last rows owner file access deny) rows
  pub state : told ≡ state_of (row_to_take last rows owner file access deny)
  pub drawn : new_last ≡ last_after last rows owner file
  pub rising : rises 0 new_last new ≡ true
