-- Operations on opens (RFC 7530, 16.2, 16.16, 16.18 and 16.19): when each is refused, and what its OK tells.
use Rattle.std.specs.Prelude.{◌≡◌, ◌==◌, ◌&&◌, ◌||◌, ◌^◌, not, nat_le, nat_lt, ℕ, ◌+◌, Bool, true, false, List, [], length, filter, Option, Some, None, option_map, unwrap_or, is_none, bit_or, if◌then◌else◌}
use Rattle.std.specs.List.{list_any}
use Rattle.std.specs.Option.{option_or}
use Rattle.nm_types.specs.Parties.{Party}
use Rattle.nm_types.specs.Owners.{same_owner}
use Rattle.nm_rules.specs.Attributes.{Asks, asked_size, asked_mode, is_invalid, is_unsupported, set_words}
use Rattle.nm_rules.specs.Contents.{file_at, child_at}
use Rattle.nm_rules.specs.LockRows.{are_idle_with, ranges_taken}
use Rattle.nm_rules.specs.Seqids.{is_confirmed, owner_at}
use Rattle.nm_rules.specs.Shares.{meets, next_seqid, open_of, opened_row, is_opposed}
use Rattle.nm_rules.specs.Past.{claimed_name, opener, opentype_asks, cuts}
use Rattle.nm_rules.specs.Seen.{Seen}
use Rattle.nm_rules.specs.Checks.{Checks, nothing_stops, refuse_if, lease_stop, missing_stop, is_dir, is_no_dir, arguments_fault}
use Rattle.nm_rules.specs.Files.{current, change_of, changes_past_end, makes_past_end, sized_limit}
use Rattle.nm_rules.specs.Stateids.{stateid_of, open_named, resolved, unresolved_at, owner_stop, owner_stop_at, live_stop, confirm_stop}
use Rattle.nm_types.specs.declared.args.Claim.{Claim}
use Rattle.nm_types.specs.declared.args.Claim.TheVariants.{Null, Previous, DelegateCur, DelegatePrev}
use Rattle.nm_types.specs.declared.args.CloseArgs.{CloseArgs}
use Rattle.nm_types.specs.declared.args.OpenArgs.{OpenArgs}
use Rattle.nm_types.specs.declared.args.OpenConfirmArgs.{OpenConfirmArgs}
use Rattle.nm_types.specs.declared.args.OpenDowngradeArgs.{OpenDowngradeArgs}
use Rattle.nm_types.specs.declared.args.OpenType.{OpenType}
use Rattle.nm_types.specs.declared.args.OpenType.TheVariants.{NoCreate, Unchecked, Guarded, Exclusive}
use Rattle.nm_types.specs.declared.calls.Deed.TheVariants as deed
use Rattle.nm_types.specs.declared.calls.Owner.{Owner}
use Rattle.nm_types.specs.declared.calls.StateId.{StateId}
use Rattle.nm_types.specs.declared.calls.StateRef.{StateRef}
use Rattle.nm_types.specs.declared.calls.Verdict.{Verdict}
use Rattle.nm_types.specs.declared.results.ChangeInfo.{ChangeInfo}
use Rattle.nm_types.specs.declared.results.OpenDelegation.TheVariants as delegation
use Rattle.nm_types.specs.declared.results.Opened.{Opened}
use Rattle.nm_types.specs.declared.rows.FileRow.{FileRow}
use Rattle.nm_types.specs.declared.rows.OpenRow.{OpenRow}
use Rattle.nm_types.specs.declared.status.OpStatus.{OpStatus}
use Rattle.nm_types.specs.declared.status.OpStatus.TheVariants.{NotDir, IsDir, Inval, AttrNotSupp, NoGrace, NotSupp, NoEnt, Exist, ShareDenied, LocksHeld, Resource, BadStateId, StaleClientId}

-- some open of the file denies that access
unfoldable pub is_denied : ℕ → ℕ → List OpenRow → Bool
is_denied access file rows = list_any (λ row. (row.file == file) && meets access row.deny) rows

-- ---- OPEN

-- The file that an OPEN names: by its name in the current directory, or the current file itself.
unfoldable pub target_at : List FileRow → ℕ → Option (List ℕ) → Option ℕ
target_at rows file None = Some file
target_at rows file (Some name) = child_at file name rows

abbrev pub target : Seen → ℕ → OpenArgs → Option ℕ
target s file args = target_at s.tree.table file (claimed_name args.claim)

abbrev pub row_of : List FileRow → Option ℕ → Option FileRow
row_of rows None = None
row_of rows (Some file) = file_at file rows

-- A file that it makes gets the next number.
abbrev pub file_to_open : Seen → ℕ → OpenArgs → ℕ
file_to_open s file args = unwrap_or (target s file args) (s.tree.last_file + 1)

-- A claim by a delegation names its stateid, and there is none yet.
unfoldable pub claim_unresolved : Claim → Option OpStatus
claim_unresolved (Null _) = None
claim_unresolved (Previous _) = None
claim_unresolved (DelegateCur _ _) = Some BadStateId
claim_unresolved (DelegatePrev _) = None

-- What is opened by name is in a directory, and none itself.
unfoldable pub open_kind : List FileRow → ℕ → Option (List ℕ) → Option OpStatus
open_kind rows file None = refuse_if (is_dir (file_at file rows)) IsDir
open_kind rows file (Some name) =
    option_or (refuse_if (is_no_dir (file_at file rows)) NotDir) (refuse_if (is_dir (row_of rows (child_at file name rows))) IsDir)

-- access is 1 to 3, and deny 0 to 3
unfoldable pub is_share : ℕ → ℕ → Bool
is_share access deny = nat_le 1 access && nat_le access 3 && nat_le deny 3

-- Servers don't restart, so nothing is reclaimed; and no delegation outlives its client.
unfoldable pub claim_fault : Claim → Option OpStatus
claim_fault (Null _) = None
claim_fault (Previous _) = Some NoGrace
claim_fault (DelegateCur _ _) = None
claim_fault (DelegatePrev _) = Some NotSupp

unfoldable pub claim_arguments : Bool → Option (List ℕ) → Asks → Option OpStatus
claim_arguments invalid None asks =
    if invalid || is_invalid asks then Some Inval else (if is_unsupported asks then Some AttrNotSupp else None)
claim_arguments invalid (Some name) asks = arguments_fault invalid name asks

unfoldable pub open_fault : OpenArgs → Option OpStatus
open_fault args = option_or
    (claim_arguments (not (is_share args.access args.deny)) (claimed_name args.claim) (opentype_asks args.opentype))
    (claim_fault args.claim)

-- an EXCLUSIVE OPEN with this verifier made the file
unfoldable pub is_made_by : ℕ → Option FileRow → Bool
is_made_by verifier None = false
is_made_by verifier (Some row) = has_verifier row.verifier verifier
  where
    has_verifier : Option ℕ → ℕ → Bool
    has_verifier None verifier = false
    has_verifier (Some its) verifier = its == verifier

-- A file that is there isn't made again, unless by the same EXCLUSIVE OPEN; one that isn't there is made or missed.
unfoldable pub name_refusal : OpenType → Option ℕ → Option FileRow → Option OpStatus
name_refusal NoCreate None row = Some NoEnt
name_refusal NoCreate (Some _) row = None
name_refusal (Unchecked _) file row = None
name_refusal (Guarded _) None row = None
name_refusal (Guarded _) (Some _) row = Some Exist
name_refusal (Exclusive _) None row = None
name_refusal (Exclusive verifier) (Some _) row = if is_made_by verifier row then None else Some Exist

-- ---- rows: owners, opens, closed opens whose CLOSE is their owner's kept call, stateids of lock owners, and ranges that they
-- hold count together

abbrev pub rows_limit : ℕ
rows_limit = 65536

abbrev pub rows_taken : Seen → ℕ
rows_taken s = length s.owners + length s.opens + length s.closed + (length s.locks + ranges_taken s.ranges)

abbrev pub one_if : Bool → ℕ
one_if test = if test then 1 else 0

-- The rows that an OK of OPEN leaves: its owner's and its open's may be new, and a closed open of the owner's goes.
abbrev pub rows_with_open : Seen → Owner → ℕ → ℕ
rows_with_open s owner file = length s.owners + one_if (is_none (owner_at owner s.owners))
    + (length s.opens + one_if (is_none (open_of owner file s.opens)))
    + length (filter (λ x. not (same_owner owner x.owner)) s.closed) + (length s.locks + ranges_taken s.ranges)

-- No stateid is made past the last counter, 2^63.
abbrev pub draws_past_end : Seen → Party → ℕ → OpenArgs → Bool
draws_past_end s party file args = is_none (open_of (opener party args) (file_to_open s file args) s.opens) && nat_le (2 ^ 63) s.last

-- what it makes, and what it cuts, is within the limits
unfoldable pub tree_limit : Seen → Option ℕ → OpenType → Option OpStatus
tree_limit s None opentype =
    option_or (sized_limit s None (asked_size (opentype_asks opentype))) (refuse_if (makes_past_end s) Resource)
tree_limit s (Some _) opentype = refuse_if (cuts opentype && changes_past_end s) Resource

unfoldable pub open_limit : Seen → Party → ℕ → OpenArgs → Option OpStatus
open_limit s party file args = option_or (tree_limit s (target s file args) args.opentype)
    (option_or (refuse_if (draws_past_end s party file args) Resource)
    (refuse_if (nat_lt rows_limit (rows_with_open s (opener party args) (file_to_open s file args))) Resource))

unfoldable pub open_checks : Seen → Option Party → ℕ → OpenArgs → Verdict → Checks
open_checks s None file args verdict = record nothing_stops { unresolved = Some StaleClientId }
open_checks s (Some party) file args verdict = record nothing_stops {
  unresolved = claim_unresolved args.claim;
  seqid = owner_stop (nat_le rows_limit (rows_taken s)) (owner_at (opener party args) s.owners) args.seqid (Some party) file (deed.Open args);
  lease = lease_stop verdict;
  missing = missing_stop (current s file);
  kind = open_kind s.tree.table file (claimed_name args.claim);
  arguments = open_fault args;
  name = name_refusal args.opentype (target s file args) (row_of s.tree.table (target s file args));
  conflict = refuse_if (is_opposed (opener party args) (file_to_open s file args) args.access args.deny s.opens) ShareDenied;
  limit = open_limit s party file args;
}

-- An OPEN that nothing stops asks for a share, no row opposes it, and there is room for what it makes.
pub record GoesOpen (s : Seen) (party : Party) (file : ℕ) (args : OpenArgs) : Type 0 where
  pub share : is_share args.access args.deny ≡ true
  pub free : is_opposed (opener party args) (file_to_open s file args) args.access args.deny s.opens ≡ false
  pub counter : draws_past_end s party file args ≡ false
  pub room : tree_limit s (target s file args) args.opentype ≡ None

-- the owner's open as the OPEN leaves it; a new one gets the next counter
unfoldable pub row_to_open : Seen → Party → ℕ → OpenArgs → OpenRow
row_to_open s party file args = opened_row (open_of (opener party args) (file_to_open s file args) s.opens)
    (s.last + 1) (file_to_open s file args) (opener party args) args.access args.deny

-- it makes or cuts its file
abbrev pub touches : Option ℕ → OpenType → Bool
touches None opentype = true
touches (Some _) opentype = cuts opentype

-- the directory's numbers around it
abbrev pub open_change : Seen → ℕ → Bool → ChangeInfo
open_change s file touched = record {
  before = change_of (current s file);
  after = if touched then s.tree.change + 1 else change_of (current s file);
}

-- the attributes that it sets
abbrev pub open_set : Option ℕ → OpenType → List ℕ
open_set None opentype = set_words (asked_size (opentype_asks opentype)) (asked_mode (opentype_asks opentype))
open_set (Some _) opentype = if cuts opentype then set_words (Some 0) None else []

-- 4 says that locks follow POSIX, and 2 that the owner has to confirm.
abbrev pub open_flags : Bool → ℕ
open_flags confirmed = if confirmed then 4 else 6

-- The value of an OK of OPEN. No delegation is granted yet.
unfoldable pub open_value : Seen → Option Party → ℕ → OpenArgs → Option Opened
open_value s None file args = None
open_value s (Some party) file args = Some (record {
  ok = record {
    stateid = stateid_of s.fs (row_to_open s party file args);
    cinfo = open_change s file (touches (target s file args) args.opentype);
    rflags = open_flags (is_confirmed (owner_at (opener party args) s.owners));
    attrset = open_set (target s file args) args.opentype;
    delegation = delegation.None;
  };
  file = file_to_open s file args;
})

-- ---- CLOSE

-- An open whose lock owners hold something isn't closed (RFC 7530, 16.2).
abbrev pub locks_stop : Seen → Option OpenRow → Option OpStatus
locks_stop s None = None
locks_stop s (Some row) = refuse_if (not (are_idle_with row.counter s.locks s.ranges)) LocksHeld

unfoldable pub close_checks : Seen → Option Party → ℕ → CloseArgs → Verdict → Checks
close_checks s caller file args verdict = record nothing_stops {
  unresolved = unresolved_at caller (resolved s args.stateid);
  seqid = owner_stop_at s (resolved s args.stateid) args.seqid caller file (deed.Close args);
  lease = lease_stop verdict;
  missing = missing_stop (current s file);
  kind = refuse_if (is_dir (current s file)) IsDir;
  stale = live_stop s file args.stateid 0 (open_named s args.stateid);
  conflict = locks_stop s (open_named s args.stateid);
}

-- the stateid as it is changed: its seqid goes on by one
abbrev pub next_stateid : ℕ → OpenRow → StateId
next_stateid fs row = record { seqid = next_seqid row.seqid; fs = fs; counter = row.counter }

-- the value of an OK of CLOSE, OPEN_CONFIRM and OPEN_DOWNGRADE
unfoldable pub changed_stateid : Seen → StateRef → Option StateId
changed_stateid s stateid = option_map (next_stateid s.fs) (open_named s stateid)

-- ---- OPEN_CONFIRM

unfoldable pub confirm_checks : Seen → Option Party → ℕ → OpenConfirmArgs → Verdict → Checks
confirm_checks s caller file args verdict = record nothing_stops {
  unresolved = unresolved_at caller (resolved s args.stateid);
  seqid = owner_stop_at s (resolved s args.stateid) args.seqid caller file (deed.OpenConfirm args);
  lease = lease_stop verdict;
  missing = missing_stop (current s file);
  kind = refuse_if (is_dir (current s file)) IsDir;
  stale = confirm_stop s file args.stateid (open_named s args.stateid);
}

-- ---- OPEN_DOWNGRADE

-- all that the one has, the other has too
abbrev pub is_within : ℕ → ℕ → Bool
is_within part whole = bit_or part whole == whole

-- Access is 1 to 3 and deny 0 to 3; those of a live open are at most what it has.
unfoldable pub is_narrower : ℕ → ℕ → Option OpenRow → Bool
is_narrower access deny None = is_share access deny
is_narrower access deny (Some row) = is_share access deny && is_within access row.access && is_within deny row.deny

unfoldable pub downgrade_checks : Seen → Option Party → ℕ → OpenDowngradeArgs → Verdict → Checks
downgrade_checks s caller file args verdict = record nothing_stops {
  unresolved = unresolved_at caller (resolved s args.stateid);
  seqid = owner_stop_at s (resolved s args.stateid) args.seqid caller file (deed.OpenDowngrade args);
  lease = lease_stop verdict;
  missing = missing_stop (current s file);
  arguments = refuse_if (not (is_narrower args.access args.deny (open_named s args.stateid))) Inval;
  stale = live_stop s file args.stateid 0 (open_named s args.stateid);
}
