-- Operations on the bytes, the size and the mode of a file (RFC 7530, 16.3, 16.23, 16.32 and 16.36): when each is refused,
-- and what its OK tells.
use Rattle.std.specs.Prelude.{◌&&◌, not, nat_le, nat_lt, ℕ, ◌+◌, max, min, Bool, false, List, length, Option, Some, None, is_none, if◌then◌else◌}
use Rattle.std.specs.Option.{option_or}
use Rattle.nm_rules.specs.Lists.{is_empty}
use Rattle.nm_rules.specs.Attributes.{Asks, asks_of, asked_size, asked_mode, has_size, is_invalid, is_unsupported, sets_any, set_words}
use Rattle.nm_rules.specs.Checks.{Checks, nothing_stops, refuse_if, lease_stop, missing_stop, is_dir}
use Rattle.nm_rules.specs.Contents.{size_limit, transfer_limit, part, taken}
use Rattle.nm_rules.specs.Files.{current, changes_past_end, size_of, fills_up, sized_limit}
use Rattle.nm_rules.specs.Opens.{is_denied}
use Rattle.nm_rules.specs.Stateids.{open_named, lock_named, resolved, any_unresolved, any_stop}
use Rattle.nm_types.specs.Parties.{Party}
use Rattle.nm_rules.specs.Seen.{Seen}
use Rattle.nm_types.specs.declared.args.ReadArgs.{ReadArgs}
use Rattle.nm_types.specs.declared.args.SetAttrArgs.{SetAttrArgs}
use Rattle.nm_types.specs.declared.args.WriteArgs.{WriteArgs}
use Rattle.nm_types.specs.declared.calls.StateRef.{StateRef}
use Rattle.nm_types.specs.declared.calls.StateRef.TheVariants.{Zeros, Ones, Named}
use Rattle.nm_types.specs.declared.calls.Verdict.{Verdict}
use Rattle.nm_types.specs.declared.results.ReadOk.{ReadOk}
use Rattle.nm_types.specs.declared.results.WriteOk.{WriteOk}
use Rattle.nm_types.specs.declared.rows.FileRow.{FileRow}
use Rattle.nm_types.specs.declared.status.OpStatus.{OpStatus}
use Rattle.nm_types.specs.declared.status.OpStatus.TheVariants.{IsDir, Inval, AttrNotSupp, BadStateId, Locked, FBig, NoSpc, Resource}

-- ---- stateids

-- A stateid that a server made has to be resolvable, and the caller's own. The special ones stand for none.
unfoldable pub unresolved_stop : Seen → Option Party → StateRef → Option OpStatus
unresolved_stop s caller Zeros = None
unresolved_stop s caller Ones = None
unresolved_stop s caller (Named id) = any_unresolved caller (resolved s (Named id)) (lock_named s (Named id))

-- without a size the instance isn't compared
unfoldable pub unknown_stop : Seen → StateRef → Option OpStatus
unknown_stop s Zeros = None
unknown_stop s Ones = None
unknown_stop s (Named id) = refuse_if (is_none (resolved s (Named id)) && is_none (lock_named s (Named id))) BadStateId

-- what the open or the locks say that the stateid stands for, unless it is a special one
unfoldable pub stale_stop : Seen → ℕ → StateRef → ℕ → Option OpStatus
stale_stop s file Zeros access = None
stale_stop s file Ones access = None
stale_stop s file (Named id) access = any_stop s file (Named id) access (open_named s (Named id)) (lock_named s (Named id))

-- The special stateids meet denies: that of all zeros those of reading and of writing, that of all ones only the latter
-- (RFC 7530, 9.1.4.3).
unfoldable pub read_denied : Seen → ℕ → StateRef → Bool
read_denied s file Zeros = is_denied 1 file s.opens
read_denied s file Ones = false
read_denied s file (Named _) = false

unfoldable pub write_denied : Seen → ℕ → StateRef → Bool
write_denied s file Zeros = is_denied 2 file s.opens
write_denied s file Ones = is_denied 2 file s.opens
write_denied s file (Named _) = false

-- ---- READ

unfoldable pub read_checks : Seen → Option Party → ℕ → ReadArgs → Verdict → Checks
read_checks s caller file args verdict = record nothing_stops {
  unresolved = unresolved_stop s caller args.stateid;
  lease = lease_stop verdict;
  missing = missing_stop (current s file);
  kind = refuse_if (is_dir (current s file)) IsDir;
  stale = stale_stop s file args.stateid 1;
  conflict = refuse_if (read_denied s file args.stateid) Locked;
}

-- at most 64 KiB, and whether the file ends with them
abbrev pub read_of : ReadArgs → List ℕ → ReadOk
read_of args bytes = record {
  eof = nat_le (length bytes) (args.offset + length (part args.offset (min args.count transfer_limit) bytes));
  «data» = part args.offset (min args.count transfer_limit) bytes;
}

unfoldable pub read_value : Option FileRow → ReadArgs → Option ReadOk
read_value None args = None
read_value (Some row) args = Some (read_of args row.bytes)

-- ---- WRITE

-- the size that it leaves: one of no bytes changes none
abbrev pub written_size : Option FileRow → WriteArgs → ℕ
written_size row args =
    if is_empty (taken args.«data») then size_of row else max (size_of row) (args.offset + length (taken args.«data»))

unfoldable pub write_limit : Seen → ℕ → WriteArgs → Option OpStatus
write_limit s file args =
    option_or (refuse_if (nat_lt size_limit (args.offset + length (taken args.«data»))) FBig)
    (option_or (refuse_if (fills_up s (size_of (current s file)) (written_size (current s file) args)) NoSpc)
    (refuse_if (not (is_empty (taken args.«data»)) && changes_past_end s) Resource))

unfoldable pub write_checks : Seen → Option Party → ℕ → WriteArgs → Verdict → Checks
write_checks s caller file args verdict = record nothing_stops {
  unresolved = unresolved_stop s caller args.stateid;
  lease = lease_stop verdict;
  missing = missing_stop (current s file);
  kind = refuse_if (is_dir (current s file)) IsDir;
  stale = stale_stop s file args.stateid 2;
  conflict = refuse_if (write_denied s file args.stateid) Locked;
  limit = write_limit s file args;
}

-- FILE_SYNC, and 0 for the server's run
unfoldable pub write_value : WriteArgs → Option WriteOk
write_value args = Some (record { count = length (taken args.«data»); committed = 2; writeverf = 0 })

-- ---- SETATTR

unfoldable pub attributes_stop : Asks → Option OpStatus
attributes_stop asks = option_or (refuse_if (is_invalid asks) Inval) (refuse_if (is_unsupported asks) AttrNotSupp)

unfoldable pub set_limit : Seen → ℕ → Asks → Option OpStatus
set_limit s file asks =
    option_or (sized_limit s (current s file) (asked_size asks)) (refuse_if (sets_any asks && changes_past_end s) Resource)

-- one that names a size
unfoldable pub size_checks : Seen → Option Party → ℕ → SetAttrArgs → Verdict → Checks
size_checks s caller file args verdict = record nothing_stops {
  unresolved = unresolved_stop s caller args.stateid;
  lease = lease_stop verdict;
  missing = missing_stop (current s file);
  kind = refuse_if (is_dir (current s file)) IsDir;
  arguments = attributes_stop (asks_of args.attributes);
  stale = stale_stop s file args.stateid 2;
  conflict = refuse_if (write_denied s file args.stateid) Locked;
  limit = set_limit s file (asks_of args.attributes);
}

-- one that names none
unfoldable pub mode_checks : Seen → ℕ → SetAttrArgs → Verdict → Checks
mode_checks s file args verdict = record nothing_stops {
  unresolved = unknown_stop s args.stateid;
  lease = lease_stop verdict;
  missing = missing_stop (current s file);
  arguments = attributes_stop (asks_of args.attributes);
  stale = stale_stop s file args.stateid 0;
  limit = set_limit s file (asks_of args.attributes);
}

-- Whether it names a size is told by its bitmap, whatever its values are.
unfoldable pub setattr_checks : Seen → Option Party → ℕ → SetAttrArgs → Verdict → Checks
setattr_checks s caller file args verdict =
    if has_size args.attributes.words then size_checks s caller file args verdict else mode_checks s file args verdict

unfoldable pub setattr_value : SetAttrArgs → List ℕ
setattr_value args = set_words (asked_size (asks_of args.attributes)) (asked_mode (asks_of args.attributes))

-- ---- COMMIT

unfoldable pub commit_checks : Seen → ℕ → Verdict → Checks
commit_checks s file verdict = record nothing_stops {
  lease = lease_stop verdict;
  missing = missing_stop (current s file);
  kind = refuse_if (is_dir (current s file)) IsDir;
}
