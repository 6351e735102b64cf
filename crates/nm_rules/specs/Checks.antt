-- The eleven classes of refusal, in their order: the first that applies is the answer.
use Rattle.std.specs.Prelude.{ℕ, Bool, true, false, Option, Some, None, is_none, List, if◌then◌else◌, ◌||◌}
use Rattle.std.specs.Option.{option_or}
use Rattle.nm_rules.specs.Lists.{is_empty}
use Rattle.nm_rules.specs.Attributes.{Asks, is_invalid, is_unsupported}
use Rattle.nm_rules.specs.Contents.{is_directory}
use Rattle.nm_rules.specs.Names.{name_fault}
use Rattle.nm_types.specs.declared.calls.Reply.{Reply}
use Rattle.nm_types.specs.declared.calls.Verdict.{Verdict}
use Rattle.nm_types.specs.declared.calls.Verdict.TheVariants.{Pass, LeaseMoved}
use Rattle.nm_types.specs.declared.rows.FileRow.{FileRow}
use Rattle.nm_types.specs.declared.status.OpStatus.{OpStatus}
use Rattle.nm_types.specs.declared.status.OpStatus.TheVariants.{Stale, Inval, AttrNotSupp, LeaseMoved as LeaseMovedStatus}

-- Why a call isn't carried out.
pub data Stop : Type 0 where
  -- it is refused with that status
  Refuse : OpStatus → Stop
  -- it came before, and gets the reply that was kept
  Repeat : Reply → Stop

-- Each class tells a status where it applies. Only the owner's seqid can also say that a call came before.
pub record Checks : Type 0 where
  -- a stateid that stands for nothing, or for another instance's
  pub unresolved : Option OpStatus
  -- the owner's seqid
  pub seqid : Option Stop
  -- a file system of the client has moved away
  pub lease : Option OpStatus
  -- the current file isn't there
  pub missing : Option OpStatus
  -- a directory, or none, where the other is wanted
  pub kind : Option OpStatus
  -- the arguments by themselves
  pub arguments : Option OpStatus
  -- the stateid's seqid, file or mode
  pub stale : Option OpStatus
  -- a name that is there or isn't
  pub name : Option OpStatus
  -- a delegation has to come back first
  pub recall : Option OpStatus
  -- another owner's share or lock
  pub conflict : Option OpStatus
  -- a limit is reached
  pub limit : Option OpStatus

abbrev pub nothing_stops : Checks
nothing_stops = record {
  unresolved = None;
  seqid = None;
  lease = None;
  missing = None;
  kind = None;
  arguments = None;
  stale = None;
  name = None;
  recall = None;
  conflict = None;
  limit = None;
}

abbrev pub refusal : Option OpStatus → Option Stop
refusal None = None
refusal (Some status) = Some (Refuse status)

-- the first of the classes behind the seqid that applies
abbrev pub behind_seqid : Checks → Option OpStatus
behind_seqid c = option_or c.lease (option_or c.missing (option_or c.kind (option_or c.arguments (option_or c.stale
    (option_or c.name (option_or c.recall (option_or c.conflict c.limit)))))))

-- the first class that applies
abbrev pub first : Checks → Option Stop
first c = option_or (refusal c.unresolved) (option_or c.seqid (refusal (behind_seqid c)))

-- ---- what operations share

-- refused with that status where the test holds
abbrev pub refuse_if : Bool → OpStatus → Option OpStatus
refuse_if test status = if test then Some status else None

abbrev pub lease_stop : Verdict → Option OpStatus
lease_stop Pass = None
lease_stop LeaseMoved = Some LeaseMovedStatus

abbrev pub missing_stop : Option FileRow → Option OpStatus
missing_stop row = refuse_if (is_none row) Stale

-- it is there, and is a directory
unfoldable pub is_dir : Option FileRow → Bool
is_dir None = false
is_dir (Some row) = is_directory row.kind

-- it is there, and isn't one
unfoldable pub is_no_dir : Option FileRow → Bool
is_no_dir None = false
is_no_dir (Some row) = if is_directory row.kind then false else true

-- Arguments with a name, attributes and what else may be invalid (RFC 7530, 13.1): what is invalid comes first, then what
-- else is wrong with the name, then attributes that aren't supported.
unfoldable pub arguments_fault : Bool → List ℕ → Asks → Option OpStatus
arguments_fault invalid name asks =
    if invalid || is_empty name || is_invalid asks then Some Inval
    else (option_or (name_fault name) (if is_unsupported asks then Some AttrNotSupp else None))

-- a name alone
unfoldable pub name_stop : List ℕ → Option OpStatus
name_stop name = arguments_fault false name (Asks.Sets None None)
