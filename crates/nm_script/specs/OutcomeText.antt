-- The printed text of what clients were told.
use Rattle.std.specs.Prelude.{ℕ, Bool, true, false, List, [], ◌∷◌, ◌++◌, codes, decimal, flat_map}
use Rattle.hex.specs.Hex.{encode_lower}
use Rattle.nm_types.specs.declared.action.Verb.{Verb}
use Rattle.nm_types.specs.declared.action.Verb.TheVariants as verbs
use Rattle.nm_types.specs.declared.results.ReadOk.{ReadOk}
use Rattle.nm_types.specs.declared.status.OpStatus.{OpStatus}
use Rattle.nm_types.specs.declared.status.OpStatus.TheVariants.{Nfs4Ok, NoEnt, Exist, NotDir, IsDir, Inval, FBig, NoSpc, NameTooLong, NotEmpty, Stale, BadHandle, NotSupp, TooSmall, ServerFault, BadType, Delay, Denied, Expired, Locked, Grace, ShareDenied, ClidInUse, Resource, Moved, NoFileHandle, MinorVersMismatch, StaleClientId, StaleStateId, OldStateId, BadStateId, BadSeqid, NotSame, RestoreFh, LeaseMoved, AttrNotSupp, NoGrace, BadXdr, LocksHeld, OpenMode, BadName, OpIllegal, FileOpen}
use Rattle.nm_script.specs.declared.report.Told.{Told}
use Rattle.nm_script.specs.declared.report.Told.TheVariants.{Answered, Wrote, Read, Listed, Denied as DeniedBy, Refused, NoState, Busy, Delayed, Stopped}
use Rattle.nm_script.specs.declared.report.OutcomeRow.{OutcomeRow}
use Rattle.nm_script.specs.declared.report.IdleRow.{IdleRow}
use Rattle.nm_script.specs.LockText.{denied_text}
use Rattle.nm_script.specs.Writing.{line_feed}

-- A status is printed by its name in the standard (RFC 7530, 13.1), without NFS4_ or NFS4ERR_ at its front.
unfoldable pub status_text : OpStatus → List ℕ
status_text Nfs4Ok = codes "OK"
status_text NoEnt = codes "NOENT"
status_text Exist = codes "EXIST"
status_text NotDir = codes "NOTDIR"
status_text IsDir = codes "ISDIR"
status_text Inval = codes "INVAL"
status_text FBig = codes "FBIG"
status_text NoSpc = codes "NOSPC"
status_text NameTooLong = codes "NAMETOOLONG"
status_text NotEmpty = codes "NOTEMPTY"
status_text Stale = codes "STALE"
status_text BadHandle = codes "BADHANDLE"
status_text NotSupp = codes "NOTSUPP"
status_text TooSmall = codes "TOOSMALL"
status_text ServerFault = codes "SERVERFAULT"
status_text BadType = codes "BADTYPE"
status_text Delay = codes "DELAY"
status_text Denied = codes "DENIED"
status_text Expired = codes "EXPIRED"
status_text Locked = codes "LOCKED"
status_text Grace = codes "GRACE"
status_text ShareDenied = codes "SHARE_DENIED"
status_text ClidInUse = codes "CLID_INUSE"
status_text Resource = codes "RESOURCE"
status_text Moved = codes "MOVED"
status_text NoFileHandle = codes "NOFILEHANDLE"
status_text MinorVersMismatch = codes "MINOR_VERS_MISMATCH"
status_text StaleClientId = codes "STALE_CLIENTID"
status_text StaleStateId = codes "STALE_STATEID"
status_text OldStateId = codes "OLD_STATEID"
status_text BadStateId = codes "BAD_STATEID"
status_text BadSeqid = codes "BAD_SEQID"
status_text NotSame = codes "NOT_SAME"
status_text RestoreFh = codes "RESTOREFH"
status_text LeaseMoved = codes "LEASE_MOVED"
status_text AttrNotSupp = codes "ATTRNOTSUPP"
status_text NoGrace = codes "NO_GRACE"
status_text BadXdr = codes "BADXDR"
status_text LocksHeld = codes "LOCKS_HELD"
status_text OpenMode = codes "OPENMODE"
status_text BadName = codes "BADNAME"
status_text OpIllegal = codes "OP_ILLEGAL"
status_text FileOpen = codes "FILE_OPEN"

unfoldable pub verb_text : Verb → List ℕ
verb_text verbs.Open = codes "open"
verb_text verbs.Create = codes "create"
verb_text verbs.Close = codes "close"
verb_text verbs.Downgrade = codes "downgrade"
verb_text verbs.Lock = codes "lock"
verb_text verbs.Unlock = codes "unlock"
verb_text verbs.Test = codes "test"
verb_text verbs.Release = codes "release"
verb_text verbs.Read = codes "read"
verb_text verbs.Write = codes "write"
verb_text verbs.Size = codes "size"
verb_text verbs.Remove = codes "remove"
verb_text verbs.MkDir = codes "mkdir"
verb_text verbs.List = codes "list"

-- two hexadecimal digits for each byte, or `-` where there are none
unfoldable pub data_text : List ℕ → List ℕ
data_text [] = codes "-"
data_text (first ∷ bytes) = encode_lower (first ∷ bytes)

-- whether a file ends with what was read
unfoldable pub end_text : Bool → List ℕ
end_text true = codes "eof"
end_text false = codes "more"

-- what was read: `HEX eof` or `HEX more`
unfoldable pub read_text : ReadOk → List ℕ
read_text ok = data_text ok.«data» ++ codes " " ++ end_text ok.eof

-- a name behind others
unfoldable pub name_text : List ℕ → List ℕ
name_text name = codes " " ++ name

-- What a client was told: a status, which where it is OK has behind it the count of what was written, what was read or
-- the names of a directory, and where it is DENIED what is in the way of a lock; the status of another operation of the request; or why none came.
unfoldable pub told_text : Told → List ℕ
told_text (Answered status) = status_text status
told_text (Wrote count) = codes "OK " ++ decimal count
told_text (Read ok) = codes "OK " ++ read_text ok
told_text (Listed names) = codes "OK" ++ flat_map name_text names
told_text (DeniedBy denied) = denied_text denied
told_text (Refused status) = codes "REFUSED " ++ status_text status
told_text NoState = codes "NOSTATE"
told_text Busy = codes "BUSY"
told_text Delayed = codes "DELAY"
told_text Stopped = codes "STOPPED"

-- `C VERB TOLD`
unfoldable pub outcome_text : OutcomeRow → List ℕ
outcome_text row = row.client ++ codes " " ++ verb_text row.verb ++ codes " " ++ told_text row.told ++ line_feed

-- `C idle`
unfoldable pub idle_text : IdleRow → List ℕ
idle_text row = row.client ++ codes " idle" ++ line_feed
