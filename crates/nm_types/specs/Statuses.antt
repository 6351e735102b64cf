-- The numbers of statuses (RFC 7530, 13.1), and what they say of an operation.
use Rattle.std.specs.Prelude.{◌==◌, ℕ, Bool, true, false, List, [], ◌∷◌, Option, find}
use Rattle.nm_types.specs.declared.status.OpStatus.{OpStatus}
use Rattle.nm_types.specs.declared.status.OpStatus.TheVariants.{Nfs4Ok, NoEnt, Exist, NotDir, IsDir, Inval, FBig, NoSpc, NameTooLong, NotEmpty, Stale, BadHandle, NotSupp, TooSmall, ServerFault, BadType, Delay, Denied, Expired, Locked, Grace, ShareDenied, ClidInUse, Resource, Moved, NoFileHandle, MinorVersMismatch, StaleClientId, StaleStateId, OldStateId, BadStateId, BadSeqid, NotSame, RestoreFh, LeaseMoved, AttrNotSupp, NoGrace, BadXdr, LocksHeld, OpenMode, BadName, OpIllegal, FileOpen}

unfoldable pub number_of : OpStatus → ℕ
number_of Nfs4Ok = 0
number_of NoEnt = 2
number_of Exist = 17
number_of NotDir = 20
number_of IsDir = 21
number_of Inval = 22
number_of FBig = 27
number_of NoSpc = 28
number_of NameTooLong = 63
number_of NotEmpty = 66
number_of Stale = 70
number_of BadHandle = 10001
number_of NotSupp = 10004
number_of TooSmall = 10005
number_of ServerFault = 10006
number_of BadType = 10007
number_of Delay = 10008
number_of Denied = 10010
number_of Expired = 10011
number_of Locked = 10012
number_of Grace = 10013
number_of ShareDenied = 10015
number_of ClidInUse = 10017
number_of Resource = 10018
number_of Moved = 10019
number_of NoFileHandle = 10020
number_of MinorVersMismatch = 10021
number_of StaleClientId = 10022
number_of StaleStateId = 10023
number_of OldStateId = 10024
number_of BadStateId = 10025
number_of BadSeqid = 10026
number_of NotSame = 10027
number_of RestoreFh = 10030
number_of LeaseMoved = 10031
number_of AttrNotSupp = 10032
number_of NoGrace = 10033
number_of BadXdr = 10036
number_of LocksHeld = 10037
number_of OpenMode = 10038
number_of BadName = 10041
number_of OpIllegal = 10044
number_of FileOpen = 10046

-- every status
abbrev pub statuses : List OpStatus
statuses =
    Nfs4Ok ∷ NoEnt ∷ Exist ∷ NotDir ∷ IsDir ∷ Inval ∷
    FBig ∷ NoSpc ∷ NameTooLong ∷ NotEmpty ∷ Stale ∷ BadHandle ∷
    NotSupp ∷ TooSmall ∷ ServerFault ∷ BadType ∷ Delay ∷ Denied ∷
    Expired ∷ Locked ∷ Grace ∷ ShareDenied ∷ ClidInUse ∷ Resource ∷
    Moved ∷ NoFileHandle ∷ MinorVersMismatch ∷ StaleClientId ∷ StaleStateId ∷ OldStateId ∷
    BadStateId ∷ BadSeqid ∷ NotSame ∷ RestoreFh ∷ LeaseMoved ∷ AttrNotSupp ∷
    NoGrace ∷ BadXdr ∷ LocksHeld ∷ OpenMode ∷ BadName ∷ OpIllegal ∷
    FileOpen ∷
    []

-- the status with that number, where there is one
unfoldable pub status_of : ℕ → Option OpStatus
unfolding number_of
status_of n = find (λ s. number_of s == n) statuses

-- an operation with this status was carried out
unfoldable pub is_done : OpStatus → Bool
is_done Nfs4Ok = true
is_done _ = false

-- Whether an operation that takes a seqid moves its owner on to the next one, by its status.
unfoldable pub advances : OpStatus → Bool
advances StaleClientId = false
advances StaleStateId = false
advances BadStateId = false
advances BadSeqid = false
advances BadXdr = false
advances Resource = false
advances NoFileHandle = false
advances Moved = false
advances _ = true
