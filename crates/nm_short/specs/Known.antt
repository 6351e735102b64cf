-- What the clients of a script know, and what they send.
use Rattle.std.specs.Prelude.{ℕ, ◌==◌, ◌&&◌, not, Bool, false, List, [], ◌∷◌, ◌++◌, map, Option, Some, None, find, filter, option_map, unwrap_or, codes, if◌then◌else◌}
use Rattle.std.specs.List.{list_any}
use Rattle.std.specs.Str.{bytes_eq}
use Rattle.nm_types.specs.Parties.{Party}
use Rattle.nm_types.specs.Statuses.{is_done, advances}
use Rattle.nm_rules.specs.Shares.{next_seqid}
use Rattle.nm_types.specs.declared.action.Action.{Action}
use Rattle.nm_types.specs.Wire.{hyper}
use Rattle.nm_types.specs.declared.action.Action.TheVariants as action
use Rattle.nm_types.specs.declared.action.CloseAction.{CloseAction}
use Rattle.nm_types.specs.declared.action.LockAction.{LockAction}
use Rattle.nm_types.specs.declared.action.OpenAction.{OpenAction}
use Rattle.nm_types.specs.declared.action.ReadAction.{ReadAction}
use Rattle.nm_types.specs.declared.action.ReleaseAction.{ReleaseAction}
use Rattle.nm_types.specs.declared.action.SizeAction.{SizeAction}
use Rattle.nm_types.specs.declared.action.UnlockAction.{UnlockAction}
use Rattle.nm_types.specs.declared.action.WriteAction.{WriteAction}
use Rattle.nm_types.specs.declared.args.Claim.TheVariants.{Null}
use Rattle.nm_types.specs.declared.args.CreateType.TheVariants.{Directory}
use Rattle.nm_types.specs.declared.args.Fattr.{Fattr}
use Rattle.nm_types.specs.declared.args.LockType.{LockType}
use Rattle.nm_types.specs.declared.args.LockType.TheVariants as lock_type
use Rattle.nm_types.specs.declared.args.Locker.{Locker}
use Rattle.nm_types.specs.declared.args.Locker.TheVariants as locker
use Rattle.nm_types.specs.declared.args.OpenType.{OpenType}
use Rattle.nm_types.specs.declared.args.OpenType.TheVariants.{NoCreate, Unchecked}
use Rattle.nm_types.specs.declared.args.Stable.TheVariants.{FileSync}
use Rattle.nm_types.specs.declared.calls.Call.{Call}
use Rattle.nm_types.specs.declared.calls.Deed.{Deed}
use Rattle.nm_types.specs.declared.calls.Deed.TheVariants as deed
use Rattle.nm_types.specs.declared.calls.StateId.{StateId}
use Rattle.nm_types.specs.declared.calls.StateRef.TheVariants.{Named}
use Rattle.nm_types.specs.declared.calls.Reply.{Reply}
use Rattle.nm_types.specs.declared.calls.ReplyValue.{ReplyValue}
use Rattle.nm_types.specs.declared.calls.ReplyValue.TheVariants.{Open as OpenReply, Close as CloseReply, OpenConfirm as ConfirmReply, OpenDowngrade as DowngradeReply, Lock as LockReply, Unlock as UnlockReply}
use Rattle.nm_types.specs.declared.results.LockKind.{LockKind}
use Rattle.nm_types.specs.declared.results.LockKind.TheVariants as kind
use Rattle.nm_types.specs.declared.results.LockOutcome.TheVariants.{Locked}
use Rattle.nm_types.specs.declared.results.Opened.{Opened}
use Rattle.nm_types.specs.declared.status.OpStatus.{OpStatus}
use Rattle.nm_script.specs.declared.script.ClientRow.{ClientRow}
use Rattle.nm_short.specs.declared.clients.Believed.{Believed}
use Rattle.nm_short.specs.declared.clients.Holding.{Holding}
use Rattle.nm_short.specs.declared.clients.InHand.{InHand}
use Rattle.nm_short.specs.declared.clients.OwnerSeqid.{OwnerSeqid}
use Rattle.nm_short.specs.declared.locking.Freed.{Freed}
use Rattle.nm_short.specs.declared.locking.Freed.TheVariants.{On, Waits, Ends}

-- ---- what clients know

pub record Known : Type 0 where
  -- the next seqids of open owners, and those of lock owners
  pub seqids : List OwnerSeqid
  pub lock_seqids : List OwnerSeqid
  -- the stateids of opens, and those of lock owners
  pub held : List Holding
  pub locks : List Holding
  -- where a client believes a file system to be, where it was sent elsewhere than at first
  pub places : List Believed
  -- the actions that wait for a file system on its way
  pub in_hand : List InHand

abbrev pub knows_nothing : Known
knows_nothing = record { seqids = []; lock_seqids = []; held = []; locks = []; places = []; in_hand = [] }

abbrev pub is_seqid_of : ℕ → ℕ → List ℕ → OwnerSeqid → Bool
is_seqid_of client fs owner row = (row.client == client) && (row.fs == fs) && bytes_eq row.owner owner

-- An owner's first seqid in a file system is 1.
unfoldable pub seqid_of : ℕ → ℕ → List ℕ → List OwnerSeqid → ℕ
seqid_of client fs owner rows = unwrap_or (option_map (λ row. row.next) (find (is_seqid_of client fs owner) rows)) 1

abbrev pub other_seqids : ℕ → ℕ → List ℕ → List OwnerSeqid → List OwnerSeqid
other_seqids client fs owner rows = filter (λ row. not (is_seqid_of client fs owner row)) rows

-- The reply moves the owner on to its next seqid, where its status advances.
unfoldable pub moved_on : ℕ → ℕ → List ℕ → OpStatus → List OwnerSeqid → List OwnerSeqid
moved_on client fs owner status rows =
    if advances status
    then other_seqids client fs owner rows ++ record { client = client; fs = fs; owner = owner; next = next_seqid (seqid_of client fs owner rows) } ∷ []
    else rows

abbrev pub is_held_of : ℕ → ℕ → List ℕ → List ℕ → Holding → Bool
is_held_of client fs owner file row = (row.client == client) && (row.fs == fs) && bytes_eq row.owner owner && bytes_eq row.file file

-- what an owner of a client holds on a file, among opens or among locks
unfoldable pub held_of : ℕ → ℕ → List ℕ → List ℕ → List Holding → Option Holding
held_of client fs owner file rows = find (is_held_of client fs owner file) rows

abbrev pub others_held : ℕ → ℕ → List ℕ → List ℕ → List Holding → List Holding
others_held client fs owner file rows = filter (λ row. not (is_held_of client fs owner file row)) rows

-- The client keeps the file's handle and the stateid in the place of older ones.
abbrev pub holds_now : ℕ → ℕ → List ℕ → List ℕ → ℕ → StateId → List Holding → List Holding
holds_now client fs owner file handle id rows = others_held client fs owner file rows
    ++ record { client = client; fs = fs; owner = owner; file = file; handle = handle; stateid = id } ∷ []

-- An OK of OPEN tells the file's handle and the stateid.
unfoldable pub holds_opened : ℕ → OpenAction → ReplyValue → List Holding → List Holding
holds_opened client a (OpenReply (Some opened)) rows = holds_now client a.fs a.owner a.file opened.file opened.ok.stateid rows
holds_opened client a _ rows = rows

-- With an OK of CLOSE the client holds neither the open nor the locks any longer.
unfoldable pub holds_closed : ℕ → CloseAction → ReplyValue → List Holding → List Holding
holds_closed client a (CloseReply (Some id)) rows = others_held client a.fs a.owner a.file rows
holds_closed client a _ rows = rows

-- An OK of OPEN_CONFIRM and of OPEN_DOWNGRADE tells the stateid of an open anew.
unfoldable pub told_stateid : ReplyValue → Option StateId
told_stateid (ConfirmReply stateid) = stateid
told_stateid (DowngradeReply stateid) = stateid
told_stateid _ = None

-- what the owner holds on the file has that stateid then
abbrev pub renewed_held : ℕ → OpenAction → StateId → Holding → Holding
renewed_held client a id row = if is_held_of client a.fs a.owner a.file row then record row { stateid = id } else row

abbrev pub holds_told : ℕ → OpenAction → Option StateId → List Holding → List Holding
holds_told client a None rows = rows
holds_told client a (Some id) rows = map (renewed_held client a id) rows

abbrev pub learned_open : ℕ → OpenAction → Reply → Known → Known
learned_open client a reply known =
    record known { seqids = moved_on client a.fs a.owner reply.status known.seqids; held = holds_opened client a reply.value known.held }

abbrev pub learned_anew : ℕ → OpenAction → Reply → Known → Known
learned_anew client a reply known =
    record known { seqids = moved_on client a.fs a.owner reply.status known.seqids; held = holds_told client a (told_stateid reply.value) known.held }

abbrev pub learned_close : ℕ → CloseAction → Reply → Known → Known
learned_close client a reply known =
    record known {
      seqids = moved_on client a.fs a.owner reply.status known.seqids;
      held = holds_closed client a reply.value known.held;
      locks = holds_closed client a reply.value known.locks;
    }

-- An OK of LOCK and of LOCKU tells the stateid of a lock owner anew.
unfoldable pub told_lock : ReplyValue → Option StateId
told_lock (LockReply (Some (Locked id))) = Some id
told_lock (UnlockReply stateid) = stateid
told_lock _ = None

abbrev pub holds_lock : ℕ → ℕ → List ℕ → List ℕ → ℕ → Option StateId → List Holding → List Holding
holds_lock client fs owner file handle None rows = rows
holds_lock client fs owner file handle (Some id) rows = holds_now client fs owner file handle id rows

-- A new lock owner starts with OK alone.
abbrev pub started_on : ℕ → ℕ → List ℕ → OpStatus → List OwnerSeqid → List OwnerSeqid
started_on client fs owner status rows = if is_done status then moved_on client fs owner status rows else rows

-- A new lock owner's LOCK takes a seqid of its open owner, another one's a seqid of its own.
unfoldable pub learned_by : ℕ → LockAction → ℕ → Locker → Reply → Known → Known
learned_by client a handle (locker.New open_seqid stateid lock_seqid owner) reply known = record known {
  seqids = moved_on client a.fs a.owner reply.status known.seqids;
  lock_seqids = started_on client a.fs a.owner reply.status known.lock_seqids;
  locks = holds_lock client a.fs a.owner a.file handle (told_lock reply.value) known.locks;
}
learned_by client a handle (locker.Known stateid lock_seqid) reply known = record known {
  lock_seqids = moved_on client a.fs a.owner reply.status known.lock_seqids;
  locks = holds_lock client a.fs a.owner a.file handle (told_lock reply.value) known.locks;
}

unfoldable pub learned_lock : ℕ → LockAction → ℕ → Deed → Reply → Known → Known
learned_lock client a handle (deed.Lock args) reply known = learned_by client a handle args.locker reply known
learned_lock client a handle _ reply known = known

abbrev pub learned_unlock : ℕ → UnlockAction → ℕ → Reply → Known → Known
learned_unlock client a handle reply known = record known {
  lock_seqids = moved_on client a.fs a.owner reply.status known.lock_seqids;
  locks = holds_lock client a.fs a.owner a.file handle (told_lock reply.value) known.locks;
}

-- after a reply to an open or a create, which make an OPEN and then maybe an OPEN_CONFIRM
unfoldable pub learned_opening : ℕ → OpenAction → Deed → Reply → Known → Known
learned_opening client a (deed.Open _) reply known = learned_open client a reply known
learned_opening client a (deed.OpenConfirm _) reply known = learned_anew client a reply known
learned_opening client a _ reply known = known

-- What a client knows after the reply to a call that it made for an action. Of names and of bytes it keeps nothing.
unfoldable pub learned : ℕ → Action → Call → Reply → Known → Known
learned client (action.Open a) call reply known = learned_opening client a call.deed reply known
learned client (action.Create a) call reply known = learned_opening client a call.deed reply known
learned client (action.Close a) call reply known = learned_close client a reply known
learned client (action.Downgrade a) call reply known = learned_anew client a reply known
learned client (action.Lock a) call reply known = learned_lock client a call.file call.deed reply known
learned client (action.Unlock a) call reply known = learned_unlock client a call.file reply known
learned client _ call reply known = known

-- ---- where clients believe a file system to be

abbrev pub is_place_of : ℕ → ℕ → Believed → Bool
is_place_of client fs row = (row.client == client) && (row.fs == fs)

-- at first where the script has it, and then where the client was sent last
unfoldable pub place_of : ℕ → ℕ → ℕ → List Believed → ℕ
place_of client fs first rows = unwrap_or (option_map (λ row. row.at) (find (is_place_of client fs) rows)) first

unfoldable pub sent_to : ℕ → ℕ → ℕ → List Believed → List Believed
sent_to client fs at rows =
    filter (λ row. not (is_place_of client fs row)) rows ++ record { client = client; fs = fs; at = at } ∷ []

-- ---- what a release of a lock owner leaves

-- The client believes the file system to be at that server. It knocked at each in which it holds something.
unfoldable pub is_believed : ℕ → ℕ → ℕ → List Believed → Bool
is_believed client fs at places = list_any (λ row. is_place_of client fs row && (row.at == at)) places

abbrev pub is_released : ℕ → List ℕ → ℕ → List Believed → Holding → Bool
is_released client owner at places row = (row.client == client) && bytes_eq row.owner owner && is_believed client row.fs at places

-- The client holds nothing of the owner any more in the file systems at that server.
unfoldable pub still_held : ℕ → List ℕ → ℕ → List Believed → List Holding → List Holding
still_held client owner at places rows = filter (λ row. not (is_released client owner at places row)) rows

-- ---- what clients have in hand

-- the action that waits
unfoldable pub hand_of : ℕ → List InHand → Option Action
hand_of client rows = option_map (λ row. row.action) (find (λ row. row.client == client) rows)

unfoldable pub put_down : ℕ → List InHand → List InHand
put_down client rows = filter (λ row. not (row.client == client)) rows

unfoldable pub taken_up : ℕ → Action → List InHand → List InHand
taken_up client action rows = put_down client rows ++ record { client = client; action = action } ∷ []

-- What a client knows after a release of an owner at a server.
unfoldable pub known_freed : ℕ → Action → List ℕ → ℕ → Freed → Known → Known
known_freed client act owner at On known =
    record known { locks = still_held client owner at known.places known.locks; in_hand = put_down client known.in_hand }
known_freed client act owner at Waits known = record known { in_hand = taken_up client act known.in_hand }
known_freed client act owner at (Ends status) known = record known { in_hand = put_down client known.in_hand }

-- ---- what clients send

-- A client's string is nfsmove/NAME, and its principal the user of its number, by AUTH_SYS.
unfoldable pub party_of : ℕ → ClientRow → Party
party_of client row =
    record { id = codes "nfsmove/" ++ row.name; verifier = row.verifier; principal = record { flavor = 1; uid = client } }

-- An owner's text is NAME/OWNER.
unfoldable pub owner_text : ClientRow → List ℕ → List ℕ
owner_text row owner = row.name ++ codes "/" ++ owner

-- no attributes, and a size alone
abbrev pub no_attributes : Fattr
no_attributes = record { words = []; values = [] }

abbrev pub size_alone : ℕ → Fattr
size_alone size = record { words = 16 ∷ []; values = hyper size }

-- OPEN by name in the root, which is file 1
unfoldable pub open_call : ℕ → ClientRow → OpenAction → OpenType → ℕ → Call
open_call client row a opentype seqid = record {
  caller = Some (party_of client row);
  file = 1;
  deed = deed.Open (record {
    seqid = seqid;
    access = a.access;
    deny = a.deny;
    owner = owner_text row a.owner;
    opentype = opentype;
    claim = Null a.file;
  });
}

-- CLOSE of what the client holds
unfoldable pub close_call : ℕ → ClientRow → Holding → ℕ → Call
close_call client row held seqid = record {
  caller = Some (party_of client row);
  file = held.handle;
  deed = deed.Close (record { seqid = seqid; stateid = Named held.stateid });
}

-- OPEN_CONFIRM of what an OPEN told
unfoldable pub confirm_call : Option Party → Opened → ℕ → Call
confirm_call caller opened seqid = record {
  caller = caller;
  file = opened.file;
  deed = deed.OpenConfirm (record { stateid = Named opened.ok.stateid; seqid = seqid });
}

-- OPEN_DOWNGRADE of what the client holds
unfoldable pub downgrade_call : ℕ → ClientRow → OpenAction → Holding → ℕ → Call
downgrade_call client row a held seqid = record {
  caller = Some (party_of client row);
  file = held.handle;
  deed = deed.OpenDowngrade (record { stateid = Named held.stateid; seqid = seqid; access = a.access; deny = a.deny });
}

-- ---- LOCK, LOCKU, LOCKT and RELEASE_LOCKOWNER

-- the next seqids of an owner's two streams
abbrev pub open_seqid_of : ℕ → LockAction → Known → ℕ
open_seqid_of client a known = seqid_of client a.fs a.owner known.seqids

abbrev pub lock_seqid_of : ℕ → LockAction → Known → ℕ
lock_seqid_of client a known = seqid_of client a.fs a.owner known.lock_seqids

-- An owner is new on a file until it has a lock stateid there.
unfoldable pub locker_for : ℕ → ClientRow → LockAction → Known → Holding → Option Holding → Locker
locker_for client row a known held None =
    locker.New (open_seqid_of client a known) (Named held.stateid) (lock_seqid_of client a known) (owner_text row a.owner)
locker_for client row a known held (Some lock) = locker.Known (Named lock.stateid) (lock_seqid_of client a known)

unfoldable pub type_of : LockKind → LockType
type_of kind.Read = lock_type.Read
type_of kind.Write = lock_type.Write

unfoldable pub lock_call : ℕ → ClientRow → LockAction → ℕ → Locker → Call
lock_call client row a file its = record {
  caller = Some (party_of client row);
  file = file;
  deed = deed.Lock (record { kind = type_of a.kind; reclaim = false; offset = a.offset; length = a.length; locker = its });
}

-- LOCK with the open that the client holds
unfoldable pub locking_call : ℕ → ClientRow → LockAction → Known → Holding → Call
locking_call client row a known held =
    lock_call client row a held.handle (locker_for client row a known held (held_of client a.fs a.owner a.file known.locks))

-- LOCKU of what the client holds, with type 1
unfoldable pub unlock_call : ℕ → ClientRow → UnlockAction → ℕ → Holding → Call
unlock_call client row a seqid lock = record {
  caller = Some (party_of client row);
  file = lock.handle;
  deed = deed.Unlock (record { kind = lock_type.Read; seqid = seqid; stateid = Named lock.stateid; offset = a.offset; length = a.length });
}

-- LOOKUP in the root names no client, and LOCKT on the file that it tells goes on with it.
unfoldable pub lookup_call : List ℕ → Call
lookup_call name = record { caller = None; file = 1; deed = deed.Lookup (record { name = name }) }

unfoldable pub test_call : ℕ → ClientRow → LockAction → ℕ → Call
test_call client row a file = record {
  caller = Some (party_of client row);
  file = file;
  deed = deed.LockTest (record { kind = type_of a.kind; offset = a.offset; length = a.length; owner = owner_text row a.owner });
}

-- RELEASE_LOCKOWNER names no file.
unfoldable pub release_call : ℕ → ClientRow → ReleaseAction → Call
release_call client row a = record {
  caller = Some (party_of client row);
  file = 0;
  deed = deed.ReleaseLockOwner (record { owner = owner_text row a.owner });
}

-- ---- bytes and names

-- READ, WRITE and SETATTR of size, with the stateid of what the client holds
unfoldable pub read_call : ℕ → ClientRow → ReadAction → Holding → Call
read_call client row a held = record {
  caller = Some (party_of client row);
  file = held.handle;
  deed = deed.Read (record { stateid = Named held.stateid; offset = a.offset; count = a.count });
}

unfoldable pub write_call : ℕ → ClientRow → WriteAction → Holding → Call
write_call client row a held = record {
  caller = Some (party_of client row);
  file = held.handle;
  deed = deed.Write (record { stateid = Named held.stateid; offset = a.offset; stable = FileSync; «data» = a.«data» });
}

unfoldable pub size_call : ℕ → ClientRow → SizeAction → Holding → Call
size_call client row a held = record {
  caller = Some (party_of client row);
  file = held.handle;
  deed = deed.SetAttr (record { stateid = Named held.stateid; attributes = size_alone a.size });
}

-- REMOVE, CREATE and READDIR in the root name no client.
unfoldable pub remove_call : List ℕ → Call
remove_call name = record { caller = None; file = 1; deed = deed.Remove (record { name = name }) }

unfoldable pub mkdir_call : List ℕ → Call
mkdir_call name = record {
  caller = None;
  file = 1;
  deed = deed.Create (record { kind = Directory; name = name; attributes = no_attributes });
}

-- the entries behind a cookie
unfoldable pub list_call : ℕ → Call
list_call cookie = record {
  caller = None;
  file = 1;
  deed = deed.ReadDir (record { cookie = cookie; verifier = 0; dircount = 0; maxcount = 65536; words = [] });
}

-- The call of an action. CLOSE, OPEN_DOWNGRADE, LOCK, LOCKU and what reads or changes a file's bytes need a stateid; without one
-- nothing is sent.
unfoldable pub call_of : ℕ → ClientRow → Known → Action → Option Call
call_of client row known (action.Open a) = Some (open_call client row a NoCreate (seqid_of client a.fs a.owner known.seqids))
call_of client row known (action.Create a) =
    Some (open_call client row a (Unchecked no_attributes) (seqid_of client a.fs a.owner known.seqids))
call_of client row known (action.Close a) =
    option_map (λ held. close_call client row held (seqid_of client a.fs a.owner known.seqids)) (held_of client a.fs a.owner a.file known.held)
call_of client row known (action.Downgrade a) =
    option_map (λ held. downgrade_call client row a held (seqid_of client a.fs a.owner known.seqids)) (held_of client a.fs a.owner a.file known.held)
call_of client row known (action.Lock a) = option_map (locking_call client row a known) (held_of client a.fs a.owner a.file known.held)
call_of client row known (action.Unlock a) =
    option_map (unlock_call client row a (seqid_of client a.fs a.owner known.lock_seqids)) (held_of client a.fs a.owner a.file known.locks)
call_of client row known (action.Test a) = Some (lookup_call a.file)
call_of client row known (action.Release a) = Some (release_call client row a)
call_of client row known (action.Read a) = option_map (read_call client row a) (held_of client a.fs a.owner a.file known.held)
call_of client row known (action.Write a) = option_map (write_call client row a) (held_of client a.fs a.owner a.file known.held)
call_of client row known (action.Size a) = option_map (size_call client row a) (held_of client a.fs a.owner a.file known.held)
call_of client row known (action.Remove a) = Some (remove_call a.file)
call_of client row known (action.MkDir a) = Some (mkdir_call a.file)
call_of client row known (action.List _) = Some (list_call 0)
