-- The server that never moves: a file system is the list of what was asked of it, each with its reply. What stands now
-- is read off that list.
use Rattle.std.specs.Prelude.{ℕ, ◌+◌, ◌==◌, ◌||◌, Bool, true, false, List, [], ◌∷◌, Option, Some, None, is_none, option_map, replicate, unwrap_or, if◌then◌else◌}
use Rattle.std.specs.Option.{option_or}
use Rattle.nm_rules.specs.Lists.{is_empty}
use Rattle.nm_rules.specs.Attributes.{Asks, asks_of, asked_size, asked_mode}
use Rattle.nm_rules.specs.Contents.{TreeWord, file_at, root_row, file_left, child_left, last_file_left, change_left, taken}
use Rattle.nm_rules.specs.Contents.TreeWord.{Untouched, Made, Edited, Removed}
use Rattle.nm_rules.specs.Contents.FileEdit.{Wrote, Set}
use Rattle.nm_rules.specs.LockAsks.{kind_of, last_of, lock_owner, counter_of}
use Rattle.nm_rules.specs.LockRows.{LockWord, lock_at, new_lock, renewed_lock, claim_if, clear_if, locks_after, ranges_after}
use Rattle.nm_rules.specs.LockRows.LockWord.{AsIs, Claimed, ClosedWith, Released, EndedOf}
use Rattle.nm_types.specs.Parties.{Party}
use Rattle.nm_rules.specs.Seqids.{OwnerWord, judged, is_fresh, is_confirmed, without_recalls, owner_left, closed_after}
use Rattle.nm_types.specs.Statuses.{advances, is_done}
use Rattle.nm_types.specs.Calls.{seqid_of}
use Rattle.nm_rules.specs.Seqids.OwnerWord.{Stays, Noted, Gone, GoneOf}
use Rattle.nm_rules.specs.Shares.{OpenWord, open_at, open_left, opened_row, renewed_row, narrowed_row, put_if}
use Rattle.nm_rules.specs.Shares.OpenWord.{Keep, Put, Drop, DropOf}
use Rattle.nm_types.specs.declared.args.Claim.{Claim}
use Rattle.nm_types.specs.declared.args.Claim.TheVariants.{Null, Previous, DelegateCur, DelegatePrev}
use Rattle.nm_types.specs.declared.args.CreateArgs.{CreateArgs}
use Rattle.nm_types.specs.declared.args.LockArgs.{LockArgs}
use Rattle.nm_types.specs.declared.args.Locker.{Locker}
use Rattle.nm_types.specs.declared.args.Locker.TheVariants.{New, Known}
use Rattle.nm_types.specs.declared.args.OpenArgs.{OpenArgs}
use Rattle.nm_types.specs.declared.args.OpenDowngradeArgs.{OpenDowngradeArgs}
use Rattle.nm_types.specs.declared.args.OpenType.{OpenType}
use Rattle.nm_types.specs.declared.args.OpenType.TheVariants.{NoCreate, Unchecked, Guarded, Exclusive}
use Rattle.nm_types.specs.declared.args.RemoveArgs.{RemoveArgs}
use Rattle.nm_types.specs.declared.args.SetAttrArgs.{SetAttrArgs}
use Rattle.nm_types.specs.declared.args.UnlockArgs.{UnlockArgs}
use Rattle.nm_types.specs.declared.args.WriteArgs.{WriteArgs}
use Rattle.nm_types.specs.declared.calls.Call.{Call}
use Rattle.nm_types.specs.declared.calls.Deed.{Deed}
use Rattle.nm_types.specs.declared.calls.Deed.TheVariants as deed
use Rattle.nm_types.specs.declared.calls.Owner.{Owner}
use Rattle.nm_types.specs.declared.calls.OwnerKind.TheVariants.{Opens}
use Rattle.nm_types.specs.declared.calls.Event.{Event}
use Rattle.nm_types.specs.declared.calls.Event.TheVariants.{Asked, Ended}
use Rattle.nm_types.specs.declared.calls.Entry.{Entry}
use Rattle.nm_types.specs.declared.calls.Reply.{Reply}
use Rattle.nm_types.specs.declared.calls.ReplyValue.{ReplyValue}
use Rattle.nm_types.specs.declared.calls.ReplyValue.TheVariants as told
use Rattle.nm_types.specs.declared.calls.StateRef.{StateRef}
use Rattle.nm_types.specs.declared.calls.StateRef.TheVariants.{Zeros, Ones, Named}
use Rattle.nm_types.specs.declared.owners.Judgement.{Judgement}
use Rattle.nm_types.specs.declared.owners.Judgement.TheVariants.{Fresh}
use Rattle.nm_types.specs.declared.owners.OwnerRow.{OwnerRow}
use Rattle.nm_types.specs.declared.results.LockOutcome.TheVariants.{Locked}
use Rattle.nm_types.specs.declared.results.Opened.{Opened}
use Rattle.nm_types.specs.declared.rows.FileKind.TheVariants.{File, Directory}
use Rattle.nm_types.specs.declared.rows.FileLocks.{FileLocks}
use Rattle.nm_types.specs.declared.rows.FileRow.{FileRow}
use Rattle.nm_types.specs.declared.rows.LockRow.{LockRow}
use Rattle.nm_types.specs.declared.rows.OpenRow.{OpenRow}

-- The newest entry comes first. So "the latest entry that .." is the first one that .., and "since" is where a reading
-- stops.
abbrev pub Past : Type 0
Past = List Entry

-- What stands now, by keys: a file by its number, a number by a name in a directory, a live open by the counter of its
-- stateid, what is kept of an owner that is known by the owner; the opens whose CLOSE is their owner's kept call; and the stateids
-- of lock owners with the ranges that they hold.
pub record Now : Type 0 where
  pub file_by : ℕ → Option FileRow
  pub child_by : ℕ → List ℕ → Option ℕ
  pub open_by : ℕ → Option OpenRow
  pub owner_by : Owner → Option OwnerRow
  pub closed : List OpenRow
  pub locks : List LockRow
  pub ranges : List FileLocks
  -- the last stateid's counter, the last file's number and the last change's
  pub last : ℕ
  pub last_file : ℕ
  pub change : ℕ

-- the owner that opens, where the call names a caller
abbrev pub opener : Party → OpenArgs → Owner
opener party args = record { instance = party; kind = Opens; text = args.owner }

-- A stateid names a live open, or one whose CLOSE is its owner's kept call.
unfoldable pub named_by : Now → StateRef → Option OpenRow
named_by n Zeros = None
named_by n Ones = None
named_by n (Named id) = option_or (n.open_by id.counter) (open_at id.counter n.closed)

abbrev pub owner_named : Now → StateRef → Option Owner
owner_named n stateid = option_map (λ row. row.owner) (named_by n stateid)

-- the stateid of a lock owner
unfoldable pub lock_named_by : Now → StateRef → Option LockRow
lock_named_by n Zeros = None
lock_named_by n Ones = None
lock_named_by n (Named id) = lock_at id.counter n.locks

abbrev pub lock_owner_named : Now → StateRef → Option Owner
lock_owner_named n stateid = option_map (λ row. row.owner) (lock_named_by n stateid)

-- A new lock owner's lock is asked for its open owner.
abbrev pub locker_owner : Now → Locker → Option Owner
locker_owner n (New open_seqid stateid lock_seqid text) = owner_named n stateid
locker_owner n (Known stateid lock_seqid) = lock_owner_named n stateid

-- The owner for which an operation with a seqid is asked: that of an OPEN, and that of the open or of the locks which a stateid
-- names. The other operations have none.
unfoldable pub seqid_owner : Now → Option Party → Deed → Option Owner
seqid_owner n caller (deed.Close args) = owner_named n args.stateid
seqid_owner n caller (deed.Lock args) = locker_owner n args.locker
seqid_owner n caller (deed.Open args) = option_map (λ party. opener party args) caller
seqid_owner n caller (deed.OpenConfirm args) = owner_named n args.stateid
seqid_owner n caller (deed.OpenDowngrade args) = owner_named n args.stateid
seqid_owner n caller (deed.Unlock args) = lock_owner_named n args.stateid
seqid_owner n caller _ = None

-- What a call's seqid says of it. A call without one is always fresh.
unfoldable pub judgement_for : Now → Call → Option Owner → Judgement
judgement_for n call None = Fresh
judgement_for n call (Some owner) = judged (n.owner_by owner) (seqid_of call.deed) call.caller call.file call.deed

abbrev pub judgement : Now → Call → Judgement
judgement n call = judgement_for n call (seqid_owner n call.caller call.deed)

-- An entry acts where its call was answered OK and was fresh when it came.
abbrev pub acts : Now → Call → Reply → Bool
acts n call r = if is_fresh (judgement n call) then is_done r.status else false

-- What an entry changes, as words for each part.
pub record Words : Type 0 where
  pub tree : TreeWord
  pub opens : OpenWord
  -- a stateid was made
  pub drew : Bool
  pub locks : LockWord
  -- the owner for which the call was asked moves on
  pub owners : OwnerWord
  -- a lock owner starts, or is released
  pub starts : OwnerWord

abbrev pub no_words : Words
no_words = record { tree = Untouched; opens = Keep; drew = false; locks = AsIs; owners = Stays; starts = Stays }

-- ---- OPEN and CLOSE

-- The name that a claim gives. CLAIM_PREVIOUS gives none: its file is the current one.
unfoldable pub claimed_name : Claim → Option (List ℕ)
claimed_name (Null name) = Some name
claimed_name (Previous _) = None
claimed_name (DelegateCur _ name) = Some name
claimed_name (DelegatePrev name) = Some name

-- the file of that name in the directory, or the current file itself where no name is given
abbrev pub claimed_in : (ℕ → List ℕ → Option ℕ) → ℕ → Option (List ℕ) → Option ℕ
claimed_in child_by file None = Some file
claimed_in child_by file (Some name) = child_by file name

-- what the attributes of an OPEN ask for a file that it makes
unfoldable pub opentype_asks : OpenType → Asks
opentype_asks NoCreate = Asks.Sets None None
opentype_asks (Unchecked fattr) = asks_of fattr
opentype_asks (Guarded fattr) = asks_of fattr
opentype_asks (Exclusive _) = Asks.Sets None None

-- an EXCLUSIVE OPEN leaves its verifier with the file
unfoldable pub exclusive_verifier : OpenType → Option ℕ
exclusive_verifier NoCreate = None
exclusive_verifier (Unchecked _) = None
exclusive_verifier (Guarded _) = None
exclusive_verifier (Exclusive verifier) = Some verifier

-- A new file has mode 0644 and no bytes, unless the attributes say otherwise.
abbrev pub new_file : ℕ → ℕ → List ℕ → OpenType → FileRow
new_file number dir name opentype = record {
  number = number;
  parent = dir;
  name = name;
  kind = File;
  mode = unwrap_or (asked_mode (opentype_asks opentype)) 420;
  change = 0;
  verifier = exclusive_verifier opentype;
  bytes = replicate (unwrap_or (asked_size (opentype_asks opentype)) 0) 0;
}

-- An UNCHECKED OPEN with size 0 cuts a file that is there. Its other attributes, and another size, change nothing.
abbrev pub is_zero : Option ℕ → Bool
is_zero None = false
is_zero (Some n) = n == 0

unfoldable pub cuts : OpenType → Bool
cuts NoCreate = false
cuts (Unchecked fattr) = is_zero (asked_size (asks_of fattr))
cuts (Guarded _) = false
cuts (Exclusive _) = false

abbrev pub parent_of : Option FileRow → ℕ
parent_of None = 0
parent_of (Some row) = row.parent

-- what an OPEN that acted does to the tree, by the file that its claim names and the one that it opened
unfoldable pub open_tree : Option FileRow → ℕ → Option (List ℕ) → OpenType → Option ℕ → ℕ → TreeWord
open_tree row dir name opentype None number = Made (new_file number dir (unwrap_or name []) opentype)
open_tree row dir name opentype (Some child) number =
    if cuts opentype then Edited (parent_of row) number (Set (Some 0) None) else Untouched

-- An OPEN that acted puts its owner's open, and makes the file where its name wasn't there.
abbrev pub opened_words : Now → Party → ℕ → OpenArgs → Opened → Words
opened_words n party file args opened = record {
  tree = open_tree (n.file_by opened.file) file (claimed_name args.claim) args.opentype
      (claimed_in n.child_by file (claimed_name args.claim)) opened.file;
  opens = Put (opened_row (n.open_by opened.ok.stateid.counter) opened.ok.stateid.counter opened.file (opener party args) args.access args.deny);
  drew = is_none (n.open_by opened.ok.stateid.counter);
  locks = AsIs;
  owners = Stays;
  starts = Stays;
}

abbrev pub open_words : Now → Option Party → ℕ → OpenArgs → ReplyValue → Words
open_words n (Some party) file args (told.Open (Some opened)) = opened_words n party file args opened
open_words n (Some party) file args _ = no_words
open_words n None file args value = no_words

-- A CLOSE that acted drops the open whose stateid it answers, and with it the stateids of its lock owners, which hold nothing.
abbrev pub close_words : ReplyValue → Words
close_words (told.Close (Some id)) = record no_words { opens = Drop id.counter; locks = ClosedWith id.counter }
close_words _ = no_words

-- ---- OPEN_CONFIRM and OPEN_DOWNGRADE

-- An OPEN_CONFIRM that acted raises the seqid of the stateid that it answers.
abbrev pub confirm_words : Now → ReplyValue → Words
confirm_words n (told.OpenConfirm (Some id)) = record no_words { opens = put_if (option_map renewed_row (n.open_by id.counter)) }
confirm_words n _ = no_words

-- An OPEN_DOWNGRADE that acted leaves the access and the deny that it asks for.
abbrev pub downgrade_words : Now → OpenDowngradeArgs → ReplyValue → Words
downgrade_words n args (told.OpenDowngrade (Some id)) =
    record no_words { opens = put_if (option_map (narrowed_row args.access args.deny) (n.open_by id.counter)) }
downgrade_words n args _ = no_words

-- ---- LOCK, LOCKU and RELEASE_LOCKOWNER

-- A LOCK that acted gives the stateid that it answers its range: one that it makes, or one that was there.
abbrev pub locked_words : Now → Option Party → ℕ → LockArgs → ℕ → Locker → Words
locked_words n (Some party) file args counter (New open_seqid stateid lock_seqid text) = record no_words {
  drew = true;
  locks = Claimed (new_lock counter (lock_owner party text) (counter_of stateid) file) (kind_of args.kind) args.offset (last_of args.offset args.length);
}
locked_words n None file args counter (New open_seqid stateid lock_seqid text) = no_words
locked_words n caller file args counter (Known stateid lock_seqid) = record no_words {
  locks = claim_if (option_map renewed_lock (lock_at counter n.locks)) (kind_of args.kind) args.offset (last_of args.offset args.length);
}

-- the lock stands
abbrev pub is_locked : ReplyValue → Bool
is_locked (told.Lock (Some (Locked _))) = true
is_locked _ = false

abbrev pub lock_words : Now → Option Party → ℕ → LockArgs → ReplyValue → Words
lock_words n caller file args (told.Lock (Some (Locked id))) = locked_words n caller file args id.counter args.locker
lock_words n caller file args _ = no_words

-- A LOCKU that acted takes its range from the stateid that it answers.
abbrev pub unlock_words : Now → UnlockArgs → ReplyValue → Words
unlock_words n args (told.Unlock (Some id)) =
    record no_words { locks = clear_if (option_map renewed_lock (lock_at id.counter n.locks)) args.offset (last_of args.offset args.length) }
unlock_words n args _ = no_words

-- A RELEASE_LOCKOWNER that acted ends the stateids of its owner, which hold nothing.
abbrev pub released_words : Option Party → List ℕ → Words
released_words (Some party) text = record no_words { locks = Released (lock_owner party text) }
released_words None text = no_words

-- the owner was released
abbrev pub is_released : ReplyValue → Bool
is_released (told.ReleaseLockOwner released) = released
is_released _ = false

abbrev pub release_words : Option Party → List ℕ → ReplyValue → Words
release_words caller text value = if is_released value then released_words caller text else no_words

-- ---- names and data

-- A new directory has mode 0755, unless the attributes say otherwise.
abbrev pub new_directory : ℕ → ℕ → List ℕ → Asks → FileRow
new_directory number dir name asks = record {
  number = number;
  parent = dir;
  name = name;
  kind = Directory;
  mode = unwrap_or (asked_mode asks) 493;
  change = 0;
  verifier = None;
  bytes = [];
}

-- A CREATE that acted makes the directory that it answers.
abbrev pub create_words : ℕ → CreateArgs → ReplyValue → Words
create_words dir args (told.Create (Some created)) =
    record no_words { tree = Made (new_directory created.file dir args.name (asks_of args.attributes)) }
create_words dir args _ = no_words

-- A REMOVE that acted takes the name from the directory.
abbrev pub remove_words : ℕ → RemoveArgs → ReplyValue → Words
remove_words dir args (told.Remove (Some _)) = record no_words { tree = Removed dir args.name }
remove_words dir args _ = no_words

-- A WRITE that acted writes what it took of its bytes. One of no bytes changes nothing.
unfoldable pub write_tree : Option FileRow → ℕ → WriteArgs → TreeWord
write_tree row file args =
    if is_empty (taken args.«data») then Untouched else Edited (parent_of row) file (Wrote args.offset (taken args.«data»))

abbrev pub write_words : Now → ℕ → WriteArgs → ReplyValue → Words
write_words n file args (told.Write (Some _)) = record no_words { tree = write_tree (n.file_by file) file args }
write_words n file args _ = no_words

-- A SETATTR that acted sets its size and its mode. Where it answers that it set nothing, nothing changes.
unfoldable pub set_tree : Option FileRow → ℕ → Asks → List ℕ → TreeWord
set_tree row file asks words =
    if is_empty words then Untouched else Edited (parent_of row) file (Set (asked_size asks) (asked_mode asks))

abbrev pub setattr_words : Now → ℕ → SetAttrArgs → ReplyValue → Words
setattr_words n file args (told.SetAttr words) = record no_words { tree = set_tree (n.file_by file) file (asks_of args.attributes) words }
setattr_words n file args _ = no_words

-- ---- all operations

abbrev pub deed_words : Now → Option Party → ℕ → Deed → ReplyValue → Words
deed_words n caller file (deed.Access _) value = no_words
deed_words n caller file (deed.Close args) value = close_words value
deed_words n caller file (deed.Commit _) value = no_words
deed_words n caller file (deed.Create args) value = create_words file args value
deed_words n caller file (deed.GetAttr _) value = no_words
deed_words n caller file (deed.Lock args) value = lock_words n caller file args value
deed_words n caller file (deed.LockTest _) value = no_words
deed_words n caller file (deed.Lookup _) value = no_words
deed_words n caller file deed.LookupP value = no_words
deed_words n caller file (deed.Open args) value = open_words n caller file args value
deed_words n caller file (deed.OpenConfirm _) value = confirm_words n value
deed_words n caller file (deed.OpenDowngrade args) value = downgrade_words n args value
deed_words n caller file (deed.Read _) value = no_words
deed_words n caller file (deed.ReadDir _) value = no_words
deed_words n caller file (deed.ReleaseLockOwner args) value = release_words caller args.owner value
deed_words n caller file (deed.Remove args) value = remove_words file args value
deed_words n caller file (deed.SetAttr args) value = setattr_words n file args value
deed_words n caller file (deed.Unlock args) value = unlock_words n args value
deed_words n caller file (deed.Write args) value = write_words n file args value

-- ---- what is kept of an owner

unfoldable pub confirms : Deed → Bool
confirms (deed.OpenConfirm _) = true
confirms _ = false

-- What is kept of an owner that a call moves on to this seqid, by what was kept before: once confirmed it stays so.
abbrev pub noted_row : Option OwnerRow → Owner → ℕ → Call → Reply → OwnerRow
noted_row before owner seqid call r = record {
  owner = owner;
  seqid = seqid;
  confirmed = is_confirmed before || (if confirms call.deed then is_done r.status else false);
  call = call;
  reply = without_recalls r;
}

-- the open that a CLOSE which acted has closed, as it was told
unfoldable pub closed_by : Now → Deed → ReplyValue → Option OpenRow
closed_by n (deed.Close _) (told.Close (Some id)) = option_map renewed_row (n.open_by id.counter)
closed_by n _ _ = None

-- An operation with a seqid moves its owner on with every status that advances.
unfoldable pub noted : Now → Call → Reply → Option Owner → OwnerWord
noted n call r None = Stays
noted n call r (Some owner) = if advances r.status then Noted (noted_row (n.owner_by owner) owner (seqid_of call.deed) call r) (closed_by n call.deed r.value) else Stays

abbrev pub owner_word : Now → Call → Reply → OwnerWord
owner_word n call r = if is_fresh (judgement n call) then noted n call r (seqid_owner n call.caller call.deed) else Stays

-- A new lock owner's LOCK starts it with the seqid that it names for it.
abbrev pub started : Now → Call → Reply → Option Party → Locker → OwnerWord
started n call r (Some party) (New open_seqid stateid lock_seqid text) =
    Noted (noted_row (n.owner_by (lock_owner party text)) (lock_owner party text) lock_seqid call r) None
started n call r _ _ = Stays

-- A RELEASE_LOCKOWNER ends its owner.
abbrev pub ended : Option Party → List ℕ → OwnerWord
ended (Some party) text = Gone (lock_owner party text)
ended None text = Stays

abbrev pub lock_starts : Now → Call → Reply → Locker → ReplyValue → OwnerWord
lock_starts n call r locker value = if is_locked value then started n call r call.caller locker else Stays

abbrev pub release_ends : Option Party → List ℕ → ReplyValue → OwnerWord
release_ends caller text value = if is_released value then ended caller text else Stays

unfoldable pub started_by : Now → Call → Reply → Deed → ReplyValue → OwnerWord
started_by n call r (deed.Lock args) value = lock_starts n call r args.locker value
started_by n call r (deed.ReleaseLockOwner args) value = release_ends call.caller args.owner value
started_by n call r _ value = Stays

abbrev pub start_word : Now → Call → Reply → OwnerWord
start_word n call r = if acts n call r then started_by n call r call.deed r.value else Stays

abbrev pub with_owners : Words → OwnerWord → OwnerWord → Words
with_owners w word start = record w { owners = word; starts = start }

-- Only an entry that acts changes what is there and held. A fresh one moves its owner on, and one that came before changes
-- nothing. With its instance's end all that an owner holds goes.
unfoldable pub words : Now → Event → Reply → Words
words n (Asked call verdict) r =
    with_owners (if acts n call r then deed_words n call.caller call.file call.deed r.value else no_words) (owner_word n call r) (start_word n call r)
words n (Ended party) r = record no_words { opens = DropOf party; locks = EndedOf party; owners = GoneOf party }

-- What the words leave of what stood. A change of the tree has the next number.
unfoldable pub left : Now → Words → Now
left n w = record {
  file_by = λ k. file_left w.tree (n.change + 1) k (n.file_by k);
  child_by = λ dir name. child_left w.tree dir name (n.child_by dir name);
  open_by = λ k. open_left w.opens k (n.open_by k);
  owner_by = λ owner. owner_left w.starts owner (owner_left w.owners owner (n.owner_by owner));
  closed = closed_after w.starts (closed_after w.owners n.closed);
  locks = locks_after w.locks n.locks;
  ranges = ranges_after w.locks n.locks n.ranges;
  last = if w.drew then n.last + 1 else n.last;
  last_file = last_file_left w.tree n.last_file;
  change = change_left w.tree n.change;
}

-- Before the first entry there is the root alone, and no owner is known.
abbrev pub nothing_yet : Now
nothing_yet = record {
  file_by = λ k. file_at k (root_row ∷ []);
  child_by = λ dir name. None;
  open_by = λ _. None;
  owner_by = λ _. None;
  closed = [];
  locks = [];
  ranges = [];
  last = 0;
  last_file = 15;
  change = 0;
}

-- What stands after a list of entries.
unfoldable pub now : Past → Now
now [] = nothing_yet
now (x ∷ earlier) = left (now earlier) (words (now earlier) x.event x.reply)
