-- What the unmoving server answers: the first class of refusal that applies, read off the entries so far, else the value
-- of the operation.
use Rattle.std.specs.Prelude.{◌≡◌, ℕ, Bool, true, false, [], ◌∷◌, Option, Some, None, option_map, if◌then◌else◌}
use Rattle.nm_types.specs.Parties.{Party}
use Rattle.nm_rules.specs.Past.{Past}
use Rattle.nm_rules.specs.Seen.{Seen, seen}
use Rattle.nm_rules.specs.Checks.{Checks, Stop, first}
use Rattle.nm_rules.specs.Checks.Stop.{Refuse, Repeat}
use Rattle.nm_rules.specs.Data.{commit_checks, read_checks, read_value, write_checks, write_value, setattr_checks, setattr_value}
use Rattle.nm_rules.specs.Files.{current, child, file_checks, dir_checks, access_value, create_checks, create_value, getattr_value, lookup_checks, readdir_checks, readdir_value, remove_checks, changed_dir}
use Rattle.nm_rules.specs.Opens.{open_checks, open_value, close_checks, confirm_checks, downgrade_checks, changed_stateid}
use Rattle.nm_rules.specs.LockOps.{lock_checks, lock_value, lock_denied, test_checks, test_denied, unlock_checks, changed_lock, release_checks}
use Rattle.nm_types.specs.declared.calls.Call.{Call}
use Rattle.nm_types.specs.declared.calls.Deed.{Deed}
use Rattle.nm_types.specs.declared.calls.Deed.TheVariants as deed
use Rattle.nm_types.specs.declared.calls.Verdict.{Verdict}
use Rattle.nm_types.specs.declared.calls.Event.{Event}
use Rattle.nm_types.specs.declared.calls.Event.TheVariants.{Asked, Ended}
use Rattle.nm_types.specs.declared.calls.Reply.{Reply}
use Rattle.nm_types.specs.declared.calls.ReplyValue.{ReplyValue}
use Rattle.nm_types.specs.declared.calls.ReplyValue.TheVariants as told
use Rattle.nm_types.specs.declared.results.LockOutcome.TheVariants.{Denied as IsDenied}
use Rattle.nm_types.specs.declared.status.OpStatus.{OpStatus}
use Rattle.nm_types.specs.declared.status.OpStatus.TheVariants.{Nfs4Ok, Denied as DeniedStatus}

-- the classes that apply, by operation
abbrev pub checks : Seen → Option Party → ℕ → Verdict → Deed → Checks
checks s caller file verdict (deed.Access _) = file_checks s file verdict
checks s caller file verdict (deed.Close args) = close_checks s caller file args verdict
checks s caller file verdict (deed.Commit _) = commit_checks s file verdict
checks s caller file verdict (deed.Create args) = create_checks s file args verdict
checks s caller file verdict (deed.GetAttr _) = file_checks s file verdict
checks s caller file verdict (deed.Lock args) = lock_checks s caller file args args.locker verdict
checks s caller file verdict (deed.LockTest args) = test_checks s caller file args verdict
checks s caller file verdict (deed.Lookup args) = lookup_checks s file args verdict
checks s caller file verdict deed.LookupP = dir_checks s file verdict
checks s caller file verdict (deed.Open args) = open_checks s caller file args verdict
checks s caller file verdict (deed.OpenConfirm args) = confirm_checks s caller file args verdict
checks s caller file verdict (deed.OpenDowngrade args) = downgrade_checks s caller file args verdict
checks s caller file verdict (deed.Read args) = read_checks s caller file args verdict
checks s caller file verdict (deed.ReadDir args) = readdir_checks s file args verdict
checks s caller file verdict (deed.ReleaseLockOwner args) = release_checks s caller args verdict
checks s caller file verdict (deed.Remove args) = remove_checks s file args verdict
checks s caller file verdict (deed.SetAttr args) = setattr_checks s caller file args verdict
checks s caller file verdict (deed.Unlock args) = unlock_checks s caller file args verdict
checks s caller file verdict (deed.Write args) = write_checks s caller file args verdict

-- A refusal carries no value, but that SETATTR says that it set nothing, and RELEASE_LOCKOWNER that it released nobody.
abbrev pub refused_value : Deed → ReplyValue
refused_value (deed.Access _) = told.Access None
refused_value (deed.Close _) = told.Close None
refused_value (deed.Commit _) = told.Commit None
refused_value (deed.Create _) = told.Create None
refused_value (deed.GetAttr _) = told.GetAttr None
refused_value (deed.Lock _) = told.Lock None
refused_value (deed.LockTest _) = told.LockTest None
refused_value (deed.Lookup _) = told.Lookup None
refused_value deed.LookupP = told.LookupP None
refused_value (deed.Open _) = told.Open None
refused_value (deed.OpenConfirm _) = told.OpenConfirm None
refused_value (deed.OpenDowngrade _) = told.OpenDowngrade None
refused_value (deed.Read _) = told.Read None
refused_value (deed.ReadDir _) = told.ReadDir None
refused_value (deed.ReleaseLockOwner _) = told.ReleaseLockOwner false
refused_value (deed.Remove _) = told.Remove None
refused_value (deed.SetAttr _) = told.SetAttr []
refused_value (deed.Unlock _) = told.Unlock None
refused_value (deed.Write _) = told.Write None

-- A DENIED carries what is in the way.
abbrev pub denied_value : Seen → Option Party → ℕ → Deed → ReplyValue
denied_value s caller file (deed.Lock args) = told.Lock (option_map IsDenied (lock_denied s file args))
denied_value s caller file (deed.LockTest args) = told.LockTest (test_denied s caller file args)
denied_value s caller file d = refused_value d

unfoldable pub is_denial : OpStatus → Bool
is_denial DeniedStatus = true
is_denial _ = false

abbrev pub refusal_value : Seen → Option Party → ℕ → Deed → OpStatus → ReplyValue
refusal_value s caller file d status = if is_denial status then denied_value s caller file d else refused_value d

abbrev pub ok_value : Seen → Option Party → ℕ → Deed → ReplyValue
ok_value s caller file (deed.Access args) = told.Access (access_value args)
ok_value s caller file (deed.Close args) = told.Close (changed_stateid s args.stateid)
ok_value s caller file (deed.Commit _) = told.Commit (Some 0)
ok_value s caller file (deed.Create args) = told.Create (create_value s file args)
ok_value s caller file (deed.GetAttr args) = told.GetAttr (getattr_value (current s file) args)
ok_value s caller file (deed.Lock args) = told.Lock (lock_value s args)
ok_value s caller file (deed.LockTest _) = told.LockTest None
ok_value s caller file (deed.Lookup args) = told.Lookup (child s file args.name)
ok_value s caller file deed.LookupP = told.LookupP (option_map (λ row. row.parent) (current s file))
ok_value s caller file (deed.Open args) = told.Open (open_value s caller file args)
ok_value s caller file (deed.OpenConfirm args) = told.OpenConfirm (changed_stateid s args.stateid)
ok_value s caller file (deed.OpenDowngrade args) = told.OpenDowngrade (changed_stateid s args.stateid)
ok_value s caller file (deed.Read args) = told.Read (read_value (current s file) args)
ok_value s caller file (deed.ReadDir args) = told.ReadDir (readdir_value s file args)
ok_value s caller file (deed.ReleaseLockOwner _) = told.ReleaseLockOwner true
ok_value s caller file (deed.Remove _) = told.Remove (Some (changed_dir s file))
ok_value s caller file (deed.SetAttr args) = told.SetAttr (setattr_value args)
ok_value s caller file (deed.Unlock args) = told.Unlock (changed_lock s args.stateid)
ok_value s caller file (deed.Write args) = told.Write (write_value args)

abbrev pub reply_with : OpStatus → ReplyValue → Reply
reply_with status value = record { status = status; value = value; recalls = [] }

abbrev pub reply_by : Seen → Call → Option Stop → Reply
reply_by s call (Some (Refuse status)) = reply_with status (refusal_value s call.caller call.file call.deed status)
reply_by s call (Some (Repeat kept)) = kept
reply_by s call None = reply_with Nfs4Ok (ok_value s call.caller call.file call.deed)

-- the reply, read off the tables
unfoldable pub answer_to : Seen → Event → Reply
answer_to s (Asked call verdict) = reply_by s call (first (checks s call.caller call.file verdict call.deed))
answer_to s (Ended party) = reply_with Nfs4Ok told.Nothing

-- what a file system whose entries are these answers to an event
abbrev pub answer : ℕ → Bool → Past → Event → Reply
answer fs grants es event = answer_to (seen fs grants es) event

-- the list goes on by the event and its answer
abbrev pub add : ℕ → Bool → Past → Event → Past
add fs grants es event = record { event = event; reply = answer fs grants es event } ∷ es

-- each reply is the answer after the entries before it
abbrev pub IsLegal : ℕ → Bool → Past → Type 0
IsLegal fs grants [] = Unit {0}
IsLegal fs grants (x ∷ earlier) = (x.reply ≡ answer fs grants earlier x.event) × IsLegal fs grants earlier
