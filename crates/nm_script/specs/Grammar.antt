-- The grammar of scripts: which bytes spell which script. It stands apart from the reader, and goes from a script to
-- its text: `IsScript`, at the end, is the whole of it.
use Rattle.std.specs.Prelude.{◌≡◌, ℕ, ◌^◌, ◌<◌, ◌≤◌, Bool, true, false, not, ◌&&◌, ◌||◌, ◌==◌, List, [], ◌∷◌, ◌++◌, length, map, filter, All, slice_index_or, if◌then◌else◌, codes}
use Rattle.std.specs.List.{list_any, list_all, join_with_byte}
use Rattle.std.specs.Str.{bytes_eq}
use Rattle.std.specs.Fmt.{decimal}
use Rattle.hex.specs.Hex.{encode_lower}
use Rattle.nm_types.specs.declared.action.Action.{Action}
use Rattle.nm_types.specs.declared.action.Action.TheVariants as actions
use Rattle.nm_types.specs.declared.action.OpenAction.{OpenAction}
use Rattle.nm_types.specs.declared.action.CloseAction.{CloseAction}
use Rattle.nm_types.specs.declared.action.LockAction.{LockAction}
use Rattle.nm_types.specs.declared.action.UnlockAction.{UnlockAction}
use Rattle.nm_types.specs.declared.action.ReleaseAction.{ReleaseAction}
use Rattle.nm_types.specs.declared.action.ReadAction.{ReadAction}
use Rattle.nm_types.specs.declared.action.WriteAction.{WriteAction}
use Rattle.nm_types.specs.declared.action.SizeAction.{SizeAction}
use Rattle.nm_types.specs.declared.action.NameAction.{NameAction}
use Rattle.nm_types.specs.declared.results.LockKind.{LockKind}
use Rattle.nm_types.specs.declared.results.LockKind.TheVariants as kinds
use Rattle.nm_script.specs.declared.script.ServerRow.{ServerRow}
use Rattle.nm_script.specs.declared.script.FsRow.{FsRow}
use Rattle.nm_script.specs.declared.script.ClientRow.{ClientRow}
use Rattle.nm_script.specs.declared.script.Head.{Head}
use Rattle.nm_script.specs.declared.script.Line.{Line}
use Rattle.nm_script.specs.declared.script.Line.TheVariants.{Do, Finish, Move, Freeze, Abandon, Commit, Settle, Shift, Show}
use Rattle.nm_script.specs.declared.script.Script.{Script}
use Rattle.nm_script.specs.Words.{says_something, is_printable, is_name_byte}

-- ---- how bytes are lines

-- whether a line feed stands in the bytes
abbrev pub has_feed : List ℕ → Bool
has_feed bytes = list_any (λ b. b == 10) bytes

-- The bytes are these lines, in order.
pub data IsLines : List ℕ → List (List ℕ) → Type 0 where
  -- no bytes are no lines
  no_line : IsLines [] []
  -- the last line feed may be missing, where something stands before it
  last_line : {line : List ℕ} → 0 < length line → has_feed line ≡ false → IsLines line (line ∷ [])
  -- any other line ends at its line feed
  next_line : {line rest : List ℕ} {lines : List (List ℕ)} → has_feed line ≡ false → IsLines rest lines → IsLines (line ++ 10 ∷ rest) (line ∷ lines)

-- ---- how a script is spelled, by the words of its lines

-- a number is spelled by the name in its place
abbrev pub name_at : List (List ℕ) → ℕ → List ℕ
name_at names number = slice_index_or names number []

abbrev pub server_names : Head → List (List ℕ)
server_names head = map (λ row. row.name) head.servers

abbrev pub file_system_names : Head → List (List ℕ)
file_system_names head = map (λ row. row.name) head.file_systems

abbrev pub client_names : Head → List (List ℕ)
client_names head = map (λ row. row.name) head.clients

-- ACC: r, w or rw, for 1, 2 and 3
abbrev pub access_word : ℕ → List ℕ
access_word access = if access == 1 then codes "r" else if access == 2 then codes "w" else codes "rw"

-- DENY: none, r, w or rw, for 0 to 3
abbrev pub deny_word : ℕ → List ℕ
deny_word deny = if deny == 0 then codes "none" else access_word deny

-- KIND: r or w
abbrev pub kind_word : LockKind → List ℕ
kind_word kinds.Read = codes "r"
kind_word kinds.Write = codes "w"

-- F FILE ACC DENY OWNER
abbrev pub open_words : Head → OpenAction → List (List ℕ)
open_words head a = name_at (file_system_names head) a.fs ∷ a.file ∷ access_word a.access ∷ deny_word a.deny ∷ a.owner ∷ []

-- F FILE OWNER
abbrev pub close_words : Head → CloseAction → List (List ℕ)
close_words head a = name_at (file_system_names head) a.fs ∷ a.file ∷ a.owner ∷ []

-- F FILE KIND OFFSET LENGTH OWNER
abbrev pub lock_words : Head → LockAction → List (List ℕ)
lock_words head a = name_at (file_system_names head) a.fs ∷ a.file ∷ kind_word a.kind ∷ decimal a.offset ∷ decimal a.length ∷ a.owner ∷ []

-- F FILE OFFSET LENGTH OWNER
abbrev pub unlock_words : Head → UnlockAction → List (List ℕ)
unlock_words head a = name_at (file_system_names head) a.fs ∷ a.file ∷ decimal a.offset ∷ decimal a.length ∷ a.owner ∷ []

-- F OWNER
abbrev pub release_words : Head → ReleaseAction → List (List ℕ)
release_words head a = name_at (file_system_names head) a.fs ∷ a.owner ∷ []

-- F FILE OFFSET COUNT OWNER
abbrev pub read_words : Head → ReadAction → List (List ℕ)
read_words head a = name_at (file_system_names head) a.fs ∷ a.file ∷ decimal a.offset ∷ decimal a.count ∷ a.owner ∷ []

-- F FILE OFFSET HEX OWNER, where HEX is two digits 0 to 9, a to f for each byte
abbrev pub write_words : Head → WriteAction → List (List ℕ)
write_words head a = name_at (file_system_names head) a.fs ∷ a.file ∷ decimal a.offset ∷ encode_lower a.«data» ∷ a.owner ∷ []

-- F FILE N OWNER
abbrev pub size_words : Head → SizeAction → List (List ℕ)
size_words head a = name_at (file_system_names head) a.fs ∷ a.file ∷ decimal a.size ∷ a.owner ∷ []

-- F FILE
abbrev pub file_words : Head → NameAction → List (List ℕ)
file_words head a = name_at (file_system_names head) a.fs ∷ a.file ∷ []

-- open F FILE ACC DENY OWNER, create F FILE ACC DENY OWNER, close F FILE OWNER, downgrade F FILE ACC DENY OWNER,
-- lock F FILE KIND OFFSET LENGTH OWNER, unlock F FILE OFFSET LENGTH OWNER, test F FILE KIND OFFSET LENGTH OWNER, release F OWNER,
-- read F FILE OFFSET COUNT OWNER, write F FILE OFFSET HEX OWNER, size F FILE N OWNER, remove F FILE, mkdir F FILE, list F
abbrev pub action_words : Head → Action → List (List ℕ)
action_words head (actions.Open a) = codes "open" ∷ open_words head a
action_words head (actions.Create a) = codes "create" ∷ open_words head a
action_words head (actions.Close a) = codes "close" ∷ close_words head a
action_words head (actions.Downgrade a) = codes "downgrade" ∷ open_words head a
action_words head (actions.Lock a) = codes "lock" ∷ lock_words head a
action_words head (actions.Unlock a) = codes "unlock" ∷ unlock_words head a
action_words head (actions.Test a) = codes "test" ∷ lock_words head a
action_words head (actions.Release a) = codes "release" ∷ release_words head a
action_words head (actions.Read a) = codes "read" ∷ read_words head a
action_words head (actions.Write a) = codes "write" ∷ write_words head a
action_words head (actions.Size a) = codes "size" ∷ size_words head a
action_words head (actions.Remove a) = codes "remove" ∷ file_words head a
action_words head (actions.MkDir a) = codes "mkdir" ∷ file_words head a
action_words head (actions.List fs) = codes "list" ∷ name_at (file_system_names head) fs ∷ []

-- VERB F
abbrev pub fs_words : Head → List ℕ → ℕ → List (List ℕ)
fs_words head verb fs = verb ∷ name_at (file_system_names head) fs ∷ []

-- VERB F S
abbrev pub fs_to_words : Head → List ℕ → ℕ → ℕ → List (List ℕ)
fs_to_words head verb fs to = verb ∷ name_at (file_system_names head) fs ∷ name_at (server_names head) to ∷ []

-- do C ACTION, do C finish, move F S, freeze F, abandon F, commit F, settle F, shift F S, show F
abbrev pub run_words : Head → Line → List (List ℕ)
run_words head (Do client action) = codes "do" ∷ name_at (client_names head) client ∷ action_words head action
run_words head (Finish client) = codes "do" ∷ name_at (client_names head) client ∷ codes "finish" ∷ []
run_words head (Move fs to) = fs_to_words head (codes "move") fs to
run_words head (Freeze fs) = fs_words head (codes "freeze") fs
run_words head (Abandon fs) = fs_words head (codes "abandon") fs
run_words head (Commit fs) = fs_words head (codes "commit") fs
run_words head (Settle fs) = fs_words head (codes "settle") fs
run_words head (Shift fs to) = fs_to_words head (codes "shift") fs to
run_words head (Show fs) = fs_words head (codes "show") fs

-- nfsmove 1
abbrev pub version_words : List (List ℕ)
version_words = codes "nfsmove" ∷ codes "1" ∷ []

-- lease N
abbrev pub lease_words : ℕ → List (List ℕ)
lease_words seconds = codes "lease" ∷ decimal seconds ∷ []

-- server NAME
abbrev pub server_words : ServerRow → List (List ℕ)
server_words row = codes "server" ∷ row.name ∷ []

-- fs NAME at SERVER
abbrev pub file_system_words : Head → FsRow → List (List ℕ)
file_system_words head row = codes "fs" ∷ row.name ∷ codes "at" ∷ name_at (server_names head) row.at ∷ []

-- client NAME VERIFIER
abbrev pub client_words : ClientRow → List (List ℕ)
client_words row = codes "client" ∷ row.name ∷ decimal row.verifier ∷ []

-- the head in this order, and then the lines that are run
abbrev pub script_words : Script → List (List (List ℕ))
script_words s =
    version_words ∷ lease_words s.head.lease ∷ map server_words s.head.servers
    ++ map (file_system_words s.head) s.head.file_systems
    ++ map client_words s.head.clients
    ++ map (run_words s.head) s.lines

-- the words of a line stand apart by one space
abbrev pub line_of : List (List ℕ) → List ℕ
line_of words = join_with_byte 32 words

-- ---- what is in its form and its bounds

-- 1 to 16 letters, digits, - or _
pub record IsName (name : List ℕ) : Type 0 where
  pub some : 1 ≤ length name
  pub short : length name ≤ 16
  pub bytes : list_all is_name_byte name ≡ true

-- 1 to 64 letters, digits, -, _ or ., but not . or ..
pub record IsFileName (name : List ℕ) : Type 0 where
  pub some : 1 ≤ length name
  pub short : length name ≤ 64
  pub bytes : list_all (λ b. is_name_byte b || b == 46) name ≡ true
  pub not_dot : bytes_eq name (codes ".") ≡ false
  pub not_dots : bytes_eq name (codes "..") ≡ false

-- no name is equal to one behind it
abbrev pub all_differ : List (List ℕ) → Bool
all_differ [] = true
all_differ (name ∷ names) = not (list_any (bytes_eq name) names) && all_differ names

-- the names of servers, file systems and clients
abbrev pub all_names : Head → List (List ℕ)
all_names head = server_names head ++ file_system_names head ++ client_names head

-- One to 16 servers, up to 64 file systems and up to 64 clients, whose names all differ. A lease has 1 to 3,600 seconds.
pub record IsHead (head : Head) : Type 0 where
  pub lease_some : 1 ≤ head.lease
  pub lease_limit : head.lease ≤ 3600
  pub some_server : 1 ≤ length head.servers
  pub servers : length head.servers ≤ 16
  pub file_systems : length head.file_systems ≤ 64
  pub clients : length head.clients ≤ 64
  pub names : All IsName (all_names head)
  pub differ : all_differ (all_names head) ≡ true
  pub at : All (λ row. row.at < length head.servers) head.file_systems
  pub verifiers : All (λ row. row.verifier < 2 ^ 64) head.clients

-- the file system is one of the head, the file and the owner have their forms, ACC is one of 1 to 3 and DENY of 0 to 3
pub record IsOpen (head : Head) (a : OpenAction) : Type 0 where
  pub fs : a.fs < length head.file_systems
  pub file : IsFileName a.file
  pub access_some : 1 ≤ a.access
  pub access_limit : a.access ≤ 3
  pub deny_limit : a.deny ≤ 3
  pub owner : IsName a.owner

-- the same without ACC and DENY
pub record IsClose (head : Head) (a : CloseAction) : Type 0 where
  pub fs : a.fs < length head.file_systems
  pub file : IsFileName a.file
  pub owner : IsName a.owner

-- the same with a place in the file, and a count of at most 65,536 bytes
pub record IsRead (head : Head) (a : ReadAction) : Type 0 where
  pub fs : a.fs < length head.file_systems
  pub file : IsFileName a.file
  pub offset : a.offset < 2 ^ 64
  pub count : a.count ≤ 65536
  pub owner : IsName a.owner

-- the same with 1 to 1,024 bytes in place of a count
pub record IsWrite (head : Head) (a : WriteAction) : Type 0 where
  pub fs : a.fs < length head.file_systems
  pub file : IsFileName a.file
  pub offset : a.offset < 2 ^ 64
  pub some : 1 ≤ length a.«data»
  pub limit : length a.«data» ≤ 1024
  pub bytes : All (λ b. b < 256) a.«data»
  pub owner : IsName a.owner

-- the same with a size alone
pub record IsSize (head : Head) (a : SizeAction) : Type 0 where
  pub fs : a.fs < length head.file_systems
  pub file : IsFileName a.file
  pub size : a.size < 2 ^ 64
  pub owner : IsName a.owner

-- the same with a place in the file and a length, which may be any numbers
pub record IsLock (head : Head) (a : LockAction) : Type 0 where
  pub fs : a.fs < length head.file_systems
  pub file : IsFileName a.file
  pub offset : a.offset < 2 ^ 64
  pub length : a.length < 2 ^ 64
  pub owner : IsName a.owner

pub record IsUnlock (head : Head) (a : UnlockAction) : Type 0 where
  pub fs : a.fs < length head.file_systems
  pub file : IsFileName a.file
  pub offset : a.offset < 2 ^ 64
  pub length : a.length < 2 ^ 64
  pub owner : IsName a.owner

-- a file system of the head, and a file's name
pub record IsFile (head : Head) (a : NameAction) : Type 0 where
  pub fs : a.fs < length head.file_systems
  pub file : IsFileName a.file

-- a file system of the head, and an owner's name
pub record IsRelease (head : Head) (a : ReleaseAction) : Type 0 where
  pub fs : a.fs < length head.file_systems
  pub owner : IsName a.owner

abbrev pub IsAction : Head → Action → Type 0
IsAction head (actions.Open a) = IsOpen head a
IsAction head (actions.Create a) = IsOpen head a
IsAction head (actions.Close a) = IsClose head a
IsAction head (actions.Downgrade a) = IsOpen head a
IsAction head (actions.Lock a) = IsLock head a
IsAction head (actions.Unlock a) = IsUnlock head a
IsAction head (actions.Test a) = IsLock head a
IsAction head (actions.Release a) = IsRelease head a
IsAction head (actions.Read a) = IsRead head a
IsAction head (actions.Write a) = IsWrite head a
IsAction head (actions.Size a) = IsSize head a
IsAction head (actions.Remove a) = IsFile head a
IsAction head (actions.MkDir a) = IsFile head a
IsAction head (actions.List fs) = fs < length head.file_systems

-- the client, the file system and the server are of the head
abbrev pub IsRun : Head → Line → Type 0
IsRun head (Do client action) = (client < length head.clients) × IsAction head action
IsRun head (Finish client) = client < length head.clients
IsRun head (Move fs to) = (fs < length head.file_systems) × (to < length head.servers)
IsRun head (Freeze fs) = fs < length head.file_systems
IsRun head (Abandon fs) = fs < length head.file_systems
IsRun head (Commit fs) = fs < length head.file_systems
IsRun head (Settle fs) = fs < length head.file_systems
IsRun head (Shift fs to) = (fs < length head.file_systems) × (to < length head.servers)
IsRun head (Show fs) = fs < length head.file_systems

-- Each number is in its bounds and stands for something, and each name is in its form and given once.
pub record IsWellFormed (s : Script) : Type 0 where
  pub head : IsHead s.head
  pub lines : All (IsRun s.head) s.lines

-- ---- scripts

-- at most 4,096 bytes from 0x20 to 0x7e
pub record IsSourceLine (line : List ℕ) : Type 0 where
  pub short : length line ≤ 4096
  pub printable : is_printable line ≡ true

-- The bytes spell the script: they are at most 16 MiB and at most 200,000 lines, of which those that say something are
-- the lines of the script, in order. The others are empty or begin with #, and stand anywhere.
pub record IsScript (bytes : List ℕ) (s : Script) : Type 0 where
  pub lines : List (List ℕ)
  pub split : IsLines bytes lines
  pub size : length bytes ≤ 2 ^ 24
  pub count : length lines ≤ 200000
  pub each : All IsSourceLine lines
  pub spelled : filter says_something lines ≡ map line_of (script_words s)
  pub fits : IsWellFormed s
