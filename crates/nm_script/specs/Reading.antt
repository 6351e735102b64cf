-- Reading a script from its first line to its last: the first fault, or what the lines say.
use Rattle.std.specs.Prelude.{◌≡◌, ℕ, ◌+◌, ◌^◌, Bool, true, false, not, ◌&&◌, ◌||◌, ◌==◌, nat_lt, nat_le, List, [], ◌∷◌, ◌++◌, length, take, Option, Some, None, Result, Ok, Err, if◌then◌else◌, codes, position}
use Rattle.std.specs.List.{list_any, onto_first}
use Rattle.std.specs.Str.{bytes_eq}
use Rattle.nm_types.specs.declared.action.Action.{Action}
use Rattle.nm_types.specs.declared.action.Action.TheVariants as actions
use Rattle.nm_types.specs.declared.action.OpenAction.{OpenAction}
use Rattle.nm_types.specs.declared.action.CloseAction.{CloseAction}
use Rattle.nm_types.specs.declared.action.LockAction.{LockAction}
use Rattle.nm_types.specs.declared.action.UnlockAction.{UnlockAction}
use Rattle.nm_types.specs.declared.action.ReleaseAction.{ReleaseAction}
use Rattle.nm_types.specs.declared.action.ReadAction.{ReadAction}
use Rattle.nm_types.specs.declared.action.WriteAction.{WriteAction}
use Rattle.nm_types.specs.declared.action.SizeAction.{SizeAction}
use Rattle.nm_types.specs.declared.action.NameAction.{NameAction}
use Rattle.nm_script.specs.declared.script.Head.{Head}
use Rattle.nm_script.specs.declared.script.Line.{Line}
use Rattle.nm_script.specs.declared.script.Line.TheVariants.{Do, Finish, Move, Freeze, Abandon, Commit, Settle, Shift, Show}
use Rattle.nm_script.specs.declared.script.Script.{Script}
use Rattle.nm_script.specs.declared.script.ScriptFault.{ScriptFault}
use Rattle.nm_script.specs.declared.script.ScriptFault.TheVariants as faults
use Rattle.nm_script.specs.declared.script.Why.{Why}
use Rattle.nm_script.specs.declared.script.Why.TheVariants as why
use Rattle.nm_script.specs.declared.draft.Draft.{Draft}
use Rattle.nm_script.specs.declared.order.Kind.{Kind}
use Rattle.nm_script.specs.declared.order.Kind.TheVariants as kind
use Rattle.nm_script.specs.declared.fault.LineFault.{LineFault}
use Rattle.nm_script.specs.declared.fault.LineFault.TheVariants as line_faults
use Rattle.nm_script.specs.Words.{words_of, has_empty_word, is_printable, says_something, is_name, is_file_name, number_at, access_at, deny_at, lock_kind_at, bytes_at}

infixl 10 ◌>>=◌
abbrev pub ◌>>=◌ : {A B E : Type 0} → Result A E → (A → Result B E) → Result B E
(Ok x) >>= f = f x
(Err e) >>= f = Err e

-- What a function on a line returned is what reading gives, unless memory ran out.
abbrev pub Refuses : {X : Type 0} → LineFault → Result X Why → Type 0
Refuses line_faults.Memory read = Unit {0}
Refuses (line_faults.Bad w) read = read ≡ Err w

abbrev pub Gives : {X : Type 0} → Result X LineFault → Result X Why → Type 0
Gives (Ok x) read = read ≡ Ok x
Gives (Err fault) read = Refuses fault read

-- ---- which line may come next

-- what a line is, by its first word
unfoldable pub kind_of : List ℕ → Kind
kind_of word =
    if bytes_eq word (codes "nfsmove") then kind.Version else
    if bytes_eq word (codes "lease") then kind.Lease else
    if bytes_eq word (codes "server") then kind.Server else
    if bytes_eq word (codes "fs") then kind.FileSystem else
    if bytes_eq word (codes "client") then kind.Client else kind.Run

abbrev pub first_kind : List (List ℕ) → Kind
first_kind [] = kind.Run
first_kind (first ∷ _) = kind_of first

-- The head begins with one nfsmove, one lease and a server. Then servers, file systems, clients and lines that are
-- run may come, in this order.
unfoldable pub may_follow : Option Kind → Kind → Bool
may_follow None kind.Version = true
may_follow None _ = false
may_follow (Some kind.Version) kind.Lease = true
may_follow (Some kind.Version) _ = false
may_follow (Some kind.Lease) kind.Server = true
may_follow (Some kind.Lease) _ = false
may_follow (Some kind.Server) kind.Version = false
may_follow (Some kind.Server) kind.Lease = false
may_follow (Some kind.Server) _ = true
may_follow (Some kind.FileSystem) kind.FileSystem = true
may_follow (Some kind.FileSystem) kind.Client = true
may_follow (Some kind.FileSystem) kind.Run = true
may_follow (Some kind.FileSystem) _ = false
may_follow (Some kind.Client) kind.Client = true
may_follow (Some kind.Client) kind.Run = true
may_follow (Some kind.Client) _ = false
may_follow (Some kind.Run) kind.Run = true
may_follow (Some kind.Run) _ = false

-- ---- names

abbrev pub is_server : Head → List ℕ → Bool
is_server head name = list_any (λ row. bytes_eq row.name name) head.servers

abbrev pub is_file_system : Head → List ℕ → Bool
is_file_system head name = list_any (λ row. bytes_eq row.name name) head.file_systems

abbrev pub is_client : Head → List ℕ → Bool
is_client head name = list_any (λ row. bytes_eq row.name name) head.clients

-- a name of its form that names nothing yet
unfoldable pub is_new_name : Head → List ℕ → Bool
is_new_name head name = is_name name && not (is_server head name || is_file_system head name || is_client head name)

unfoldable pub place_below : ℕ → Option ℕ → Result ℕ Why
place_below limit None = Err why.Name
place_below limit (Some place) = if nat_lt place limit then Ok place else Err why.Name

abbrev pub server_place : Head → List ℕ → Option ℕ
server_place head name = position (λ row. bytes_eq row.name name) head.servers

abbrev pub file_system_place : Head → List ℕ → Option ℕ
file_system_place head name = position (λ row. bytes_eq row.name name) head.file_systems

abbrev pub client_place : Head → List ℕ → Option ℕ
client_place head name = position (λ row. bytes_eq row.name name) head.clients

-- the number of the server, the file system or the client of that name
abbrev pub server_number : Head → List ℕ → Result ℕ Why
server_number head name = place_below 16 (server_place head name)

abbrev pub file_system_number : Head → List ℕ → Result ℕ Why
file_system_number head name = place_below 64 (file_system_place head name)

abbrev pub client_number : Head → List ℕ → Result ℕ Why
client_number head name = place_below 64 (client_place head name)

-- ---- lines that are run: the keywords come before the names

unfoldable pub open_action : Head → List ℕ → List ℕ → List ℕ → List ℕ → List ℕ → Result OpenAction Why
open_action head f file access_word deny_word owner = do
  access ← access_at access_word
  deny ← deny_at deny_word
  fs ← file_system_number head f
  if is_file_name file && is_name owner
      then Ok (record { fs = fs; file = file; access = access; deny = deny; owner = owner })
      else Err why.Name

unfoldable pub close_action : Head → List ℕ → List ℕ → List ℕ → Result CloseAction Why
close_action head f file owner = do
  fs ← file_system_number head f
  if is_file_name file && is_name owner then Ok (record { fs = fs; file = file; owner = owner }) else Err why.Name

-- The keyword comes first, and then the names of a close.
unfoldable pub lock_action : Head → List ℕ → List ℕ → List ℕ → List ℕ → List ℕ → List ℕ → Result LockAction Why
lock_action head f file kind_word offset_word length_word owner = do
  kind ← lock_kind_at kind_word
  names ← close_action head f file owner
  offset ← number_at offset_word
  length ← number_at length_word
  Ok (record { fs = names.fs; file = names.file; kind = kind; offset = offset; length = length; owner = names.owner })

unfoldable pub unlock_action : Head → List ℕ → List ℕ → List ℕ → List ℕ → List ℕ → Result UnlockAction Why
unlock_action head f file offset_word length_word owner = do
  names ← close_action head f file owner
  offset ← number_at offset_word
  length ← number_at length_word
  Ok (record { fs = names.fs; file = names.file; offset = offset; length = length; owner = names.owner })

unfoldable pub release_action : Head → List ℕ → List ℕ → Result ReleaseAction Why
release_action head f owner = do
  fs ← file_system_number head f
  if is_name owner then Ok (record { fs = fs; owner = owner }) else Err why.Name

-- how many bytes a read asks: at most 65,536
unfoldable pub count_at : List ℕ → Result ℕ Why
count_at word = do
  count ← number_at word
  if nat_le count 65536 then Ok count else Err why.Number

-- The file system, the file and the owner are judged as those of a close. The numbers come last.
unfoldable pub read_action : Head → List ℕ → List ℕ → List ℕ → List ℕ → List ℕ → Result ReadAction Why
read_action head f file offset_word count_word owner = do
  names ← close_action head f file owner
  offset ← number_at offset_word
  count ← count_at count_word
  Ok (record { fs = names.fs; file = names.file; offset = offset; count = count; owner = names.owner })

unfoldable pub write_action : Head → List ℕ → List ℕ → List ℕ → List ℕ → List ℕ → Result WriteAction Why
write_action head f file offset_word hex owner = do
  names ← close_action head f file owner
  offset ← number_at offset_word
  bytes ← bytes_at hex
  Ok (record { fs = names.fs; file = names.file; offset = offset; «data» = bytes; owner = names.owner })

unfoldable pub size_action : Head → List ℕ → List ℕ → List ℕ → List ℕ → Result SizeAction Why
size_action head f file size_word owner = do
  names ← close_action head f file owner
  size ← number_at size_word
  Ok (record { fs = names.fs; file = names.file; size = size; owner = names.owner })

unfoldable pub file_action : Head → List ℕ → List ℕ → Result NameAction Why
file_action head f file = do
  fs ← file_system_number head f
  if is_file_name file then Ok (record { fs = fs; file = file }) else Err why.Name

-- `VERB F`
unfoldable pub root_at : Head → List ℕ → List ℕ → Result Action Why
root_at head verb f =
    if bytes_eq verb (codes "list") then (file_system_number head f >>= λ fs. Ok (actions.List fs)) else Err why.Word

-- `VERB F FILE` or `VERB F OWNER`
unfoldable pub file_at : Head → List ℕ → List ℕ → List ℕ → Result Action Why
file_at head verb f file =
    if bytes_eq verb (codes "remove") then (file_action head f file >>= λ a. Ok (actions.Remove a)) else
    if bytes_eq verb (codes "mkdir") then (file_action head f file >>= λ a. Ok (actions.MkDir a)) else
    if bytes_eq verb (codes "release") then (release_action head f file >>= λ a. Ok (actions.Release a)) else Err why.Word

-- `VERB F FILE OWNER`
unfoldable pub close_at : Head → List ℕ → List ℕ → List ℕ → List ℕ → Result Action Why
close_at head verb f file owner =
    if bytes_eq verb (codes "close") then (close_action head f file owner >>= λ a. Ok (actions.Close a)) else Err why.Word

-- `VERB F FILE N OWNER`
unfoldable pub size_at : Head → List ℕ → List ℕ → List ℕ → List ℕ → List ℕ → Result Action Why
size_at head verb f file size_word owner =
    if bytes_eq verb (codes "size") then (size_action head f file size_word owner >>= λ a. Ok (actions.Size a)) else
    Err why.Word

-- `VERB F FILE` with two words and the owner behind it
unfoldable pub open_at : Head → List ℕ → List ℕ → List ℕ → List ℕ → List ℕ → List ℕ → Result Action Why
open_at head verb f file first second owner =
    if bytes_eq verb (codes "open") then (open_action head f file first second owner >>= λ a. Ok (actions.Open a)) else
    if bytes_eq verb (codes "create") then (open_action head f file first second owner >>= λ a. Ok (actions.Create a)) else
    if bytes_eq verb (codes "downgrade") then (open_action head f file first second owner >>= λ a. Ok (actions.Downgrade a)) else
    if bytes_eq verb (codes "read") then (read_action head f file first second owner >>= λ a. Ok (actions.Read a)) else
    if bytes_eq verb (codes "write") then (write_action head f file first second owner >>= λ a. Ok (actions.Write a)) else
    if bytes_eq verb (codes "unlock") then (unlock_action head f file first second owner >>= λ a. Ok (actions.Unlock a)) else
    Err why.Word

-- `VERB F FILE KIND OFFSET LENGTH OWNER`
unfoldable pub lock_at : Head → List ℕ → List ℕ → List ℕ → List ℕ → List ℕ → List ℕ → List ℕ → Result Action Why
lock_at head verb f file kind offset length_word owner =
    if bytes_eq verb (codes "lock") then (lock_action head f file kind offset length_word owner >>= λ a. Ok (actions.Lock a)) else
    if bytes_eq verb (codes "test") then (lock_action head f file kind offset length_word owner >>= λ a. Ok (actions.Test a)) else
    Err why.Word

unfoldable pub action_at : Head → List ℕ → List (List ℕ) → Result Action Why
action_at head verb (f ∷ []) = root_at head verb f
action_at head verb (f ∷ file ∷ []) = file_at head verb f file
action_at head verb (f ∷ file ∷ owner ∷ []) = close_at head verb f file owner
action_at head verb (f ∷ file ∷ size_word ∷ owner ∷ []) = size_at head verb f file size_word owner
action_at head verb (f ∷ file ∷ first ∷ second ∷ owner ∷ []) = open_at head verb f file first second owner
action_at head verb (f ∷ file ∷ kind ∷ offset ∷ length_word ∷ owner ∷ []) = lock_at head verb f file kind offset length_word owner
action_at head verb _ = Err why.Word

-- a fault of the words comes before one of the client's name, and that before one of the numbers
unfoldable pub first_fault : Why → Result ℕ Why → Why
first_fault why.Word client = why.Word
first_fault fault (Ok client) = fault
first_fault fault (Err name) = name

abbrev pub done_by : Result ℕ Why → Result Action Why → Result Line Why
done_by client (Ok action) = client >>= λ number. Ok (Do number action)
done_by client (Err fault) = Err (first_fault fault client)

-- `do C ACTION`
unfoldable pub action_line : Head → List ℕ → List ℕ → List (List ℕ) → Result Line Why
action_line head c verb words = done_by (client_number head c) (action_at head verb words)

-- `do C finish`
unfoldable pub finish_line : Head → List ℕ → List ℕ → Result Line Why
finish_line head c verb =
    if bytes_eq verb (codes "finish") then (client_number head c >>= λ client. Ok (Finish client)) else Err why.Word

unfoldable pub do_at : Head → List (List ℕ) → Result Line Why
do_at head (c ∷ verb ∷ []) = finish_line head c verb
do_at head (c ∷ verb ∷ words) = action_line head c verb words
do_at head _ = Err why.Word

-- the line that is made of a file system's number
abbrev pub with_fs : Head → List ℕ → (ℕ → Line) → Result Line Why
with_fs head f make = file_system_number head f >>= λ fs. Ok (make fs)

-- the line that is made of the numbers of a file system and of a server
abbrev pub with_fs_to : Head → List ℕ → List ℕ → (ℕ → ℕ → Line) → Result Line Why
with_fs_to head f s make = do
  fs ← file_system_number head f
  to ← server_number head s
  Ok (make fs to)

-- `VERB F`
unfoldable pub fs_line : Head → List ℕ → List ℕ → Result Line Why
fs_line head verb f =
    if bytes_eq verb (codes "freeze") then with_fs head f Freeze else
    if bytes_eq verb (codes "abandon") then with_fs head f Abandon else
    if bytes_eq verb (codes "commit") then with_fs head f Commit else
    if bytes_eq verb (codes "settle") then with_fs head f Settle else
    if bytes_eq verb (codes "show") then with_fs head f Show else Err why.Word

-- `VERB F S`
unfoldable pub fs_to_line : Head → List ℕ → List ℕ → List ℕ → Result Line Why
fs_to_line head verb f s =
    if bytes_eq verb (codes "move") then with_fs_to head f s Move else
    if bytes_eq verb (codes "shift") then with_fs_to head f s Shift else Err why.Word

unfoldable pub fs_at : Head → List ℕ → List (List ℕ) → Result Line Why
fs_at head verb (f ∷ []) = fs_line head verb f
fs_at head verb (f ∷ s ∷ []) = fs_to_line head verb f s
fs_at head verb _ = Err why.Word

unfoldable pub run_line : Head → List (List ℕ) → Result Line Why
run_line head [] = Err why.Word
run_line head (first ∷ words) = if bytes_eq first (codes "do") then do_at head words else fs_at head first words

-- ---- what the lines so far say, with one more line

abbrev pub nothing_yet : Draft
nothing_yet = record { last = None; head = record { lease = 0; servers = []; file_systems = []; clients = [] }; lines = [] }

unfoldable pub version_at : Draft → List (List ℕ) → Result Draft Why
version_at d (_ ∷ version ∷ []) =
    if bytes_eq version (codes "1") then Ok (record d { last = Some kind.Version }) else Err why.Word
version_at d _ = Err why.Word

unfoldable pub lease_at : Draft → List (List ℕ) → Result Draft Why
lease_at d (_ ∷ word ∷ []) = do
  seconds ← number_at word
  if nat_le 1 seconds && nat_le seconds 3600
      then Ok (record d { last = Some kind.Lease; head = record d.head { lease = seconds } })
      else Err why.Number
lease_at d _ = Err why.Word

unfoldable pub with_server : Draft → List ℕ → Result Draft Why
with_server d name =
    if is_new_name d.head name
    then Ok (record d { last = Some kind.Server; head = record d.head { servers = d.head.servers ++ record { name = name } ∷ [] } })
    else Err why.Name

unfoldable pub server_at : Draft → List (List ℕ) → Result Draft Why
server_at d (_ ∷ name ∷ []) = with_server d name
server_at d _ = Err why.Word

unfoldable pub with_file_system : Draft → List ℕ → List ℕ → List ℕ → Result Draft Why
with_file_system d name keyword server =
    if not (bytes_eq keyword (codes "at")) then Err why.Word else
    if not (is_new_name d.head name) then Err why.Name else do
      at ← server_number d.head server
      Ok (record d { last = Some kind.FileSystem; head = record d.head { file_systems = d.head.file_systems ++ record { name = name; at = at } ∷ [] } })

unfoldable pub file_system_at : Draft → List (List ℕ) → Result Draft Why
file_system_at d (_ ∷ name ∷ keyword ∷ server ∷ []) =
    with_file_system d name keyword server
file_system_at d _ = Err why.Word

unfoldable pub with_client : Draft → List ℕ → List ℕ → Result Draft Why
with_client d name word =
    if not (is_new_name d.head name) then Err why.Name else do
      verifier ← number_at word
      Ok (record d { last = Some kind.Client; head = record d.head { clients = d.head.clients ++ record { name = name; verifier = verifier } ∷ [] } })

unfoldable pub client_at : Draft → List (List ℕ) → Result Draft Why
client_at d (_ ∷ name ∷ word ∷ []) = with_client d name word
client_at d _ = Err why.Word

unfoldable pub run_at : Draft → List (List ℕ) → Result Draft Why
run_at d words = do
  line ← run_line d.head words
  Ok (record d { last = Some kind.Run; lines = d.lines ++ line ∷ [] })

abbrev pub kind_at : Kind → Draft → List (List ℕ) → Result Draft Why
kind_at kind.Version d words = version_at d words
kind_at kind.Lease d words = lease_at d words
kind_at kind.Server d words = server_at d words
kind_at kind.FileSystem d words = file_system_at d words
kind_at kind.Client d words = client_at d words
kind_at kind.Run d words = run_at d words

unfoldable pub words_at : Draft → List (List ℕ) → Result Draft Why
words_at d words =
    if not (may_follow d.last (first_kind words)) then Err why.Head else
    if has_empty_word words then Err why.Word else kind_at (first_kind words) d words

-- as many servers, file systems or clients as there may be
unfoldable pub is_full : Head → Kind → Bool
is_full head kind.Server = nat_le 16 (length head.servers)
is_full head kind.FileSystem = nat_le 64 (length head.file_systems)
is_full head kind.Client = nat_le 64 (length head.clients)
is_full head _ = false

-- a 17th server, a 65th file system or a 65th client, where it stands in its order
unfoldable pub is_past_last : Draft → List (List ℕ) → Bool
is_past_last d words = is_full d.head (first_kind words) && may_follow d.last (first_kind words)

unfoldable pub line_at : Draft → List ℕ → Result Draft Why
line_at d line =
    if nat_lt 4096 (length line) then Err why.Limit else
    if is_past_last d (words_of line) then Err why.Limit else
    if not (is_printable line) then Err why.Bytes else
    if says_something line then words_at d (words_of line) else Ok d

abbrev pub finished : Draft → Option Script
finished d = if length d.head.servers == 0 then None else Some (record { head = d.head; lines = d.lines })

-- ---- the lines of a source

-- The bytes are split at line feeds. Behind the last line feed there is a line only where something stands.
abbrev pub lines_of : List ℕ → List (List ℕ)
lines_of [] = []
lines_of (b ∷ bytes) = if b == 10 then [] ∷ lines_of bytes else onto_first b (lines_of bytes)

-- the front that ends with the last line feed
abbrev pub ended : List ℕ → List ℕ
ended [] = []
ended (b ∷ bytes) = if list_any (λ c. c == 10) (b ∷ bytes) then b ∷ ended bytes else []

-- What a function on a source returned is what reading gives, unless memory ran out.
abbrev pub IsFault : {X : Type 0} → ScriptFault → Result X ScriptFault → Type 0
IsFault faults.Memory read = Unit {0}
IsFault (faults.At line w) read = read ≡ Err (faults.At line w)

abbrev pub Tells : {X : Type 0} → Result X ScriptFault → Result X ScriptFault → Type 0
Tells (Ok x) read = read ≡ Ok x
Tells (Err fault) read = IsFault fault read

-- a fault of a line, with its number
abbrev pub in_line : {X : Type 0} → ℕ → Result X Why → Result X ScriptFault
in_line number (Ok x) = Ok x
in_line number (Err w) = Err (faults.At number w)

-- the line of that number, from 1: there are at most 200,000
unfoldable pub counted_at : ℕ → Draft → List ℕ → Result Draft ScriptFault
counted_at number d line = if nat_lt 200000 number then Err (faults.At number why.Limit) else in_line number (line_at d line)

-- the lines in order, behind so many others
unfoldable pub lines_at : ℕ → Draft → List (List ℕ) → Result (Draft × ℕ) ScriptFault
lines_at count d [] = Ok (d, count)
lines_at count d (line ∷ lines) = counted_at (count + 1) d line >>= λ e. lines_at (count + 1) e lines

abbrev pub or_no_head : ℕ → Option Script → Result Script ScriptFault
or_no_head count (Some s) = Ok s
or_no_head count None = Err (faults.At (count + 1) why.Head)

-- a source of at most 16 MiB
unfoldable pub whole_at : List ℕ → Result Script ScriptFault
whole_at bytes = lines_at 0 nothing_yet (lines_of bytes) >>= λ read. or_no_head read.1 (finished read.0)

-- a longer one: the lines that end in its first 16 MiB are judged, and the next one is past the limit
unfoldable pub cut_at : List ℕ → Result Script ScriptFault
cut_at front = lines_at 0 nothing_yet (lines_of (ended front)) >>= λ read. Err (faults.At (read.1 + 1) why.Limit)

-- The script of a source, or its first fault.
unfoldable pub script_at : List ℕ → Result Script ScriptFault
script_at bytes = if nat_lt (2 ^ 24) (length bytes) then cut_at (take (2 ^ 24) bytes) else whole_at bytes
