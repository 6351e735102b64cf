-- The lines of a script, read one after the other, give the script.
use Rattle.std.proofs.Common.{◌≡◌, ℕ, ◌+◌, ◌<◌, ◌≤◌, ◌^◌, true, false, cond, not, List, [], ◌∷◌, ◌++◌, length, map, Option, Some, Result, Ok, Err, refl, sym, ap, ◌∙◌, append_assoc, arith}
use Rattle.std.specs.Prelude.{codes}
use Rattle.std.specs.List.{list_any, AllByRecursion}
use Rattle.std.specs.Str.{bytes_eq}
use Rattle.std.proofs.lemmas.Bool.{le-leb, lt-leb, ne_eqb, and_parts}
use Rattle.std.proofs.lemmas.List.{append-nil, length-append, length-map}
use Rattle.std.proofs.lemmas.List.Elements.{recursion_from_All}
use Rattle.nm_script.specs.declared.script.Head.{Head}
use Rattle.nm_script.specs.declared.script.ServerRow.{ServerRow}
use Rattle.nm_script.specs.declared.script.FsRow.{FsRow}
use Rattle.nm_script.specs.declared.script.ClientRow.{ClientRow}
use Rattle.nm_script.specs.declared.script.Line.{Line}
use Rattle.nm_script.specs.declared.script.Line.TheVariants.{Do, Finish, Move, Freeze, Abandon, Commit, Settle, Shift, Show}
use Rattle.nm_script.specs.declared.script.Script.{Script}
use Rattle.nm_script.specs.declared.script.Why.{Why}
use Rattle.nm_script.specs.declared.script.Why.TheVariants as why
use Rattle.nm_script.specs.declared.draft.Draft.{Draft}
use Rattle.nm_script.specs.declared.order.Kind.{Kind}
use Rattle.nm_script.specs.declared.order.Kind.TheVariants as kind
use Rattle.nm_script.specs.Words.{has_empty_word}
use Rattle.nm_script.specs.Grammar.{name_at, server_names, file_system_names, client_names, all_names, all_differ, version_words, lease_words, server_words, file_system_words, client_words, run_words, script_words, IsName, IsHead, IsRun, IsWellFormed}
use Rattle.nm_script.specs.Reading.{◌>>=◌, kind_of, first_kind, may_follow, server_number, nothing_yet, version_at, lease_at, with_server, server_at, with_file_system, file_system_at, with_client, client_at, run_at, kind_at, words_at, is_full, is_past_last, finished}
use Rattle.nm_script.proofs.WordLaws.{IsWord, number_again, decimal_is_word, name_is_word}
use Rattle.nm_script.proofs.RunLaws.{bind_ok, ok_is, place_again, HasNames, run_again, run_are_words, keyword, word_in}
use Rattle.nm_script.proofs.DraftLaws.{push_there, differ_front, differ_new, new_again, is_among, versioned, leased, served, placed, joined, ran, served_names, placed_names}

-- ---- reading the words of one line, and of several

abbrev pub take_words : Draft → List (List ℕ) → Result Draft Why
take_words d words = cond (is_past_last d words) (Err why.Limit) (words_at d words)

abbrev pub take_all : Draft → List (List (List ℕ)) → Result Draft Why
take_all d [] = Ok d
take_all d (words ∷ more) = take_words d words >>= λ e. take_all e more

take_then : (d e : Draft) (front more : List (List (List ℕ))) → take_all d front ≡ Ok e → take_all d (front ++ more) ≡ take_all e more
take_then d e [] more h = ap (λ x. take_all x more) (ok_is d e h)
take_then d e (words ∷ front) more h =
    let x = bind_ok (take_words d words) (λ c. take_all c front) e h in
    rw x.1 (take_then x.0 e front more x.2)

no_empty : (words : List (List ℕ)) → AllByRecursion IsWord words → has_empty_word words ≡ false
no_empty [] are = refl
no_empty (word ∷ words) are = rw (ne_eqb (length word) 0 (λ e. omega (arith, are.0.some, e)), no_empty words are.1) refl

-- the words of a line in its order, of a kind that isn't full
module _ (d : Draft) (words : List (List ℕ)) (k : Kind) (is : first_kind words ≡ k) (may : may_follow d.last k ≡ true) (are : AllByRecursion IsWord words) where
  in_order : words_at d words ≡ kind_at k d words
  unfolding words_at
  in_order = rw (is, may, no_empty words are) refl

  taken : is_full d.head k ≡ false → take_words d words ≡ kind_at k d words
  unfolding is_past_last
  taken room = rw (is, room) in_order

-- a line that is run is never past the last one
pub run_has_room : (d : Draft) (words : List (List ℕ)) → first_kind words ≡ kind.Run → is_past_last d words ≡ false
unfolding is_past_last is_full
run_has_room d words is = rw is refl

-- ---- one line of each kind

version_again : take_words nothing_yet version_words ≡ Ok (versioned nothing_yet)
unfolding is_past_last is_full words_at may_follow kind_of version_at
version_again = refl

lease_again : (d : Draft) (seconds : ℕ) → may_follow d.last kind.Lease ≡ true → 1 ≤ seconds → seconds ≤ 3600 → take_words d (lease_words seconds) ≡ Ok (leased d seconds)
unfolding kind_of lease_at is_full
lease_again d seconds may some limit =
    taken d (lease_words seconds) kind.Lease refl may (keyword (codes "lease") (omega arith) refl, (decimal_is_word seconds (omega arith), tt)) refl
    ∙ rw (number_again seconds (omega arith), le-leb 1 seconds some, le-leb seconds 3600 limit) refl

server_again : (d : Draft) (row : ServerRow) → may_follow d.last kind.Server ≡ true → length d.head.servers < 16 → IsName row.name → is_among row.name (all_names d.head) ≡ false → take_words d (server_words row) ≡ Ok (served d row)
unfolding kind_of server_at with_server is_full
server_again d row may few name new =
    taken d (server_words row) kind.Server refl may (keyword (codes "server") (omega arith) refl, (name_is_word row.name name, tt)) (lt-leb _ _ few)
    ∙ rw (new_again d.head row.name name new) refl

file_system_again : (d : Draft) (row : FsRow) → may_follow d.last kind.FileSystem ≡ true → length d.head.file_systems < 64 → IsName row.name → is_among row.name (all_names d.head) ≡ false
    → IsWord (name_at (server_names d.head) row.at) → server_number d.head (name_at (server_names d.head) row.at) ≡ Ok row.at → take_words d (file_system_words d.head row) ≡ Ok (placed d row)
unfolding kind_of file_system_at with_file_system is_full
file_system_again d row may few name new word at =
    taken d (file_system_words d.head row) kind.FileSystem refl may
    (keyword (codes "fs") (omega arith) refl, (name_is_word row.name name, (keyword (codes "at") (omega arith) refl, (word, tt)))) (lt-leb _ _ few)
    ∙ rw (new_again d.head row.name name new, at) refl

client_again : (d : Draft) (row : ClientRow) → may_follow d.last kind.Client ≡ true → length d.head.clients < 64 → IsName row.name → is_among row.name (all_names d.head) ≡ false → row.verifier < 2 ^ 64 → take_words d (client_words row) ≡ Ok (joined d row)
unfolding kind_of client_at with_client is_full
client_again d row may few name new fits =
    taken d (client_words row) kind.Client refl may
    (keyword (codes "client") (omega arith) refl, (name_is_word row.name name, (decimal_is_word row.verifier fits, tt))) (lt-leb _ _ few)
    ∙ rw (new_again d.head row.name name new, number_again row.verifier fits) refl

run_kind : (head : Head) (line : Line) → first_kind (run_words head line) ≡ kind.Run
unfolding kind_of
run_kind head (Do client action) = refl
run_kind head (Finish client) = refl
run_kind head (Move fs to) = refl
run_kind head (Freeze fs) = refl
run_kind head (Abandon fs) = refl
run_kind head (Commit fs) = refl
run_kind head (Settle fs) = refl
run_kind head (Shift fs to) = refl
run_kind head (Show fs) = refl

one_run_again : (d : Draft) (line : Line) → may_follow d.last kind.Run ≡ true → HasNames d.head → IsRun d.head line → take_words d (run_words d.head line) ≡ Ok (ran d line)
unfolding run_at is_full
one_run_again d line may names is =
    taken d (run_words d.head line) kind.Run (run_kind d.head line) may (run_are_words d.head line names is) refl
    ∙ rw (run_again d.head line names is) refl

-- ---- the lines of each kind

then_all : (d e : Draft) (words : List (List ℕ)) (more : List (List (List ℕ))) → take_words d words ≡ Ok e → take_all d (words ∷ more) ≡ take_all e more
then_all d e words more h = rw h refl

-- what the last line is, behind lines of a kind
abbrev last_of : {X : Type 0} → Option Kind → Kind → List X → Option Kind
last_of last k [] = last
last_of last k (x ∷ xs) = Some k

last_same : {X : Type 0} (k : Kind) (xs : List X) → last_of (Some k) k xs ≡ Some k
last_same k [] = refl
last_same k (x ∷ xs) = refl

-- what may follow the last line and lines of the kind
last_may : {X : Type 0} (last : Option Kind) (k next : Kind) (xs : List X) → may_follow last next ≡ true → may_follow (Some k) next ≡ true → may_follow (last_of last k xs) next ≡ true
last_may last k next [] here there = here
last_may last k next (x ∷ xs) here there = there

servers_again : (d : Draft) (rows : List ServerRow) → may_follow d.last kind.Server ≡ true → length d.head.servers + length rows ≤ 16 → d.head.file_systems ≡ [] → d.head.clients ≡ []
    → AllByRecursion IsName (map (λ row. row.name) rows) → all_differ (all_names d.head ++ map (λ row. row.name) rows) ≡ true
    → take_all d (map server_words rows) ≡ Ok (record d { last = last_of d.last kind.Server rows; head = record d.head { servers = d.head.servers ++ rows } })
unfolding may_follow
servers_again d [] may few f c names differ = ap (λ (rows : List ServerRow). Ok (record d { head = record d.head { servers = rows } })) (sym (append-nil d.head.servers))
servers_again d (row ∷ rows) may few f c names differ =
    let later = map (λ (server : ServerRow). server.name) rows in
    let names_are : all_names (served d row).head ++ later ≡ all_names d.head ++ row.name ∷ later =
    ap (λ ns. ns ++ later) (served_names d row f c) ∙ append_assoc (all_names d.head) (row.name ∷ []) later in
    then_all d (served d row) (server_words row) (map server_words rows) (server_again d row may (omega arith) names.0 (differ_new (all_names d.head) row.name later differ))
    ∙ servers_again (served d row) rows refl (omega (arith, length-append d.head.servers (row ∷ []))) f c names.1 (ap all_differ names_are ∙ differ)
    ∙ ap (λ (last : Option Kind). Ok (record d { last = last; head = record d.head { servers = (d.head.servers ++ row ∷ []) ++ rows } })) (last_same kind.Server rows)
    ∙ ap (λ (all : List ServerRow). Ok (record d { last = Some kind.Server; head = record d.head { servers = all } })) (append_assoc d.head.servers (row ∷ []) rows)

-- the servers of a head, as places need them
record HasServers (head : Head) : Type 0 where
  words : AllByRecursion IsWord (server_names head)
  differ : all_differ (server_names head) ≡ true
  few : length head.servers ≤ 16

places_again : (d : Draft) (rows : List FsRow) → may_follow d.last kind.FileSystem ≡ true → length d.head.file_systems + length rows ≤ 64 → d.head.clients ≡ [] → HasServers d.head
    → AllByRecursion IsName (map (λ row. row.name) rows) → AllByRecursion (λ row. row.at < length d.head.servers) rows → all_differ (all_names d.head ++ map (λ row. row.name) rows) ≡ true
    → take_all d (map (file_system_words d.head) rows) ≡ Ok (record d { last = last_of d.last kind.FileSystem rows; head = record d.head { file_systems = d.head.file_systems ++ rows } })
unfolding may_follow
places_again d [] may few c servers names at differ = ap (λ (rows : List FsRow). Ok (record d { head = record d.head { file_systems = rows } })) (sym (append-nil d.head.file_systems))
places_again d (row ∷ rows) may few c servers names at differ =
    let later = map (λ (place : FsRow). place.name) rows in
    let names_are : all_names (placed d row).head ++ later ≡ all_names d.head ++ row.name ∷ later =
    ap (λ ns. ns ++ later) (placed_names d row c) ∙ append_assoc (all_names d.head) (row.name ∷ []) later in
    let word = word_in (server_names d.head) row.at servers.words (omega (arith, at.0, length-map d.head.servers (λ (server : ServerRow). server.name))) in
    let number = place_again (λ (server : ServerRow). server.name) (record { name = [] }) 16 d.head.servers row.at servers.differ servers.few at.0 in
    let same : HasServers (placed d row).head = record { words = servers.words; differ = servers.differ; few = servers.few } in
    then_all d (placed d row) (file_system_words d.head row) (map (file_system_words d.head) rows)
    (file_system_again d row may (omega arith) names.0 (differ_new (all_names d.head) row.name later differ) word number)
    ∙ places_again (placed d row) rows refl (omega (arith, length-append d.head.file_systems (row ∷ []))) c same names.1 at.1 (ap all_differ names_are ∙ differ)
    ∙ ap (λ (last : Option Kind). Ok (record d { last = last; head = record d.head { file_systems = (d.head.file_systems ++ row ∷ []) ++ rows } })) (last_same kind.FileSystem rows)
    ∙ ap (λ (all : List FsRow). Ok (record d { last = Some kind.FileSystem; head = record d.head { file_systems = all } })) (append_assoc d.head.file_systems (row ∷ []) rows)

clients_again : (d : Draft) (rows : List ClientRow) → may_follow d.last kind.Client ≡ true → length d.head.clients + length rows ≤ 64
    → AllByRecursion IsName (map (λ row. row.name) rows) → AllByRecursion (λ row. row.verifier < 2 ^ 64) rows → all_differ (all_names d.head ++ map (λ row. row.name) rows) ≡ true
    → take_all d (map client_words rows) ≡ Ok (record d { last = last_of d.last kind.Client rows; head = record d.head { clients = d.head.clients ++ rows } })
unfolding may_follow
clients_again d [] may few names fit differ = ap (λ (rows : List ClientRow). Ok (record d { head = record d.head { clients = rows } })) (sym (append-nil d.head.clients))
clients_again d (row ∷ rows) may few names fit differ =
    let later = map (λ (client : ClientRow). client.name) rows in
    let names_are : all_names (joined d row).head ++ later ≡ all_names d.head ++ row.name ∷ later =
    ap (λ ns. ns ++ later) (push_there (λ (client : ClientRow). client.name) (server_names d.head ++ file_system_names d.head) d.head.clients row)
    ∙ append_assoc (all_names d.head) (row.name ∷ []) later in
    then_all d (joined d row) (client_words row) (map client_words rows)
    (client_again d row may (omega arith) names.0 (differ_new (all_names d.head) row.name later differ) fit.0)
    ∙ clients_again (joined d row) rows refl (omega (arith, length-append d.head.clients (row ∷ []))) names.1 fit.1 (ap all_differ names_are ∙ differ)
    ∙ ap (λ (last : Option Kind). Ok (record d { last = last; head = record d.head { clients = (d.head.clients ++ row ∷ []) ++ rows } })) (last_same kind.Client rows)
    ∙ ap (λ (all : List ClientRow). Ok (record d { last = Some kind.Client; head = record d.head { clients = all } })) (append_assoc d.head.clients (row ∷ []) rows)

runs_again : (d : Draft) (lines : List Line) → may_follow d.last kind.Run ≡ true → HasNames d.head → AllByRecursion (IsRun d.head) lines
    → take_all d (map (run_words d.head) lines) ≡ Ok (record d { last = last_of d.last kind.Run lines; lines = d.lines ++ lines })
unfolding may_follow
runs_again d [] may names are = ap (λ (lines : List Line). Ok (record d { lines = lines })) (sym (append-nil d.lines))
runs_again d (line ∷ lines) may names are =
    then_all d (ran d line) (run_words d.head line) (map (run_words d.head) lines) (one_run_again d line may names are.0)
    ∙ runs_again (ran d line) lines refl names are.1
    ∙ ap (λ (last : Option Kind). Ok (record d { last = last; lines = (d.lines ++ line ∷ []) ++ lines })) (last_same kind.Run lines)
    ∙ ap (λ (all : List Line). Ok (record d { last = Some kind.Run; lines = all })) (append_assoc d.lines (line ∷ []) lines)

-- ---- all lines

pub each_front : {X : Type 0} (P : X → Type 0) (xs ys : List X) → AllByRecursion P (xs ++ ys) → AllByRecursion P xs
each_front P [] ys h = tt
each_front P (x ∷ xs) ys h = (h.0, each_front P xs ys h.1)

pub each_back : {X : Type 0} (P : X → Type 0) (xs ys : List X) → AllByRecursion P (xs ++ ys) → AllByRecursion P ys
each_back P [] ys h = h
each_back P (x ∷ xs) ys h = each_back P xs ys h.1

pub names_are_words : (names : List (List ℕ)) → AllByRecursion IsName names → AllByRecursion IsWord names
names_are_words [] are = tt
names_are_words (name ∷ names) are = (name_is_word name are.0, names_are_words names are.1)

differ_back : (names more : List (List ℕ)) → all_differ (names ++ more) ≡ true → all_differ more ≡ true
differ_back [] more differ = differ
differ_back (n ∷ ns) more differ = differ_back ns more (and_parts (not (list_any (bytes_eq n) (ns ++ more))) (all_differ (ns ++ more)) differ).1

pub has_names : (head : Head) → IsHead head → HasNames head
has_names head is =
    let each : AllByRecursion IsName (all_names head) = recursion_from_All IsName (all_names head) is.names in
    let front = server_names head ++ file_system_names head in
    let both = differ_front front (client_names head) is.differ in
    let both_names = each_front IsName front (client_names head) each in
    record {
      servers = differ_front (server_names head) (file_system_names head) both;
      file_systems = differ_back (server_names head) (file_system_names head) both;
      clients = differ_back front (client_names head) is.differ;
      servers_few = is.servers;
      file_systems_few = is.file_systems;
      clients_few = is.clients;
      server_words = names_are_words (server_names head) (each_front IsName (server_names head) (file_system_names head) both_names);
      file_system_words = names_are_words (file_system_names head) (each_back IsName (server_names head) (file_system_names head) both_names);
      client_words = names_are_words (client_names head) (each_back IsName front (client_names head) each);
    }

-- what is read of the parts of a head, and then of the lines behind it
abbrev so_far : Option Kind → ℕ → List ServerRow → List FsRow → List ClientRow → List Line → Draft
so_far last lease servers places clients lines = record { last = last; head = record { lease = lease; servers = servers; file_systems = places; clients = clients }; lines = lines }

abbrev with_parts : ℕ → List ServerRow → List FsRow → List ClientRow → List Line → Script
with_parts lease servers places clients lines = record { head = record { lease = lease; servers = servers; file_systems = places; clients = clients }; lines = lines }

module _ (lease : ℕ) (server : ServerRow) (more : List ServerRow) (places : List FsRow) (clients : List ClientRow) (lines : List Line)
    (is : IsWellFormed (with_parts lease (server ∷ more) places clients lines)) where
  abbrev servers : List ServerRow
  servers = server ∷ more

  abbrev s : Script
  s = with_parts lease servers places clients lines

  names : HasNames s.head
  names = has_names s.head is.head

  each : AllByRecursion IsName (all_names s.head)
  each = recursion_from_All IsName (all_names s.head) is.head.names

  abbrev places_last : Option Kind
  places_last = last_of (Some kind.Server) kind.FileSystem places

  abbrev clients_last : Option Kind
  clients_last = last_of places_last kind.Client clients

  abbrev last : Option Kind
  last = last_of clients_last kind.Run lines

  front_is : take_all nothing_yet (version_words ∷ lease_words lease ∷ []) ≡ Ok (so_far (Some kind.Lease) lease [] [] [] [])
  unfolding may_follow
  front_is =
      then_all nothing_yet (versioned nothing_yet) version_words (lease_words lease ∷ []) version_again
      ∙ then_all (versioned nothing_yet) (leased (versioned nothing_yet) lease) (lease_words lease) [] (lease_again (versioned nothing_yet) lease refl is.head.lease_some is.head.lease_limit)

  two_differ : all_differ (server_names s.head ++ file_system_names s.head) ≡ true
  two_differ = differ_front (server_names s.head ++ file_system_names s.head) (client_names s.head) is.head.differ

  two_names : AllByRecursion IsName (server_names s.head ++ file_system_names s.head)
  two_names = each_front IsName (server_names s.head ++ file_system_names s.head) (client_names s.head) each

  servers_are : take_all (so_far (Some kind.Lease) lease [] [] [] []) (map server_words servers) ≡ Ok (so_far (Some kind.Server) lease servers [] [] [])
  unfolding may_follow
  servers_are =
      servers_again (so_far (Some kind.Lease) lease [] [] [] []) servers refl (omega (arith, is.head.servers)) refl refl
      (each_front IsName (server_names s.head) (file_system_names s.head) two_names) names.servers

  places_are : take_all (so_far (Some kind.Server) lease servers [] [] []) (map (file_system_words s.head) places) ≡ Ok (so_far places_last lease servers places [] [])
  unfolding may_follow
  places_are =
      let d = so_far (Some kind.Server) lease servers [] [] [] in
      let names_are : all_names d.head ≡ server_names s.head = ap (λ (ns : List (List ℕ)). ns ++ []) (append-nil (server_names s.head)) ∙ append-nil (server_names s.head) in
      places_again d places refl (omega (arith, is.head.file_systems)) refl (record { words = names.server_words; differ = names.servers; few = is.head.servers })
      (each_back IsName (server_names s.head) (file_system_names s.head) two_names) (recursion_from_All (λ (row : FsRow). row.at < length servers) places is.head.at)
      (ap (λ (ns : List (List ℕ)). all_differ (ns ++ file_system_names s.head)) names_are ∙ two_differ)

  clients_are : take_all (so_far places_last lease servers places [] []) (map client_words clients) ≡ Ok (so_far clients_last lease servers places clients [])
  unfolding may_follow
  clients_are =
      let d = so_far places_last lease servers places [] [] in
      let before = server_names s.head ++ file_system_names s.head in
      clients_again d clients (last_may (Some kind.Server) kind.FileSystem kind.Client places refl refl) (omega (arith, is.head.clients))
      (each_back IsName before (client_names s.head) each) (recursion_from_All (λ (row : ClientRow). row.verifier < 2 ^ 64) clients is.head.verifiers)
      (ap (λ (ns : List (List ℕ)). all_differ (ns ++ client_names s.head)) (append-nil before) ∙ is.head.differ)

  runs_are : take_all (so_far clients_last lease servers places clients []) (map (run_words s.head) lines) ≡ Ok (so_far last lease servers places clients lines)
  unfolding may_follow
  runs_are =
      runs_again (so_far clients_last lease servers places clients []) lines
      (last_may places_last kind.Client kind.Run clients (last_may (Some kind.Server) kind.FileSystem kind.Run places refl refl) refl) names (recursion_from_All (IsRun s.head) lines is.lines)

  all_are : take_all nothing_yet (script_words s) ≡ Ok (so_far last lease servers places clients lines)
  all_are =
      let head_words = version_words ∷ lease_words lease ∷ [] in
      let to_servers = head_words ++ map server_words servers in
      let to_places = to_servers ++ map (file_system_words s.head) places in
      take_then nothing_yet _ (to_places ++ map client_words clients) (map (run_words s.head) lines)
      (take_then nothing_yet _ to_places (map client_words clients)
      (take_then nothing_yet _ to_servers (map (file_system_words s.head) places)
      (take_then nothing_yet _ head_words (map server_words servers) front_is ∙ servers_are) ∙ places_are) ∙ clients_are) ∙ runs_are

parts_again : (lease : ℕ) (servers : List ServerRow) (places : List FsRow) (clients : List ClientRow) (lines : List Line) → let s = with_parts lease servers places clients lines in
    IsWellFormed s → (e : Draft) × (take_all nothing_yet (script_words s) ≡ Ok e) × (finished e ≡ Some s)
parts_again lease [] places clients lines is = absurd (omega (arith, is.head.some_server))
parts_again lease (server ∷ more) places clients lines is = (
  so_far (last lease server more places clients lines is) lease (server ∷ more) places clients lines,
  all_are lease server more places clients lines is,
  rw (ne_eqb (length (server ∷ more)) 0 (λ e. omega (arith, e))) refl,
)

pub all_again : (s : Script) → IsWellFormed s → (e : Draft) × (take_all nothing_yet (script_words s) ≡ Ok e) × (finished e ≡ Some s)
all_again s is = parts_again s.head.lease s.head.servers s.head.file_systems s.head.clients s.lines is
