-- What one more line adds to what the lines so far say.
use Rattle.std.proofs.Common.{◌≡◌, ℕ, suc, ◌<◌, ◌≤◌, ◌^◌, Bool, true, false, cond, not, leb, List, [], ◌∷◌, ◌++◌, length, get_or, map, Option, Some, None, Ok, Err, refl, sym, ap, subst, ◌∙◌, append_assoc, arith, inl, inr, All}
use Rattle.std.specs.Prelude.{◌||◌, ◌&&◌, codes}
use Rattle.std.specs.List.{list_any}
use Rattle.std.specs.Str.{bytes_eq}
use Rattle.std.proofs.lemmas.Bool.{cases_lt, leb-true, leb-false, or_parts, not-true, and_from, and_parts, or_from}
use Rattle.std.proofs.lemmas.List.{append-nil, length-append, map-append}
use Rattle.std.proofs.lemmas.List.Folds.{list_any-append}
use Rattle.std.proofs.lemmas.List.Elements.{All-push, All-nil}
use Rattle.nm_script.specs.declared.script.Head.{Head}
use Rattle.nm_script.specs.declared.script.ServerRow.{ServerRow}
use Rattle.nm_script.specs.declared.script.FsRow.{FsRow}
use Rattle.nm_script.specs.declared.script.ClientRow.{ClientRow}
use Rattle.nm_script.specs.declared.script.Line.{Line}
use Rattle.nm_script.specs.declared.script.Why.TheVariants as why
use Rattle.nm_script.specs.declared.draft.Draft.{Draft}
use Rattle.nm_script.specs.declared.order.Kind.{Kind}
use Rattle.nm_script.specs.declared.order.Kind.TheVariants as kind
use Rattle.nm_script.specs.Words.{has_empty_word, number_at, is_name}
use Rattle.nm_script.specs.Grammar.{server_names, file_system_names, client_names, all_names, all_differ, version_words, lease_words, server_words, file_system_words, client_words, run_words, IsName, IsRun}
use Rattle.nm_script.specs.Reading.{kind_of, first_kind, may_follow, is_new_name, is_server, is_file_system, is_client, server_number, version_at, lease_at, with_server, server_at, with_file_system, file_system_at, with_client, client_at, run_line, run_at, kind_at, words_at, is_full, is_past_last}
use Rattle.nm_script.proofs.WordLaws.{chosen, same_word, name_found, name_again, number_found}
use Rattle.nm_script.proofs.RunLaws.{bind_ok, ok_is, guard_ok, place_found, run_found}

-- ---- the order of lines

-- how far the head has come
abbrev pub rank : Option Kind → ℕ
rank None = 0
rank (Some kind.Version) = 1
rank (Some kind.Lease) = 2
rank (Some kind.Server) = 3
rank (Some kind.FileSystem) = 4
rank (Some kind.Client) = 5
rank (Some kind.Run) = 6

pub record Follows (last next : ℕ) : Type 0 where
  pub rises : last ≤ next
  pub steps : last < 3 → suc last ≡ next

due : (n : ℕ) → Follows n (suc n)
due n = record { rises = omega arith; steps = λ lt. refl }

later : (m n : ℕ) → 3 ≤ m → m ≤ n → Follows m n
later m n three le = record { rises = le; steps = λ lt. absurd (omega arith) }

-- the next line is the one that is due, or not before the last one
pub follows : (last : Option Kind) (next : Kind) → may_follow last next ≡ true → Follows (rank last) (rank (Some next))
unfolding may_follow
follows None kind.Version e = due 0
follows None _ e = absurd cc
follows (Some kind.Version) kind.Lease e = due 1
follows (Some kind.Version) _ e = absurd cc
follows (Some kind.Lease) kind.Server e = due 2
follows (Some kind.Lease) _ e = absurd cc
follows (Some kind.Server) kind.Version e = absurd cc
follows (Some kind.Server) kind.Lease e = absurd cc
follows (Some kind.Server) kind.Server e = later 3 3 (omega arith) (omega arith)
follows (Some kind.Server) kind.FileSystem e = later 3 4 (omega arith) (omega arith)
follows (Some kind.Server) kind.Client e = later 3 5 (omega arith) (omega arith)
follows (Some kind.Server) kind.Run e = later 3 6 (omega arith) (omega arith)
follows (Some kind.FileSystem) kind.FileSystem e = later 4 4 (omega arith) (omega arith)
follows (Some kind.FileSystem) kind.Client e = later 4 5 (omega arith) (omega arith)
follows (Some kind.FileSystem) kind.Run e = later 4 6 (omega arith) (omega arith)
follows (Some kind.FileSystem) _ e = absurd cc
follows (Some kind.Client) kind.Client e = later 5 5 (omega arith) (omega arith)
follows (Some kind.Client) kind.Run e = later 5 6 (omega arith) (omega arith)
follows (Some kind.Client) _ e = absurd cc
follows (Some kind.Run) kind.Run e = later 6 6 (omega arith) (omega arith)
follows (Some kind.Run) _ e = absurd cc

-- the lines that come before the servers
abbrev pub front : Option Kind → ℕ → List (List (List ℕ))
front None seconds = []
front (Some kind.Version) seconds = version_words ∷ []
front _ seconds = version_words ∷ lease_words seconds ∷ []

pub front_full : (last : Option Kind) (seconds : ℕ) → 2 ≤ rank last → front last seconds ≡ version_words ∷ lease_words seconds ∷ []
front_full None seconds le = absurd (omega arith)
front_full (Some kind.Version) seconds le = absurd (omega arith)
front_full (Some kind.Lease) seconds le = refl
front_full (Some kind.Server) seconds le = refl
front_full (Some kind.FileSystem) seconds le = refl
front_full (Some kind.Client) seconds le = refl
front_full (Some kind.Run) seconds le = refl

front_none : (last : Option Kind) (seconds : ℕ) → rank last ≡ 0 → front last seconds ≡ []
front_none None seconds is = refl
front_none (Some kind.Version) seconds is = absurd (omega arith)
front_none (Some kind.Lease) seconds is = absurd (omega arith)
front_none (Some kind.Server) seconds is = absurd (omega arith)
front_none (Some kind.FileSystem) seconds is = absurd (omega arith)
front_none (Some kind.Client) seconds is = absurd (omega arith)
front_none (Some kind.Run) seconds is = absurd (omega arith)

front_one : (last : Option Kind) (seconds : ℕ) → rank last ≡ 1 → front last seconds ≡ version_words ∷ []
front_one None seconds is = absurd (omega arith)
front_one (Some kind.Version) seconds is = refl
front_one (Some kind.Lease) seconds is = absurd (omega arith)
front_one (Some kind.Server) seconds is = absurd (omega arith)
front_one (Some kind.FileSystem) seconds is = absurd (omega arith)
front_one (Some kind.Client) seconds is = absurd (omega arith)
front_one (Some kind.Run) seconds is = absurd (omega arith)

-- what the lines of each kind begin with
abbrev pub IsFirst : Kind → List ℕ → Type 0
IsFirst kind.Version word = word ≡ codes "nfsmove"
IsFirst kind.Lease word = word ≡ codes "lease"
IsFirst kind.Server word = word ≡ codes "server"
IsFirst kind.FileSystem word = word ≡ codes "fs"
IsFirst kind.Client word = word ≡ codes "client"
IsFirst kind.Run word = Unit {0}

pick_first : (word : List ℕ) (b : Bool) (k other : Kind) → (b ≡ true → IsFirst k word) → IsFirst other word → IsFirst (cond b k other) word
pick_first word true k other here there = here refl
pick_first word false k other here there = there

pub kind_first : (word : List ℕ) → IsFirst (kind_of word) word
unfolding kind_of
kind_first word =
    pick_first word (bytes_eq word (codes "nfsmove")) kind.Version _ (same_word word (codes "nfsmove"))
    (pick_first word (bytes_eq word (codes "lease")) kind.Lease _ (same_word word (codes "lease"))
    (pick_first word (bytes_eq word (codes "server")) kind.Server _ (same_word word (codes "server"))
    (pick_first word (bytes_eq word (codes "fs")) kind.FileSystem _ (same_word word (codes "fs"))
    (pick_first word (bytes_eq word (codes "client")) kind.Client kind.Run (same_word word (codes "client")) tt))))

pub not_false : (b : Bool) → not b ≡ false → b ≡ true
not_false true e = refl
not_false false e = absurd cc

-- ---- names that differ

pub list_any-map : {X Y : Type 0} (p : Y → Bool) (f : X → Y) (xs : List X) → list_any p (map f xs) ≡ list_any (λ x. p (f x)) xs
list_any-map p f [] = refl
list_any-map p f (x ∷ xs) = ap (λ b. p (f x) || b) (list_any-map p f xs)

-- whether a name is among others
abbrev pub is_among : List ℕ → List (List ℕ) → Bool
is_among name names = list_any (λ n. bytes_eq n name) names

pub differ_push : (names : List (List ℕ)) (name : List ℕ) → all_differ names ≡ true → is_among name names ≡ false → all_differ (names ++ name ∷ []) ≡ true
differ_push [] name differ new = refl
differ_push (n ∷ ns) name differ new =
    let p = and_parts (not (list_any (bytes_eq n) ns)) (all_differ ns) differ in
    let q = or_parts (bytes_eq n name) (is_among name ns) new in
    let none : list_any (bytes_eq n) (ns ++ name ∷ []) ≡ false =
    list_any-append (bytes_eq n) ns (name ∷ []) ∙ or_from (list_any (bytes_eq n) ns) (bytes_eq n name || false) (not-true (list_any (bytes_eq n) ns) p.0) (or_from (bytes_eq n name) false q.0 refl) in
    and_from (not (list_any (bytes_eq n) (ns ++ name ∷ []))) (all_differ (ns ++ name ∷ [])) (ap not none) (differ_push ns name p.1 q.1)

pub differ_front : (names more : List (List ℕ)) → all_differ (names ++ more) ≡ true → all_differ names ≡ true
differ_front [] more differ = refl
differ_front (n ∷ ns) more differ =
    let p = and_parts (not (list_any (bytes_eq n) (ns ++ more))) (all_differ (ns ++ more)) differ in
    let q = or_parts (list_any (bytes_eq n) ns) (list_any (bytes_eq n) more) (sym (list_any-append (bytes_eq n) ns more) ∙ not-true _ p.0) in
    rw (q.0, differ_front ns more p.1) refl

pub differ_new : (names : List (List ℕ)) (name : List ℕ) (more : List (List ℕ)) → all_differ (names ++ name ∷ more) ≡ true → is_among name names ≡ false
differ_new [] name more differ = refl
differ_new (n ∷ ns) name more differ =
    let p = and_parts (not (list_any (bytes_eq n) (ns ++ name ∷ more))) (all_differ (ns ++ name ∷ more)) differ in
    let q = or_parts (list_any (bytes_eq n) ns) (list_any (bytes_eq n) (name ∷ more)) (sym (list_any-append (bytes_eq n) ns (name ∷ more)) ∙ not-true _ p.0) in
    let r = or_parts (bytes_eq n name) (list_any (bytes_eq n) more) q.1 in
    rw (r.0, differ_new ns name more p.1) refl

among_all : (head : Head) (name : List ℕ) → (is_server head name || is_file_system head name || is_client head name) ≡ is_among name (all_names head)
among_all head name =
    let is : List ℕ → Bool = λ n. bytes_eq n name in
    let a : list_any is (server_names head) ≡ is_server head name = list_any-map is (λ row. row.name) head.servers in
    let b : list_any is (file_system_names head) ≡ is_file_system head name = list_any-map is (λ row. row.name) head.file_systems in
    let c : list_any is (client_names head) ≡ is_client head name = list_any-map is (λ row. row.name) head.clients in
    sym (list_any-append is (server_names head ++ file_system_names head) (client_names head)
    ∙ ap (λ x. x || list_any is (client_names head)) (list_any-append is (server_names head) (file_system_names head))
    ∙ ap (λ x. x || list_any is (file_system_names head) || list_any is (client_names head)) a
    ∙ ap (λ x. is_server head name || x || list_any is (client_names head)) b
    ∙ ap (λ x. is_server head name || is_file_system head name || x) c)

pub new_found : (head : Head) (name : List ℕ) → is_new_name head name ≡ true → IsName name × (is_among name (all_names head) ≡ false)
unfolding is_new_name
new_found head name e =
    let p = and_parts (is_name name) (not (is_server head name || is_file_system head name || is_client head name)) e in
    (name_found name p.0, sym (among_all head name) ∙ not-true _ p.1)

pub new_again : (head : Head) (name : List ℕ) → IsName name → is_among name (all_names head) ≡ false → is_new_name head name ≡ true
unfolding is_new_name
new_again head name is new = rw (name_again name is, among_all head name ∙ new) refl

-- ---- what the lines so far say

-- the words of the lines so far
abbrev pub body : Draft → List (List (List ℕ))
body d =
    map server_words d.head.servers ++ map (file_system_words d.head) d.head.file_systems
    ++ map client_words d.head.clients ++ map (run_words d.head) d.lines

abbrev pub said : Draft → List (List (List ℕ))
said d = front d.last d.head.lease ++ body d

pub record IsDraft (d : Draft) : Type 0 where
  pub no_servers : rank d.last < 3 → d.head.servers ≡ []
  pub no_file_systems : rank d.last < 4 → d.head.file_systems ≡ []
  pub no_clients : rank d.last < 5 → d.head.clients ≡ []
  pub no_lines : rank d.last < 6 → d.lines ≡ []
  pub lease_some : 1 < rank d.last → 1 ≤ d.head.lease
  pub lease_limit : 1 < rank d.last → d.head.lease ≤ 3600
  pub some_server : 2 < rank d.last → 1 ≤ length d.head.servers
  pub servers : length d.head.servers ≤ 16
  pub file_systems : length d.head.file_systems ≤ 64
  pub clients : length d.head.clients ≤ 64
  pub names : All IsName (all_names d.head)
  pub differ : all_differ (all_names d.head) ≡ true
  pub at : All (λ row. row.at < length d.head.servers) d.head.file_systems
  pub verifiers : All (λ row. row.verifier < 2 ^ 64) d.head.clients
  pub lines : All (IsRun d.head) d.lines

-- one more line
pub record Adds (d : Draft) (words : List (List ℕ)) (e : Draft) : Type 0 where
  pub said_then : said e ≡ said d ++ words ∷ []
  pub is : IsDraft e

-- before the first server there is nothing
empty_body : (d : Draft) → IsDraft d → rank d.last < 3 → body d ≡ []
empty_body d is lt = rw (is.no_servers lt, is.no_file_systems (omega arith), is.no_clients (omega arith), is.no_lines (omega arith)) refl

-- ---- one more line of each kind

abbrev pub versioned : Draft → Draft
versioned d = record d { last = Some kind.Version }

abbrev pub leased : Draft → ℕ → Draft
leased d seconds = record d { last = Some kind.Lease; head = record d.head { lease = seconds } }

abbrev pub served : Draft → ServerRow → Draft
served d row = record d { last = Some kind.Server; head = record d.head { servers = d.head.servers ++ row ∷ [] } }

abbrev pub placed : Draft → FsRow → Draft
placed d row = record d { last = Some kind.FileSystem; head = record d.head { file_systems = d.head.file_systems ++ row ∷ [] } }

abbrev pub joined : Draft → ClientRow → Draft
joined d row = record d { last = Some kind.Client; head = record d.head { clients = d.head.clients ++ row ∷ [] } }

abbrev pub ran : Draft → Line → Draft
ran d line = record d { last = Some kind.Run; lines = d.lines ++ line ∷ [] }

-- lines behind the same ones
pub push_there : {X Y : Type 0} (f : X → Y) (pre : List Y) (xs : List X) (x : X) → pre ++ map f (xs ++ x ∷ []) ≡ (pre ++ map f xs) ++ f x ∷ []
push_there f pre xs x = rw (map-append f xs (x ∷ [])) (sym (append_assoc pre (map f xs) (f x ∷ [])))

nothing_behind : {X Y : Type 0} (f : X → Y) (xs : List X) (pre : List Y) → xs ≡ [] → pre ++ map f xs ≡ pre
nothing_behind f xs pre none = rw none (append-nil pre)

said_push : (before front' body' body'' : List (List (List ℕ))) (words : List (List ℕ)) → front' ≡ before → body'' ≡ body' ++ words ∷ [] → front' ++ body'' ≡ (before ++ body') ++ words ∷ []
said_push before front' body' body'' words same more = rw (same, more) (sym (append_assoc before body' (words ∷ [])))

no_runs : (head : Head) (lines : List Line) → lines ≡ [] → All (IsRun head) lines
no_runs head lines none = subst (All (IsRun head)) (sym none) (All-nil (IsRun head))

abbrev to_file_systems : Draft → List (List (List ℕ))
to_file_systems d = map server_words d.head.servers ++ map (file_system_words d.head) d.head.file_systems

abbrev to_clients : Draft → List (List (List ℕ))
to_clients d = to_file_systems d ++ map client_words d.head.clients

body_to_clients : (d : Draft) → d.lines ≡ [] → body d ≡ to_clients d
body_to_clients d l = nothing_behind (run_words d.head) d.lines (to_clients d) l

body_to_file_systems : (d : Draft) → d.head.clients ≡ [] → d.lines ≡ [] → body d ≡ to_file_systems d
body_to_file_systems d c l = body_to_clients d l ∙ nothing_behind client_words d.head.clients (to_file_systems d) c

body_to_servers : (d : Draft) → d.head.file_systems ≡ [] → d.head.clients ≡ [] → d.lines ≡ [] → body d ≡ map server_words d.head.servers
body_to_servers d f c l = body_to_file_systems d c l ∙ nothing_behind (file_system_words d.head) d.head.file_systems (map server_words d.head.servers) f

body_served : (d : Draft) (row : ServerRow) → d.head.file_systems ≡ [] → d.head.clients ≡ [] → d.lines ≡ [] → body (served d row) ≡ body d ++ server_words row ∷ []
body_served d row f c l =
    body_to_servers (served d row) f c l
    ∙ push_there server_words [] d.head.servers row
    ∙ ap (λ b. b ++ server_words row ∷ []) (sym (body_to_servers d f c l))

body_placed : (d : Draft) (row : FsRow) → d.head.clients ≡ [] → d.lines ≡ [] → body (placed d row) ≡ body d ++ file_system_words d.head row ∷ []
body_placed d row c l =
    body_to_file_systems (placed d row) c l
    ∙ push_there (file_system_words d.head) (map server_words d.head.servers) d.head.file_systems row
    ∙ ap (λ b. b ++ file_system_words d.head row ∷ []) (sym (body_to_file_systems d c l))

body_joined : (d : Draft) (row : ClientRow) → d.lines ≡ [] → body (joined d row) ≡ body d ++ client_words row ∷ []
body_joined d row l =
    body_to_clients (joined d row) l
    ∙ push_there client_words (to_file_systems d) d.head.clients row
    ∙ ap (λ b. b ++ client_words row ∷ []) (sym (body_to_clients d l))

body_ran : (d : Draft) (line : Line) → body (ran d line) ≡ body d ++ run_words d.head line ∷ []
body_ran d line = push_there (run_words d.head) (to_clients d) d.lines line

-- lines behind the same ones, and before none
pushed : {X Y : Type 0} (f : X → Y) (pre : List Y) (xs : List X) (x : X) → (pre ++ map f (xs ++ x ∷ [])) ++ [] ≡ ((pre ++ map f xs) ++ []) ++ f x ∷ []
pushed f pre xs x =
    append-nil (pre ++ map f (xs ++ x ∷ [])) ∙ push_there f pre xs x ∙ ap (λ ys. ys ++ f x ∷ []) (sym (append-nil (pre ++ map f xs)))

pushed_first : {X Y : Type 0} (f : X → Y) (xs : List X) (x : X) → (map f (xs ++ x ∷ []) ++ []) ++ [] ≡ ((map f xs ++ []) ++ []) ++ f x ∷ []
pushed_first f xs x =
    append-nil (map f (xs ++ x ∷ []) ++ []) ∙ append-nil (map f (xs ++ x ∷ [])) ∙ push_there f [] xs x
    ∙ ap (λ ys. ys ++ f x ∷ []) (sym (append-nil (map f xs ++ []) ∙ append-nil (map f xs)))

-- one name more
pub served_names : (d : Draft) (row : ServerRow) → d.head.file_systems ≡ [] → d.head.clients ≡ [] → all_names (served d row).head ≡ all_names d.head ++ row.name ∷ []
served_names d row f c = rw (f, c) (pushed_first (λ (server : ServerRow). server.name) d.head.servers row)

pub placed_names : (d : Draft) (row : FsRow) → d.head.clients ≡ [] → all_names (placed d row).head ≡ all_names d.head ++ row.name ∷ []
placed_names d row c = rw c (pushed (λ (place : FsRow). place.name) (server_names d.head) d.head.file_systems row)

add_version : (d : Draft) → IsDraft d → rank d.last ≡ 0 → Adds d version_words (versioned d)
add_version d is low =
    let nothing : body d ≡ [] = empty_body d is (omega arith) in
    record {
      said_then = rw (nothing, front_none d.last d.head.lease low) refl;
      is = record {
        no_servers = λ _. is.no_servers (omega arith);
        no_file_systems = λ _. is.no_file_systems (omega arith);
        no_clients = λ _. is.no_clients (omega arith);
        no_lines = λ _. is.no_lines (omega arith);
        lease_some = λ lt. absurd (omega arith);
        lease_limit = λ lt. absurd (omega arith);
        some_server = λ lt. absurd (omega arith);
        servers = is.servers;
        file_systems = is.file_systems;
        clients = is.clients;
        names = is.names;
        differ = is.differ;
        at = is.at;
        verifiers = is.verifiers;
        lines = is.lines;
      };
    }

add_lease : (d : Draft) (seconds : ℕ) → IsDraft d → rank d.last ≡ 1 → 1 ≤ seconds → seconds ≤ 3600 → Adds d (lease_words seconds) (leased d seconds)
add_lease d seconds is low some limit =
    let s : d.head.servers ≡ [] = is.no_servers (omega arith) in
    let f : d.head.file_systems ≡ [] = is.no_file_systems (omega arith) in
    let c : d.head.clients ≡ [] = is.no_clients (omega arith) in
    let l : d.lines ≡ [] = is.no_lines (omega arith) in
    record {
      said_then = rw (front_one d.last d.head.lease low, s, f, c, l) refl;
      is = record {
        no_servers = λ _. s;
        no_file_systems = λ _. f;
        no_clients = λ _. c;
        no_lines = λ _. l;
        lease_some = λ _. some;
        lease_limit = λ _. limit;
        some_server = λ lt. absurd (omega arith);
        servers = is.servers;
        file_systems = is.file_systems;
        clients = is.clients;
        names = is.names;
        differ = is.differ;
        at = is.at;
        verifiers = is.verifiers;
        lines = no_runs _ d.lines l;
      };
    }

add_server : (d : Draft) (row : ServerRow) → IsDraft d → 2 ≤ rank d.last → rank d.last ≤ 3 → length d.head.servers < 16 → IsName row.name → is_among row.name (all_names d.head) ≡ false → Adds d (server_words row) (served d row)
add_server d row is low high few name new =
    let f : d.head.file_systems ≡ [] = is.no_file_systems (omega arith) in
    let c : d.head.clients ≡ [] = is.no_clients (omega arith) in
    let l : d.lines ≡ [] = is.no_lines (omega arith) in
    let names_are : all_names (served d row).head ≡ all_names d.head ++ row.name ∷ [] = served_names d row f c in
    record {
      said_then = said_push (front d.last d.head.lease) _ (body d) (body (served d row)) (server_words row) (sym (front_full d.last d.head.lease (omega arith))) (body_served d row f c l);
      is = record {
        no_servers = λ lt. absurd (omega arith);
        no_file_systems = λ _. f;
        no_clients = λ _. c;
        no_lines = λ _. l;
        lease_some = λ _. is.lease_some (omega arith);
        lease_limit = λ _. is.lease_limit (omega arith);
        some_server = λ _. omega (arith, length-append d.head.servers (row ∷ []));
        servers = omega (arith, length-append d.head.servers (row ∷ []));
        file_systems = is.file_systems;
        clients = is.clients;
        names = subst (All IsName) (sym names_are) (All-push IsName (all_names d.head) row.name is.names name);
        differ = ap all_differ names_are ∙ differ_push (all_names d.head) row.name is.differ new;
        at = subst (All (λ place. place.at < length (d.head.servers ++ row ∷ []))) (sym f) (All-nil (λ place. place.at < length (d.head.servers ++ row ∷ [])));
        verifiers = is.verifiers;
        lines = no_runs _ d.lines l;
      };
    }

add_file_system : (d : Draft) (row : FsRow) → IsDraft d → 3 ≤ rank d.last → rank d.last ≤ 4 → length d.head.file_systems < 64 → IsName row.name → is_among row.name (all_names d.head) ≡ false → row.at < length d.head.servers → Adds d (file_system_words d.head row) (placed d row)
add_file_system d row is low high few name new at =
    let c : d.head.clients ≡ [] = is.no_clients (omega arith) in
    let l : d.lines ≡ [] = is.no_lines (omega arith) in
    let names_are : all_names (placed d row).head ≡ all_names d.head ++ row.name ∷ [] = placed_names d row c in
    record {
      said_then = said_push (front d.last d.head.lease) _ (body d) (body (placed d row)) (file_system_words d.head row) (sym (front_full d.last d.head.lease (omega arith))) (body_placed d row c l);
      is = record {
        no_servers = λ lt. absurd (omega arith);
        no_file_systems = λ lt. absurd (omega arith);
        no_clients = λ _. c;
        no_lines = λ _. l;
        lease_some = λ _. is.lease_some (omega arith);
        lease_limit = λ _. is.lease_limit (omega arith);
        some_server = λ _. is.some_server (omega arith);
        servers = is.servers;
        file_systems = omega (arith, length-append d.head.file_systems (row ∷ []));
        clients = is.clients;
        names = subst (All IsName) (sym names_are) (All-push IsName (all_names d.head) row.name is.names name);
        differ = ap all_differ names_are ∙ differ_push (all_names d.head) row.name is.differ new;
        at = All-push (λ place. place.at < length d.head.servers) d.head.file_systems row is.at at;
        verifiers = is.verifiers;
        lines = no_runs _ d.lines l;
      };
    }

add_client : (d : Draft) (row : ClientRow) → IsDraft d → 3 ≤ rank d.last → rank d.last ≤ 5 → length d.head.clients < 64 → IsName row.name → is_among row.name (all_names d.head) ≡ false → row.verifier < 2 ^ 64 → Adds d (client_words row) (joined d row)
add_client d row is low high few name new verifier =
    let l : d.lines ≡ [] = is.no_lines (omega arith) in
    let names_are : all_names (joined d row).head ≡ all_names d.head ++ row.name ∷ [] = push_there (λ client. client.name) (server_names d.head ++ file_system_names d.head) d.head.clients row in
    record {
      said_then = said_push (front d.last d.head.lease) _ (body d) (body (joined d row)) (client_words row) (sym (front_full d.last d.head.lease (omega arith))) (body_joined d row l);
      is = record {
        no_servers = λ lt. absurd (omega arith);
        no_file_systems = λ lt. absurd (omega arith);
        no_clients = λ lt. absurd (omega arith);
        no_lines = λ _. l;
        lease_some = λ _. is.lease_some (omega arith);
        lease_limit = λ _. is.lease_limit (omega arith);
        some_server = λ _. is.some_server (omega arith);
        servers = is.servers;
        file_systems = is.file_systems;
        clients = omega (arith, length-append d.head.clients (row ∷ []));
        names = subst (All IsName) (sym names_are) (All-push IsName (all_names d.head) row.name is.names name);
        differ = ap all_differ names_are ∙ differ_push (all_names d.head) row.name is.differ new;
        at = is.at;
        verifiers = All-push (λ client. client.verifier < 2 ^ 64) d.head.clients row is.verifiers verifier;
        lines = no_runs _ d.lines l;
      };
    }

add_run : (d : Draft) (line : Line) → IsDraft d → 3 ≤ rank d.last → IsRun d.head line → Adds d (run_words d.head line) (ran d line)
add_run d line is low fits = record {
  said_then = said_push (front d.last d.head.lease) _ (body d) (body (ran d line)) (run_words d.head line) (sym (front_full d.last d.head.lease (omega arith))) (body_ran d line);
  is = record {
    no_servers = λ lt. absurd (omega arith);
    no_file_systems = λ lt. absurd (omega arith);
    no_clients = λ lt. absurd (omega arith);
    no_lines = λ lt. absurd (omega arith);
    lease_some = λ _. is.lease_some (omega arith);
    lease_limit = λ _. is.lease_limit (omega arith);
    some_server = λ _. is.some_server (omega arith);
    servers = is.servers;
    file_systems = is.file_systems;
    clients = is.clients;
    names = is.names;
    differ = is.differ;
    at = is.at;
    verifiers = is.verifiers;
    lines = All-push (IsRun d.head) d.lines line is.lines fits;
  };
}

-- ---- a line that is taken adds its words

version_found : (d e : Draft) (words : List (List ℕ)) → IsDraft d → Follows (rank d.last) 1 → version_at d words ≡ Ok e → IsFirst kind.Version (get_or words 0 []) → Adds d words e
unfolding version_at
version_found d e [] is next h first = absurd cc
version_found d e (w ∷ []) is next h first = absurd cc
version_found d e (w ∷ version ∷ []) is next h first =
    let g = guard_ok (bytes_eq version (codes "1")) why.Word (versioned d) e h in
    let words_are : w ∷ version ∷ [] ≡ version_words = ap (λ (x : List ℕ). x ∷ version ∷ []) first ∙ ap (λ (x : List ℕ). codes "nfsmove" ∷ x ∷ []) (same_word version (codes "1") g.0) in
    subst (Adds d (w ∷ version ∷ [])) g.1 (subst (λ ws. Adds d ws (versioned d)) (sym words_are) (add_version d is (omega (arith, next.rises, next.steps))))
version_found d e (w ∷ version ∷ more ∷ words) is next h first = absurd cc

lease_found : (d e : Draft) (words : List (List ℕ)) → IsDraft d → Follows (rank d.last) 2 → lease_at d words ≡ Ok e → IsFirst kind.Lease (get_or words 0 []) → Adds d words e
unfolding lease_at
lease_found d e [] is next h first = absurd cc
lease_found d e (w ∷ []) is next h first = absurd cc
lease_found d e (w ∷ word ∷ []) is next h first =
    let x = bind_ok (number_at word) (λ seconds. cond (leb 1 seconds && leb seconds 3600) (Ok (leased d seconds)) (Err why.Number)) e h in
    let g = guard_ok (leb 1 x.0 && leb x.0 3600) why.Number (leased d x.0) e x.2 in
    let limits = and_parts (leb 1 x.0) (leb x.0 3600) g.0 in
    let number = number_found word x.0 x.1 in
    let words_are : w ∷ word ∷ [] ≡ lease_words x.0 = ap (λ (y : List ℕ). y ∷ word ∷ []) first ∙ ap (λ (y : List ℕ). codes "lease" ∷ y ∷ []) number.0 in
    subst (Adds d (w ∷ word ∷ [])) g.1 (subst (λ ws. Adds d ws (leased d x.0)) (sym words_are)
    (add_lease d x.0 is (omega (arith, next.rises, next.steps)) (leb-true 1 x.0 limits.0) (leb-true x.0 3600 limits.1)))
lease_found d e (w ∷ word ∷ more ∷ words) is next h first = absurd cc

-- a server comes behind the lease or behind a server
at_servers : (last : ℕ) → Follows last 3 → (2 ≤ last) × (last ≤ 3)
at_servers last next =
    elim (cases_lt last 3) [
      | inl lt ↦ (omega (arith, next.steps lt), omega arith)
      | inr le ↦ (omega arith, next.rises)
    ]

-- what comes behind a server
behind_server : (last next : ℕ) → Follows last next → 3 < next → 3 ≤ last
behind_server last next f far =
    elim (cases_lt last 3) [
      | inl lt ↦ absurd (omega (arith, f.steps lt))
      | inr le ↦ le
    ]

server_found : (d e : Draft) (words : List (List ℕ)) → IsDraft d → Follows (rank d.last) 3 → length d.head.servers < 16 → server_at d words ≡ Ok e → IsFirst kind.Server (get_or words 0 []) → Adds d words e
unfolding server_at with_server
server_found d e [] is next few h first = absurd cc
server_found d e (w ∷ []) is next few h first = absurd cc
server_found d e (w ∷ name ∷ []) is next few h first =
    let row : ServerRow = record { name = name } in
    let g = guard_ok (is_new_name d.head name) why.Name (served d row) e h in
    let n = new_found d.head name g.0 in
    let behind = at_servers (rank d.last) next in
    subst (Adds d (w ∷ name ∷ [])) g.1 (subst (λ (x : List ℕ). Adds d (x ∷ name ∷ []) (served d row)) (sym first) (add_server d row is behind.0 behind.1 few n.0 n.1))
server_found d e (w ∷ name ∷ more ∷ words) is next few h first = absurd cc

file_system_found : (d e : Draft) (words : List (List ℕ)) → IsDraft d → Follows (rank d.last) 4 → length d.head.file_systems < 64 → file_system_at d words ≡ Ok e → IsFirst kind.FileSystem (get_or words 0 []) → Adds d words e
unfolding file_system_at with_file_system
file_system_found d e [] is next few h first = absurd cc
file_system_found d e (w ∷ []) is next few h first = absurd cc
file_system_found d e (w ∷ name ∷ []) is next few h first = absurd cc
file_system_found d e (w ∷ name ∷ keyword ∷ []) is next few h first = absurd cc
file_system_found d e (w ∷ name ∷ keyword ∷ server ∷ []) is next few h first =
    let row : ℕ → FsRow = λ at. record { name = name; at = at } in
    elim (chosen (not (bytes_eq keyword (codes "at"))) (Err why.Word) _ (Ok e) h) [
      | inl other ↦ absurd cc
      | inr g ↦ elim (chosen (not (is_new_name d.head name)) (Err why.Name) _ (Ok e) g.1) [
        | inl old ↦ absurd cc
        | inr k ↦
            let x = bind_ok (server_number d.head server) (λ at. Ok (placed d (row at))) e k.1 in
            let at = place_found (λ (r : ServerRow). r.name) (record { name = [] }) 16 d.head.servers server x.0 x.1 in
            let n = new_found d.head name (not_false _ k.0) in
            let words_are : w ∷ name ∷ keyword ∷ server ∷ [] ≡ file_system_words d.head (row x.0) =
            ap (λ (y : List ℕ). y ∷ name ∷ keyword ∷ server ∷ []) first
            ∙ ap (λ (y : List ℕ). codes "fs" ∷ name ∷ y ∷ server ∷ []) (same_word keyword (codes "at") (not_false _ g.0))
            ∙ ap (λ (y : List ℕ). codes "fs" ∷ name ∷ codes "at" ∷ y ∷ []) at.1 in
            subst (Adds d (w ∷ name ∷ keyword ∷ server ∷ [])) (ok_is _ e x.2)
            (subst (λ ws. Adds d ws (placed d (row x.0))) (sym words_are)
            (add_file_system d (row x.0) is (behind_server _ 4 next (omega arith)) next.rises few n.0 n.1 at.0))
      ]
    ]
file_system_found d e (w ∷ name ∷ keyword ∷ server ∷ more ∷ words) is next few h first = absurd cc

client_found : (d e : Draft) (words : List (List ℕ)) → IsDraft d → Follows (rank d.last) 5 → length d.head.clients < 64 → client_at d words ≡ Ok e → IsFirst kind.Client (get_or words 0 []) → Adds d words e
unfolding client_at with_client
client_found d e [] is next few h first = absurd cc
client_found d e (w ∷ []) is next few h first = absurd cc
client_found d e (w ∷ name ∷ []) is next few h first = absurd cc
client_found d e (w ∷ name ∷ word ∷ []) is next few h first =
    let row : ℕ → ClientRow = λ verifier. record { name = name; verifier = verifier } in
    elim (chosen (not (is_new_name d.head name)) (Err why.Name) _ (Ok e) h) [
      | inl old ↦ absurd cc
      | inr k ↦
          let x = bind_ok (number_at word) (λ verifier. Ok (joined d (row verifier))) e k.1 in
          let number = number_found word x.0 x.1 in
          let n = new_found d.head name (not_false _ k.0) in
          let words_are : w ∷ name ∷ word ∷ [] ≡ client_words (row x.0) =
          ap (λ (y : List ℕ). y ∷ name ∷ word ∷ []) first ∙ ap (λ (y : List ℕ). codes "client" ∷ name ∷ y ∷ []) number.0 in
          subst (Adds d (w ∷ name ∷ word ∷ [])) (ok_is _ e x.2)
          (subst (λ ws. Adds d ws (joined d (row x.0))) (sym words_are)
          (add_client d (row x.0) is (behind_server _ 5 next (omega arith)) next.rises few n.0 n.1 number.1))
    ]
client_found d e (w ∷ name ∷ word ∷ more ∷ words) is next few h first = absurd cc

run_line_found : (d e : Draft) (words : List (List ℕ)) → IsDraft d → Follows (rank d.last) 6 → run_at d words ≡ Ok e → Adds d words e
unfolding run_at
run_line_found d e words is next h =
    let x = bind_ok (run_line d.head words) (λ line. Ok (ran d line)) e h in
    let r = run_found d.head words x.0 x.1 in
    subst (Adds d words) (ok_is _ e x.2)
    (subst (λ ws. Adds d ws (ran d x.0)) (sym r.0) (add_run d x.0 is (behind_server _ 6 next (omega arith)) r.1))

kind_found : (d e : Draft) (words : List (List ℕ)) (k : Kind) → IsDraft d → Follows (rank d.last) (rank (Some k)) → is_full d.head k ≡ false → kind_at k d words ≡ Ok e → IsFirst k (get_or words 0 []) → Adds d words e
unfolding is_full
kind_found d e words kind.Version is next few h first = version_found d e words is next h first
kind_found d e words kind.Lease is next few h first = lease_found d e words is next h first
kind_found d e words kind.Server is next few h first = server_found d e words is next (leb-false _ _ few) h first
kind_found d e words kind.FileSystem is next few h first = file_system_found d e words is next (leb-false _ _ few) h first
kind_found d e words kind.Client is next few h first = client_found d e words is next (leb-false _ _ few) h first
kind_found d e words kind.Run is next few h first = run_line_found d e words is next h

first_is : (words : List (List ℕ)) → IsFirst (first_kind words) (get_or words 0 [])
first_is [] = tt
first_is (first ∷ words) = kind_first first

first_false : (a b : Bool) → (a && b) ≡ false → b ≡ true → a ≡ false
first_false true true e p = absurd cc
first_false true false e p = absurd cc
first_false false b e p = refl

room_left : (d : Draft) (words : List (List ℕ)) → is_past_last d words ≡ false → may_follow d.last (first_kind words) ≡ true → is_full d.head (first_kind words) ≡ false
unfolding is_past_last
room_left d words few next = first_false (is_full d.head (first_kind words)) (may_follow d.last (first_kind words)) few next

-- a line that is taken adds its words
pub words_found : (d e : Draft) (words : List (List ℕ)) → IsDraft d → is_past_last d words ≡ false → words_at d words ≡ Ok e → Adds d words e
unfolding words_at
words_found d e words is few h =
    elim (chosen (not (may_follow d.last (first_kind words))) (Err why.Head) _ (Ok e) h) [
      | inl out ↦ absurd cc
      | inr f ↦ elim (chosen (has_empty_word words) (Err why.Word) (kind_at (first_kind words) d words) (Ok e) f.1) [
        | inl some ↦ absurd cc
        | inr g ↦ kind_found d e words (first_kind words) is (follows d.last (first_kind words) (not_false _ f.0)) (room_left d words few (not_false _ f.0)) g.1 (first_is words)
      ]
    ]
