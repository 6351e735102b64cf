-- The two laws on scripts: what is read is spelled so, and what is spelled so is read.
use Rattle.std.proofs.Common.{◌≡◌, ℕ, suc, ◌+◌, ◌<◌, ◌≤◌, ◌^◌, Bool, true, false, cond, not, eqb, ltb, List, [], ◌∷◌, ◌++◌, length, take, map, filter, Option, Some, None, Result, Ok, Err, refl, sym, ap, subst, ◌∙◌, append_assoc, arith, zero-add, ◌⊎◌, inl, inr, All}
use Rattle.std.specs.Prelude.{codes, IfOk}
use Rattle.std.specs.List.{AllByRecursion, slice_split, onto_first}
use Rattle.std.proofs.lemmas.Bool.{cases_lt, eqb-false, ltb-false, le-ltb, eqb-true}
use Rattle.std.proofs.lemmas.List.{append-nil, length-append, length-map, map-append}
use Rattle.std.proofs.lemmas.List.Elements.{All-nil, All-cons, recursion_from_All}
use Rattle.std.proofs.lemmas.List.Splits.{join_with_byte-slice_split}
use Rattle.nm_script.specs.declared.script.Head.{Head}
use Rattle.nm_script.specs.declared.script.ClientRow.{ClientRow}
use Rattle.nm_script.specs.declared.script.FsRow.{FsRow}
use Rattle.nm_script.specs.declared.script.ServerRow.{ServerRow}
use Rattle.nm_script.specs.declared.script.Line.{Line}
use Rattle.nm_script.specs.declared.script.Line.TheVariants.{Do, Finish, Move, Freeze, Abandon, Commit, Settle, Shift, Show}
use Rattle.nm_script.specs.declared.script.Script.{Script}
use Rattle.nm_script.specs.declared.script.ScriptFault.{ScriptFault}
use Rattle.nm_script.specs.declared.script.ScriptFault.TheVariants as faults
use Rattle.nm_script.specs.declared.script.Why.{Why}
use Rattle.nm_script.specs.declared.script.Why.TheVariants as why
use Rattle.nm_script.specs.declared.draft.Draft.{Draft}
use Rattle.nm_script.specs.declared.order.Kind.TheVariants as kind
use Rattle.nm_script.specs.Words.{words_of, says_something, is_printable}
use Rattle.nm_script.specs.Grammar.{line_of, script_words, run_words, version_words, lease_words, server_words, file_system_words, client_words, name_at, server_names, file_system_names, client_names, all_names, IsName, IsRun, IsWellFormed, IsSourceLine, IsScript}
use Rattle.nm_script.specs.Reading.{Tells, kind_of, first_kind, words_at, is_past_last, line_at, nothing_yet, finished, lines_of, ended, in_line, counted_at, lines_at, or_no_head, whole_at, cut_at, script_at}
use Rattle.nm_script.proofs.WordLaws.{chosen, IsWord, words_of_line, decimal_is_word, name_is_word}
use Rattle.nm_script.proofs.RunLaws.{bind_ok, ok_is, HasNames, run_are_words, keyword, word_in}
use Rattle.nm_script.proofs.SourceLaws.{lines_are, lines_only}
use Rattle.nm_script.proofs.AgainLaws.{take_words, take_all, all_again, run_has_room, each_front, each_back, names_are_words, has_names}
use Rattle.nm_script.proofs.DraftLaws.{rank, front_full, said, body, IsDraft, Adds, words_found, not_false}

-- ---- what is read is spelled so

-- what a line that is taken says
pub record Takes (d : Draft) (line : List ℕ) (e : Draft) : Type 0 where
  pub source : IsSourceLine line
  pub said_then : map line_of (said e) ≡ map line_of (said d) ++ filter says_something (line ∷ [])
  pub is : IsDraft e

speaking : (d e : Draft) (line : List ℕ) → IsSourceLine line → says_something line ≡ true → Adds d (words_of line) e → Takes d line e
unfolding words_of
speaking d e line source says adds = record {
  source = source;
  said_then = rw (adds.said_then, map-append line_of (said d) (words_of line ∷ []), join_with_byte-slice_split 32 line, says) refl;
  is = adds.is;
}

silent : (d : Draft) (line : List ℕ) → IsSourceLine line → says_something line ≡ false → IsDraft d → Takes d line d
silent d line source quiet is = record { source = source; said_then = rw quiet (sym (append-nil (map line_of (said d)))); is = is }

line_found : (d e : Draft) (line : List ℕ) → IsDraft d → line_at d line ≡ Ok e → Takes d line e
unfolding line_at
line_found d e line is h =
    elim (chosen (ltb 4096 (length line)) (Err why.Limit) _ (Ok e) h) [
      | inl long ↦ absurd cc
      | inr a ↦ elim (chosen (is_past_last d (words_of line)) (Err why.Limit) _ (Ok e) a.1) [
        | inl full ↦ absurd cc
        | inr b ↦ elim (chosen (not (is_printable line)) (Err why.Bytes) _ (Ok e) b.1) [
          | inl other ↦ absurd cc
          | inr c ↦
              let source : IsSourceLine line = record { short = ltb-false _ _ a.0; printable = not_false _ c.0 } in
              elim (chosen (says_something line) (words_at d (words_of line)) (Ok d) (Ok e) c.1) [
                | inl says ↦ speaking d e line source says.0 (words_found d e (words_of line) is b.0 says.1)
                | inr quiet ↦ subst (Takes d line) (ok_is d e quiet.1) (silent d line source quiet.0 is)
              ]
        ]
      ]
    ]

-- what lines that are taken say
pub record TakesAll (count : ℕ) (d : Draft) (lines : List (List ℕ)) (read : Draft × ℕ) : Type 0 where
  pub source : All IsSourceLine lines
  pub said_then : map line_of (said read.0) ≡ map line_of (said d) ++ filter says_something lines
  pub is : IsDraft read.0
  pub counted : read.1 ≡ count + length lines
  pub few : read.1 ≤ 200000

same_read : {A : Type 0} (x y : A) → ◌≡◌ {A = Result A ScriptFault} (Ok x) (Ok y) → x ≡ y
same_read x y e = cc

in_line_ok : (number : ℕ) (r : Result Draft Why) (e : Draft) → in_line number r ≡ Ok e → r ≡ Ok e
in_line_ok number (Ok x) e h = ap (λ y. Ok y) (same_read x e h)
in_line_ok number (Err w) e h = absurd cc

filter_one : {X : Type 0} (p : X → Bool) (x : X) (xs : List X) → filter p (x ∷ []) ++ filter p xs ≡ filter p (x ∷ xs)
filter_one p x xs = either (p x)
  where
    either : (b : Bool) → cond b (x ∷ []) [] ++ filter p xs ≡ cond b (x ∷ filter p xs) (filter p xs)
    either true = refl
    either false = refl

lines_found : (count : ℕ) (d : Draft) (lines : List (List ℕ)) (read : Draft × ℕ) → IsDraft d → count ≤ 200000 → lines_at count d lines ≡ Ok read → TakesAll count d lines read
unfolding lines_at counted_at
lines_found count d [] read is few h =
    let e : (d, count) ≡ read = same_read (d, count) read h in
    subst (TakesAll count d []) e (record {
      source = All-nil IsSourceLine;
      said_then = sym (append-nil (map line_of (said d)));
      is = is;
      counted = omega arith;
      few = few;
    })
lines_found count d (line ∷ lines) read is few h =
    let x = bind_ok (counted_at (count + 1) d line) (λ e. lines_at (count + 1) e lines) read h in
    elim (chosen (ltb 200000 (count + 1)) (Err (faults.At (count + 1) why.Limit)) _ (Ok x.0) x.1) [
      | inl long ↦ absurd cc
      | inr a ↦
          let one = line_found d x.0 line is (in_line_ok (count + 1) (line_at d line) x.0 a.1) in
          let others = lines_found (count + 1) x.0 lines read one.is (ltb-false _ _ a.0) x.2 in
          record {
            source = All-cons IsSourceLine line lines one.source others.source;
            said_then = others.said_then ∙ ap (λ ws. ws ++ filter says_something lines) one.said_then
                ∙ append_assoc (map line_of (said d)) (filter says_something (line ∷ [])) (filter says_something lines)
                ∙ ap (λ ws. map line_of (said d) ++ ws) (filter_one says_something line lines);
            is = others.is;
            counted = omega (arith, others.counted);
            few = others.few;
          }
    ]

nothing_is : IsDraft nothing_yet
nothing_is = record {
  no_servers = λ _. refl;
  no_file_systems = λ _. refl;
  no_clients = λ _. refl;
  no_lines = λ _. refl;
  lease_some = λ lt. absurd (omega arith);
  lease_limit = λ lt. absurd (omega arith);
  some_server = λ lt. absurd (omega arith);
  servers = omega arith;
  file_systems = omega arith;
  clients = omega arith;
  names = All-nil IsName;
  differ = refl;
  at = All-nil (λ (row : FsRow). row.at < 0);
  verifiers = All-nil (λ (row : ClientRow). row.verifier < 2 ^ 64);
  lines = All-nil (IsRun nothing_yet.head);
}

served_rank : (d : Draft) → IsDraft d → (length d.head.servers ≡ 0 → ⊥) → 3 ≤ rank d.last
served_rank d is some =
    elim (cases_lt (rank d.last) 3) [
      | inl lt ↦ absurd (some (ap length (is.no_servers lt)))
      | inr le ↦ le
    ]

-- a draft with a server is a script
finished_found : (d : Draft) (s : Script) → IsDraft d → finished d ≡ Some s → (map line_of (said d) ≡ map line_of (script_words s)) × IsWellFormed s
finished_found d s is h =
    let made : Script = record { head = d.head; lines = d.lines } in
    elim (chosen (eqb (length d.head.servers) 0) None (Some made) (Some s) h) [
      | inl empty ↦ absurd cc
      | inr f ↦
          let low : 3 ≤ rank d.last = served_rank d is (eqb-false _ _ f.0) in
          let same : made ≡ s = cc in
          subst (λ (t : Script). (map line_of (said d) ≡ map line_of (script_words t)) × IsWellFormed t) same (
            ap (λ ws. map line_of (ws ++ body d)) (front_full d.last d.head.lease (omega arith)),
            record {
              head = record {
                lease_some = is.lease_some (omega arith);
                lease_limit = is.lease_limit (omega arith);
                some_server = is.some_server (omega arith);
                servers = is.servers;
                file_systems = is.file_systems;
                clients = is.clients;
                names = is.names;
                differ = is.differ;
                at = is.at;
                verifiers = is.verifiers;
              };
              lines = is.lines;
            },
          )
    ]

no_script : (fault : ScriptFault) (s : Script) → ◌≡◌ {A = Result Script ScriptFault} (Err fault) (Ok s) → ⊥
no_script fault s e = cc

or_no_head_ok : (count : ℕ) (o : Option Script) (s : Script) → or_no_head count o ≡ Ok s → o ≡ Some s
or_no_head_ok count (Some t) s e = ap (λ y. Some y) (same_read t s e)
or_no_head_ok count None s e = absurd cc

pub script_found : (bytes : List ℕ) (s : Script) → script_at bytes ≡ Ok s → IsScript bytes s
unfolding script_at cut_at whole_at
script_found bytes s h =
    elim (chosen (ltb (2 ^ 24) (length bytes)) (cut_at (take (2 ^ 24) bytes)) (whole_at bytes) (Ok s) h) [
      | inl long ↦
          let x = bind_ok (lines_at 0 nothing_yet (lines_of (ended (take (2 ^ 24) bytes)))) (λ read. Err (faults.At (read.1 + 1) why.Limit)) s long.1 in
          absurd (no_script (faults.At (x.0.1 + 1) why.Limit) s x.2)
      | inr f ↦
          let x = bind_ok (lines_at 0 nothing_yet (lines_of bytes)) (λ read. or_no_head read.1 (finished read.0)) s f.1 in
          let t = lines_found 0 nothing_yet (lines_of bytes) x.0 nothing_is (omega arith) x.1 in
          let w = finished_found x.0.0 s t.is (or_no_head_ok x.0.1 (finished x.0.0) s x.2) in
          record {
            lines = lines_of bytes;
            split = lines_are bytes;
            size = ltb-false _ _ f.0;
            count = omega (arith, t.counted, t.few);
            each = t.source;
            spelled = sym t.said_then ∙ w.0;
            fits = w.1;
          }
    ]

length-filter-le : {X : Type 0} (p : X → Bool) (xs : List X) → length (filter p xs) ≤ length xs
length-filter-le p [] = omega arith
length-filter-le p (x ∷ xs) = either (p x) (length-filter-le p xs)
  where
    either : (b : Bool) → length (filter p xs) ≤ length xs → length (cond b (x ∷ filter p xs) (filter p xs)) ≤ suc (length xs)
    either true le = omega arith
    either false le = omega arith

length-append-ge : {X : Type 0} (xs ys : List X) → length ys ≤ length (xs ++ ys)
length-append-ge xs ys = omega (arith, length-append xs ys)

runs_are_lines : (s : Script) → length s.lines ≤ length (script_words s)
runs_are_lines s =
    let before = map server_words s.head.servers ++ map (file_system_words s.head) s.head.file_systems ++ map client_words s.head.clients in
    omega (arith, length-append-ge before (map (run_words s.head) s.lines), length-map s.lines (run_words s.head))

pub script_few : (bytes : List ℕ) (s : Script) → IsScript bytes s → length s.lines ≤ 200000
script_few bytes s is =
    let said_lines : length (filter says_something is.lines) ≡ length (script_words s) = ap length is.spelled ∙ length-map (script_words s) line_of in
    omega (arith, length-filter-le says_something is.lines, said_lines, is.count, runs_are_lines s)

-- ---- what is spelled so is read

-- the words of a line can be told apart again
abbrev IsSpelled : List (List ℕ) → Type 0
IsSpelled words = words_of (line_of words) ≡ words

spelled_words : (word : List ℕ) (words : List (List ℕ)) → AllByRecursion IsWord (word ∷ words) → IsSpelled (word ∷ words)
spelled_words word words are = words_of_line word words are.0 are.1

each_map : {X Y : Type 0} (P : X → Type 0) (Q : Y → Type 0) (f : X → Y) → ((x : X) → P x → Q (f x)) → (xs : List X) → AllByRecursion P xs → AllByRecursion Q (map f xs)
each_map P Q f step [] h = tt
each_map P Q f step (x ∷ xs) h = (step x h.0, each_map P Q f step xs h.1)

each_unmap : {X Y : Type 0} (Q : Y → Type 0) (f : X → Y) (xs : List X) → AllByRecursion Q (map f xs) → AllByRecursion (λ x. Q (f x)) xs
each_unmap Q f [] h = tt
each_unmap Q f (x ∷ xs) h = (h.0, each_unmap Q f xs h.1)

each_both : {X : Type 0} (P Q : X → Type 0) (xs : List X) → AllByRecursion P xs → AllByRecursion Q xs → AllByRecursion (λ x. P x × Q x) xs
each_both P Q [] h k = tt
each_both P Q (x ∷ xs) h k = ((h.0, k.0), each_both P Q xs h.1 k.1)

each_append : {X : Type 0} (P : X → Type 0) (xs ys : List X) → AllByRecursion P xs → AllByRecursion P ys → AllByRecursion P (xs ++ ys)
each_append P [] ys h k = k
each_append P (x ∷ xs) ys h k = (h.0, each_append P xs ys h.1 k)

run_spelled : (head : Head) (line : Line) → HasNames head → IsRun head line → IsSpelled (run_words head line)
run_spelled head (Do client action) names is = spelled_words _ _ (run_are_words head (Do client action) names is)
run_spelled head (Finish client) names is = spelled_words _ _ (run_are_words head (Finish client) names is)
run_spelled head (Move fs to) names is = spelled_words _ _ (run_are_words head (Move fs to) names is)
run_spelled head (Freeze fs) names is = spelled_words _ _ (run_are_words head (Freeze fs) names is)
run_spelled head (Abandon fs) names is = spelled_words _ _ (run_are_words head (Abandon fs) names is)
run_spelled head (Commit fs) names is = spelled_words _ _ (run_are_words head (Commit fs) names is)
run_spelled head (Settle fs) names is = spelled_words _ _ (run_are_words head (Settle fs) names is)
run_spelled head (Shift fs to) names is = spelled_words _ _ (run_are_words head (Shift fs to) names is)
run_spelled head (Show fs) names is = spelled_words _ _ (run_are_words head (Show fs) names is)

-- each line of a script has its words
refl_version : IsSpelled version_words
unfolding words_of
refl_version = refl

lease_spelled : (seconds : ℕ) → seconds ≤ 3600 → IsSpelled (lease_words seconds)
lease_spelled seconds limit = spelled_words _ _ (keyword (codes "lease") (omega arith) refl, (decimal_is_word seconds (omega arith), tt))

server_spelled : (row : ServerRow) → IsName row.name → IsSpelled (server_words row)
server_spelled row name = spelled_words _ _ (keyword (codes "server") (omega arith) refl, (name_is_word row.name name, tt))

place_spelled : (head : Head) → AllByRecursion IsWord (server_names head) → (row : FsRow) → IsName row.name × (row.at < length head.servers) → IsSpelled (file_system_words head row)
place_spelled head servers row h =
    let at : IsWord (name_at (server_names head) row.at) = word_in (server_names head) row.at servers (omega (arith, h.1, length-map head.servers (λ (server : ServerRow). server.name))) in
    spelled_words _ _ (keyword (codes "fs") (omega arith) refl, (name_is_word row.name h.0, (keyword (codes "at") (omega arith) refl, (at, tt))))

client_spelled : (row : ClientRow) → IsName row.name × (row.verifier < 2 ^ 64) → IsSpelled (client_words row)
client_spelled row h = spelled_words _ _ (keyword (codes "client") (omega arith) refl, (name_is_word row.name h.0, (decimal_is_word row.verifier h.1, tt)))

all_spelled : (s : Script) → IsWellFormed s → AllByRecursion IsSpelled (script_words s)
all_spelled s is =
    let head = s.head in
    let names : AllByRecursion IsName (all_names head) = recursion_from_All IsName (all_names head) is.head.names in
    let fronts = server_names head ++ file_system_names head in
    let front : AllByRecursion IsName fronts = each_front IsName fronts (client_names head) names in
    let server_ones : AllByRecursion IsName (server_names head) = each_front IsName (server_names head) (file_system_names head) front in
    let servers = each_unmap IsName (λ (row : ServerRow). row.name) head.servers server_ones in
    let places = each_unmap IsName (λ (row : FsRow). row.name) head.file_systems (each_back IsName (server_names head) (file_system_names head) front) in
    let clients = each_unmap IsName (λ (row : ClientRow). row.name) head.clients (each_back IsName fronts (client_names head) names) in
    let at = recursion_from_All (λ (row : FsRow). row.at < length head.servers) head.file_systems is.head.at in
    let verifiers = recursion_from_All (λ (row : ClientRow). row.verifier < 2 ^ 64) head.clients is.head.verifiers in
    let lines = recursion_from_All (IsRun head) s.lines is.lines in (
      refl_version,
      (
        lease_spelled head.lease is.head.lease_limit,
        each_append IsSpelled (map server_words head.servers ++ map (file_system_words head) head.file_systems ++ map client_words head.clients) (map (run_words head) s.lines)
            (each_append IsSpelled (map server_words head.servers ++ map (file_system_words head) head.file_systems) (map client_words head.clients)
            (each_append IsSpelled (map server_words head.servers) (map (file_system_words head) head.file_systems)
            (each_map (λ (row : ServerRow). IsName row.name) IsSpelled server_words server_spelled head.servers servers)
            (each_map (λ (row : FsRow). IsName row.name × (row.at < length head.servers)) IsSpelled (file_system_words head) (place_spelled head (names_are_words (server_names head) server_ones)) head.file_systems
            (each_both (λ (row : FsRow). IsName row.name) (λ (row : FsRow). row.at < length head.servers) head.file_systems places at)))
            (each_map (λ (row : ClientRow). IsName row.name × (row.verifier < 2 ^ 64)) IsSpelled client_words client_spelled head.clients
            (each_both (λ (row : ClientRow). IsName row.name) (λ (row : ClientRow). row.verifier < 2 ^ 64) head.clients clients verifiers)))
            (each_map (IsRun head) IsSpelled (run_words head) (λ line h. run_spelled head line (has_names head is.head) h) s.lines lines),
      ),
    )

-- ---- lines, by those that say something

line_says : (d : Draft) (line : List ℕ) → IsSourceLine line → says_something line ≡ true → line_at d line ≡ take_words d (words_of line)
unfolding line_at
line_says d line source says = rw (le-ltb _ _ source.short, source.printable, says) refl

hash_kind : (parts : List (List ℕ)) → first_kind (onto_first 35 parts) ≡ kind.Run
unfolding kind_of
hash_kind [] = refl
hash_kind (part ∷ parts) = refl

-- a line that says nothing is of no kind of the head
silent_kind : (line : List ℕ) → says_something line ≡ false → first_kind (words_of line) ≡ kind.Run
unfolding words_of kind_of
silent_kind [] quiet = refl
silent_kind (b ∷ bytes) quiet =
    let hash : 35 ≡ b = sym (eqb-true b 35 (not_false _ quiet)) in
    let P : ℕ → Type 0 = λ c. first_kind (words_of (c ∷ bytes)) ≡ kind.Run in
    subst P hash (hash_kind (slice_split (λ c. eqb c 32) bytes))

silent_room : (d : Draft) (line : List ℕ) → says_something line ≡ false → is_past_last d (words_of line) ≡ false
silent_room d line quiet = run_has_room d (words_of line) (silent_kind line quiet)

line_silent : (d : Draft) (line : List ℕ) → IsSourceLine line → says_something line ≡ false → line_at d line ≡ Ok d
unfolding line_at
line_silent d line source quiet = rw (le-ltb _ _ source.short, source.printable, quiet, silent_room d line quiet) refl

either_way : (b : Bool) → (b ≡ true) ⊎ (b ≡ false)
either_way true = inl refl
either_way false = inr refl

filter_yes : {X : Type 0} (p : X → Bool) (x : X) (xs : List X) → p x ≡ true → filter p (x ∷ xs) ≡ x ∷ filter p xs
filter_yes p x xs h = rw h refl

filter_no : {X : Type 0} (p : X → Bool) (x : X) (xs : List X) → p x ≡ false → filter p (x ∷ xs) ≡ filter p xs
filter_no p x xs h = rw h refl

one_more : (m n : ℕ) → (m + 1) + n ≡ m + suc n
one_more m n = omega arith

counted_ok : (count : ℕ) (d e : Draft) (line : List ℕ) → count + 1 ≤ 200000 → line_at d line ≡ Ok e → counted_at (count + 1) d line ≡ Ok e
unfolding counted_at
counted_ok count d e line few h = rw (le-ltb 200000 (count + 1) few, h) refl

no_lines_again : (count : ℕ) (d e : Draft) (words : List (List (List ℕ))) → [] ≡ map line_of words → take_all d words ≡ Ok e → ◌≡◌ {A = Result (Draft × ℕ) ScriptFault} (Ok (d, count)) (Ok (e, count + 0))
no_lines_again count d e [] same taken =
    let whole : count ≡ count + 0 = omega arith in
    rw (← whole, ok_is d e taken) refl
no_lines_again count d e (words ∷ more) same taken = absurd cc

says_again : (count : ℕ) (d e : Draft) (line : List ℕ) (lines : List (List ℕ)) (words : List (List (List ℕ))) → IsSourceLine line → count + 1 ≤ 200000 → says_something line ≡ true
    → line ∷ filter says_something lines ≡ map line_of words → AllByRecursion IsSpelled words → take_all d words ≡ Ok e
    → ((c : Draft) (more : List (List (List ℕ))) → filter says_something lines ≡ map line_of more → AllByRecursion IsSpelled more → take_all c more ≡ Ok e → lines_at (count + 1) c lines ≡ Ok (e, count + suc (length lines)))
    → lines_at count d (line ∷ lines) ≡ Ok (e, count + suc (length lines))
unfolding lines_at
says_again count d e line lines [] source few says same spelled taken later = absurd cc
says_again count d e line lines (words ∷ more) source few says same spelled taken later =
    let x = bind_ok (take_words d words) (λ c. take_all c more) e taken in
    let line_is : line ≡ line_of words = cc in
    let rest : filter says_something lines ≡ map line_of more = cc in
    let read : line_at d line ≡ Ok x.0 = line_says d line source says ∙ ap (λ l. take_words d (words_of l)) line_is ∙ ap (take_words d) spelled.0 ∙ x.1 in
    rw (counted_ok count d x.0 line few read) (later x.0 more rest spelled.1 x.2)

lines_again : (count : ℕ) (d e : Draft) (lines : List (List ℕ)) (words : List (List (List ℕ))) → AllByRecursion IsSourceLine lines → count + length lines ≤ 200000
    → filter says_something lines ≡ map line_of words → AllByRecursion IsSpelled words → take_all d words ≡ Ok e → lines_at count d lines ≡ Ok (e, count + length lines)
unfolding lines_at
lines_again count d e [] words source few same spelled taken = no_lines_again count d e words same taken
lines_again count d e (line ∷ lines) words source few same spelled taken =
    let later = λ (c : Draft) (more : List (List (List ℕ))) (rest : filter says_something lines ≡ map line_of more) (are : AllByRecursion IsSpelled more) (then' : take_all c more ≡ Ok e).
    lines_again (count + 1) c e lines more source.1 (omega arith) rest are then' ∙ ap (λ n. Ok (e, n)) (one_more count (length lines)) in
    elim (either_way (says_something line)) [
      | inl says ↦ says_again count d e line lines words source.0 (omega arith) says (sym (filter_yes says_something line lines says) ∙ same) spelled taken later
      | inr quiet ↦ rw (counted_ok count d d line (omega arith) (line_silent d line source.0 quiet)) (later d words (sym (filter_no says_something line lines quiet) ∙ same) spelled taken)
    ]

pub script_again : (bytes : List ℕ) (s : Script) → IsScript bytes s → script_at bytes ≡ Ok s
unfolding script_at whole_at
script_again bytes s is =
    let x = all_again s is.fits in
    let read : lines_at 0 nothing_yet is.lines ≡ Ok (x.0, length is.lines) =
    lines_again 0 nothing_yet x.0 is.lines (script_words s) (recursion_from_All IsSourceLine is.lines is.each) (omega (arith, is.count)) is.spelled (all_spelled s is.fits) x.1
    ∙ ap (λ n. Ok (x.0, n)) (zero-add (length is.lines)) in
    rw (le-ltb (2 ^ 24) (length bytes) is.size, lines_only bytes is.lines is.split, read, x.2) refl

-- ---- the clauses of the reader

pub found : (bytes : List ℕ) (result : Result Script ScriptFault) → Tells result (script_at bytes) → IfOk result (IsScript bytes)
found bytes (Ok s) h = script_found bytes s h
found bytes (Err fault) h = tt

pub sound : (bytes : List ℕ) (result : Result Script ScriptFault) → Tells result (script_at bytes) → IfOk result IsWellFormed
sound bytes (Ok s) h = (script_found bytes s h).fits
sound bytes (Err fault) h = tt

pub few : (bytes : List ℕ) (result : Result Script ScriptFault) → Tells result (script_at bytes) → IfOk result (λ s. length s.lines ≤ 200000)
few bytes (Ok s) h = script_few bytes s (script_found bytes s h)
few bytes (Err fault) h = tt

pub only : (bytes : List ℕ) (result : Result Script ScriptFault) → Tells result (script_at bytes) → (s : Script) → IsScript bytes s → Tells result (Ok s)
only bytes result h s is = subst (Tells result) (script_again bytes s is) h

pub one : (bytes : List ℕ) (s t : Script) → IsScript bytes s → IsScript bytes t → s ≡ t
one bytes s t is are = same_read s t (sym (script_again bytes s is) ∙ script_again bytes t are)
