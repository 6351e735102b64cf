-- The file systems of a head, one by one.
use Rattle.std.proofs.Common.{◌≡◌, ◌<◌, ◌≤◌, ◌+◌, ℕ, List, [], ◌∷◌, ◌++◌, None, All, map, length, drop, get_or, add-one, append_assoc, refl, ap, sym, ◌∙◌}
use Rattle.std.proofs.lemmas.List.{append-nil, drop_all}
use Rattle.std.proofs.lemmas.List.Elements.{All-nil, All-cons, All-head, All-tail}
use Rattle.std.proofs.Math.Seq.{drop-cons}
use Rattle.nm_script.specs.declared.script.ClientRow.{ClientRow}
use Rattle.nm_script.specs.declared.script.FsRow.{FsRow}
use Rattle.nm_script.specs.declared.script.Script.{Script}
use Rattle.nm_script.specs.Grammar.{IsName, IsWellFormed, server_names, file_system_names}
use Rattle.nm_short.specs.Tables.{AreShort, FileTables, first_slots, tables_at_first}

-- one more file system, and those behind it
pub one_file : (servers number i : ℕ) (rows : List FsRow) (row : FsRow) (files whole : List FileTables) (file : FileTables)
    → i < length rows → row ≡ get_or rows i row
    → file ≡ record { fs = number; first = row.at; slots = first_slots servers number row.at; at = row.at; offer = None; handed = None }
    → files ++ tables_at_first servers number (drop i rows) ≡ whole
    → (files ++ file ∷ []) ++ tables_at_first servers (number + 1) (drop (i + 1) rows) ≡ whole
one_file servers number i rows row files whole file below it is told =
    let rest : List FsRow = drop (i + 1) rows in
    let split : drop i rows ≡ row ∷ rest = drop-cons rows i row below ∙ rw (← it, add-one) refl in
    append_assoc files (file ∷ []) (tables_at_first servers (number + 1) rest)
    ∙ ap (λ (f : FileTables). files ++ f ∷ tables_at_first servers (number + 1) rest) is
    ∙ ap (λ (ls : List FsRow). files ++ tables_at_first servers number ls) (sym split)
    ∙ told

pub all_files : (servers number i : ℕ) (rows : List FsRow) (files whole : List FileTables) → length rows ≤ i
    → files ++ tables_at_first servers number (drop i rows) ≡ whole → files ≡ whole
all_files servers number i rows files whole past told =
    sym (append-nil files) ∙ ap (λ ls. files ++ tables_at_first servers number ls) (sym (drop_all i rows past)) ∙ told

short_behind : (rows : List ClientRow) → All IsName (map (λ (row : ClientRow). row.name) rows) → AreShort rows
short_behind [] names = All-nil (λ (row : ClientRow). length row.name ≤ 16)
short_behind (row ∷ rows) names = All-cons (λ (row : ClientRow). length row.name ≤ 16) row rows
    (All-head IsName row.name (map (λ (row : ClientRow). row.name) rows) names).short
    (short_behind rows (All-tail IsName row.name (map (λ (row : ClientRow). row.name) rows) names))

names_behind : (front : List (List ℕ)) (rows : List ClientRow) → All IsName (front ++ map (λ (row : ClientRow). row.name) rows) → AreShort rows
names_behind [] rows names = short_behind rows names
names_behind (name ∷ front) rows names = names_behind front rows (All-tail IsName name (front ++ map (λ (row : ClientRow). row.name) rows) names)

-- the names of a script's clients are short
pub clients_are_short : (s : Script) → IsWellFormed s → AreShort s.head.clients
clients_are_short s formed = names_behind (server_names s.head ++ file_system_names s.head) s.head.clients formed.head.names
