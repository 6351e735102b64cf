-- Which files there are, what each is, and how often it changed, in the standard's words, read off the entries alone
-- (RFC 7530, 5.8, 16.4, 16.16, 16.25, 16.32 and 16.36).
use Rattle.std.specs.Prelude.{ℕ, ◌+◌, ◌==◌, ◌&&◌, ◌||◌, Bool, true, false, List, [], ◌∷◌, Option, Some, None, unwrap_or, if◌then◌else◌}
use Rattle.std.specs.Str.{bytes_eq}
use Rattle.nm_rules.specs.Lists.{is_empty}
use Rattle.nm_rules.specs.FileReadings.{dir_of}
use Rattle.nm_rules.specs.Past.{Past, Now, now, acts, claimed_in, claimed_name, cuts}
use Rattle.nm_types.specs.declared.args.OpenArgs.{OpenArgs}
use Rattle.nm_types.specs.declared.args.OpenType.{OpenType}
use Rattle.nm_types.specs.declared.args.OpenType.TheVariants.{NoCreate, Unchecked, Guarded, Exclusive}
use Rattle.nm_types.specs.declared.calls.Deed.{Deed}
use Rattle.nm_types.specs.declared.calls.Deed.TheVariants as deed
use Rattle.nm_types.specs.declared.calls.Event.{Event}
use Rattle.nm_types.specs.declared.calls.Event.TheVariants.{Asked, Ended}
use Rattle.nm_types.specs.declared.calls.Reply.{Reply}
use Rattle.nm_types.specs.declared.calls.ReplyValue.{ReplyValue}
use Rattle.nm_types.specs.declared.calls.ReplyValue.TheVariants as told
use Rattle.nm_types.specs.declared.rows.FileKind.{FileKind}
use Rattle.nm_types.specs.declared.rows.FileKind.TheVariants.{File, Directory}

-- A file or directory as it is made: the number that is told, the directory and the name, its kind, and the verifier of an
-- EXCLUSIVE OPEN.
pub record NewFile : Type 0 where
  pub number : ℕ
  pub dir : ℕ
  pub name : List ℕ
  pub kind : FileKind
  pub verifier : Option ℕ

-- what an entry does to the files
pub data FileAct : Type 0 where
  Spares : FileAct
  -- one is made
  Adds : NewFile → FileAct
  -- the one with that number is changed
  Alters : ℕ → FileAct
  -- from that directory that name goes
  Takes : ℕ → List ℕ → FileAct

-- An EXCLUSIVE OPEN names a verifier, and leaves it with the file that it makes (RFC 7530, 16.16).
abbrev pub verifier_of : OpenType → Option ℕ
verifier_of NoCreate = None
verifier_of (Unchecked _) = None
verifier_of (Guarded _) = None
verifier_of (Exclusive verifier) = Some verifier

-- An OPEN that acted makes the file that its name missed, and an UNCHECKED one with size 0 changes one that is there.
abbrev pub open_act : ℕ → OpenArgs → ℕ → Option ℕ → FileAct
open_act dir args number None = Adds (record {
  number = number;
  dir = dir;
  name = unwrap_or (claimed_name args.claim) [];
  kind = File;
  verifier = verifier_of args.opentype;
})
open_act dir args number (Some file) = if cuts args.opentype then Alters file else Spares

-- What an operation that acted does. A WRITE of no bytes and a SETATTR of no attribute change nothing.
abbrev pub deed_act : (ℕ → List ℕ → Option ℕ) → ℕ → Deed → ReplyValue → FileAct
deed_act names file (deed.Create args) (told.Create (Some created)) =
    Adds (record { number = created.file; dir = file; name = args.name; kind = Directory; verifier = None })
deed_act names file (deed.Open args) (told.Open (Some opened)) =
    open_act file args opened.file (claimed_in names file (claimed_name args.claim))
deed_act names file (deed.Remove args) (told.Remove (Some _)) = Takes file args.name
deed_act names file (deed.SetAttr args) (told.SetAttr words) = if is_empty words then Spares else Alters file
deed_act names file (deed.Write args) (told.Write (Some _)) = if is_empty args.«data» then Spares else Alters file
deed_act names file _ _ = Spares

-- what an entry does, by the files to which names led before it
abbrev pub file_act : Now → (ℕ → List ℕ → Option ℕ) → Event → Reply → FileAct
file_act n names (Asked call verdict) r = if acts n call r then deed_act names call.file call.deed r.value else Spares
file_act n names (Ended party) r = Spares

-- ---- names

abbrev pub child_after : FileAct → ℕ → List ℕ → Option ℕ → Option ℕ
child_after Spares dir name before = before
child_after (Adds new) dir name before = if (new.dir == dir) && bytes_eq new.name name then Some new.number else before
child_after (Alters _) dir name before = before
child_after (Takes its_dir gone) dir name before = if (its_dir == dir) && bytes_eq gone name then None else before

-- The file to which a name in a directory leads: the one that the latest CREATE or OPEN that acted made with that name there,
-- since the latest REMOVE of it that acted.
unfoldable pub child_of : Past → ℕ → List ℕ → Option ℕ
child_of [] dir name = None
child_of (x ∷ earlier) dir name =
    child_after (file_act (now earlier) (child_of earlier) x.event x.reply) dir name (child_of earlier dir name)

-- what an entry does to the files that the entries before it left
abbrev pub act_of : Past → Event → Reply → FileAct
act_of earlier event r = file_act (now earlier) (child_of earlier) event r

-- ---- files

abbrev pub is_it : ℕ → Option ℕ → Bool
is_it k None = false
is_it k (Some number) = number == k

abbrev pub there_after : (ℕ → List ℕ → Option ℕ) → FileAct → ℕ → Bool → Bool
there_after names Spares k before = before
there_after names (Adds new) k before = if new.number == k then true else before
there_after names (Alters _) k before = before
there_after names (Takes dir name) k before = if is_it k (names dir name) then false else before

-- A file is there where it was made and wasn't removed since. The root is there from the first.
unfoldable pub is_there : Past → ℕ → Bool
is_there [] k = 1 == k
is_there (x ∷ earlier) k = there_after (child_of earlier) (act_of earlier x.event x.reply) k (is_there earlier k)

abbrev pub adds_one : FileAct → Bool
adds_one Spares = false
adds_one (Adds _) = true
adds_one (Alters _) = false
adds_one (Takes _ _) = false

-- how many files and directories were made
unfoldable pub files_made : Past → ℕ
files_made [] = 0
files_made (x ∷ earlier) = if adds_one (act_of earlier x.event x.reply) then files_made earlier + 1 else files_made earlier

-- ---- kinds and verifiers: those of the making

abbrev pub kind_after : FileAct → ℕ → FileKind → FileKind
kind_after Spares k before = before
kind_after (Adds new) k before = if new.number == k then new.kind else before
kind_after (Alters _) k before = before
kind_after (Takes _ _) k before = before

-- CREATE makes directories, and OPEN files. The root is a directory.
unfoldable pub kind_made : Past → ℕ → FileKind
kind_made [] k = Directory
kind_made (x ∷ earlier) k = kind_after (act_of earlier x.event x.reply) k (kind_made earlier k)

abbrev pub verifier_after : FileAct → ℕ → Option ℕ → Option ℕ
verifier_after Spares k before = before
verifier_after (Adds new) k before = if new.number == k then new.verifier else before
verifier_after (Alters _) k before = before
verifier_after (Takes _ _) k before = before

-- that of the EXCLUSIVE OPEN that made the file
unfoldable pub verifier_made : Past → ℕ → Option ℕ
verifier_made [] k = None
verifier_made (x ∷ earlier) k = verifier_after (act_of earlier x.event x.reply) k (verifier_made earlier k)

-- ---- changes

abbrev pub is_change : FileAct → Bool
is_change Spares = false
is_change (Adds _) = true
is_change (Alters _) = true
is_change (Takes _ _) = true

-- How many changes there were: each makes, changes or removes one file.
unfoldable pub changes_made : Past → ℕ
changes_made [] = 0
changes_made (x ∷ earlier) = if is_change (act_of earlier x.event x.reply) then changes_made earlier + 1 else changes_made earlier

-- A change touches its file and the directory that the file is in.
abbrev pub touches_it : (ℕ → ℕ) → FileAct → ℕ → Bool
touches_it dirs Spares k = false
touches_it dirs (Adds new) k = (new.number == k) || (new.dir == k)
touches_it dirs (Alters file) k = (file == k) || (dirs file == k)
touches_it dirs (Takes dir name) k = dir == k

-- The change number of a file: that of the latest change that touched it. The first change has number 1.
unfoldable pub change_number : Past → ℕ → ℕ
change_number [] k = 0
change_number (x ∷ earlier) k =
    if touches_it (dir_of earlier) (act_of earlier x.event x.reply) k then changes_made earlier + 1 else change_number earlier k
