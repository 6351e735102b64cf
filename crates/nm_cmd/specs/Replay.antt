-- What the program answers to its words and its input, and what it writes.
use Rattle.std.specs.Prelude.{◌≡◌, ℕ, Bool, true, false, List, [], ◌∷◌, codes, Option, Result, Ok, Err, IfSome, IsTrue}
use Rattle.std.specs.Str.{bytes_eq}
use Rattle.nm_script.specs.declared.script.Script.{Script}
use Rattle.nm_script.specs.declared.script.ScriptFault.{ScriptFault}
use Rattle.nm_script.specs.declared.script.ScriptFault.TheVariants as faults
use Rattle.nm_script.specs.declared.script.Why.{Why}
use Rattle.nm_script.specs.Grammar.{IsScript}
use Rattle.nm_script.specs.Reading.{script_at}
use Rattle.nm_script.specs.Text.{text_of, fault_text_of, usage_text_of}
use Rattle.nm_script.specs.Outside.{with_more, HasRisen, WrotePart}
use Rattle.nm_short.specs.ShortRun.{short_run}
use Rattle.nm_cmd.specs.declared.status.Status.{Status}
use Rattle.nm_cmd.specs.declared.status.Status.TheVariants.{Done, Script as NoScript, Usage, ReadFault, WriteFault, Memory}
use Rattle.nm_cmd.specs.declared.replay.Answer.{Answer}
use Rattle.nm_cmd.specs.declared.replay.Answer.TheVariants.{Ran, Refused}

-- the exit status
abbrev pub exit_of : Status → ℕ
exit_of Done = 0
exit_of NoScript = 1
exit_of Usage = 2
exit_of ReadFault = 3
exit_of WriteFault = 4
exit_of Memory = 5

-- the words after the program's name are `replay` alone
abbrev pub are_replay : List (List ℕ) → Bool
are_replay (word ∷ []) = bytes_eq word (codes "replay")
are_replay (word ∷ more ∷ words) = false
are_replay [] = false

-- what is written for a script, or for bytes that are none
unfoldable pub written_for : Result Script ScriptFault → List ℕ
written_for (Ok s) = text_of (short_run s)
written_for (Err (faults.At line why)) = fault_text_of line why
written_for (Err faults.Memory) = []

-- ---- what bytes are answered

-- The bytes spell a script, and the text is that of its run.
pub record IsRan (bytes text : List ℕ) : Type 0 where
  pub script : Script
  pub spelled : IsScript bytes script
  pub run : text ≡ text_of (short_run script)
  pub written : text ≡ written_for (script_at bytes)

-- The bytes spell no script, and the text tells their first bad line, and why it is bad.
pub record IsRefused (bytes text : List ℕ) : Type 0 where
  pub line : ℕ
  pub why : Why
  pub none : (s : Script) → IsScript bytes s → ⊥
  pub first : script_at bytes ≡ Err (faults.At line why)
  pub fault : text ≡ fault_text_of line why
  pub written : text ≡ written_for (script_at bytes)

abbrev pub IsAnswer : List ℕ → Answer → Type 0
IsAnswer bytes (Ran text) = IsRan bytes text.items
IsAnswer bytes (Refused text) = IsRefused bytes text.items

-- ---- how a call of `replay` ended: left is what the source had to give where it tells it, and before and now are what the
-- sink held where it tells it

-- The source was read to its end, its bytes spell a script, and what was written is the text of that script's run.
pub record IsReplayed (left : Option (List ℕ)) (ended : Bool) (before now : Option (List ℕ)) : Type 0 where
  pub whole : IsTrue ended
  pub run : IfSome left (λ input. (s : Script) × IsScript input s × (now ≡ with_more before (text_of (short_run s))))

-- The source's bytes spell no script, and what was written tells the first bad line and why it is bad.
pub record IsTurnedAway (input : List ℕ) (before now : Option (List ℕ)) : Type 0 where
  pub line : ℕ
  pub why : Why
  pub none : (s : Script) → IsScript input s → ⊥
  pub first : script_at input ≡ Err (faults.At line why)
  pub wrote : now ≡ with_more before (fault_text_of line why)

-- The sink failed, after a part of what was to be written.
pub record IsCutShort (known : Bool) (left before now : Option (List ℕ)) (faults_before faults_now : ℕ) : Type 0 where
  pub risen : HasRisen faults_before faults_now
  pub usage : known ≡ false → WrotePart before now usage_text_of
  pub part : known ≡ true → IfSome left (λ input. WrotePart before now (written_for (script_at input)))

-- a script was run
abbrev pub ran_of : Answer → Bool
ran_of (Ran text) = true
ran_of (Refused text) = false

abbrev pub IsUsageOrWriteFault : Status → Type 0
IsUsageOrWriteFault Usage = Unit {0}
IsUsageOrWriteFault WriteFault = Unit {0}
IsUsageOrWriteFault Done = ⊥
IsUsageOrWriteFault NoScript = ⊥
IsUsageOrWriteFault ReadFault = ⊥
IsUsageOrWriteFault Memory = ⊥
