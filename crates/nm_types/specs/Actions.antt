-- The words of actions, and the file systems that they name.
use Rattle.std.specs.Prelude.{ℕ}
use Rattle.nm_types.specs.declared.action.Action.{Action}
use Rattle.nm_types.specs.declared.action.Action.TheVariants as action
use Rattle.nm_types.specs.declared.action.Verb.{Verb}
use Rattle.nm_types.specs.declared.action.Verb.TheVariants as verb

abbrev pub verb_of : Action → Verb
verb_of (action.Open _) = verb.Open
verb_of (action.Create _) = verb.Create
verb_of (action.Close _) = verb.Close
verb_of (action.Downgrade _) = verb.Downgrade
verb_of (action.Lock _) = verb.Lock
verb_of (action.Unlock _) = verb.Unlock
verb_of (action.Test _) = verb.Test
verb_of (action.Release _) = verb.Release
verb_of (action.Read _) = verb.Read
verb_of (action.Write _) = verb.Write
verb_of (action.Size _) = verb.Size
verb_of (action.Remove _) = verb.Remove
verb_of (action.MkDir _) = verb.MkDir
verb_of (action.List _) = verb.List

abbrev pub fs_of : Action → ℕ
fs_of (action.Open a) = a.fs
fs_of (action.Create a) = a.fs
fs_of (action.Close a) = a.fs
fs_of (action.Downgrade a) = a.fs
fs_of (action.Lock a) = a.fs
fs_of (action.Unlock a) = a.fs
fs_of (action.Test a) = a.fs
fs_of (action.Release a) = a.fs
fs_of (action.Read a) = a.fs
fs_of (action.Write a) = a.fs
fs_of (action.Size a) = a.fs
fs_of (action.Remove a) = a.fs
fs_of (action.MkDir a) = a.fs
fs_of (action.List fs) = fs
