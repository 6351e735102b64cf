-- The operations: their numbers, and the layout of the arguments of each (RFC 7531, nfs_opnum4 and nfs_argop4).
use Rattle.std.specs.Prelude.{ℕ, ◌≤◌, ◌==◌, List, [], ◌∷◌, ◌++◌, length, find, Option}
use Rattle.nm_xdr.specs.Fields.{Reading, field, made}
use Rattle.nm_xdr.specs.Items.{word, hyper, flag, opaque, hyper_at, flag_at, bytes_at}
use Rattle.nm_items.specs.Parts.{IsBitmap, IsStateRef, fattr, fattr_at, AreAttributes}
use Rattle.nm_args.specs.declared.op.Op.{Op}
use Rattle.nm_args.specs.declared.op.Op.TheVariants as op
use Rattle.nm_args.specs.declared.op.OpCode.{OpCode}
use Rattle.nm_args.specs.declared.op.OpCode.TheVariants as code
use Rattle.nm_args.specs.declared.parts.Clientids.{Clientids}
use Rattle.nm_args.specs.declared.parts.Clientids.TheVariants.{Any}
use Rattle.nm_args.specs.Parts.{IsWord, IsHyper, name_at, IsName}
use Rattle.nm_args.specs.Opens.{close, close_at, IsClose, opening, opening_at, IsOpening, confirm, confirm_at, IsConfirm, downgrade, downgrade_at, IsDowngrade}
use Rattle.nm_args.specs.Locks.{locking, locking_at, IsLocking, lock_test, lock_test_at, IsLockTest, unlock, unlock_at, IsUnlock, release, release_at, IsRelease}
use Rattle.nm_args.specs.Data.{access, access_at, commit, commit_at, IsCommit, deleg_return, deleg_return_at, get_attr, get_attr_at, reading, reading_at, IsReading, set_attr, set_attr_at, IsSetAttr, writing, writing_at, IsWriting}
use Rattle.nm_args.specs.Names.{create, create_at, IsCreate, lookup, lookup_at, remove, remove_at, read_dir, read_dir_at, IsReadDir, rename, rename_at, IsRename}
use Rattle.nm_args.specs.Clients.{set_client, set_client_at, IsSetClient, confirm_client, confirm_client_at, IsConfirmClient}

-- ---- Numbers

unfoldable pub number_of : OpCode → ℕ
number_of code.Access = 3
number_of code.Close = 4
number_of code.Commit = 5
number_of code.Create = 6
number_of code.DelegPurge = 7
number_of code.DelegReturn = 8
number_of code.GetAttr = 9
number_of code.GetFh = 10
number_of code.Link = 11
number_of code.Lock = 12
number_of code.LockT = 13
number_of code.LockU = 14
number_of code.Lookup = 15
number_of code.LookupP = 16
number_of code.NVerify = 17
number_of code.Open = 18
number_of code.OpenAttr = 19
number_of code.OpenConfirm = 20
number_of code.OpenDowngrade = 21
number_of code.PutFh = 22
number_of code.PutPubFh = 23
number_of code.PutRootFh = 24
number_of code.Read = 25
number_of code.ReadDir = 26
number_of code.ReadLink = 27
number_of code.Remove = 28
number_of code.Rename = 29
number_of code.Renew = 30
number_of code.RestoreFh = 31
number_of code.SaveFh = 32
number_of code.SecInfo = 33
number_of code.SetAttr = 34
number_of code.SetClientId = 35
number_of code.SetClientIdConfirm = 36
number_of code.Verify = 37
number_of code.Write = 38
number_of code.ReleaseLockOwner = 39

-- every operation
abbrev pub codes : List OpCode
codes =
    code.Access ∷ code.Close ∷ code.Commit ∷ code.Create ∷ code.DelegPurge ∷ code.DelegReturn ∷ code.GetAttr ∷
    code.GetFh ∷ code.Link ∷ code.Lock ∷ code.LockT ∷ code.LockU ∷ code.Lookup ∷ code.LookupP ∷
    code.NVerify ∷ code.Open ∷ code.OpenAttr ∷ code.OpenConfirm ∷ code.OpenDowngrade ∷ code.PutFh ∷ code.PutPubFh ∷
    code.PutRootFh ∷ code.Read ∷ code.ReadDir ∷ code.ReadLink ∷ code.Remove ∷ code.Rename ∷ code.Renew ∷
    code.RestoreFh ∷ code.SaveFh ∷ code.SecInfo ∷ code.SetAttr ∷ code.SetClientId ∷ code.SetClientIdConfirm ∷ code.Verify ∷
    code.Write ∷ code.ReleaseLockOwner ∷ []

-- the operation of that number, where there is one
unfoldable pub code_of_number : ℕ → Option OpCode
unfolding number_of
code_of_number n = find (λ c. number_of c == n) codes

-- which operation it is
abbrev pub code_of : Op → OpCode
code_of (op.Access a) = code.Access
code_of (op.Close a) = code.Close
code_of (op.Commit a) = code.Commit
code_of (op.Create a) = code.Create
code_of (op.DelegPurge a) = code.DelegPurge
code_of (op.DelegReturn a) = code.DelegReturn
code_of (op.GetAttr a) = code.GetAttr
code_of op.GetFh = code.GetFh
code_of (op.Link a) = code.Link
code_of (op.Lock a) = code.Lock
code_of (op.LockT a) = code.LockT
code_of (op.LockU a) = code.LockU
code_of (op.Lookup a) = code.Lookup
code_of op.LookupP = code.LookupP
code_of (op.NVerify a) = code.NVerify
code_of (op.Open a) = code.Open
code_of (op.OpenAttr a) = code.OpenAttr
code_of (op.OpenConfirm a) = code.OpenConfirm
code_of (op.OpenDowngrade a) = code.OpenDowngrade
code_of (op.PutFh a) = code.PutFh
code_of op.PutPubFh = code.PutPubFh
code_of op.PutRootFh = code.PutRootFh
code_of (op.Read a) = code.Read
code_of (op.ReadDir a) = code.ReadDir
code_of op.ReadLink = code.ReadLink
code_of (op.Remove a) = code.Remove
code_of (op.Rename a) = code.Rename
code_of (op.Renew a) = code.Renew
code_of op.RestoreFh = code.RestoreFh
code_of op.SaveFh = code.SaveFh
code_of (op.SecInfo a) = code.SecInfo
code_of (op.SetAttr a) = code.SetAttr
code_of (op.SetClientId a) = code.SetClientId
code_of (op.SetClientIdConfirm a) = code.SetClientIdConfirm
code_of (op.Verify a) = code.Verify
code_of (op.Write a) = code.Write
code_of (op.ReleaseLockOwner a) = code.ReleaseLockOwner

-- ---- Arguments

-- a filehandle (nfs_fh4)
unfoldable pub handle_at : Reading (List ℕ)
handle_at = bytes_at 128

-- how the arguments of each operation are read, with these clientids of owners
unfoldable pub args_by : Clientids → OpCode → Reading Op
args_by which code.Access = field access_at (λ a. made (op.Access a))
args_by which code.Close = field close_at (λ a. made (op.Close a))
args_by which code.Commit = field commit_at (λ a. made (op.Commit a))
args_by which code.Create = field create_at (λ a. made (op.Create a))
args_by which code.DelegPurge = field hyper_at (λ a. made (op.DelegPurge a))
args_by which code.DelegReturn = field deleg_return_at (λ a. made (op.DelegReturn a))
args_by which code.GetAttr = field get_attr_at (λ a. made (op.GetAttr a))
args_by which code.GetFh = made op.GetFh
args_by which code.Link = field name_at (λ a. made (op.Link a))
args_by which code.Lock = field (locking_at which) (λ a. made (op.Lock a))
args_by which code.LockT = field (lock_test_at which) (λ a. made (op.LockT a))
args_by which code.LockU = field unlock_at (λ a. made (op.LockU a))
args_by which code.Lookup = field lookup_at (λ a. made (op.Lookup a))
args_by which code.LookupP = made op.LookupP
args_by which code.NVerify = field fattr_at (λ a. made (op.NVerify a))
args_by which code.Open = field (opening_at which) (λ a. made (op.Open a))
args_by which code.OpenAttr = field flag_at (λ a. made (op.OpenAttr a))
args_by which code.OpenConfirm = field confirm_at (λ a. made (op.OpenConfirm a))
args_by which code.OpenDowngrade = field downgrade_at (λ a. made (op.OpenDowngrade a))
args_by which code.PutFh = field handle_at (λ a. made (op.PutFh a))
args_by which code.PutPubFh = made op.PutPubFh
args_by which code.PutRootFh = made op.PutRootFh
args_by which code.Read = field reading_at (λ a. made (op.Read a))
args_by which code.ReadDir = field read_dir_at (λ a. made (op.ReadDir a))
args_by which code.ReadLink = made op.ReadLink
args_by which code.Remove = field remove_at (λ a. made (op.Remove a))
args_by which code.Rename = field rename_at (λ a. made (op.Rename a))
args_by which code.Renew = field hyper_at (λ a. made (op.Renew a))
args_by which code.RestoreFh = made op.RestoreFh
args_by which code.SaveFh = made op.SaveFh
args_by which code.SecInfo = field name_at (λ a. made (op.SecInfo a))
args_by which code.SetAttr = field set_attr_at (λ a. made (op.SetAttr a))
args_by which code.SetClientId = field set_client_at (λ a. made (op.SetClientId a))
args_by which code.SetClientIdConfirm = field confirm_client_at (λ a. made (op.SetClientIdConfirm a))
args_by which code.Verify = field fattr_at (λ a. made (op.Verify a))
args_by which code.Write = field writing_at (λ a. made (op.Write a))
args_by which code.ReleaseLockOwner = field (release_at which) (λ a. made (op.ReleaseLockOwner a))

-- with any of them
abbrev pub args_at : OpCode → Reading Op
args_at = args_by Any

-- and how they are spelled
unfoldable pub args : Op → List ℕ
args (op.Access a) = access a
args (op.Close a) = close a
args (op.Commit a) = commit a
args (op.Create a) = create a
args (op.DelegPurge a) = hyper a
args (op.DelegReturn a) = deleg_return a
args (op.GetAttr a) = get_attr a
args op.GetFh = []
args (op.Link a) = opaque a
args (op.Lock a) = locking a
args (op.LockT a) = lock_test a
args (op.LockU a) = unlock a
args (op.Lookup a) = lookup a
args op.LookupP = []
args (op.NVerify a) = fattr a
args (op.Open a) = opening a
args (op.OpenAttr a) = flag a
args (op.OpenConfirm a) = confirm a
args (op.OpenDowngrade a) = downgrade a
args (op.PutFh a) = opaque a
args op.PutPubFh = []
args op.PutRootFh = []
args (op.Read a) = reading a
args (op.ReadDir a) = read_dir a
args op.ReadLink = []
args (op.Remove a) = remove a
args (op.Rename a) = rename a
args (op.Renew a) = hyper a
args op.RestoreFh = []
args op.SaveFh = []
args (op.SecInfo a) = opaque a
args (op.SetAttr a) = set_attr a
args (op.SetClientId a) = set_client a
args (op.SetClientIdConfirm a) = confirm_client a
args (op.Verify a) = fattr a
args (op.Write a) = writing a
args (op.ReleaseLockOwner a) = release a

-- numbers are within their size, lengths within their limits, and clientids of owners among these
abbrev pub IsOpBy : Clientids → Op → Type 0
IsOpBy which (op.Access a) = IsWord a.access
IsOpBy which (op.Close a) = IsClose a
IsOpBy which (op.Commit a) = IsCommit a
IsOpBy which (op.Create a) = IsCreate a
IsOpBy which (op.DelegPurge a) = IsHyper a
IsOpBy which (op.DelegReturn a) = IsStateRef a.stateid
IsOpBy which (op.GetAttr a) = IsBitmap a.words
IsOpBy which op.GetFh = Unit {0}
IsOpBy which (op.Link a) = IsName a
IsOpBy which (op.Lock a) = IsLocking which a
IsOpBy which (op.LockT a) = IsLockTest which a
IsOpBy which (op.LockU a) = IsUnlock a
IsOpBy which (op.Lookup a) = IsName a.name
IsOpBy which op.LookupP = Unit {0}
IsOpBy which (op.NVerify a) = AreAttributes a
IsOpBy which (op.Open a) = IsOpening which a
IsOpBy which (op.OpenAttr a) = Unit {0}
IsOpBy which (op.OpenConfirm a) = IsConfirm a
IsOpBy which (op.OpenDowngrade a) = IsDowngrade a
IsOpBy which (op.PutFh a) = length a ≤ 128
IsOpBy which op.PutPubFh = Unit {0}
IsOpBy which op.PutRootFh = Unit {0}
IsOpBy which (op.Read a) = IsReading a
IsOpBy which (op.ReadDir a) = IsReadDir a
IsOpBy which op.ReadLink = Unit {0}
IsOpBy which (op.Remove a) = IsName a.name
IsOpBy which (op.Rename a) = IsRename a
IsOpBy which (op.Renew a) = IsHyper a
IsOpBy which op.RestoreFh = Unit {0}
IsOpBy which op.SaveFh = Unit {0}
IsOpBy which (op.SecInfo a) = IsName a
IsOpBy which (op.SetAttr a) = IsSetAttr a
IsOpBy which (op.SetClientId a) = IsSetClient a
IsOpBy which (op.SetClientIdConfirm a) = IsConfirmClient a
IsOpBy which (op.Verify a) = AreAttributes a
IsOpBy which (op.Write a) = IsWriting a
IsOpBy which (op.ReleaseLockOwner a) = IsRelease which a

abbrev pub IsOp : Op → Type 0
IsOp = IsOpBy Any

-- an operation: its number and its arguments
unfoldable pub operation : Op → List ℕ
operation o = word (number_of (code_of o)) ++ args o
