-- The reading and the spelling of each operation belong together.
use Rattle.std.proofs.Common.{◌≡◌, ℕ, ◌^◌, ◌≤◌, ◌<◌, List, [], ◌++◌, length, Some, Ok, refl, sym, ap, subst, ◌∙◌, arith}
use Rattle.nm_xdr.specs.Fields.{made, IsBytes, IsItem}
use Rattle.nm_xdr.specs.Items.{word, opaque, enum_at}
use Rattle.nm_xdr.proofs.FieldLaws.{same_value}
use Rattle.nm_xdr.proofs.ItemLaws.{hyper_item, flag_item, enum_item}
use Rattle.nm_xdr.proofs.ByteLaws.{bytes_item}
use Rattle.nm_xdr.proofs.MadeLaws.{made_found, made_again}
use Rattle.nm_items.proofs.PartItems.{fattr_item}
use Rattle.nm_args.specs.declared.op.Op.{Op}
use Rattle.nm_args.specs.declared.op.Op.TheVariants as op
use Rattle.nm_args.specs.declared.op.OpCode.{OpCode}
use Rattle.nm_args.specs.declared.op.OpCode.TheVariants as code
use Rattle.nm_args.specs.declared.parts.Clientids.{Clientids}
use Rattle.nm_args.specs.Operations.{number_of, codes, code_of_number, code_of, handle_at, args_by, args, IsOpBy}
use Rattle.nm_args.proofs.PartItems.{name_item, number_found}
use Rattle.nm_args.proofs.OpenItems.{close_item, opening_item, confirm_item, downgrade_item}
use Rattle.nm_args.proofs.LockItems.{locking_item, lock_test_item, unlock_item, release_item}
use Rattle.nm_args.proofs.DataItems.{access_item, commit_item, deleg_return_item, get_attr_item, reading_item, set_attr_item, writing_item, create_item, lookup_item, remove_item, read_dir_item, rename_item, set_client_item, confirm_client_item}

-- ---- Numbers

pub number_small : (k : OpCode) → number_of k < 2 ^ 32
unfolding number_of
number_small code.Access = omega arith
number_small code.Close = omega arith
number_small code.Commit = omega arith
number_small code.Create = omega arith
number_small code.DelegPurge = omega arith
number_small code.DelegReturn = omega arith
number_small code.GetAttr = omega arith
number_small code.GetFh = omega arith
number_small code.Link = omega arith
number_small code.Lock = omega arith
number_small code.LockT = omega arith
number_small code.LockU = omega arith
number_small code.Lookup = omega arith
number_small code.LookupP = omega arith
number_small code.NVerify = omega arith
number_small code.Open = omega arith
number_small code.OpenAttr = omega arith
number_small code.OpenConfirm = omega arith
number_small code.OpenDowngrade = omega arith
number_small code.PutFh = omega arith
number_small code.PutPubFh = omega arith
number_small code.PutRootFh = omega arith
number_small code.Read = omega arith
number_small code.ReadDir = omega arith
number_small code.ReadLink = omega arith
number_small code.Remove = omega arith
number_small code.Rename = omega arith
number_small code.Renew = omega arith
number_small code.RestoreFh = omega arith
number_small code.SaveFh = omega arith
number_small code.SecInfo = omega arith
number_small code.SetAttr = omega arith
number_small code.SetClientId = omega arith
number_small code.SetClientIdConfirm = omega arith
number_small code.Verify = omega arith
number_small code.Write = omega arith
number_small code.ReleaseLockOwner = omega arith

pub code_back : (k : OpCode) → code_of_number (number_of k) ≡ Some k
unfolding code_of_number number_of
code_back code.Access = refl
code_back code.Close = refl
code_back code.Commit = refl
code_back code.Create = refl
code_back code.DelegPurge = refl
code_back code.DelegReturn = refl
code_back code.GetAttr = refl
code_back code.GetFh = refl
code_back code.Link = refl
code_back code.Lock = refl
code_back code.LockT = refl
code_back code.LockU = refl
code_back code.Lookup = refl
code_back code.LookupP = refl
code_back code.NVerify = refl
code_back code.Open = refl
code_back code.OpenAttr = refl
code_back code.OpenConfirm = refl
code_back code.OpenDowngrade = refl
code_back code.PutFh = refl
code_back code.PutPubFh = refl
code_back code.PutRootFh = refl
code_back code.Read = refl
code_back code.ReadDir = refl
code_back code.ReadLink = refl
code_back code.Remove = refl
code_back code.Rename = refl
code_back code.Renew = refl
code_back code.RestoreFh = refl
code_back code.SaveFh = refl
code_back code.SecInfo = refl
code_back code.SetAttr = refl
code_back code.SetClientId = refl
code_back code.SetClientIdConfirm = refl
code_back code.Verify = refl
code_back code.Write = refl
code_back code.ReleaseLockOwner = refl

pub code_found : (n : ℕ) (k : OpCode) → code_of_number n ≡ Some k → number_of k ≡ n
unfolding code_of_number
code_found n k e = number_found number_of n codes k e

-- ---- Arguments

handle_item : IsItem handle_at opaque (λ h. length h ≤ 128)
unfolding handle_at
handle_item = bytes_item 128 (omega arith)

-- an operation with this number
abbrev OpOf : Clientids → OpCode → Op → Type 0
OpOf which k o = IsOpBy which o × (code_of o ≡ k)

-- an operation without arguments
plain_found : (which : Clientids) (k : OpCode) (x : Op) → args x ≡ [] → OpOf which k x → (bytes : List ℕ) (o : Op) (rest : List ℕ) → made x bytes ≡ Ok (o, rest)
    → (bytes ≡ args o ++ rest) × OpOf which k o
plain_found which k x none is bytes o rest e =
    let same = same_value x o bytes rest e in
    subst (λ (y : Op). (bytes ≡ args y ++ rest) × OpOf which k y) same.0 (same.1 ∙ ap (λ (b : List ℕ). b ++ rest) (sym none), is)

-- What is read as the arguments of an operation is spelled so.
pub args_found : (which : Clientids) (k : OpCode) (bytes : List ℕ) (o : Op) (rest : List ℕ) → IsBytes bytes → args_by which k bytes ≡ Ok (o, rest)
    → (bytes ≡ args o ++ rest) × OpOf which k o
unfolding args_by args
args_found which code.Access bytes o rest fits e = made_found (λ a. op.Access a) args (OpOf which code.Access) (λ a f. ((f, refl), refl)) access_item bytes o rest fits e
args_found which code.Close bytes o rest fits e = made_found (λ a. op.Close a) args (OpOf which code.Close) (λ a f. ((f, refl), refl)) close_item bytes o rest fits e
args_found which code.Commit bytes o rest fits e = made_found (λ a. op.Commit a) args (OpOf which code.Commit) (λ a f. ((f, refl), refl)) commit_item bytes o rest fits e
args_found which code.Create bytes o rest fits e = made_found (λ a. op.Create a) args (OpOf which code.Create) (λ a f. ((f, refl), refl)) create_item bytes o rest fits e
args_found which code.DelegPurge bytes o rest fits e = made_found (λ a. op.DelegPurge a) args (OpOf which code.DelegPurge) (λ a f. ((f, refl), refl)) hyper_item bytes o rest fits e
args_found which code.DelegReturn bytes o rest fits e = made_found (λ a. op.DelegReturn a) args (OpOf which code.DelegReturn) (λ a f. ((f, refl), refl)) deleg_return_item bytes o rest fits e
args_found which code.GetAttr bytes o rest fits e = made_found (λ a. op.GetAttr a) args (OpOf which code.GetAttr) (λ a f. ((f, refl), refl)) get_attr_item bytes o rest fits e
args_found which code.GetFh bytes o rest fits e = plain_found which code.GetFh op.GetFh refl (tt, refl) bytes o rest e
args_found which code.Link bytes o rest fits e = made_found (λ a. op.Link a) args (OpOf which code.Link) (λ a f. ((f, refl), refl)) name_item bytes o rest fits e
args_found which code.Lock bytes o rest fits e = made_found (λ a. op.Lock a) args (OpOf which code.Lock) (λ a f. ((f, refl), refl)) (locking_item which) bytes o rest fits e
args_found which code.LockT bytes o rest fits e = made_found (λ a. op.LockT a) args (OpOf which code.LockT) (λ a f. ((f, refl), refl)) (lock_test_item which) bytes o rest fits e
args_found which code.LockU bytes o rest fits e = made_found (λ a. op.LockU a) args (OpOf which code.LockU) (λ a f. ((f, refl), refl)) unlock_item bytes o rest fits e
args_found which code.Lookup bytes o rest fits e = made_found (λ a. op.Lookup a) args (OpOf which code.Lookup) (λ a f. ((f, refl), refl)) lookup_item bytes o rest fits e
args_found which code.LookupP bytes o rest fits e = plain_found which code.LookupP op.LookupP refl (tt, refl) bytes o rest e
args_found which code.NVerify bytes o rest fits e = made_found (λ a. op.NVerify a) args (OpOf which code.NVerify) (λ a f. ((f, refl), refl)) fattr_item bytes o rest fits e
args_found which code.Open bytes o rest fits e = made_found (λ a. op.Open a) args (OpOf which code.Open) (λ a f. ((f, refl), refl)) (opening_item which) bytes o rest fits e
args_found which code.OpenAttr bytes o rest fits e = made_found (λ a. op.OpenAttr a) args (OpOf which code.OpenAttr) (λ a f. ((f, refl), refl)) flag_item bytes o rest fits e
args_found which code.OpenConfirm bytes o rest fits e = made_found (λ a. op.OpenConfirm a) args (OpOf which code.OpenConfirm) (λ a f. ((f, refl), refl)) confirm_item bytes o rest fits e
args_found which code.OpenDowngrade bytes o rest fits e = made_found (λ a. op.OpenDowngrade a) args (OpOf which code.OpenDowngrade) (λ a f. ((f, refl), refl)) downgrade_item bytes o rest fits e
args_found which code.PutFh bytes o rest fits e = made_found (λ a. op.PutFh a) args (OpOf which code.PutFh) (λ a f. ((f, refl), refl)) handle_item bytes o rest fits e
args_found which code.PutPubFh bytes o rest fits e = plain_found which code.PutPubFh op.PutPubFh refl (tt, refl) bytes o rest e
args_found which code.PutRootFh bytes o rest fits e = plain_found which code.PutRootFh op.PutRootFh refl (tt, refl) bytes o rest e
args_found which code.Read bytes o rest fits e = made_found (λ a. op.Read a) args (OpOf which code.Read) (λ a f. ((f, refl), refl)) reading_item bytes o rest fits e
args_found which code.ReadDir bytes o rest fits e = made_found (λ a. op.ReadDir a) args (OpOf which code.ReadDir) (λ a f. ((f, refl), refl)) read_dir_item bytes o rest fits e
args_found which code.ReadLink bytes o rest fits e = plain_found which code.ReadLink op.ReadLink refl (tt, refl) bytes o rest e
args_found which code.Remove bytes o rest fits e = made_found (λ a. op.Remove a) args (OpOf which code.Remove) (λ a f. ((f, refl), refl)) remove_item bytes o rest fits e
args_found which code.Rename bytes o rest fits e = made_found (λ a. op.Rename a) args (OpOf which code.Rename) (λ a f. ((f, refl), refl)) rename_item bytes o rest fits e
args_found which code.Renew bytes o rest fits e = made_found (λ a. op.Renew a) args (OpOf which code.Renew) (λ a f. ((f, refl), refl)) hyper_item bytes o rest fits e
args_found which code.RestoreFh bytes o rest fits e = plain_found which code.RestoreFh op.RestoreFh refl (tt, refl) bytes o rest e
args_found which code.SaveFh bytes o rest fits e = plain_found which code.SaveFh op.SaveFh refl (tt, refl) bytes o rest e
args_found which code.SecInfo bytes o rest fits e = made_found (λ a. op.SecInfo a) args (OpOf which code.SecInfo) (λ a f. ((f, refl), refl)) name_item bytes o rest fits e
args_found which code.SetAttr bytes o rest fits e = made_found (λ a. op.SetAttr a) args (OpOf which code.SetAttr) (λ a f. ((f, refl), refl)) set_attr_item bytes o rest fits e
args_found which code.SetClientId bytes o rest fits e = made_found (λ a. op.SetClientId a) args (OpOf which code.SetClientId) (λ a f. ((f, refl), refl)) set_client_item bytes o rest fits e
args_found which code.SetClientIdConfirm bytes o rest fits e = made_found (λ a. op.SetClientIdConfirm a) args (OpOf which code.SetClientIdConfirm) (λ a f. ((f, refl), refl)) confirm_client_item bytes o rest fits e
args_found which code.Verify bytes o rest fits e = made_found (λ a. op.Verify a) args (OpOf which code.Verify) (λ a f. ((f, refl), refl)) fattr_item bytes o rest fits e
args_found which code.Write bytes o rest fits e = made_found (λ a. op.Write a) args (OpOf which code.Write) (λ a f. ((f, refl), refl)) writing_item bytes o rest fits e
args_found which code.ReleaseLockOwner bytes o rest fits e = made_found (λ a. op.ReleaseLockOwner a) args (OpOf which code.ReleaseLockOwner) (λ a f. ((f, refl), refl)) (release_item which) bytes o rest fits e

-- And where they are spelled, they are read.
pub args_again : (which : Clientids) (o : Op) (rest : List ℕ) → IsOpBy which o → args_by which (code_of o) (args o ++ rest) ≡ Ok (o, rest)
unfolding args_by args
args_again which (op.Access a) rest f = made_again (λ x. op.Access x) access_item a rest f
args_again which (op.Close a) rest f = made_again (λ x. op.Close x) close_item a rest f
args_again which (op.Commit a) rest f = made_again (λ x. op.Commit x) commit_item a rest f
args_again which (op.Create a) rest f = made_again (λ x. op.Create x) create_item a rest f
args_again which (op.DelegPurge a) rest f = made_again (λ x. op.DelegPurge x) hyper_item a rest f
args_again which (op.DelegReturn a) rest f = made_again (λ x. op.DelegReturn x) deleg_return_item a rest f
args_again which (op.GetAttr a) rest f = made_again (λ x. op.GetAttr x) get_attr_item a rest f
args_again which op.GetFh rest f = refl
args_again which (op.Link a) rest f = made_again (λ x. op.Link x) name_item a rest f
args_again which (op.Lock a) rest f = made_again (λ x. op.Lock x) (locking_item which) a rest f
args_again which (op.LockT a) rest f = made_again (λ x. op.LockT x) (lock_test_item which) a rest f
args_again which (op.LockU a) rest f = made_again (λ x. op.LockU x) unlock_item a rest f
args_again which (op.Lookup a) rest f = made_again (λ x. op.Lookup x) lookup_item a rest f
args_again which op.LookupP rest f = refl
args_again which (op.NVerify a) rest f = made_again (λ x. op.NVerify x) fattr_item a rest f
args_again which (op.Open a) rest f = made_again (λ x. op.Open x) (opening_item which) a rest f
args_again which (op.OpenAttr a) rest f = made_again (λ x. op.OpenAttr x) flag_item a rest f
args_again which (op.OpenConfirm a) rest f = made_again (λ x. op.OpenConfirm x) confirm_item a rest f
args_again which (op.OpenDowngrade a) rest f = made_again (λ x. op.OpenDowngrade x) downgrade_item a rest f
args_again which (op.PutFh a) rest f = made_again (λ x. op.PutFh x) handle_item a rest f
args_again which op.PutPubFh rest f = refl
args_again which op.PutRootFh rest f = refl
args_again which (op.Read a) rest f = made_again (λ x. op.Read x) reading_item a rest f
args_again which (op.ReadDir a) rest f = made_again (λ x. op.ReadDir x) read_dir_item a rest f
args_again which op.ReadLink rest f = refl
args_again which (op.Remove a) rest f = made_again (λ x. op.Remove x) remove_item a rest f
args_again which (op.Rename a) rest f = made_again (λ x. op.Rename x) rename_item a rest f
args_again which (op.Renew a) rest f = made_again (λ x. op.Renew x) hyper_item a rest f
args_again which op.RestoreFh rest f = refl
args_again which op.SaveFh rest f = refl
args_again which (op.SecInfo a) rest f = made_again (λ x. op.SecInfo x) name_item a rest f
args_again which (op.SetAttr a) rest f = made_again (λ x. op.SetAttr x) set_attr_item a rest f
args_again which (op.SetClientId a) rest f = made_again (λ x. op.SetClientId x) set_client_item a rest f
args_again which (op.SetClientIdConfirm a) rest f = made_again (λ x. op.SetClientIdConfirm x) confirm_client_item a rest f
args_again which (op.Verify a) rest f = made_again (λ x. op.Verify x) fattr_item a rest f
args_again which (op.Write a) rest f = made_again (λ x. op.Write x) writing_item a rest f
args_again which (op.ReleaseLockOwner a) rest f = made_again (λ x. op.ReleaseLockOwner x) (release_item which) a rest f

-- The arguments of one operation are an item.
pub args_item : (which : Clientids) (k : OpCode) → IsItem (args_by which k) args (λ o. IsOpBy which o × (code_of o ≡ k))
args_item which k = record {
  found = args_found which k;
  again = λ o rest f. subst (λ (n : OpCode). args_by which n (args o ++ rest) ≡ Ok (o, rest)) f.1 (args_again which o rest f.0);
}

-- The number of an operation.
pub code_item : IsItem (enum_at code_of_number) (λ k. word (number_of k)) (λ _. Unit {0})
code_item = enum_item number_of code_of_number number_small code_back code_found
