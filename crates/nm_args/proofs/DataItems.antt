-- The reading and the spelling of the arguments of operations on files' contents, on names and on clients belong together, one line a field.
use Rattle.std.proofs.Common.{◌≡◌, ℕ, ◌^◌, ◌<◌, List, [], ◌∷◌, ◌++◌, Some, Ok, refl, sym, ap, subst, ◌∙◌, arith}
use Rattle.std.proofs.lemmas.List.{append-nil}
use Rattle.nm_xdr.specs.Fields.{made, IsBytes, IsItem}
use Rattle.nm_xdr.specs.Items.{word, opaque, enum_at}
use Rattle.nm_xdr.proofs.FieldLaws.{field_part, made_part, record_item, fits_as, spelled_as, union_item, same_value}
use Rattle.nm_xdr.proofs.ItemLaws.{word_item, hyper_item, enum_item}
use Rattle.nm_xdr.proofs.ByteLaws.{bytes_item}
use Rattle.nm_types.specs.declared.args.AccessArgs.{AccessArgs}
use Rattle.nm_types.specs.declared.args.CommitArgs.{CommitArgs}
use Rattle.nm_types.specs.declared.args.DelegReturnArgs.{DelegReturnArgs}
use Rattle.nm_types.specs.declared.args.GetAttrArgs.{GetAttrArgs}
use Rattle.nm_types.specs.declared.args.ReadArgs.{ReadArgs}
use Rattle.nm_types.specs.declared.args.SetAttrArgs.{SetAttrArgs}
use Rattle.nm_types.specs.declared.args.WriteArgs.{WriteArgs}
use Rattle.nm_types.specs.declared.args.Device.{Device}
use Rattle.nm_types.specs.declared.args.CreateType.{CreateType}
use Rattle.nm_types.specs.declared.args.CreateType.TheVariants.{File, Directory, Block, Character, Link, Socket, Fifo, AttributeDirectory, NamedAttribute}
use Rattle.nm_types.specs.declared.args.CreateArgs.{CreateArgs}
use Rattle.nm_types.specs.declared.args.LookupArgs.{LookupArgs}
use Rattle.nm_types.specs.declared.args.ReadDirArgs.{ReadDirArgs}
use Rattle.nm_types.specs.declared.args.RemoveArgs.{RemoveArgs}
use Rattle.nm_types.specs.Wire.{stateid_bytes}
use Rattle.nm_xdr.proofs.MadeLaws.{made_found, made_again}
use Rattle.nm_items.specs.Parts.{bitmap, IsBitmap, IsStateRef}
use Rattle.nm_items.proofs.PartItems.{bitmap_item, fattr_item, ref_item}
use Rattle.nm_args.specs.declared.op.RenameArgs.{RenameArgs}
use Rattle.nm_args.specs.declared.op.SetClientIdArgs.{SetClientIdArgs}
use Rattle.nm_args.specs.declared.op.SetClientIdConfirmArgs.{SetClientIdConfirmArgs}
use Rattle.nm_args.specs.Parts.{IsWord, IsName, IsText}
use Rattle.nm_args.specs.Data.{access, access_at, commit, commit_at, IsCommit, deleg_return, deleg_return_at, get_attr, get_attr_at, reading, reading_at, IsReading, set_attr, set_attr_at, IsSetAttr, writing, writing_at, IsWriting}
use Rattle.nm_args.specs.Names.{Kind, file, directory, block, character, link, socket, fifo, attribute_directory, named_attribute, kind_number, kind_of, kind, device, device_at, IsDevice, kind_arm, kind_arm_at, create_type, create_type_at, IsCreateType, create, create_at, IsCreate, lookup, lookup_at, remove, remove_at, read_dir, read_dir_at, IsReadDir, rename, rename_at, IsRename}
use Rattle.nm_args.specs.Clients.{address, address_at, set_client, set_client_at, IsSetClient, confirm_client, confirm_client_at, IsConfirmClient}
use Rattle.nm_args.proofs.PartItems.{name_item, text_item, number_found, stable_item}

-- ---- Contents and attributes

pub access_item : IsItem access_at access (λ a. IsWord a.access)
unfolding access_at access
access_item =
    fits_as (λ a. IsWord a.access) (λ a f. (f, tt)) (λ a f. f.0) (
    spelled_as (λ (a : AccessArgs). word a.access) (λ a _. sym (append-nil (word a.access))) (
    record_item (
    field_part (λ (a : AccessArgs). a.access) _ (λ _. word_item) (
    made_part _ (λ _. refl) (λ _. refl)))))

pub commit_item : IsItem commit_at commit IsCommit
unfolding commit_at commit
commit_item =
    fits_as IsCommit (λ a f. (f.0, (f.1, tt))) (λ a f. (f.0, f.1.0)) (
    record_item (
    field_part (λ (a : CommitArgs). a.offset) _ (λ _. hyper_item) (
    field_part (λ (a : CommitArgs). a.count) _ (λ _. word_item) (
    made_part _ (λ _. refl) (λ _. refl)))))

pub deleg_return_item : IsItem deleg_return_at deleg_return (λ a. IsStateRef a.stateid)
unfolding deleg_return_at deleg_return
deleg_return_item =
    fits_as (λ a. IsStateRef a.stateid) (λ a f. (f, tt)) (λ a f. f.0) (
    spelled_as (λ (a : DelegReturnArgs). stateid_bytes a.stateid) (λ a _. sym (append-nil (stateid_bytes a.stateid))) (
    record_item (
    field_part (λ (a : DelegReturnArgs). a.stateid) _ (λ _. ref_item) (
    made_part _ (λ _. refl) (λ _. refl)))))

pub get_attr_item : IsItem get_attr_at get_attr (λ a. IsBitmap a.words)
unfolding get_attr_at get_attr
get_attr_item =
    fits_as (λ a. IsBitmap a.words) (λ a f. (f, tt)) (λ a f. f.0) (
    spelled_as (λ (a : GetAttrArgs). bitmap a.words) (λ a _. sym (append-nil (bitmap a.words))) (
    record_item (
    field_part (λ (a : GetAttrArgs). a.words) _ (λ _. bitmap_item) (
    made_part _ (λ _. refl) (λ _. refl)))))

pub reading_item : IsItem reading_at reading IsReading
unfolding reading_at reading
reading_item =
    fits_as IsReading (λ a f. (f.0, (f.1, (f.2, tt)))) (λ a f. (f.0, f.1.0, f.1.1.0)) (
    record_item (
    field_part (λ (a : ReadArgs). a.stateid) _ (λ _. ref_item) (
    field_part (λ (a : ReadArgs). a.offset) _ (λ _. hyper_item) (
    field_part (λ (a : ReadArgs). a.count) _ (λ _. word_item) (
    made_part _ (λ _. refl) (λ _. refl))))))

pub set_attr_item : IsItem set_attr_at set_attr IsSetAttr
unfolding set_attr_at set_attr
set_attr_item =
    fits_as IsSetAttr (λ a f. (f.0, (f.1, tt))) (λ a f. (f.0, f.1.0)) (
    record_item (
    field_part (λ (a : SetAttrArgs). a.stateid) _ (λ _. ref_item) (
    field_part (λ (a : SetAttrArgs). a.attributes) _ (λ _. fattr_item) (
    made_part _ (λ _. refl) (λ _. refl)))))

pub writing_item : IsItem writing_at writing IsWriting
unfolding writing_at writing
writing_item =
    fits_as IsWriting (λ a f. (f.0, (f.1, (tt, (f.2, tt))))) (λ a f. (f.0, f.1.0, f.1.1.1.0)) (
    record_item (
    field_part (λ (a : WriteArgs). a.stateid) _ (λ _. ref_item) (
    field_part (λ (a : WriteArgs). a.offset) _ (λ _. hyper_item) (
    field_part (λ (a : WriteArgs). a.stable) _ (λ _. stable_item) (
    field_part (λ (a : WriteArgs). a.data) _ (λ _. bytes_item 1048576 (omega arith)) (
    made_part _ (λ _. refl) (λ _. refl)))))))

-- ---- Names

kind_small : (k : Kind) → kind_number k < 2 ^ 32
unfolding kind_number
kind_small file = omega arith
kind_small directory = omega arith
kind_small block = omega arith
kind_small character = omega arith
kind_small link = omega arith
kind_small socket = omega arith
kind_small fifo = omega arith
kind_small attribute_directory = omega arith
kind_small named_attribute = omega arith

kind_back : (k : Kind) → kind_of (kind_number k) ≡ Some k
unfolding kind_of kind_number
kind_back file = refl
kind_back directory = refl
kind_back block = refl
kind_back character = refl
kind_back link = refl
kind_back socket = refl
kind_back fifo = refl
kind_back attribute_directory = refl
kind_back named_attribute = refl

kind_item : IsItem (enum_at kind_of) (λ k. word (kind_number k)) (λ _. Unit {0})
unfolding kind_of
kind_item =
    enum_item kind_number kind_of kind_small kind_back
    (λ n k e. number_found kind_number n (file ∷ directory ∷ block ∷ character ∷ link ∷ socket ∷ fifo ∷ attribute_directory ∷ named_attribute ∷ []) k e)

device_item : IsItem device_at device IsDevice
unfolding device_at device
device_item =
    fits_as IsDevice (λ d f. (f.0, (f.1, tt))) (λ d f. (f.0, f.1.0)) (
    record_item (
    field_part (λ (d : Device). d.major) _ (λ _. word_item) (
    field_part (λ (d : Device). d.minor) _ (λ _. word_item) (
    made_part _ (λ _. refl) (λ _. refl)))))

-- a type that nothing follows
abbrev ArmOf : Kind → CreateType → Type 0
ArmOf k t = IsCreateType t × (kind t ≡ k)

plain_found : (k : Kind) (x : CreateType) → kind_arm x ≡ [] → ArmOf k x → (bytes : List ℕ) (t : CreateType) (rest : List ℕ) → made x bytes ≡ Ok (t, rest)
    → (bytes ≡ kind_arm t ++ rest) × ArmOf k t
plain_found k x none is bytes t rest e =
    let same = same_value x t bytes rest e in
    subst (λ (y : CreateType). (bytes ≡ kind_arm y ++ rest) × ArmOf k y) same.0 (same.1 ∙ ap (λ (b : List ℕ). b ++ rest) (sym none), is)

kind_arm_found : (k : Kind) (bytes : List ℕ) (t : CreateType) (rest : List ℕ) → IsBytes bytes → kind_arm_at k bytes ≡ Ok (t, rest)
    → (bytes ≡ kind_arm t ++ rest) × ArmOf k t
unfolding kind_arm_at
kind_arm_found file bytes t rest fits e = plain_found file File refl (tt, refl) bytes t rest e
kind_arm_found directory bytes t rest fits e = plain_found directory Directory refl (tt, refl) bytes t rest e
kind_arm_found block bytes t rest fits e = made_found (λ d. Block d) kind_arm (ArmOf block) (λ d f. ((f, refl), refl)) device_item bytes t rest fits e
kind_arm_found character bytes t rest fits e = made_found (λ d. Character d) kind_arm (ArmOf character) (λ d f. ((f, refl), refl)) device_item bytes t rest fits e
kind_arm_found link bytes t rest fits e = made_found (λ x. Link x) kind_arm (ArmOf link) (λ x f. ((f, refl), refl)) name_item bytes t rest fits e
kind_arm_found socket bytes t rest fits e = plain_found socket Socket refl (tt, refl) bytes t rest e
kind_arm_found fifo bytes t rest fits e = plain_found fifo Fifo refl (tt, refl) bytes t rest e
kind_arm_found attribute_directory bytes t rest fits e = plain_found attribute_directory AttributeDirectory refl (tt, refl) bytes t rest e
kind_arm_found named_attribute bytes t rest fits e = plain_found named_attribute NamedAttribute refl (tt, refl) bytes t rest e

kind_arm_again : (t : CreateType) (rest : List ℕ) → IsCreateType t → kind_arm_at (kind t) (kind_arm t ++ rest) ≡ Ok (t, rest)
unfolding kind_arm_at
kind_arm_again File rest f = refl
kind_arm_again Directory rest f = refl
kind_arm_again (Block d) rest f = made_again (λ x. Block x) device_item d rest f
kind_arm_again (Character d) rest f = made_again (λ x. Character x) device_item d rest f
kind_arm_again (Link text) rest f = made_again (λ x. Link x) name_item text rest f
kind_arm_again Socket rest f = refl
kind_arm_again Fifo rest f = refl
kind_arm_again AttributeDirectory rest f = refl
kind_arm_again NamedAttribute rest f = refl

kind_arm_item : (k : Kind) → IsItem (kind_arm_at k) kind_arm (ArmOf k)
kind_arm_item k = record {
  found = kind_arm_found k;
  again = λ t rest f. subst (λ (n : Kind). kind_arm_at n (kind_arm t ++ rest) ≡ Ok (t, rest)) f.1 (kind_arm_again t rest f.0);
}

create_type_item : IsItem create_type_at create_type IsCreateType
unfolding create_type_at create_type
create_type_item = union_item kind IsCreateType (λ _ _. tt) kind_item (λ k _. kind_arm_item k)

pub create_item : IsItem create_at create IsCreate
unfolding create_at create
create_item =
    fits_as IsCreate (λ a f. (f.0, (f.1, (f.2, tt)))) (λ a f. (f.0, f.1.0, f.1.1.0)) (
    record_item (
    field_part (λ (a : CreateArgs). a.kind) _ (λ _. create_type_item) (
    field_part (λ (a : CreateArgs). a.name) _ (λ _. name_item) (
    field_part (λ (a : CreateArgs). a.attributes) _ (λ _. fattr_item) (
    made_part _ (λ _. refl) (λ _. refl))))))

pub lookup_item : IsItem lookup_at lookup (λ a. IsName a.name)
unfolding lookup_at lookup
lookup_item =
    fits_as (λ a. IsName a.name) (λ a f. (f, tt)) (λ a f. f.0) (
    spelled_as (λ (a : LookupArgs). opaque a.name) (λ a _. sym (append-nil (opaque a.name))) (
    record_item (
    field_part (λ (a : LookupArgs). a.name) _ (λ _. name_item) (
    made_part _ (λ _. refl) (λ _. refl)))))

pub remove_item : IsItem remove_at remove (λ a. IsName a.name)
unfolding remove_at remove
remove_item =
    fits_as (λ a. IsName a.name) (λ a f. (f, tt)) (λ a f. f.0) (
    spelled_as (λ (a : RemoveArgs). opaque a.name) (λ a _. sym (append-nil (opaque a.name))) (
    record_item (
    field_part (λ (a : RemoveArgs). a.name) _ (λ _. name_item) (
    made_part _ (λ _. refl) (λ _. refl)))))

pub read_dir_item : IsItem read_dir_at read_dir IsReadDir
unfolding read_dir_at read_dir
read_dir_item =
    fits_as IsReadDir (λ a f. (f.cookie, (f.verifier, (f.dircount, (f.maxcount, (f.words, tt))))))
    (λ a f. record { cookie = f.0; verifier = f.1.0; dircount = f.1.1.0; maxcount = f.1.1.1.0; words = f.1.1.1.1.0 }) (
    record_item (
    field_part (λ (a : ReadDirArgs). a.cookie) _ (λ _. hyper_item) (
    field_part (λ (a : ReadDirArgs). a.verifier) _ (λ _. hyper_item) (
    field_part (λ (a : ReadDirArgs). a.dircount) _ (λ _. word_item) (
    field_part (λ (a : ReadDirArgs). a.maxcount) _ (λ _. word_item) (
    field_part (λ (a : ReadDirArgs). a.words) _ (λ _. bitmap_item) (
    made_part _ (λ _. refl) (λ _. refl))))))))

pub rename_item : IsItem rename_at rename IsRename
unfolding rename_at rename
rename_item =
    fits_as IsRename (λ a f. (f.0, (f.1, tt))) (λ a f. (f.0, f.1.0)) (
    record_item (
    field_part (λ (a : RenameArgs). a.from) _ (λ _. name_item) (
    field_part (λ (a : RenameArgs). a.to) _ (λ _. name_item) (
    made_part _ (λ _. refl) (λ _. refl)))))

-- ---- Clients

address_item : IsItem address_at address (λ a. IsText a.0 × IsText a.1)
unfolding address_at address
address_item =
    fits_as (λ a. IsText a.0 × IsText a.1) (λ a f. (f.0, (f.1, tt))) (λ a f. (f.0, f.1.0)) (
    record_item (
    field_part (λ (a : List ℕ × List ℕ). a.0) _ (λ _. text_item) (
    field_part (λ (a : List ℕ × List ℕ). a.1) _ (λ _. text_item) (
    made_part _ (λ _. refl) (λ _. refl)))))

pub set_client_item : IsItem set_client_at set_client IsSetClient
unfolding set_client_at set_client
set_client_item =
    fits_as IsSetClient (λ a f. (f.verifier, (f.id, (f.program, ((f.netid, f.addr), (f.ident, tt))))))
    (λ a f. record { verifier = f.0; id = f.1.0; program = f.1.1.0; netid = f.1.1.1.0.0; addr = f.1.1.1.0.1; ident = f.1.1.1.1.0 }) (
    record_item (
    field_part (λ (a : SetClientIdArgs). a.verifier) _ (λ _. hyper_item) (
    field_part (λ (a : SetClientIdArgs). a.id) _ (λ _. text_item) (
    field_part (λ (a : SetClientIdArgs). a.program) _ (λ _. word_item) (
    field_part (λ (a : SetClientIdArgs). (a.netid, a.addr)) _ (λ _. address_item) (
    field_part (λ (a : SetClientIdArgs). a.ident) _ (λ _. word_item) (
    made_part _ (λ _. refl) (λ _. refl))))))))

pub confirm_client_item : IsItem confirm_client_at confirm_client IsConfirmClient
unfolding confirm_client_at confirm_client
confirm_client_item =
    fits_as IsConfirmClient (λ a f. (f.0, (f.1, tt))) (λ a f. (f.0, f.1.0)) (
    record_item (
    field_part (λ (a : SetClientIdConfirmArgs). a.clientid) _ (λ _. hyper_item) (
    field_part (λ (a : SetClientIdConfirmArgs). a.verifier) _ (λ _. hyper_item) (
    made_part _ (λ _. refl) (λ _. refl)))))
