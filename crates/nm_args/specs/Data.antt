-- The arguments of operations on files' contents and attributes (RFC 7531).
use Rattle.std.specs.Prelude.{ℕ, ◌≤◌, List, [], ◌∷◌, length}
use Rattle.nm_xdr.specs.Fields.{Reading, field, made}
use Rattle.nm_xdr.specs.Items.{word, hyper, opaque, structure, word_at, hyper_at, bytes_at}
use Rattle.nm_types.specs.declared.args.AccessArgs.{AccessArgs}
use Rattle.nm_types.specs.declared.args.CommitArgs.{CommitArgs}
use Rattle.nm_types.specs.declared.args.DelegReturnArgs.{DelegReturnArgs}
use Rattle.nm_types.specs.declared.args.GetAttrArgs.{GetAttrArgs}
use Rattle.nm_types.specs.declared.args.ReadArgs.{ReadArgs}
use Rattle.nm_types.specs.declared.args.SetAttrArgs.{SetAttrArgs}
use Rattle.nm_types.specs.declared.args.WriteArgs.{WriteArgs}
use Rattle.nm_types.specs.Wire.{stateid_bytes}
use Rattle.nm_items.specs.Parts.{bitmap, bitmap_at, ref_at, IsStateRef, fattr, fattr_at, AreAttributes}
use Rattle.nm_args.specs.Parts.{IsWord, IsHyper, stable_number, stable_at}

-- ---- ACCESS (ACCESS4args)

unfoldable pub access : AccessArgs → List ℕ
access a = word a.access

unfoldable pub access_at : Reading AccessArgs
access_at = field word_at (λ access. made (record { access = access }))

-- ---- COMMIT (COMMIT4args)

unfoldable pub commit : CommitArgs → List ℕ
commit a = structure (hyper a.offset ∷ word a.count ∷ [])

unfoldable pub commit_at : Reading CommitArgs
commit_at = field hyper_at (λ offset. field word_at (λ count. made (record { offset = offset; count = count })))

abbrev pub IsCommit : CommitArgs → Type 0
IsCommit a = IsHyper a.offset × IsWord a.count

-- ---- DELEGRETURN (DELEGRETURN4args)

unfoldable pub deleg_return : DelegReturnArgs → List ℕ
deleg_return a = stateid_bytes a.stateid

unfoldable pub deleg_return_at : Reading DelegReturnArgs
deleg_return_at = field ref_at (λ stateid. made (record { stateid = stateid }))

-- ---- GETATTR (GETATTR4args)

unfoldable pub get_attr : GetAttrArgs → List ℕ
get_attr a = bitmap a.words

unfoldable pub get_attr_at : Reading GetAttrArgs
get_attr_at = field bitmap_at (λ words. made (record { words = words }))

-- ---- READ (READ4args)

unfoldable pub reading : ReadArgs → List ℕ
reading a = structure (stateid_bytes a.stateid ∷ hyper a.offset ∷ word a.count ∷ [])

unfoldable pub reading_at : Reading ReadArgs
reading_at = field ref_at (λ stateid. field hyper_at (λ offset. field word_at (λ count. made (record { stateid = stateid; offset = offset; count = count }))))

abbrev pub IsReading : ReadArgs → Type 0
IsReading a = IsStateRef a.stateid × IsHyper a.offset × IsWord a.count

-- ---- SETATTR (SETATTR4args)

unfoldable pub set_attr : SetAttrArgs → List ℕ
set_attr a = structure (stateid_bytes a.stateid ∷ fattr a.attributes ∷ [])

unfoldable pub set_attr_at : Reading SetAttrArgs
set_attr_at = field ref_at (λ stateid. field fattr_at (λ attributes. made (record { stateid = stateid; attributes = attributes })))

abbrev pub IsSetAttr : SetAttrArgs → Type 0
IsSetAttr a = IsStateRef a.stateid × AreAttributes a.attributes

-- ---- WRITE (WRITE4args)

unfoldable pub writing : WriteArgs → List ℕ
writing a = structure (stateid_bytes a.stateid ∷ hyper a.offset ∷ word (stable_number a.stable) ∷ opaque a.data ∷ [])

unfoldable pub writing_at : Reading WriteArgs
writing_at =
    field ref_at (λ stateid. field hyper_at (λ offset. field stable_at (λ stable. field (bytes_at 1048576) (λ bytes.
    made (record { stateid = stateid; offset = offset; stable = stable; «data» = bytes })))))

abbrev pub IsWriting : WriteArgs → Type 0
IsWriting a = IsStateRef a.stateid × IsHyper a.offset × (length a.data ≤ 1048576)
