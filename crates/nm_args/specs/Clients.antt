-- The arguments of operations on clients (RFC 7531). A verifier's 8 bytes are read as one number.
use Rattle.std.specs.Prelude.{ℕ, List, [], ◌∷◌}
use Rattle.nm_xdr.specs.Fields.{Reading, field, made}
use Rattle.nm_xdr.specs.Items.{word, hyper, opaque, structure, word_at, hyper_at}
use Rattle.nm_args.specs.declared.op.SetClientIdArgs.{SetClientIdArgs}
use Rattle.nm_args.specs.declared.op.SetClientIdConfirmArgs.{SetClientIdConfirmArgs}
use Rattle.nm_args.specs.Parts.{IsWord, IsHyper, text_at, IsText}

-- ---- SETCLIENTID (SETCLIENTID4args: nfs_client_id4, cb_client4, the callback's ident)

-- where the callbacks go (clientaddr4): a netid and an address
unfoldable pub address : List ℕ × List ℕ → List ℕ
address a = structure (opaque a.0 ∷ opaque a.1 ∷ [])

unfoldable pub address_at : Reading (List ℕ × List ℕ)
address_at = field text_at (λ netid. field text_at (λ addr. made (netid, addr)))

unfoldable pub set_client : SetClientIdArgs → List ℕ
set_client a = structure (hyper a.verifier ∷ opaque a.id ∷ word a.program ∷ address (a.netid, a.addr) ∷ word a.ident ∷ [])

unfoldable pub set_client_at : Reading SetClientIdArgs
set_client_at =
    field hyper_at (λ verifier. field text_at (λ id. field word_at (λ program. field address_at (λ a. field word_at (λ ident.
    made (record { verifier = verifier; id = id; program = program; netid = a.0; addr = a.1; ident = ident }))))))

pub record IsSetClient (a : SetClientIdArgs) : Type 0 where
  pub verifier : IsHyper a.verifier
  pub id : IsText a.id
  pub program : IsWord a.program
  pub netid : IsText a.netid
  pub addr : IsText a.addr
  pub ident : IsWord a.ident

-- ---- SETCLIENTID_CONFIRM (SETCLIENTID_CONFIRM4args)

unfoldable pub confirm_client : SetClientIdConfirmArgs → List ℕ
confirm_client a = structure (hyper a.clientid ∷ hyper a.verifier ∷ [])

unfoldable pub confirm_client_at : Reading SetClientIdConfirmArgs
confirm_client_at = field hyper_at (λ clientid. field hyper_at (λ verifier. made (record { clientid = clientid; verifier = verifier })))

abbrev pub IsConfirmClient : SetClientIdConfirmArgs → Type 0
IsConfirmClient a = IsHyper a.clientid × IsHyper a.verifier
