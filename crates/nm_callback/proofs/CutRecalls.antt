-- A recall that is cut is refused at the item in which it is cut.
use Rattle.std.proofs.Common.{◌≡◌, ◌≢◌, ℕ, ◌+◌, ◌-◌, ◌^◌, ◌≤◌, ◌<◌, Bool, false, List, [], ◌∷◌, ◌++◌, length, Option, Result, Ok, Err, refl, sym, ap, subst, ◌∙◌, append_assoc, arith}
use Rattle.std.proofs.lemmas.List.{append-nil, length-append}
use Rattle.nm_xdr.specs.Fields.{Flaw, short, Fault, Reading, ◌>>=◌, fault_at, field, made, tested, IsItem, IsShortWhereCut}
use Rattle.nm_xdr.specs.Items.{word, hyper, flag, padding_of, fixed, opaque, structure, word_at, hyper_at, flag_at, bytes_at, only_at, choice_at}
use Rattle.nm_xdr.proofs.CutLaws.{word_cut, hyper_cut, flag_cut, bytes_cut, only_cut, choice_cut}
use Rattle.nm_xdr.proofs.ByteLaws.{only_item, choice_item, bytes_item}
use Rattle.nm_items.specs.Parts.{stateid, other_at, stateid_at, named_by, handle_at, IsStateId}
use Rattle.nm_items.proofs.PartItems.{other, other_item, stateid_parts, stateid_item, handle_item, handle_length}
use Rattle.nm_xdr.proofs.ItemLaws.{word_item, hyper_item, flag_item}
use Rattle.nm_xdr.specs.Fields.{or_missing}
use Rattle.nm_rpc.specs.Messages.{CallHeader, parts, header, auth_at, EndsWithin}
use Rattle.nm_rpc.proofs.HeaderLaws.{auth_item}
use Rattle.nm_types.specs.declared.calls.StateId.{StateId}
use Rattle.nm_types.specs.declared.wire.Handle.{Handle}
use Rattle.nm_types.specs.Wire.{handle_bytes, handle_of, IsHandle}
use Rattle.nm_callback.specs.declared.callback.Callback.{Callback}
use Rattle.nm_callback.specs.declared.callback.Callback.TheVariants.{Recall}
use Rattle.nm_callback.specs.declared.callback.CallbackFault.TheVariants.{At}
use Rattle.nm_callback.specs.Callbacks.{recalls, operation, compound, body, written_header, recall, opening_at, recall_at, operation_at, compound_at, body_at, callback_at, closed, placed, callback_of, recall_items, CanBeRecalled}
use Rattle.nm_callback.proofs.OpeningLaws.{IsOpening, opened, opening_again}
use Rattle.nm_xdr.proofs.CutStructures.{CutIn, Cuts, structure-append, cut_none, cut_items, cut_field}
use Rattle.nm_callback.proofs.WrittenLaws.{written_opening}

-- ---- Items

-- the 12 bytes of a stateid behind its seqid
other_cut : IsShortWhereCut other_at other (λ o. (o.0 < 2 ^ 32) × (o.1 < 2 ^ 64))
unfolding other_at
other_cut o front more fits some e =
    let cuts : Cuts (field word_at (λ fs. field hyper_at (λ counter. made (fs, counter)))) (word o.0 ∷ hyper o.1 ∷ []) =
    cut_field word_item word_cut (λ fs. field hyper_at (λ counter. made (fs, counter))) o.0 _ fits.0 (
    cut_field hyper_item hyper_cut (λ counter. made (o.0, counter)) o.1 _ fits.1 (
    cut_none (made (o.0, o.1)))) in
    ap (or_missing front) (cuts front more some (ap (λ (b : List ℕ). word o.0 ++ b) (append-nil (hyper o.1)) ∙ e)).fault

handle_cut : IsShortWhereCut handle_at (λ h. opaque (handle_bytes h)) IsHandle
unfolding handle_at
handle_cut h front more fits some e =
    let len : length (handle_bytes h) ≤ 128 = omega (arith, handle_length h) in
    ap (λ (r : Result (List ℕ × List ℕ) Fault). r >>= λ b. named_by (handle_of b.0) front b.1) (bytes_cut 128 (omega arith) (handle_bytes h) front more len some e)

-- ---- The parts of a recall

opening_cut : (h : CallHeader) → IsOpening h → Cuts opening_at (parts h)
unfolding opening_at
opening_cut h o =
    cut_field word_item word_cut _ h.xid _ o.fits.xid (
    cut_field (only_item 0 (omega arith)) (only_cut 0 (omega arith)) _ h.kind _ o.kind (
    cut_field (only_item 2 (omega arith)) (only_cut 2 (omega arith)) _ h.rpc_version _ o.rpc_version (
    cut_field word_item word_cut _ h.program _ o.fits.program (
    cut_field (only_item 1 (omega arith)) (only_cut 1 (omega arith)) _ h.version _ o.version (
    cut_field choice_item choice_cut _ h.procedure _ o.procedure (
    cut_field word_item word_cut _ h.flavor _ o.fits.flavor (
    cut_field auth_item (bytes_cut 400 (omega arith)) _ h.credential _ o.fits.credential (
    cut_field word_item word_cut _ h.verifier_flavor _ o.fits.verifier_flavor (
    cut_field auth_item (bytes_cut 400 (omega arith)) _ h.verifier _ o.fits.verifier (
    cut_none (made (opened h))))))))))))

stateid_cut : (s : StateId) → IsStateId s → Cuts stateid_at (word s.seqid ∷ other (s.fs, s.counter) ∷ [])
unfolding stateid_at
stateid_cut s fits =
    cut_field word_item word_cut _ s.seqid _ fits.seqid (
    cut_field other_item other_cut _ (s.fs, s.counter) _ (fits.fs, fits.counter) (
    cut_none (made s)))

state_spelled : (s : StateId) (rest : List ℕ) → structure (word s.seqid ∷ other (s.fs, s.counter) ∷ []) ++ rest ≡ stateid s ++ rest
state_spelled s rest =
    ap (λ (b : List ℕ). (word s.seqid ++ b) ++ rest) (append-nil (other (s.fs, s.counter))) ∙ ap (λ (b : List ℕ). b ++ rest) (sym (stateid_parts s))

recall_cut : (xid ident : ℕ) (s : StateId) (h : Handle) → IsStateId s → IsHandle h
    → Cuts (recall_at xid ident) (word s.seqid ∷ other (s.fs, s.counter) ∷ flag false ∷ opaque (handle_bytes h) ∷ [])
unfolding recall_at
recall_cut xid ident s h state handle =
    cut_items _ s (word s.seqid ∷ other (s.fs, s.counter) ∷ []) _ (stateid_cut s state) (λ rest. ap (λ (b : List ℕ). stateid_at b) (state_spelled s rest) ∙ stateid_item.again s rest state) (
    cut_field flag_item flag_cut _ false _ tt (
    cut_field handle_item handle_cut _ h _ handle (
    cut_none (made (Recall xid ident s h)))))

-- the items behind the header
abbrev behind_items : ℕ → StateId → Handle → List (List ℕ)
behind_items ident s h =
    opaque [] ∷ word 0 ∷ word ident ∷ word 1 ∷ word 4 ∷ word s.seqid ∷ other (s.fs, s.counter) ∷ flag false ∷ opaque (handle_bytes h) ∷ []

operation_cut : (xid ident : ℕ) (s : StateId) (h : Handle) → IsStateId s → IsHandle h
    → Cuts (operation_at xid ident 4) (word s.seqid ∷ other (s.fs, s.counter) ∷ flag false ∷ opaque (handle_bytes h) ∷ [])
unfolding operation_at
operation_cut xid ident s h state handle = recall_cut xid ident s h state handle

compound_cut : (xid ident : ℕ) (s : StateId) (h : Handle) → ident < 2 ^ 32 → IsStateId s → IsHandle h → Cuts (compound_at xid) (behind_items ident s h)
unfolding compound_at
compound_cut xid ident s h small state handle =
    cut_field (bytes_item 1024 (omega arith)) (bytes_cut 1024 (omega arith)) _ [] _ (omega arith) (
    cut_field word_item word_cut _ 0 _ (omega arith) (
    cut_field word_item word_cut _ ident _ small (
    cut_field (only_item 1 (omega arith)) (only_cut 1 (omega arith)) _ 1 _ refl (
    cut_field word_item word_cut (operation_at xid ident) 4 _ (omega arith) (
    operation_cut xid ident s h state handle)))))

body_cut : (xid ident : ℕ) (s : StateId) (h : Handle) → ident < 2 ^ 32 → IsStateId s → IsHandle h → Cuts (body_at (xid, 1)) (behind_items ident s h)
unfolding body_at
body_cut xid ident s h small state handle = compound_cut xid ident s h small state handle

header_spelled : (h : CallHeader) → structure (parts h) ≡ header h
unfolding header
header_spelled h = refl

callback_cut : (xid program ident : ℕ) (s : StateId) (h : Handle) → CanBeRecalled xid program ident s h
    → Cuts callback_at (parts (written_header xid program) ++ behind_items ident s h)
unfolding callback_at
callback_cut xid program ident s h can =
    let opening : IsOpening (written_header xid program) = written_opening xid program can.is_xid can.is_program in
    cut_items body_at (xid, 1) (parts (written_header xid program)) (behind_items ident s h) (opening_cut (written_header xid program) opening)
    (λ rest. ap (λ (b : List ℕ). opening_at (b ++ rest)) (header_spelled (written_header xid program)) ∙ opening_again (written_header xid program) rest opening)
    (body_cut xid ident s h can.is_ident can.is_state can.is_handle)

-- ---- The place that is told

-- what stands behind the header, as its items
behind_spelled : (ident : ℕ) (s : StateId) (h : Handle) → structure (behind_items ident s h) ≡ body (compound [] 0 ident (recalls s false h))
unfolding body operation
behind_spelled ident s h =
    let tail : List ℕ = flag false ++ (opaque (handle_bytes h) ++ []) in
    ap (λ (b : List ℕ). opaque [] ++ (word 0 ++ (word ident ++ (word 1 ++ b))))
    (ap (λ (b : List ℕ). word 4 ++ b) (sym (append_assoc (word s.seqid) (other (s.fs, s.counter)) tail) ∙ ap (λ (b : List ℕ). b ++ tail) (sym (stateid_parts s)))
    ∙ sym (append-nil (word 4 ++ (stateid s ++ tail))))

-- A recall is its items, one after the other.
recall_spelled : (xid program ident : ℕ) (s : StateId) (h : Handle)
    → structure (parts (written_header xid program) ++ behind_items ident s h) ≡ recall xid program ident s h
unfolding recall header
recall_spelled xid program ident s h =
    structure-append (parts (written_header xid program)) (behind_items ident s h)
    ∙ ap (λ (b : List ℕ). structure (parts (written_header xid program)) ++ b) (behind_spelled ident s h)

told_place : (items : List (List ℕ)) (front : List ℕ) (r : Result (Callback × List ℕ) Fault) → CutIn items front r
    → (at : ℕ) × EndsWithin items front at × (placed (length front) (r >>= λ x. closed x.0 x.1) ≡ Err (At at))
told_place items front r c =
    let long : length front ≡ length (structure c.before) + length c.piece = ap length c.is_front ∙ length-append (structure c.before) c.piece in
    let place : length front - length c.piece ≡ length (structure c.before) = omega (arith, long) in (
      length (structure c.before),
      record {
        before = c.before;
        cut = c.cut;
        behind = c.behind;
        split = c.split;
        is_place = refl;
        begun = omega (arith, long);
        ended = omega (arith, long, c.shorter);
      },
      ap (λ (g : Result (Callback × List ℕ) Fault). placed (length front) (g >>= λ x. closed x.0 x.1)) c.fault ∙ ap (λ (n : ℕ). Err (At n)) place,
    )

pub cut_is_refused : (xid program ident : ℕ) (state : StateId) (handle : Handle) (front more : List ℕ) → CanBeRecalled xid program ident state handle
    → recall xid program ident state handle ≡ front ++ more → more ≢ []
    → (at : ℕ) × EndsWithin (recall_items xid program ident state handle) front at × (callback_of front ≡ Err (At at))
unfolding callback_of
cut_is_refused xid program ident state handle front more can e some =
    told_place (parts (written_header xid program) ++ behind_items ident state handle) front (callback_at front)
    (callback_cut xid program ident state handle can front more some (recall_spelled xid program ident state handle ∙ e))
