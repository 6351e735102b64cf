-- In every legal list a READ that told bytes and a WRITE that wrote were let in by their stateids.
use Rattle.std.proofs.Common.{◌≡◌, ℕ, zero, suc, pow_pos, ◌*◌, ◌^◌, Bool, true, false, cond, List, [], ◌∷◌, Option, Some, None, refl, ap, sym, subst, ◌∙◌, arith, eqb-true}
use Rattle.std.specs.Prelude.{◌==◌, ◌&&◌, ◌||◌, not, option_map, bit_and, min}
use Rattle.std.specs.Int.{bit_at}
use Rattle.std.specs.Option.{option_or}
use Rattle.std.proofs.lemmas.Bool.{false≢true, true≢false, eqb-false, and_parts}
use Rattle.std.proofs.lemmas.Bool.Decides.{nat_tests}
use Rattle.std.proofs.lemmas.Nat.{and_comm}
use Rattle.std.proofs.lemmas.Nat.Bits.{bit_at_and, bit_at-zero, and_pow}
use Rattle.nm_types.specs.Owners.{same_owner}
use Rattle.nm_types.specs.Parties.{Party, same_party}
use Rattle.nm_rules.specs.Attributes.{has_size}
use Rattle.nm_rules.specs.Checks.{Stop, first, refuse_if}
use Rattle.nm_rules.specs.Checks.Stop.{Refuse, Repeat}
use Rattle.nm_rules.specs.Data.{read_checks, write_checks, setattr_checks, size_checks, mode_checks, stale_stop, unresolved_stop, read_denied, write_denied}
use Rattle.nm_rules.specs.LockRows.{lock_at}
use Rattle.nm_rules.specs.Opens.{is_denied}
use Rattle.nm_rules.specs.Past.{Past}
use Rattle.nm_rules.specs.Readings.{Share, share_of, row_share, AreCompatible}
use Rattle.nm_rules.specs.Seen.{Seen, seen, look}
use Rattle.nm_rules.specs.Shares.{meets, open_at, open_of, is_open_of}
use Rattle.nm_rules.specs.Stateids.{any_unresolved, is_own, is_own_lock, open_named, lock_named, resolved, is_owner_confirmed, seqid_stop, given_seqid, mode_stop, stateid_stop, live_stop, access_of, opened_access, lock_stop, lock_live_stop, any_stop}
use Rattle.nm_rules.specs.Answer.{answer_to, reply_by, refusal_value, is_denial, checks, IsLegal}
use Rattle.nm_rules.specs.Sound.{IsSound}
use Rattle.nm_types.specs.declared.args.ReadArgs.{ReadArgs}
use Rattle.nm_types.specs.declared.args.SetAttrArgs.{SetAttrArgs}
use Rattle.nm_types.specs.declared.args.WriteArgs.{WriteArgs}
use Rattle.nm_types.specs.declared.calls.Call.{Call}
use Rattle.nm_types.specs.declared.calls.Deed.TheVariants as deed
use Rattle.nm_types.specs.declared.calls.Event.TheVariants.{Asked}
use Rattle.nm_types.specs.declared.calls.Reply.{Reply}
use Rattle.nm_types.specs.declared.calls.ReplyValue.{ReplyValue}
use Rattle.nm_types.specs.declared.calls.ReplyValue.TheVariants as told
use Rattle.nm_types.specs.declared.calls.StateId.{StateId}
use Rattle.nm_types.specs.declared.calls.StateRef.{StateRef}
use Rattle.nm_types.specs.declared.calls.StateRef.TheVariants.{Zeros, Ones, Named}
use Rattle.nm_types.specs.declared.calls.Verdict.{Verdict}
use Rattle.nm_types.specs.declared.results.ReadOk.{ReadOk}
use Rattle.nm_types.specs.declared.results.WriteOk.{WriteOk}
use Rattle.nm_types.specs.declared.rows.LockRow.{LockRow}
use Rattle.nm_types.specs.declared.rows.OpenRow.{OpenRow}
use Rattle.nm_types.specs.declared.status.OpStatus.{OpStatus}
use Rattle.nm_types.specs.declared.status.OpStatus.TheVariants.{BadStateId, Locked, OpenMode}
use Rattle.nm_rules.proofs.Apart.{apart_in, none_in, open_of-in, open_of-none}
use Rattle.nm_rules.proofs.Classes.{IsFree, all_free, first_repeats, or_none, refuse_if-none}
use Rattle.nm_rules.proofs.KnownLaws.{lock_all_at}
use Rattle.nm_rules.proofs.Legal.{sound-seen}
use Rattle.nm_rules.proofs.LockRowLaws.{lock_at-counter, same_number}
use Rattle.nm_rules.proofs.OpenRows.{IsIn, open_at-in, in-open_at}
use Rattle.nm_rules.proofs.OwnerLemmas.{same_owner-Decides, same_party-Decides}
use Rattle.nm_rules.proofs.ShareLaws.{share-seen, shares_are_compatible}
use Rattle.nm_laws.specs.DataReadings.{opener_of, HasAccess, Permits, IsLetIn, IsFreeFor, MayRead, MayWrite}
use Rattle.nm_laws.specs.StateidRows.{all_are_opened, is_opened_by}
use Rattle.nm_laws.proofs.ClosedCounters.{closed_is_no_lock}
use Rattle.nm_laws.proofs.StateidLives.{locks_are_opened}
use Rattle.nm_laws.proofs.DataLaws.{AreTheirs, LockIs, OpenIs, IsOnFile, all-at, theirs-seen}

-- ---- bits

-- the bit of an access that a deny doesn't meet isn't denied
bit_clear : (x y : ℕ) → (x ≡ 0 → ⊥) → min x y ≡ 0 → y ≡ 0
bit_clear zero y some least = absurd (some refl)
bit_clear (suc x) zero some least = refl
bit_clear (suc x) (suc y) some least = omega (arith, least)

meets_no_more : (k a b : ℕ) → meets (2 ^ k) a ≡ true → meets a b ≡ false → meets (2 ^ k) b ≡ false
meets_no_more k a b has clear =
    ap (λ n. not (n == 0)) (and_comm (2 ^ k) b ∙ and_pow b k ∙ ap (λ x. x * 2 ^ k) (bit_clear (bit_at a k) (bit_at b k) some least) ∙ nothing)
  where
    nothing : 0 * 2 ^ k ≡ 0
    nothing = omega arith

    some : bit_at a k ≡ 0 → ⊥
    some none = false≢true (sym (ap (λ n. not (n == 0)) (and_comm (2 ^ k) a ∙ and_pow a k ∙ ap (λ x. x * 2 ^ k) none ∙ nothing)) ∙ has)

    apart : (n : ℕ) → not (n == 0) ≡ false → n ≡ 0
    apart n h = grind (arith, nat_tests)

    least : min (bit_at a k) (bit_at b k) ≡ 0
    least = sym (bit_at_and a b k) ∙ ap (λ n. bit_at n k) (apart (bit_and a b) clear) ∙ bit_at-zero k

no_access : (access : ℕ) → meets access 0 ≡ false
no_access access = ap (λ n. not (n == 0)) (and_comm access 0)

-- ---- shares

-- a live open is found by its owner and its file
live_of : (s : Seen) (row : OpenRow) → IsSound s → open_at row.counter s.opens ≡ Some row → open_of row.owner row.file s.opens ≡ Some row
live_of s row sound live = by_found (open_of row.owner row.file s.opens) refl
  where
    within : IsIn row s.opens
    within = (open_at-in row.counter s.opens row live).0

    itself : is_open_of row.owner row.file row ≡ true
    itself = rw (same_number row.file row.file refl) ((same_owner-Decides row.owner row.owner).1 refl)

    by_found : (o : Option OpenRow) → open_of row.owner row.file s.opens ≡ o → o ≡ Some row
    by_found None none = absurd (false≢true (sym (open_of-none row.owner row.file s.opens row none within) ∙ itself))
    by_found (Some x) found =
        let at = open_of-in row.owner row.file s.opens x found in
        let parts = and_parts (x.file == row.file) (same_owner row.owner x.owner) at.1 in
        by_counter x at.0 parts.0 parts.1 (x.counter == row.counter) refl
      where
        clash : (f o : Bool) (c : Bool) → f ≡ true → o ≡ true → cond f (not o && c) true ≡ true → ⊥
        clash true true c yes_f yes_o apart = false≢true apart
        clash false o c no_f yes_o apart = false≢true no_f
        clash true false c yes_f no_o apart = false≢true no_o

        by_counter : (x : OpenRow) → IsIn x s.opens → (x.file == row.file) ≡ true → same_owner row.owner x.owner ≡ true
            → (b : Bool) → (x.counter == row.counter) ≡ b → Some x ≡ Some row
        by_counter x at its_file its_owner true same =
            let found : open_at x.counter s.opens ≡ Some x = (in-open_at 0 s.last s.opens x sound.rising at).0 in
            sym found ∙ ap (λ k. open_at k s.opens) (eqb-true x.counter row.counter same) ∙ live
        by_counter x at its_file its_owner false other =
            let owners : x.owner ≡ row.owner = sym ((same_owner-Decides row.owner x.owner).0 its_owner) in
            absurd (clash (x.file == row.file) (same_owner x.owner row.owner) _ its_file ((same_owner-Decides x.owner row.owner).1 owners)
            (apart_in s.opens x row sound.apart at within (eqb-false x.counter row.counter other)))

share_live : (fs : ℕ) (grants : Bool) (es : Past) (row : OpenRow) → IsLegal fs grants es → open_at row.counter (seen fs grants es).opens ≡ Some row
    → share_of es row.owner row.file ≡ Some (row_share row)
share_live fs grants es row legal live =
    share-seen fs grants es row.owner row.file legal ∙ ap (option_map row_share) (live_of (seen fs grants es) row (sound-seen fs grants es legal) live)

or_first : (a b : Bool) → (a || b) ≡ false → a ≡ false
or_first false b h = refl
or_first true b h = absurd (true≢false h)

-- who has an access isn't denied it by another
permitted : (k : ℕ) (a b : Option Share) → HasAccess a (2 ^ k) → AreCompatible a b → Permits b (2 ^ k)
permitted k None b has compatible = absurd has
permitted k (Some a) None has compatible = tt
permitted k (Some a) (Some b) has compatible =
    meets_no_more k a.access b.deny has (or_first (meets a.access b.deny) (meets b.access a.deny) compatible)

-- ---- who is let in

let_in : (fs : ℕ) (grants : Bool) (es : Past) (caller : Option Party) (counter file k : ℕ) (row : OpenRow) → IsLegal fs grants es
    → caller ≡ Some row.owner.instance → open_at row.counter (seen fs grants es).opens ≡ Some row → row.file ≡ file → meets (2 ^ k) row.access ≡ true
    → opener_of es counter ≡ Some row.owner → IsLetIn es caller counter file (2 ^ k)
let_in fs grants es caller counter file k row legal own live its_file has its =
    let share : share_of es row.owner file ≡ Some (row_share row) = ap (share_of es row.owner) (sym its_file) ∙ share_live fs grants es row legal live in
    let can : HasAccess (share_of es row.owner file) (2 ^ k) = subst (λ o. HasAccess o (2 ^ k)) (sym share) has in
    record {
      owner = row.owner;
      own = own;
      its = its;
      can = can;
      others = λ other ne. permitted k (share_of es row.owner file) (share_of es other file) can (shares_are_compatible fs grants es row.owner other file legal ne);
    }

-- what a stateid that nothing stops says of its open
record IsFit (file access its_file its_access : ℕ) : Type 0 where
  same : its_file ≡ file
  has : meets access its_access ≡ true

some_pow : (k : ℕ) → (2 ^ k == 0) ≡ false
some_pow k = by_test (2 ^ k == 0) refl
  where
    by_test : (b : Bool) → (2 ^ k == 0) ≡ b → b ≡ false
    by_test false other = refl
    by_test true none = absurd (omega (arith, eqb-true (2 ^ k) 0 none, pow_pos k))

fit_by : (b c : Bool) (file its_file k its_access : ℕ) (o : Option OpStatus) → (its_file == file) ≡ c
    → cond (b && c) (option_or o (mode_stop (2 ^ k) its_access)) (Some BadStateId) ≡ None → IsFit file (2 ^ k) its_file its_access
fit_by false c file its_file k its_access o same goes = cc
fit_by true false file its_file k its_access o same goes = cc
fit_by true true file its_file k its_access o same goes = record {
  same = eqb-true its_file file same;
  has = by_mode (2 ^ k == 0) (meets (2 ^ k) its_access) (some_pow k) (refuse_if-none _ OpenMode (or_none o (mode_stop (2 ^ k) its_access) goes).1);
}
  where
    by_mode : (z m : Bool) → z ≡ false → (not z && not m) ≡ false → m ≡ true
    by_mode true m none goes = absurd (true≢false none)
    by_mode false true none goes = refl
    by_mode false false none goes = absurd (true≢false goes)

open_is_fit : (s : Seen) (file k : ℕ) (stateid : StateRef) (row : OpenRow) → live_stop s file stateid (2 ^ k) (Some row) ≡ None → IsFit file (2 ^ k) row.file row.access
unfolding live_stop stateid_stop
open_is_fit s file k stateid row goes =
    fit_by (is_owner_confirmed s row) (row.file == file) file row.file k row.access (seqid_stop row.seqid (given_seqid stateid)) refl goes

lock_is_fit : (s : Seen) (file k : ℕ) (stateid : StateRef) (row : LockRow) → lock_live_stop s file stateid (2 ^ k) (Some row) ≡ None
    → IsFit file (2 ^ k) row.file (opened_access s row)
unfolding lock_live_stop lock_stop
lock_is_fit s file k stateid row goes =
    fit_by true (row.file == file) file row.file k (opened_access s row) (seqid_stop row.seqid (given_seqid stateid)) refl goes

-- ---- whose stateid it is

own_open : (caller : Option Party) (row : OpenRow) → is_own caller row ≡ true → caller ≡ Some row.owner.instance
own_open None row own = absurd (false≢true own)
own_open (Some party) row own = ap Some ((same_party-Decides party row.owner.instance).0 own)

own_lock : (caller : Option Party) (row : LockRow) → is_own_lock caller row ≡ true → caller ≡ Some row.owner.instance
own_lock None row own = absurd (false≢true own)
own_lock (Some party) row own = ap Some ((same_party-Decides party row.owner.instance).0 own)

is_so : (b : Bool) (status : OpStatus) → refuse_if (not b) status ≡ None → b ≡ true
is_so true status goes = refl
is_so false status goes = cc

-- the open with which a lock stateid was made is of the same instance
opened_party : (fs : ℕ) (grants : Bool) (es : Past) (k : ℕ) (row : LockRow) (opened : OpenRow) → IsLegal fs grants es → lock_at k (seen fs grants es).locks ≡ Some row
    → open_at row.opened (seen fs grants es).opens ≡ Some opened → opened.owner.instance ≡ row.owner.instance
unfolding all_are_opened
opened_party fs grants es k row opened legal found there =
    let all = locks_are_opened fs grants es legal in
    let is : is_opened_by row (open_at row.opened (seen fs grants es).opens) ≡ true =
    lock_all_at (λ x. is_opened_by x (open_at x.opened (seen fs grants es).opens)) k (seen fs grants es).locks row all found in
    (same_party-Decides opened.owner.instance row.owner.instance).0
    (and_parts (opened.file == row.file) (same_party opened.owner.instance row.owner.instance) (ap (is_opened_by row) (sym there) ∙ is)).1

let_in_lock : (fs : ℕ) (grants : Bool) (es : Past) (caller : Option Party) (counter file k : ℕ) (row : LockRow) → IsLegal fs grants es
    → AreTheirs (look (seen fs grants es)) (opener_of es) → caller ≡ Some row.owner.instance
    → lock_at counter (seen fs grants es).locks ≡ Some row → row.file ≡ file → (o : Option OpenRow) → open_at row.opened (seen fs grants es).opens ≡ o
    → meets (2 ^ k) (access_of o) ≡ true → IsLetIn es caller counter file (2 ^ k)
unfolding look
let_in_lock fs grants es caller counter file k row legal theirs own found its None none has = absurd (false≢true (sym (no_access (2 ^ k)) ∙ has))
let_in_lock fs grants es caller counter file k row legal theirs own found its (Some opened) there has =
    let s : Seen = seen fs grants es in
    let is : LockIs (λ c. open_at c s.opens) s.last (opener_of es) row = all-at _ counter s.locks row theirs.locks found in
    let its_counter : opened.counter ≡ row.opened = (open_at-in row.opened s.opens opened there).1 in
    let on : opened.file ≡ row.file = subst (IsOnFile row.file) there is.file in
    let whose : opener_of es row.opened ≡ Some opened.owner = subst (OpenIs (opener_of es) row.opened) there (theirs.opens row.opened) in
    let_in fs grants es caller counter file k opened legal (own ∙ ap Some (sym (opened_party fs grants es counter row opened legal found there)))
    (ap (λ c. open_at c s.opens) its_counter ∙ there) (on ∙ its) has
    (ap (opener_of es) (sym (lock_at-counter counter s.locks row found)) ∙ is.same ∙ whose)

-- a stateid that isn't live is stopped
dead_lock : (s : Seen) (file : ℕ) (stateid : StateRef) (access : ℕ) → lock_live_stop s file stateid access None ≡ None → ⊥
unfolding lock_live_stop
dead_lock s file stateid access goes = cc

-- no closed open has the counter of a lock owner
unshadowed : (fs : ℕ) (grants : Bool) (es : Past) (caller : Option Party) (k : ℕ) (row : LockRow) → IsLegal fs grants es → lock_at k (seen fs grants es).locks ≡ Some row
    → any_unresolved caller (open_at k (seen fs grants es).closed) (Some row) ≡ None → caller ≡ Some row.owner.instance
unshadowed fs grants es caller k row legal found stands = by_closed (open_at k (seen fs grants es).closed) refl stands
  where
    never : None ≡ Some row → ⊥
    never e = cc

    by_closed : (o : Option OpenRow) → open_at k (seen fs grants es).closed ≡ o → any_unresolved caller o (Some row) ≡ None → caller ≡ Some row.owner.instance
    by_closed None none stands = own_lock caller row (is_so (is_own_lock caller row) BadStateId stands)
    by_closed (Some x) closed stands = absurd (never (sym (closed_is_no_lock fs grants es k x legal closed) ∙ found))

let_in_named : (fs : ℕ) (grants : Bool) (es : Past) (caller : Option Party) (file k : ℕ) (id : StateId) → IsLegal fs grants es
    → unresolved_stop (seen fs grants es) caller (Named id) ≡ None
    → stale_stop (seen fs grants es) file (Named id) (2 ^ k) ≡ None → IsLetIn es caller id.counter file (2 ^ k)
unfolding unresolved_stop resolved stale_stop open_named lock_named any_stop look
let_in_named fs grants es caller file k id legal stands goes = by_fs (id.fs == s.fs) stands goes
  where
    s : Seen
    s = seen fs grants es

    theirs : AreTheirs (look s) (opener_of es)
    theirs = theirs-seen fs grants es legal

    by_lock : (o : Option LockRow) → lock_at id.counter s.locks ≡ o → any_unresolved caller (open_at id.counter s.closed) o ≡ None
        → lock_live_stop s file (Named id) (2 ^ k) o ≡ None → IsLetIn es caller id.counter file (2 ^ k)
    by_lock None none stands goes = absurd (dead_lock s file (Named id) (2 ^ k) goes)
    by_lock (Some row) found stands goes =
        let fit : IsFit file (2 ^ k) row.file (opened_access s row) = lock_is_fit s file k (Named id) row goes in
        let_in_lock fs grants es caller id.counter file k row legal theirs (unshadowed fs grants es caller id.counter row legal found stands) found fit.same
        (open_at row.opened s.opens) refl fit.has

    by_open : (o : Option OpenRow) → open_at id.counter s.opens ≡ o → (l : Option LockRow) → lock_at id.counter s.locks ≡ l
        → any_unresolved caller (option_or o (open_at id.counter s.closed)) l ≡ None
        → any_stop s file (Named id) (2 ^ k) o l ≡ None → IsLetIn es caller id.counter file (2 ^ k)
    by_open None none l found stands goes = by_lock l found stands goes
    by_open (Some row) live l found stands goes =
        let fit : IsFit file (2 ^ k) row.file row.access = open_is_fit s file k (Named id) row goes in
        let_in fs grants es caller id.counter file k row legal (own_open caller row (is_so (is_own caller row) BadStateId stands))
        (ap (λ c. open_at c s.opens) (open_at-in id.counter s.opens row live).1 ∙ live) fit.same fit.has
        (subst (OpenIs (opener_of es) id.counter) live (theirs.opens id.counter))

    by_fs : (b : Bool)
        → any_unresolved caller (cond b (option_or (open_at id.counter s.opens) (open_at id.counter s.closed)) None) (cond b (lock_at id.counter s.locks) None) ≡ None
        → any_stop s file (Named id) (2 ^ k) (cond b (open_at id.counter s.opens) None) (cond b (lock_at id.counter s.locks) None) ≡ None
        → IsLetIn es caller id.counter file (2 ^ k)
    by_fs true stands goes = by_open (open_at id.counter s.opens) refl (lock_at id.counter s.locks) refl stands goes
    by_fs false stands goes = absurd (dead_lock s file (Named id) (2 ^ k) goes)

-- where no open denies it, nobody does
free_for : (fs : ℕ) (grants : Bool) (es : Past) (file access : ℕ) → IsLegal fs grants es → is_denied access file (seen fs grants es).opens ≡ false
    → IsFreeFor es file access
unfolding is_denied
free_for fs grants es file access legal free owner =
    subst (λ o. Permits o access) (sym (share-seen fs grants es owner file legal)) (by_row (open_of owner file s.opens) refl)
  where
    s : Seen
    s = seen fs grants es

    by_file : (b m : Bool) → b ≡ true → (b && m) ≡ false → m ≡ false
    by_file true m same free = free
    by_file false m other free = absurd (false≢true other)

    by_row : (o : Option OpenRow) → open_of owner file s.opens ≡ o → Permits (option_map row_share o) access
    by_row None none = tt
    by_row (Some row) found =
        let at = open_of-in owner file s.opens row found in
        by_file (row.file == file) (meets access row.deny) (and_parts (row.file == file) (same_owner owner row.owner) at.1).0
        (none_in (λ row. (row.file == file) && meets access row.deny) s.opens row free at.0)

-- ---- a reply with a value is that of a call that nothing stops

carried : (s : Seen) (call : Call) (verdict : Verdict) (value : ReplyValue) → (answer_to s (Asked call verdict)).value ≡ value
    → ((status : OpStatus) → refusal_value s call.caller call.file call.deed status ≡ value → ⊥)
    → ((kept : Reply) → (checks s call.caller call.file verdict call.deed).seqid ≡ Some (Repeat kept) → ⊥)
    → first (checks s call.caller call.file verdict call.deed) ≡ None
unfolding answer_to
carried s call verdict value it refused kept_before = by_stop (first (checks s call.caller call.file verdict call.deed)) refl it
  where
    by_stop : (x : Option Stop) → first (checks s call.caller call.file verdict call.deed) ≡ x → (reply_by s call x).value ≡ value → x ≡ None
    by_stop (Some (Refuse status)) stops it = absurd (refused status it)
    by_stop (Some (Repeat kept)) stops it = absurd (kept_before kept (first_repeats (checks s call.caller call.file verdict call.deed) kept stops).1)
    by_stop None goes it = refl

read_goes : (s : Seen) (call : Call) (verdict : Verdict) (args : ReadArgs) (ok : ReadOk) → call.deed ≡ deed.Read args
    → (answer_to s (Asked call verdict)).value ≡ told.Read (Some ok) → first (read_checks s call.caller call.file args verdict) ≡ None
unfolding read_checks
read_goes s call verdict args ok its it =
    subst (λ d. first (checks s call.caller call.file verdict d) ≡ None) its
    (carried s call verdict (told.Read (Some ok)) it
    (λ status e. no_bytes (is_denial status) (subst (λ d. refusal_value s call.caller call.file d status ≡ told.Read (Some ok)) its e))
    (λ kept e. never kept (subst (λ d. (checks s call.caller call.file verdict d).seqid ≡ Some (Repeat kept)) its e)))
  where
    no_bytes : (b : Bool) → cond b (told.Read None) (told.Read None) ≡ told.Read (Some ok) → ⊥
    no_bytes true e = cc
    no_bytes false e = cc

    never : (kept : Reply) → None ≡ Some (Repeat kept) → ⊥
    never kept e = cc

write_goes : (s : Seen) (call : Call) (verdict : Verdict) (args : WriteArgs) (ok : WriteOk) → call.deed ≡ deed.Write args
    → (answer_to s (Asked call verdict)).value ≡ told.Write (Some ok) → first (write_checks s call.caller call.file args verdict) ≡ None
unfolding write_checks
write_goes s call verdict args ok its it =
    subst (λ d. first (checks s call.caller call.file verdict d) ≡ None) its
    (carried s call verdict (told.Write (Some ok)) it
    (λ status e. no_count (is_denial status) (subst (λ d. refusal_value s call.caller call.file d status ≡ told.Write (Some ok)) its e))
    (λ kept e. never kept (subst (λ d. (checks s call.caller call.file verdict d).seqid ≡ Some (Repeat kept)) its e)))
  where
    no_count : (b : Bool) → cond b (told.Write None) (told.Write None) ≡ told.Write (Some ok) → ⊥
    no_count true e = cc
    no_count false e = cc

    never : (kept : Reply) → None ≡ Some (Repeat kept) → ⊥
    never kept e = cc

size_goes : (s : Seen) (call : Call) (verdict : Verdict) (args : SetAttrArgs) (word : ℕ) (words : List ℕ) → call.deed ≡ deed.SetAttr args
    → has_size args.attributes.words ≡ true → (answer_to s (Asked call verdict)).value ≡ told.SetAttr (word ∷ words)
    → first (size_checks s call.caller call.file args verdict) ≡ None
unfolding setattr_checks size_checks mode_checks
size_goes s call verdict args word words its sized it =
    subst (λ b. first (cond b (size_checks s call.caller call.file args verdict) (mode_checks s call.file args verdict)) ≡ None) sized
    (subst (λ d. first (checks s call.caller call.file verdict d) ≡ None) its
    (carried s call verdict (told.SetAttr (word ∷ words)) it
    (λ status e. none_set (is_denial status) (subst (λ d. refusal_value s call.caller call.file d status ≡ told.SetAttr (word ∷ words)) its e))
    (λ kept e. never kept (has_size args.attributes.words) (subst (λ d. (checks s call.caller call.file verdict d).seqid ≡ Some (Repeat kept)) its e))))
  where
    none_set : (b : Bool) → cond b (told.SetAttr []) (told.SetAttr []) ≡ told.SetAttr (word ∷ words) → ⊥
    none_set true e = cc
    none_set false e = cc

    never : (kept : Reply) (b : Bool) → (cond b (size_checks s call.caller call.file args verdict) (mode_checks s call.file args verdict)).seqid ≡ Some (Repeat kept) → ⊥
    never kept true e = cc
    never kept false e = cc

-- ---- the laws

-- a write by a stateid that nothing stops is let in
may_write : (fs : ℕ) (grants : Bool) (es : Past) (caller : Option Party) (file : ℕ) (stateid : StateRef) → IsLegal fs grants es
    → unresolved_stop (seen fs grants es) caller stateid ≡ None → stale_stop (seen fs grants es) file stateid 2 ≡ None
    → write_denied (seen fs grants es) file stateid ≡ false → MayWrite es caller file stateid
unfolding write_denied
may_write fs grants es caller file Zeros legal stands stale free = free_for fs grants es file 2 legal free
may_write fs grants es caller file Ones legal stands stale free = free_for fs grants es file 2 legal free
may_write fs grants es caller file (Named id) legal stands stale free = let_in_named fs grants es caller file 1 id legal stands stale

may_read : (fs : ℕ) (grants : Bool) (es : Past) (caller : Option Party) (file : ℕ) (stateid : StateRef) → IsLegal fs grants es
    → unresolved_stop (seen fs grants es) caller stateid ≡ None → stale_stop (seen fs grants es) file stateid 1 ≡ None
    → read_denied (seen fs grants es) file stateid ≡ false → MayRead es caller file stateid
unfolding read_denied
may_read fs grants es caller file Zeros legal stands stale free = free_for fs grants es file 1 legal free
may_read fs grants es caller file Ones legal stands stale free = tt
may_read fs grants es caller file (Named id) legal stands stale free = let_in_named fs grants es caller file 0 id legal stands stale

pub reads-seen : (fs : ℕ) (grants : Bool) (es : Past) (call : Call) (verdict : Verdict) (args : ReadArgs) (ok : ReadOk) → IsLegal fs grants es
    → call.deed ≡ deed.Read args → (answer_to (seen fs grants es) (Asked call verdict)).value ≡ told.Read (Some ok) → MayRead es call.caller call.file args.stateid
unfolding read_checks
reads-seen fs grants es call verdict args ok legal its it =
    let free : IsFree (read_checks (seen fs grants es) call.caller call.file args verdict) = all_free _ (read_goes (seen fs grants es) call verdict args ok its it) in
    may_read fs grants es call.caller call.file args.stateid legal free.unresolved free.stale (refuse_if-none _ Locked free.conflict)

pub writes-seen : (fs : ℕ) (grants : Bool) (es : Past) (call : Call) (verdict : Verdict) (args : WriteArgs) (ok : WriteOk) → IsLegal fs grants es
    → call.deed ≡ deed.Write args → (answer_to (seen fs grants es) (Asked call verdict)).value ≡ told.Write (Some ok) → MayWrite es call.caller call.file args.stateid
unfolding write_checks
writes-seen fs grants es call verdict args ok legal its it =
    let free : IsFree (write_checks (seen fs grants es) call.caller call.file args verdict) = all_free _ (write_goes (seen fs grants es) call verdict args ok its it) in
    may_write fs grants es call.caller call.file args.stateid legal free.unresolved free.stale (refuse_if-none _ Locked free.conflict)

pub sizes-seen : (fs : ℕ) (grants : Bool) (es : Past) (call : Call) (verdict : Verdict) (args : SetAttrArgs) (word : ℕ) (words : List ℕ) → IsLegal fs grants es
    → call.deed ≡ deed.SetAttr args → has_size args.attributes.words ≡ true → (answer_to (seen fs grants es) (Asked call verdict)).value ≡ told.SetAttr (word ∷ words)
    → MayWrite es call.caller call.file args.stateid
unfolding size_checks
sizes-seen fs grants es call verdict args word words legal its sized it =
    let free : IsFree (size_checks (seen fs grants es) call.caller call.file args verdict) =
    all_free _ (size_goes (seen fs grants es) call verdict args word words its sized it) in
    may_write fs grants es call.caller call.file args.stateid legal free.unresolved free.stale (refuse_if-none _ Locked free.conflict)
