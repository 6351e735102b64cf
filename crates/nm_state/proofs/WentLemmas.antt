-- What operations on opens do whose turn it is.
use Rattle.std.proofs.Common.{◌≡◌, ℕ, ◌+◌, Bool, true, false, cond, Option, Some, None, Result, Ok, Err, refl, ap, sym, subst, ◌∙◌}
use Rattle.std.specs.Prelude.{IfSome, IsSome, option_map}
use Rattle.std.proofs.lemmas.Bool.{not-false}
use Rattle.nm_rules.specs.Answer.{checks, refused_value, reply_by, reply_with}
use Rattle.nm_rules.specs.Checks.{Checks, behind_seqid, refusal}
use Rattle.nm_rules.specs.Contents.{file_at, tree_after}
use Rattle.nm_rules.specs.Opens.{changed_stateid, close_checks, confirm_checks, downgrade_checks, file_to_open, is_narrower, next_stateid, open_checks, open_value, row_to_open}
use Rattle.nm_types.specs.Parties.{Party}
use Rattle.nm_rules.specs.LockRows.{locks_after, ranges_after}
use Rattle.nm_rules.specs.LockRows.LockWord.{ClosedWith}
use Rattle.nm_rules.specs.Past.{claimed_name, closed_by, deed_words, open_tree, opener, started_by, with_owners}
use Rattle.nm_rules.specs.Seen.{Seen, after_words, look}
use Rattle.nm_rules.specs.Seqids.{closed_after, owners_after}
use Rattle.nm_rules.specs.Seqids.OwnerWord.{Stays}
use Rattle.nm_rules.specs.Shares.{narrowed_row, open_at, open_of, opens_after, put_if, put_open, renewed_row}
use Rattle.nm_rules.specs.Shares.OpenWord.{Drop}
use Rattle.nm_rules.specs.Sound.{rises}
use Rattle.nm_rules.specs.Stateids.{confirm_stop, live_stop, open_named}
use Rattle.nm_types.specs.declared.args.CloseArgs.{CloseArgs}
use Rattle.nm_types.specs.declared.args.OpenArgs.{OpenArgs}
use Rattle.nm_types.specs.declared.args.OpenConfirmArgs.{OpenConfirmArgs}
use Rattle.nm_types.specs.declared.args.OpenDowngradeArgs.{OpenDowngradeArgs}
use Rattle.nm_types.specs.declared.calls.Call.{Call}
use Rattle.nm_types.specs.declared.calls.Deed.TheVariants as deed
use Rattle.nm_types.specs.declared.calls.Owner.{Owner}
use Rattle.nm_types.specs.declared.calls.ReplyValue.TheVariants as told
use Rattle.nm_types.specs.declared.calls.StateId.{StateId}
use Rattle.nm_types.specs.declared.calls.StateRef.{StateRef}
use Rattle.nm_types.specs.declared.calls.Verdict.{Verdict}
use Rattle.nm_types.specs.declared.results.Opened.{Opened}
use Rattle.nm_types.specs.declared.rows.OpenRow.{OpenRow}
use Rattle.nm_types.specs.declared.status.OpStatus.{OpStatus}
use Rattle.nm_types.specs.declared.status.OpStatus.TheVariants.{Inval, Nfs4Ok}
use Rattle.nm_rules.proofs.Classes.{or_none, refuse_if-none}
use Rattle.nm_rules.proofs.Legal.{claimed_is_target, drew_new, named_is_live, same_row}
use Rattle.nm_shares.specs.Rows.{downgrade_answer, last_after, renewed_state, row_to_take}
use Rattle.nm_shares.specs.declared.state.State.{State}
use Rattle.nm_state.specs.Locking.{after_locks}
use Rattle.nm_state.specs.Opening.{after_open, after_opens, after_taking, after_word, open_word}
use Rattle.nm_state.specs.Turns.{Went, reply_behind}
use Rattle.nm_state.proofs.OpeningLemmas.{is_plain, plain_refusal}
use Rattle.nm_state.proofs.TurnLemmas.{went_refused_as}

-- ---- refusals

-- an operation that a class behind the seqid refuses
pub went_refused : (s : Seen) (call : Call) (verdict : Verdict) (status : OpStatus) → is_plain call.deed ≡ true
    → Some status ≡ behind_seqid (checks s call.caller call.file verdict call.deed)
    → Went s call verdict (reply_with status (refused_value call.deed)) None Stays s
went_refused s call verdict status plain stops =
    subst (λ v. Went s call verdict (reply_with status v) None Stays s) (plain_refusal s call.caller call.file call.deed status plain)
    (went_refused_as s call verdict status stops)

-- ---- OPEN

-- An OPEN that nothing stops leaves its file and its open.
leaves_open : (s : Seen) (party : Party) (file : ℕ) (args : OpenArgs) → rises 0 s.last s.opens ≡ true
    → after_open s party file args
    ≡ after_words s (with_owners (deed_words (look s) (Some party) file (deed.Open args) (told.Open (open_value s (Some party) file args))) Stays Stays)
unfolding after_words opens_after owners_after closed_after locks_after ranges_after look open_value row_to_open row_to_take last_after after_taking after_word open_word after_open
leaves_open s party file args rising =
    let owner : Owner = opener party args in
    let its_file : ℕ = file_to_open s file args in
    let named = sym (claimed_is_target s.tree.table file (claimed_name args.claim)) in
    let same = sym (same_row s.last s.opens owner its_file args.access args.deny rising (open_of owner its_file s.opens) refl) in
    let drew = sym (drew_new s.last s.opens owner its_file args.access args.deny rising (open_of owner its_file s.opens) refl) in
    λ i. record {
      fs = s.fs;
      grants = s.grants;
      tree = tree_after (open_tree (file_at its_file s.tree.table) file (claimed_name args.claim) args.opentype (named i) its_file) s.tree;
      opens = put_open (same i) s.opens;
      owners = s.owners;
      closed = s.closed;
      locks = s.locks;
      ranges = s.ranges;
      last = cond (drew i) (s.last + 1) s.last;
    }

pub told_open : (s : Seen) (party : Party) (file : ℕ) (args : OpenArgs) (verdict : Verdict) (opened : Opened)
    → None ≡ behind_seqid (open_checks s (Some party) file args verdict) → Some opened ≡ open_value s (Some party) file args
    → reply_with Nfs4Ok (told.Open (Some opened)) ≡ reply_behind s (record { caller = Some party; file = file; deed = deed.Open args }) verdict
told_open s party file args verdict opened goes value =
    ap (λ v. reply_with Nfs4Ok (told.Open v)) value ∙ ap (λ x. reply_by s (record { caller = Some party; file = file; deed = deed.Open args }) (refusal x)) goes

pub went_open : (s : Seen) (party : Party) (file : ℕ) (args : OpenArgs) (verdict : Verdict) (opened : Opened) → rises 0 s.last s.opens ≡ true
    → None ≡ behind_seqid (open_checks s (Some party) file args verdict) → Some opened ≡ open_value s (Some party) file args
    → Went s (record { caller = Some party; file = file; deed = deed.Open args }) verdict (reply_with Nfs4Ok (told.Open (Some opened))) None Stays (after_open s party file args)
unfolding closed_by started_by
went_open s party file args verdict opened rising goes value = record {
  answer = told_open s party file args verdict opened goes value;
  tables = leaves_open s party file args rising ∙ ap (λ v. after_words s (with_owners (deed_words (look s) (Some party) file (deed.Open args) (told.Open v)) Stays Stays)) (sym value);
  closed = refl;
  started = refl;
}

-- ---- CLOSE, OPEN_CONFIRM and OPEN_DOWNGRADE

-- what a stateid that is changed names is found by the counter that is told
pub changed_row : (s : Seen) (stateid : StateRef) (id : StateId) → changed_stateid s stateid ≡ Some id → open_named s stateid ≡ open_at id.counter s.opens
unfolding changed_stateid
changed_row s stateid id value = by_row (open_named s stateid) refl value
  where
    by_row : (o : Option OpenRow) → open_named s stateid ≡ o → option_map (next_stateid s.fs) o ≡ Some id → o ≡ open_at id.counter s.opens
    by_row None named told = cc
    by_row (Some row) named told =
        let it : row.counter ≡ id.counter = cc in
        sym (named_is_live s stateid row named) ∙ ap (λ k. open_at k s.opens) it

-- so it is live
pub changed_live : (s : Seen) (stateid : StateRef) (id : StateId) → IsSome (open_named s stateid) → changed_stateid s stateid ≡ Some id → IsSome (open_at id.counter s.opens)
changed_live s stateid id live value = subst (λ o. IsSome o) (changed_row s stateid id value) live

-- what no class behind the seqid refuses
record FreeBehind (c : Checks) : Type 0 where
  pub arguments : c.arguments ≡ None
  pub stale : c.stale ≡ None

free_behind : (c : Checks) → None ≡ behind_seqid c → FreeBehind c
free_behind c goes =
    let missing = (or_none c.lease _ (sym goes)).1 in
    let kind = (or_none c.missing _ missing).1 in
    let arguments = or_none c.arguments _ (or_none c.kind _ kind).1 in
    record { arguments = arguments.0; stale = (or_none c.stale _ arguments.1).0 }

named_live : (s : Seen) (file : ℕ) (stateid : StateRef) (o : Option OpenRow) → live_stop s file stateid 0 o ≡ None → IsSome o
unfolding live_stop
named_live s file stateid None free = cc
named_live s file stateid (Some row) free = refl

named_confirm : (s : Seen) (file : ℕ) (stateid : StateRef) (o : Option OpenRow) → confirm_stop s file stateid o ≡ None → IsSome o
unfolding confirm_stop
named_confirm s file stateid None free = cc
named_confirm s file stateid (Some row) free = refl

pub close_names : (s : Seen) (caller : Option Party) (file : ℕ) (args : CloseArgs) (verdict : Verdict)
    → None ≡ behind_seqid (close_checks s caller file args verdict) → IsSome (open_named s args.stateid)
unfolding close_checks
close_names s caller file args verdict goes =
    named_live s file args.stateid (open_named s args.stateid) (free_behind (close_checks s caller file args verdict) goes).stale

pub confirm_names : (s : Seen) (caller : Option Party) (file : ℕ) (args : OpenConfirmArgs) (verdict : Verdict)
    → None ≡ behind_seqid (confirm_checks s caller file args verdict) → IsSome (open_named s args.stateid)
unfolding confirm_checks
confirm_names s caller file args verdict goes =
    named_confirm s file args.stateid (open_named s args.stateid) (free_behind (confirm_checks s caller file args verdict) goes).stale

pub downgrade_names : (s : Seen) (caller : Option Party) (file : ℕ) (args : OpenDowngradeArgs) (verdict : Verdict)
    → None ≡ behind_seqid (downgrade_checks s caller file args verdict) → IsSome (open_named s args.stateid)
unfolding downgrade_checks
downgrade_names s caller file args verdict goes =
    named_live s file args.stateid (open_named s args.stateid) (free_behind (downgrade_checks s caller file args verdict) goes).stale

-- an OPEN_DOWNGRADE asks for no more than there is
pub downgrade_narrows : (s : Seen) (caller : Option Party) (file : ℕ) (args : OpenDowngradeArgs) (verdict : Verdict) (id : StateId)
    → None ≡ behind_seqid (downgrade_checks s caller file args verdict) → changed_stateid s args.stateid ≡ Some id
    → is_narrower args.access args.deny (open_at id.counter s.opens) ≡ true
unfolding downgrade_checks
downgrade_narrows s caller file args verdict id goes value =
    ap (is_narrower args.access args.deny) (sym (changed_row s args.stateid id value))
    ∙ not-false (is_narrower args.access args.deny (open_named s args.stateid))
    (refuse_if-none _ Inval (free_behind (downgrade_checks s caller file args verdict) goes).arguments)

-- so that it isn't refused for that
pub none_narrower : (o : Option OpenRow) (access deny : ℕ) (r : Result State OpStatus) (status : OpStatus) → IsSome o → is_narrower access deny o ≡ true
    → IfSome o (λ row. r ≡ downgrade_answer row access deny) → r ≡ Err status → ⊥
unfolding downgrade_answer
none_narrower None access deny r status live narrower answers refused = cc
none_narrower (Some row) access deny r status live narrower answers refused = by_test (is_narrower access deny (Some row)) narrower answers
  where
    by_test : (b : Bool) → b ≡ true → r ≡ cond b (Ok (renewed_state row)) (Err Inval) → ⊥
    by_test true h its = cc
    by_test false h its = cc

-- what is told
pub told_close : (s : Seen) (caller : Option Party) (file : ℕ) (args : CloseArgs) (verdict : Verdict) (id : StateId)
    → None ≡ behind_seqid (close_checks s caller file args verdict) → changed_stateid s args.stateid ≡ Some id
    → reply_with Nfs4Ok (told.Close (Some id)) ≡ reply_behind s (record { caller = caller; file = file; deed = deed.Close args }) verdict
told_close s caller file args verdict id goes value =
    ap (λ v. reply_with Nfs4Ok (told.Close v)) (sym value) ∙ ap (λ x. reply_by s (record { caller = caller; file = file; deed = deed.Close args }) (refusal x)) goes

pub went_close : (s : Seen) (caller : Option Party) (file : ℕ) (args : CloseArgs) (verdict : Verdict) (id : StateId) (row : OpenRow)
    → None ≡ behind_seqid (close_checks s caller file args verdict) → changed_stateid s args.stateid ≡ Some id
    → Some row ≡ option_map renewed_row (open_at id.counter s.opens)
    → Went s (record { caller = caller; file = file; deed = deed.Close args }) verdict (reply_with Nfs4Ok (told.Close (Some id))) (Some row) Stays
    (after_locks (ClosedWith id.counter) (after_opens (Drop id.counter) s))
unfolding after_words tree_after owners_after closed_after after_opens after_locks closed_by started_by look
went_close s caller file args verdict id row goes value its = record {
  answer = told_close s caller file args verdict id goes value;
  tables = refl;
  closed = its;
  started = refl;
}

pub told_confirm : (s : Seen) (caller : Option Party) (file : ℕ) (args : OpenConfirmArgs) (verdict : Verdict) (id : StateId)
    → None ≡ behind_seqid (confirm_checks s caller file args verdict) → changed_stateid s args.stateid ≡ Some id
    → reply_with Nfs4Ok (told.OpenConfirm (Some id)) ≡ reply_behind s (record { caller = caller; file = file; deed = deed.OpenConfirm args }) verdict
told_confirm s caller file args verdict id goes value =
    ap (λ v. reply_with Nfs4Ok (told.OpenConfirm v)) (sym value) ∙ ap (λ x. reply_by s (record { caller = caller; file = file; deed = deed.OpenConfirm args }) (refusal x)) goes

pub went_confirm : (s : Seen) (caller : Option Party) (file : ℕ) (args : OpenConfirmArgs) (verdict : Verdict) (id : StateId)
    → None ≡ behind_seqid (confirm_checks s caller file args verdict) → changed_stateid s args.stateid ≡ Some id
    → Went s (record { caller = caller; file = file; deed = deed.OpenConfirm args }) verdict (reply_with Nfs4Ok (told.OpenConfirm (Some id))) None Stays
    (after_opens (put_if (option_map renewed_row (open_at id.counter s.opens))) s)
unfolding after_words tree_after owners_after closed_after locks_after ranges_after after_opens closed_by started_by look
went_confirm s caller file args verdict id goes value = record {
  answer = told_confirm s caller file args verdict id goes value;
  tables = refl;
  closed = refl;
  started = refl;
}

pub told_downgrade : (s : Seen) (caller : Option Party) (file : ℕ) (args : OpenDowngradeArgs) (verdict : Verdict) (id : StateId)
    → None ≡ behind_seqid (downgrade_checks s caller file args verdict) → changed_stateid s args.stateid ≡ Some id
    → reply_with Nfs4Ok (told.OpenDowngrade (Some id)) ≡ reply_behind s (record { caller = caller; file = file; deed = deed.OpenDowngrade args }) verdict
told_downgrade s caller file args verdict id goes value =
    ap (λ v. reply_with Nfs4Ok (told.OpenDowngrade v)) (sym value) ∙ ap (λ x. reply_by s (record { caller = caller; file = file; deed = deed.OpenDowngrade args }) (refusal x)) goes

pub went_downgrade : (s : Seen) (caller : Option Party) (file : ℕ) (args : OpenDowngradeArgs) (verdict : Verdict) (id : StateId)
    → None ≡ behind_seqid (downgrade_checks s caller file args verdict) → changed_stateid s args.stateid ≡ Some id
    → Went s (record { caller = caller; file = file; deed = deed.OpenDowngrade args }) verdict (reply_with Nfs4Ok (told.OpenDowngrade (Some id))) None Stays
    (after_opens (put_if (option_map (narrowed_row args.access args.deny) (open_at id.counter s.opens))) s)
unfolding after_words tree_after owners_after closed_after locks_after ranges_after after_opens closed_by started_by look
went_downgrade s caller file args verdict id goes value = record {
  answer = told_downgrade s caller file args verdict id goes value;
  tables = refl;
  closed = refl;
  started = refl;
}
