-- What an answer changes, by what stops the call: nothing where it came before, what is kept of its owner where it is refused, and else
-- what its operation does.
use Rattle.std.proofs.Common.{◌≡◌, true, Option, Some, None, refl, sym, subst}
use Rattle.nm_rules.specs.Answer.{answer_to, checks, ok_value, reply_by, reply_with}
use Rattle.nm_rules.specs.Checks.{Stop, first}
use Rattle.nm_rules.specs.Checks.Stop.{Refuse, Repeat}
use Rattle.nm_rules.specs.Past.{Words, deed_words, judgement, no_words, noted, owner_word, seqid_owner, started_by, with_owners, words}
use Rattle.nm_rules.specs.Seen.{Seen, look}
use Rattle.nm_rules.specs.Seqids.{is_fresh}
use Rattle.nm_rules.specs.Seqids.OwnerWord.{Stays}
use Rattle.nm_types.specs.Statuses.{is_done}
use Rattle.nm_types.specs.declared.calls.Call.{Call}
use Rattle.nm_types.specs.declared.calls.Event.TheVariants.{Asked}
use Rattle.nm_types.specs.declared.calls.ReplyValue.{ReplyValue}
use Rattle.nm_types.specs.declared.calls.Verdict.{Verdict}
use Rattle.nm_types.specs.declared.status.OpStatus.{OpStatus}
use Rattle.nm_types.specs.declared.status.OpStatus.TheVariants.{Nfs4Ok}
use Rattle.nm_rules.proofs.Legal.{words-free, words-old, words-refused, repeat_is_old}

pub by_answer : (P : Words → Type 0) (s : Seen) (call : Call) (verdict : Verdict)
    → ((status : OpStatus) → first (checks s call.caller call.file verdict call.deed) ≡ Some (Refuse status)
    → P (with_owners no_words (owner_word (look s) call (reply_by s call (Some (Refuse status)))) Stays))
    → P no_words
    → (first (checks s call.caller call.file verdict call.deed) ≡ None
    → P (with_owners (deed_words (look s) call.caller call.file call.deed (ok_value s call.caller call.file call.deed))
    (noted (look s) call (reply_by s call None) (seqid_owner (look s) call.caller call.deed))
    (started_by (look s) call (reply_by s call None) call.deed (ok_value s call.caller call.file call.deed))))
    → P (words (look s) (Asked call verdict) (answer_to s (Asked call verdict)))
unfolding answer_to
by_answer P s call verdict refused old goes = by_stop (first (checks s call.caller call.file verdict call.deed)) refl
  where
    by_stop : (x : Option Stop) → first (checks s call.caller call.file verdict call.deed) ≡ x → P (words (look s) (Asked call verdict) (reply_by s call x))
    by_stop (Some (Refuse status)) it = subst P (sym (words-refused s call verdict status)) (refused status it)
    by_stop (Some (Repeat kept)) it = subst P (sym (words-old (look s) call verdict kept (repeat_is_old s call verdict kept it))) old
    by_stop None it = subst P (sym (words-free s call verdict it)) (goes it)

-- what a fresh call changes that is answered OK
pub words_done : (s : Seen) (call : Call) (verdict : Verdict) (value : ReplyValue) → is_fresh (judgement (look s) call) ≡ true
    → words (look s) (Asked call verdict) (reply_with Nfs4Ok value)
    ≡ with_owners (deed_words (look s) call.caller call.file call.deed value)
    (noted (look s) call (reply_with Nfs4Ok value) (seqid_owner (look s) call.caller call.deed))
    (started_by (look s) call (reply_with Nfs4Ok value) call.deed value)
unfolding words is_done
words_done s call verdict value fresh = rw fresh refl
