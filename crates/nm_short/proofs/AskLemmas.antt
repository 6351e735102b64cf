-- Requests that go on with one another, and what they list.
use Rattle.std.proofs.Common.{◌≡◌, ◌<◌, ◌≤◌, ◌+◌, ◌-◌, ℕ, suc, List, [], ◌∷◌, ◌++◌, length, drop, get_or, Option, Some, None, add-one, refl, ap, sym, ◌∙◌, arith}
use Rattle.std.proofs.lemmas.List.{drop_all}
use Rattle.std.proofs.Math.Seq.{drop-cons}
use Rattle.nm_types.specs.declared.action.Action.{Action}
use Rattle.nm_types.specs.declared.calls.Call.{Call}
use Rattle.nm_types.specs.declared.calls.Reply.{Reply}
use Rattle.nm_types.specs.declared.calls.Verdict.TheVariants.{Pass}
use Rattle.nm_types.specs.declared.results.DirEntry.{DirEntry}
use Rattle.nm_script.specs.declared.script.ClientRow.{ClientRow}
use Rattle.nm_slot.specs.Answers.{apply_answer}
use Rattle.nm_slot.specs.SlotNow.SlotStep.{Applying}
use Rattle.nm_short.specs.Known.{Known, learned}
use Rattle.nm_short.specs.Requests.{reply_of, last_cookie, goes_on_with, names_of}
use Rattle.nm_short.specs.Tables.{FileTables, AskedTo, asks_to, slot_in, stepped}

-- ---- requests

-- what comes of a request, by what goes on with it
asked_by : ℕ → FileTables → ℕ → ℕ → ℕ → ClientRow → Action → Known → Reply → List (List ℕ) → Option Call → AskedTo
asked_by n now s epoch client row act knows reply listed next = elim next [
  | None ↦ record { file = now; known = knows; reply = Some reply; names = listed }
  | Some more ↦ asks_to n now s epoch client row act more knows listed
]

ask_is : (n s epoch client : ℕ) (row : ClientRow) (act : Action) (f now : FileTables) (call : Call) (known knows : Known) (reply : Reply) (names listed : List (List ℕ)) (next : Option Call)
    → reply ≡ reply_of call (apply_answer (slot_in f s) epoch None call Pass)
    → now ≡ stepped f s (Applying epoch None call Pass [] (apply_answer (slot_in f s) epoch None call Pass))
    → knows ≡ learned client act call reply known → listed ≡ names ++ names_of reply.value → next ≡ goes_on_with client row act call reply.value
    → asked_by n now s epoch client row act knows reply listed next ≡ asks_to (suc n) f s epoch client row act call known names
unfolding asks_to asked_by
ask_is n s epoch client row act f now call known knows reply names listed next told after learns lists goes = rw (goes, lists, learns, after, told) refl

-- one more request of those that are left
pub asked_on : (limit i s epoch client : ℕ) (row : ClientRow) (act : Action) (f now : FileTables) (call next : Call) (known knows : Known) (reply : Reply) (names listed : List (List ℕ)) (whole : AskedTo)
    → i < limit
    → reply ≡ reply_of call (apply_answer (slot_in f s) epoch None call Pass)
    → now ≡ stepped f s (Applying epoch None call Pass [] (apply_answer (slot_in f s) epoch None call Pass))
    → knows ≡ learned client act call reply known → listed ≡ names ++ names_of reply.value → Some next ≡ goes_on_with client row act call reply.value
    → asks_to (limit - i) f s epoch client row act call known names ≡ whole → asks_to (limit - (i + 1)) now s epoch client row act next knows listed ≡ whole
unfolding asked_by
asked_on limit i s epoch client row act f now call next known knows reply names listed whole below told after learns lists goes so_far =
    let left : limit - i ≡ suc (limit - (i + 1)) = omega (arith, below) in
    ask_is (limit - (i + 1)) s epoch client row act f now call known knows reply names listed (Some next) told after learns lists goes
    ∙ ap (λ n. asks_to n f s epoch client row act call known names) (sym left) ∙ so_far

-- the last request
pub asked_last : (limit i s epoch client : ℕ) (row : ClientRow) (act : Action) (f now : FileTables) (call : Call) (known knows : Known) (reply : Reply) (names listed : List (List ℕ)) (whole : AskedTo)
    → i < limit
    → reply ≡ reply_of call (apply_answer (slot_in f s) epoch None call Pass)
    → now ≡ stepped f s (Applying epoch None call Pass [] (apply_answer (slot_in f s) epoch None call Pass))
    → knows ≡ learned client act call reply known → listed ≡ names ++ names_of reply.value → None ≡ goes_on_with client row act call reply.value
    → asks_to (limit - i) f s epoch client row act call known names ≡ whole
    → ◌≡◌ {A = AskedTo} (record { file = now; known = knows; reply = Some reply; names = listed }) whole
unfolding asked_by
asked_last limit i s epoch client row act f now call known knows reply names listed whole below told after learns lists goes so_far =
    let left : limit - i ≡ suc (limit - (i + 1)) = omega (arith, below) in
    ask_is (limit - (i + 1)) s epoch client row act f now call known knows reply names listed None told after learns lists goes
    ∙ ap (λ n. asks_to n f s epoch client row act call known names) (sym left) ∙ so_far

-- no more may be made
pub asked_out : (limit i s epoch client : ℕ) (row : ClientRow) (act : Action) (f : FileTables) (call : Call) (known : Known) (names : List (List ℕ)) (whole : AskedTo) → limit ≤ i
    → asks_to (limit - i) f s epoch client row act call known names ≡ whole
    → ◌≡◌ {A = AskedTo} (record { file = f; known = known; reply = None; names = names }) whole
unfolding asks_to
asked_out limit i s epoch client row act f call known names whole past so_far =
    let none : limit - i ≡ 0 = omega (arith, past) in
    ap (λ n. asks_to n f s epoch client row act call known names) (sym none) ∙ so_far

-- ---- lists

-- the cookie of one more entry
pub cookie_on : (i last whole : ℕ) (entries : List DirEntry) (entry : DirEntry) → i < length entries → entry ≡ get_or entries i entry
    → last_cookie last (drop i entries) ≡ whole → last_cookie entry.cookie (drop (i + 1) entries) ≡ whole
cookie_on i last whole entries entry below it so_far =
    let split : drop i entries ≡ entry ∷ drop (i + 1) entries = drop-cons entries i entry below ∙ rw (← it, add-one) refl in
    ap (last_cookie last) (sym split) ∙ so_far

pub cookie_out : (i last whole : ℕ) (entries : List DirEntry) → length entries ≤ i → last_cookie last (drop i entries) ≡ whole → last ≡ whole
cookie_out i last whole entries past so_far = ap (last_cookie last) (sym (drop_all i entries past)) ∙ so_far
