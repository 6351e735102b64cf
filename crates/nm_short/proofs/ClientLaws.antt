-- What a client does is the same over the tables of a file system as over its steps.
use Rattle.std.proofs.Common.{◌≡◌, ◌≢◌, ◌<◌, ◌≤◌, ℕ, zero, suc, true, List, [], ◌++◌, Option, Some, None, refl, sym, subst, ap, ◌∙◌, arith, eq-eqb, ⊎_elim}
use Rattle.std.proofs.lemmas.Bool.{cases_lt}
use Rattle.nm_types.specs.declared.action.Action.{Action}
use Rattle.nm_types.specs.declared.calls.Call.{Call}
use Rattle.nm_types.specs.declared.calls.Reply.{Reply}
use Rattle.nm_types.specs.declared.calls.Verdict.TheVariants.{Pass}
use Rattle.nm_script.specs.declared.script.ClientRow.{ClientRow}
use Rattle.nm_slot.specs.declared.answers.Answer.{Answer}
use Rattle.nm_slot.specs.declared.answers.Enter.{Enter}
use Rattle.nm_slot.specs.declared.answers.Enter.TheVariants as enter
use Rattle.nm_slot.specs.Answers.{enter_answer, apply_answer, apply_ends}
use Rattle.nm_slot.specs.Changes.{slot_after}
use Rattle.nm_slot.specs.History.{passes_now, is_out}
use Rattle.nm_slot.specs.SlotNow.SlotStep.{Entering, Leaving, Applying}
use Rattle.nm_short.specs.Known.{Known, learned, sent_to, place_of}
use Rattle.nm_short.specs.Requests.{reply_of, goes_on_with, names_of, requests_limit}
use Rattle.nm_short.specs.ShortRun.{FileNow, Asked, Tried, Knocked, at_server, did, knocks, asks, after_asking, calls_at, at_door, tries}
use Rattle.nm_short.specs.Tables.{FileTables, AskedTo, TriedTo, KnockedTo, no_part, slot_in, stepped, knocks_to, asks_to, asked_to, calls_to, door_to, tries_to}
use Rattle.nm_short.proofs.OrderLaws.{kept_inside}
use Rattle.nm_short.proofs.Standing.{Stands, IsKeptOutside, plain_stands, slot_outside}

-- the same is told and learned, and what is left stands for the steps
pub record IsTried (n : ℕ) (tried : Tried) (to : TriedTo) : Type 0 where
  pub file : Stands n tried.file to.file
  pub known : to.known ≡ tried.known
  pub told : to.told ≡ tried.told

-- who was let in last is at a server of the script, and its pass is out
abbrev pub IsIn : ℕ → FileNow → ℕ → Option Enter → Type 0
IsIn n f s (Some (enter.Entered pass)) = (s < n) × (is_out pass.epoch (passes_now f.moments s) ≡ true)
IsIn n f s _ = Unit {0}

pub record IsKnocked (n : ℕ) (knocked : Knocked) (to : KnockedTo) : Type 0 where
  pub file : Stands n knocked.file to.file
  pub server : to.server ≡ knocked.server
  pub door : to.door ≡ knocked.door
  pub inside : IsIn n knocked.file knocked.server knocked.door

-- ---- the door

nobody_enters : (fs : ℕ) → enter_answer (no_part fs) ≡ enter.Unknown
unfolding enter_answer
nobody_enters fs = refl

enter_outside : (t : FileTables) (s : ℕ) → IsKeptOutside t s (Entering (enter_answer (slot_in t s)))
unfolding slot_after
enter_outside t s past = ap (λ a. slot_after (no_part t.fs) (Entering a)) (ap enter_answer (slot_outside t s past) ∙ nobody_enters t.fs)

pub entered_stands : (n : ℕ) (f : FileNow) (t : FileTables) (s : ℕ) (a : Enter) → Stands n f t → a ≡ enter_answer (at_server f s)
    → Stands n (did f s (Entering a)) (stepped t s (Entering a))
entered_stands n f t s a stands e =
    plain_stands n f t s (Entering a) stands (record { answered = e; delivered = tt })
    (subst (λ b. IsKeptOutside t s (Entering b)) (ap enter_answer (stands.slots s) ∙ sym e) (enter_outside t s)) tt refl

-- only a server of the script lets anybody in
pub entered_inside : (n : ℕ) (f : FileNow) (t : FileTables) (s : ℕ) → Stands n f t → (a : Enter) → a ≡ enter_answer (at_server f s)
    → a ≢ enter.Unknown → s < n
entered_inside n f t s stands a e known = ⊎_elim
    (λ (below : s < n). below)
    (λ (past : n ≤ s). absurd (known (e ∙ ap enter_answer (sym (stands.slots s) ∙ slot_outside t s (omega (arith, stands.count, past))) ∙ nobody_enters t.fs)))
    (cases_lt s n)

pub pass_out : (f : FileNow) (s epoch fs : ℕ) → is_out epoch (passes_now (did f s (Entering (enter.Entered (record { fs = fs; epoch = epoch })))).moments s) ≡ true
unfolding passes_now
pass_out f s epoch fs = rw (eq-eqb s s refl, eq-eqb epoch epoch refl) refl

-- ---- knocking

-- a knock, and what comes of a further one
abbrev pub knock_of : (FileNow → ℕ → Knocked) → FileNow → ℕ → Enter → Knocked
knock_of further f s a = elim a [
  | enter.Moved dest ↦ further (did f s (Entering (enter.Moved dest))) dest
  | enter.Entered pass ↦ record { file = did f s (Entering (enter.Entered pass)); server = s; door = Some (enter.Entered pass) }
  | enter.Full passes ↦ record { file = did f s (Entering (enter.Full passes)); server = s; door = Some (enter.Full passes) }
  | enter.Delay ↦ record { file = did f s (Entering enter.Delay); server = s; door = Some enter.Delay }
  | enter.Unknown ↦ record { file = did f s (Entering enter.Unknown); server = s; door = Some enter.Unknown }
]

abbrev knock_to : (FileTables → ℕ → KnockedTo) → FileTables → ℕ → Enter → KnockedTo
knock_to further t s a = elim a [
  | enter.Moved dest ↦ further (stepped t s (Entering (enter.Moved dest))) dest
  | enter.Entered pass ↦ record { file = stepped t s (Entering (enter.Entered pass)); server = s; door = Some (enter.Entered pass) }
  | enter.Full passes ↦ record { file = stepped t s (Entering (enter.Full passes)); server = s; door = Some (enter.Full passes) }
  | enter.Delay ↦ record { file = stepped t s (Entering enter.Delay); server = s; door = Some enter.Delay }
  | enter.Unknown ↦ record { file = stepped t s (Entering enter.Unknown); server = s; door = Some enter.Unknown }
]

knock_same : (n : ℕ) (further : FileNow → ℕ → Knocked) (further' : FileTables → ℕ → KnockedTo) (f : FileNow) (t : FileTables) (s : ℕ) (a : Enter)
    → ((g : FileNow) (u : FileTables) (r : ℕ) → Stands n g u → IsKnocked n (further g r) (further' u r))
    → Stands n f t → a ≡ enter_answer (at_server f s) → IsKnocked n (knock_of further f s a) (knock_to further' t s a)
knock_same n further further' f t s (enter.Moved dest) same stands e =
    same (did f s (Entering (enter.Moved dest))) (stepped t s (Entering (enter.Moved dest))) dest (entered_stands n f t s (enter.Moved dest) stands e)
knock_same n further further' f t s (enter.Entered pass) same stands e = record {
  file = entered_stands n f t s (enter.Entered pass) stands e;
  server = refl;
  door = refl;
  inside = (entered_inside n f t s stands (enter.Entered pass) e (λ u. cc), pass_out f s pass.epoch pass.fs);
}
knock_same n further further' f t s (enter.Full passes) same stands e =
    record { file = entered_stands n f t s (enter.Full passes) stands e; server = refl; door = refl; inside = tt }
knock_same n further further' f t s enter.Delay same stands e =
    record { file = entered_stands n f t s enter.Delay stands e; server = refl; door = refl; inside = tt }
knock_same n further further' f t s enter.Unknown same stands e =
    record { file = entered_stands n f t s enter.Unknown stands e; server = refl; door = refl; inside = tt }

pub knocks_same : (k n : ℕ) (f : FileNow) (t : FileTables) (s : ℕ) → Stands n f t → IsKnocked n (knocks k f s) (knocks_to k t s)
unfolding knocks knocks_to
knocks_same zero n f t s stands = record { file = stands; server = refl; door = refl; inside = tt }
knocks_same (suc k) n f t s stands =
    subst (λ v. IsKnocked n (knocks (suc k) f s) (knock_to (knocks_to k) t s (enter_answer v))) (sym (stands.slots s))
    (knock_same n (knocks k) (knocks_to k) f t s (enter_answer (at_server f s)) (λ g u r it. knocks_same k n g u r it) stands refl)

-- ---- the call

pub apply_out : (f : FileNow) (s epoch : ℕ) (call : Call) (a : Answer) → passes_now (did f s (Applying epoch None call Pass [] a)).moments s ≡ passes_now f.moments s
unfolding passes_now
apply_out f s epoch call a = rw (eq-eqb s s refl) refl

-- the same was asked, learned and listed, what is left stands for the steps, and the pass is out still
record IsAsked (n s epoch : ℕ) (asked : Asked) (to : AskedTo) : Type 0 where
  file : Stands n asked.file to.file
  known : to.known ≡ asked.known
  reply : to.reply ≡ asked.reply
  names : to.names ≡ asked.names
  out : is_out epoch (passes_now asked.file.moments s) ≡ true

-- a request that was answered, and what comes of one that goes on with it
abbrev pub ask_of : (FileNow → Call → Known → List (List ℕ) → Asked) → FileNow → Known → Reply → List (List ℕ) → Option Call → Asked
ask_of further f knows reply listed next = elim next [
  | None ↦ record { file = f; known = knows; reply = Some reply; names = listed }
  | Some more ↦ further f more knows listed
]

abbrev ask_to : (FileTables → Call → Known → List (List ℕ) → AskedTo) → FileTables → Known → Reply → List (List ℕ) → Option Call → AskedTo
ask_to further t knows reply listed next = elim next [
  | None ↦ record { file = t; known = knows; reply = Some reply; names = listed }
  | Some more ↦ further t more knows listed
]

ask_same : (n s epoch : ℕ) (further : FileNow → Call → Known → List (List ℕ) → Asked) (further' : FileTables → Call → Known → List (List ℕ) → AskedTo)
    (f : FileNow) (t : FileTables) (knows : Known) (reply : Reply) (listed : List (List ℕ)) (next : Option Call)
    → ((more : Call) → IsAsked n s epoch (further f more knows listed) (further' t more knows listed))
    → Stands n f t → is_out epoch (passes_now f.moments s) ≡ true
    → IsAsked n s epoch (ask_of further f knows reply listed next) (ask_to further' t knows reply listed next)
ask_same n s epoch further further' f t knows reply listed None same stands out =
    record { file = stands; known = refl; reply = refl; names = refl; out = out }
ask_same n s epoch further further' f t knows reply listed (Some more) same stands out = same more

asks_same : (k n : ℕ) (f : FileNow) (t : FileTables) (s epoch client : ℕ) (row : ClientRow) (act : Action) (call : Call) (known : Known) (names : List (List ℕ)) → Stands n f t → s < n
    → is_out epoch (passes_now f.moments s) ≡ true
    → IsAsked n s epoch (asks k f s epoch client row act call known names) (asks_to k t s epoch client row act call known names)
unfolding asks asks_to apply_ends
asks_same zero n f t s epoch client row act call known names stands below out =
    record { file = stands; known = refl; reply = refl; names = refl; out = out }
asks_same (suc k) n f t s epoch client row act call known names stands below out =
    let a : Answer = apply_answer (at_server f s) epoch None call Pass in
    let reply : Reply = reply_of call a in
    let listed : List (List ℕ) = names ++ names_of reply.value in
    let knows : Known = learned client act call reply known in
    let f' : FileNow = did f s (Applying epoch None call Pass [] a) in
    let t' : FileTables = stepped t s (Applying epoch None call Pass [] a) in
    let after : Stands n f' t' = plain_stands n f t s (Applying epoch None call Pass [] a) stands (record { answered = (refl, refl); delivered = out })
    (kept_inside n f t s (Applying epoch None call Pass [] a) stands below) tt refl in
    let still : is_out epoch (passes_now f'.moments s) ≡ true = ap (is_out epoch) (apply_out f s epoch call a) ∙ out in
    subst (λ v. IsAsked n s epoch (asks (suc k) f s epoch client row act call known names)
    (ask_to (λ u more its all. asks_to k u s epoch client row act more its all) (stepped t s (Applying epoch None call Pass [] (apply_answer v epoch None call Pass)))
    (learned client act call (reply_of call (apply_answer v epoch None call Pass)) known)
    (reply_of call (apply_answer v epoch None call Pass)) (names ++ names_of (reply_of call (apply_answer v epoch None call Pass)).value)
    (goes_on_with client row act call (reply_of call (apply_answer v epoch None call Pass)).value))) (sym (stands.slots s))
    (ask_same n s epoch (λ g more its all. asks k g s epoch client row act more its all) (λ u more its all. asks_to k u s epoch client row act more its all)
    f' t' knows reply listed (goes_on_with client row act call reply.value)
    (λ more. asks_same k n f' t' s epoch client row act more knows listed after below still) after still)

-- what the client knows then, and is told
told_same : (n : ℕ) (f : FileNow) (t : FileTables) (client : ℕ) (act : Action) (known : Known) (names : List (List ℕ)) (reply : Option Reply) → Stands n f t
    → IsTried n (after_asking f client act known names reply) (asked_to t client act known names reply)
unfolding after_asking asked_to
told_same n f t client act known names None stands = record { file = stands; known = refl; told = refl }
told_same n f t client act known names (Some reply) stands = record { file = stands; known = refl; told = refl }

asked_same : (n s epoch client : ℕ) (act : Action) (asked : Asked) (to : AskedTo) → s < n → IsAsked n s epoch asked to
    → IsTried n (after_asking (did asked.file s (Leaving epoch)) client act asked.known asked.names asked.reply)
    (asked_to (stepped to.file s (Leaving epoch)) client act to.known to.names to.reply)
asked_same n s epoch client act asked to below same =
    let left : Stands n (did asked.file s (Leaving epoch)) (stepped to.file s (Leaving epoch)) =
    plain_stands n asked.file to.file s (Leaving epoch) same.file (record { answered = tt; delivered = same.out })
    (kept_inside n asked.file to.file s (Leaving epoch) same.file below) tt refl in
    subst (λ known. IsTried n (after_asking (did asked.file s (Leaving epoch)) client act asked.known asked.names asked.reply)
    (asked_to (stepped to.file s (Leaving epoch)) client act known to.names to.reply)) (sym same.known)
    (subst (λ names. IsTried n (after_asking (did asked.file s (Leaving epoch)) client act asked.known asked.names asked.reply)
    (asked_to (stepped to.file s (Leaving epoch)) client act asked.known names to.reply)) (sym same.names)
    (subst (λ reply. IsTried n (after_asking (did asked.file s (Leaving epoch)) client act asked.known asked.names asked.reply)
    (asked_to (stepped to.file s (Leaving epoch)) client act asked.known asked.names reply)) (sym same.reply)
    (told_same n (did asked.file s (Leaving epoch)) (stepped to.file s (Leaving epoch)) client act asked.known asked.names asked.reply left)))

-- so many requests
calls_by : (k n : ℕ) (f : FileNow) (t : FileTables) (s epoch client : ℕ) (row : ClientRow) (act : Action) (call : Call) (known : Known) → Stands n f t → s < n
    → is_out epoch (passes_now f.moments s) ≡ true
    → IsTried n (after_asking (did (asks k f s epoch client row act call known []).file s (Leaving epoch)) client act (asks k f s epoch client row act call known []).known
    (asks k f s epoch client row act call known []).names (asks k f s epoch client row act call known []).reply)
    (asked_to (stepped (asks_to k t s epoch client row act call known []).file s (Leaving epoch)) client act (asks_to k t s epoch client row act call known []).known
    (asks_to k t s epoch client row act call known []).names (asks_to k t s epoch client row act call known []).reply)
calls_by k n f t s epoch client row act call known stands below out =
    asked_same n s epoch client act (asks k f s epoch client row act call known []) (asks_to k t s epoch client row act call known []) below
    (asks_same k n f t s epoch client row act call known [] stands below out)

calls_same : (n : ℕ) (f : FileNow) (t : FileTables) (s epoch client : ℕ) (row : ClientRow) (act : Action) (call : Call) (known : Known) → Stands n f t → s < n
    → is_out epoch (passes_now f.moments s) ≡ true → IsTried n (calls_at f s epoch client row act call known) (calls_to t s epoch client row act call known)
unfolding calls_at calls_to
calls_same n f t s epoch client row act call known stands below out = calls_by requests_limit n f t s epoch client row act call known stands below out

pub door_same : (n : ℕ) (f : FileNow) (t : FileTables) (s : ℕ) (door : Option Enter) (client : ℕ) (row : ClientRow) (act : Action) (call : Call) (known : Known) → Stands n f t → IsIn n f s door
    → IsTried n (at_door f s door client row act call known) (door_to t s door client row act call known)
unfolding at_door door_to
door_same n f t s None client row act call known stands inside = record { file = stands; known = refl; told = refl }
door_same n f t s (Some (enter.Entered pass)) client row act call known stands inside = calls_same n f t s pass.epoch client row act call known stands inside.0 inside.1
door_same n f t s (Some enter.Delay) client row act call known stands inside = record { file = stands; known = refl; told = refl }
door_same n f t s (Some (enter.Moved dest)) client row act call known stands inside = record { file = stands; known = refl; told = refl }
door_same n f t s (Some (enter.Full passes)) client row act call known stands inside = record { file = stands; known = refl; told = refl }
door_same n f t s (Some enter.Unknown) client row act call known stands inside = record { file = stands; known = refl; told = refl }

-- after the knocks
knocked_same : (n fs client : ℕ) (row : ClientRow) (act : Action) (call : Call) (known : Known) (knocked : Knocked) (to : KnockedTo) → IsKnocked n knocked to
    → IsTried n (at_door knocked.file knocked.server knocked.door client row act call (record known { places = sent_to client fs knocked.server known.places }))
    (door_to to.file to.server to.door client row act call (record known { places = sent_to client fs to.server known.places }))
knocked_same n fs client row act call known knocked to same =
    subst (λ s. IsTried n (at_door knocked.file knocked.server knocked.door client row act call (record known { places = sent_to client fs knocked.server known.places }))
    (door_to to.file s to.door client row act call (record known { places = sent_to client fs s known.places }))) (sym same.server)
    (subst (λ door. IsTried n (at_door knocked.file knocked.server knocked.door client row act call (record known { places = sent_to client fs knocked.server known.places }))
    (door_to to.file knocked.server door client row act call (record known { places = sent_to client fs knocked.server known.places }))) (sym same.door)
    (door_same n knocked.file to.file knocked.server knocked.door client row act call (record known { places = sent_to client fs knocked.server known.places }) same.file same.inside))

-- so many knocks, from where the client believes it to be
tries_by : (k n : ℕ) (f : FileNow) (t : FileTables) (fs first client : ℕ) (row : ClientRow) (act : Action) (call : Call) (known : Known) → Stands n f t
    → IsTried n (at_door (knocks k f (place_of client fs first known.places)).file (knocks k f (place_of client fs first known.places)).server
    (knocks k f (place_of client fs first known.places)).door client row act call
    (record known { places = sent_to client fs (knocks k f (place_of client fs first known.places)).server known.places }))
    (door_to (knocks_to k t (place_of client fs first known.places)).file (knocks_to k t (place_of client fs first known.places)).server
    (knocks_to k t (place_of client fs first known.places)).door client row act call
    (record known { places = sent_to client fs (knocks_to k t (place_of client fs first known.places)).server known.places }))
tries_by k n f t fs first client row act call known stands =
    knocked_same n fs client row act call known (knocks k f (place_of client fs first known.places)) (knocks_to k t (place_of client fs first known.places))
    (knocks_same k n f t (place_of client fs first known.places) stands)

pub tries_same : (n : ℕ) (f : FileNow) (t : FileTables) (client : ℕ) (row : ClientRow) (act : Action) (call : Call) (known : Known) → Stands n f t
    → IsTried n (tries f client row act call known) (tries_to t client row act call known)
unfolding tries tries_to
tries_same n f t client row act call known stands =
    subst (λ fs. IsTried n (tries f client row act call known)
    (door_to (knocks_to requests_limit t (place_of client fs t.first known.places)).file (knocks_to requests_limit t (place_of client fs t.first known.places)).server
    (knocks_to requests_limit t (place_of client fs t.first known.places)).door client row act call
    (record known { places = sent_to client fs (knocks_to requests_limit t (place_of client fs t.first known.places)).server known.places }))) (sym stands.fs)
    (subst (λ first. IsTried n (tries f client row act call known)
    (door_to (knocks_to requests_limit t (place_of client f.home.fs first known.places)).file (knocks_to requests_limit t (place_of client f.home.fs first known.places)).server
    (knocks_to requests_limit t (place_of client f.home.fs first known.places)).door client row act call
    (record known { places = sent_to client f.home.fs (knocks_to requests_limit t (place_of client f.home.fs first known.places)).server known.places }))) (sym stands.first)
    (tries_by requests_limit n f t f.home.fs f.home.first client row act call known stands))
