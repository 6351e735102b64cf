-- A file system keeps its number and its first server over the run.
use Rattle.std.proofs.Common.{◌≡◌, ◌+◌, ℕ, zero, suc, Bool, true, false, cond, List, [], ◌∷◌, ◌++◌, map, Option, Some, None, refl, ap, sym, ◌∙◌, arith}
use Rattle.std.specs.Prelude.{slice_get, slice_set}
use Rattle.nm_types.specs.Actions.{fs_of}
use Rattle.nm_types.specs.declared.action.Action.{Action}
use Rattle.nm_types.specs.declared.calls.Call.{Call}
use Rattle.nm_types.specs.declared.calls.Reply.{Reply}
use Rattle.nm_types.specs.declared.calls.Verdict.TheVariants.{Pass}
use Rattle.nm_script.specs.declared.script.ClientRow.{ClientRow}
use Rattle.nm_script.specs.declared.script.FsRow.{FsRow}
use Rattle.nm_script.specs.declared.script.Head.{Head}
use Rattle.nm_script.specs.declared.script.Line.{Line}
use Rattle.nm_script.specs.declared.script.Line.TheVariants.{Do, Finish, Move as MoveLine, Freeze as FreezeLine, Abandon as AbandonLine, Commit as CommitLine, Settle as SettleLine, Shift as ShiftLine, Show}
use Rattle.nm_slot.specs.declared.answers.Accept.{Accept}
use Rattle.nm_slot.specs.declared.answers.Accept.TheVariants as accept
use Rattle.nm_slot.specs.declared.answers.Begin.{Begin}
use Rattle.nm_slot.specs.declared.answers.Begin.TheVariants as begin
use Rattle.nm_slot.specs.declared.answers.Enter.{Enter}
use Rattle.nm_slot.specs.declared.answers.Enter.TheVariants as enter
use Rattle.nm_slot.specs.declared.answers.Freeze.{Freeze}
use Rattle.nm_slot.specs.declared.answers.Freeze.TheVariants as freeze
use Rattle.nm_slot.specs.declared.answers.Answer.{Answer}
use Rattle.nm_slot.specs.Answers.{enter_answer, apply_answer, begin_answer, freeze_answer, accept_answer}
use Rattle.nm_slot.specs.History.{Home}
use Rattle.nm_slot.specs.Moves.{Sent, move_now, latest_offer, latest_handed}
use Rattle.nm_slot.specs.SlotNow.SlotStep.{Entering, Applying, Leaving, Beginning, Freezing, Accepting}
use Rattle.nm_short.specs.Known.{Known, learned, call_of, hand_of, place_of, sent_to}
use Rattle.nm_short.specs.RunFacts.{home_of, run_after}
use Rattle.nm_short.specs.Requests.{reply_of, goes_on_with, names_of, requests_limit, released_by, let_in}
use Rattle.nm_short.specs.ShortRun.{FileNow, Went, Asked, Knocked, RunNow, Order, at_server, did, asks, after_asking, source, after_begin, begins, after_freeze, freezes, abandons, after_accept, delivers_offer, commits, delivers_handed, settles, and_then, shifts, knocks, at_door, calls_at, tries, frees_within, frees_after, frees, frees_all, left_by, frees_at, turned_away, released_at, releases, ran_tries, ran_found, ran_call, acts, starts, goes_on, ran_do, ran_finish, ordered, ran_order, run_line, files_from}
use Rattle.nm_short.specs.ShortRun.Order.{ToMove, ToFreeze, ToAbandon, ToCommit, ToSettle, ToShift, ToShow}
use Rattle.nm_short.proofs.ClientLaws.{ask_of, knock_of}
use Rattle.nm_short.proofs.ReleaseLaws.{all_keep}

-- ---- an operator's line

begin_home : (head : Head) (a : Begin) (f : FileNow) → (after_begin head f a).file.home ≡ f.home
unfolding after_begin
begin_home head (begin.Begun number) f = refl
begin_home head begin.NotServed f = refl
begin_home head (begin.Busy number) f = refl
begin_home head begin.Same f = refl
begin_home head begin.Last f = refl

begins_home : (head : Head) (f : FileNow) (dest : ℕ) → (begins head f dest).file.home ≡ f.home
unfolding begins
begins_home head f dest = begin_home head (begin_answer (at_server f (source f)) (source f) dest) (did f (source f) (Beginning (source f) dest (begin_answer (at_server f (source f)) (source f) dest)))

freeze_home : (head : Head) (s : ℕ) (a : Freeze) (f : FileNow) → (after_freeze head f s a).file.home ≡ f.home
unfolding after_freeze
freeze_home head s (freeze.Frozen number) f = refl
freeze_home head s (freeze.Waiting passes) f = refl
freeze_home head s freeze.Idle f = refl

freezes_home : (head : Head) (f : FileNow) → (freezes head f).file.home ≡ f.home
unfolding freezes
freezes_home head f = freeze_home head (source f) (freeze_answer (at_server f (source f))) (did f (source f) (Freezing (freeze_answer (at_server f (source f)))))

accept_home : (head : Head) (s number : ℕ) (a : Accept) (f : FileNow) → (after_accept head f s number a).file.home ≡ f.home
unfolding after_accept
accept_home head s number accept.Held f = refl
accept_home head s number (accept.Old known) f = refl
accept_home head s number accept.Live f = refl

commits_home : (head : Head) (f : FileNow) → (commits head f).file.home ≡ f.home
unfolding commits delivers_offer
commits_home head f = by_offer (latest_offer f.moments)
  where
    by_offer : (sent : Option Sent) → (delivers_offer head f sent).file.home ≡ f.home
    by_offer None = refl
    by_offer (Some sent) = accept_home head sent.source sent.offer.number (accept_answer (at_server f (move_now f.moments sent.offer.number).dest) sent.offer.number)
        (did f (move_now f.moments sent.offer.number).dest (Accepting sent.offer [] (accept_answer (at_server f (move_now f.moments sent.offer.number).dest) sent.offer.number)))

settles_home : (head : Head) (f : FileNow) → (settles head f).file.home ≡ f.home
unfolding settles delivers_handed
settles_home head f = by_word (latest_handed f.moments)
  where
    by_word : (told : Option ℕ) → (delivers_handed head f told).file.home ≡ f.home
    by_word None = refl
    by_word (Some number) = refl

then_home : (one two : Went) (home : Home) → one.file.home ≡ home → two.file.home ≡ home → (and_then one two).file.home ≡ home
then_home one two home first second = by_test one.well
  where
    by_test : (b : Bool) → (cond b (record two { rows = one.rows ++ two.rows }) one).file.home ≡ home
    by_test true = second
    by_test false = first

shifts_home : (head : Head) (f : FileNow) (dest : ℕ) → (shifts head f dest).file.home ≡ f.home
unfolding shifts
shifts_home head f dest =
    let one : Went = begins head f dest in
    let first : one.file.home ≡ f.home = begins_home head f dest in
    let two : Went = and_then one (freezes head one.file) in
    let second : two.file.home ≡ f.home = then_home one (freezes head one.file) f.home first (freezes_home head one.file ∙ first) in
    let three : Went = and_then two (commits head two.file) in
    let third : three.file.home ≡ f.home = then_home two (commits head two.file) f.home second (commits_home head two.file ∙ second) in
    then_home three (settles head three.file) f.home third (settles_home head three.file ∙ third)

ordered_home : (head : Head) (f : FileNow) (order : Order) → (ordered head f order).file.home ≡ f.home
unfolding ordered abandons
ordered_home head f (ToMove dest) = begins_home head f dest
ordered_home head f ToFreeze = freezes_home head f
ordered_home head f ToAbandon = refl
ordered_home head f ToCommit = commits_home head f
ordered_home head f ToSettle = settles_home head f
ordered_home head f (ToShift dest) = shifts_home head f dest
ordered_home head f ToShow = refl

-- ---- a client's line

knock_home : (further : FileNow → ℕ → Knocked) (f : FileNow) (s : ℕ) (a : Enter) → ((g : FileNow) (r : ℕ) → (further g r).file.home ≡ g.home)
    → (knock_of further f s a).file.home ≡ f.home
knock_home further f s (enter.Moved dest) same = same _ dest
knock_home further f s (enter.Entered pass) same = refl
knock_home further f s (enter.Full passes) same = refl
knock_home further f s enter.Delay same = refl
knock_home further f s enter.Unknown same = refl

knocks_home : (k : ℕ) (f : FileNow) (s : ℕ) → (knocks k f s).file.home ≡ f.home
unfolding knocks
knocks_home zero f s = refl
knocks_home (suc k) f s = knock_home (knocks k) f s (enter_answer (at_server f s)) (λ g r. knocks_home k g r)

ask_home : (further : FileNow → Call → Known → List (List ℕ) → Asked) (f : FileNow) (knows : Known) (reply : Reply) (listed : List (List ℕ)) (next : Option Call)
    → ((more : Call) → (further f more knows listed).file.home ≡ f.home) → (ask_of further f knows reply listed next).file.home ≡ f.home
ask_home further f knows reply listed None same = refl
ask_home further f knows reply listed (Some more) same = same more

asks_home : (k : ℕ) (f : FileNow) (s epoch client : ℕ) (row : ClientRow) (act : Action) (call : Call) (known : Known) (names : List (List ℕ))
    → (asks k f s epoch client row act call known names).file.home ≡ f.home
unfolding asks
asks_home zero f s epoch client row act call known names = refl
asks_home (suc k) f s epoch client row act call known names =
    let a : Answer = apply_answer (at_server f s) epoch None call Pass in
    let reply : Reply = reply_of call a in
    let knows : Known = learned client act call reply known in
    ask_home (λ g more its all. asks k g s epoch client row act more its all) (did f s (Applying epoch None call Pass [] a)) knows reply (names ++ names_of reply.value)
    (goes_on_with client row act call reply.value)
    (λ more. asks_home k (did f s (Applying epoch None call Pass [] a)) s epoch client row act more knows (names ++ names_of reply.value))

asked_home : (f : FileNow) (client : ℕ) (act : Action) (known : Known) (names : List (List ℕ)) (reply : Option Reply)
    → (after_asking f client act known names reply).file.home ≡ f.home
unfolding after_asking
asked_home f client act known names None = refl
asked_home f client act known names (Some reply) = refl

calls_home : (f : FileNow) (s epoch client : ℕ) (row : ClientRow) (act : Action) (call : Call) (known : Known) → (calls_at f s epoch client row act call known).file.home ≡ f.home
unfolding calls_at
calls_home f s epoch client row act call known = by_asks requests_limit
  where
    by_asks : (k : ℕ)
        → (after_asking (did (asks k f s epoch client row act call known []).file s (Leaving epoch)) client act (asks k f s epoch client row act call known []).known
        (asks k f s epoch client row act call known []).names (asks k f s epoch client row act call known []).reply).file.home ≡ f.home
    by_asks k =
        asked_home (did (asks k f s epoch client row act call known []).file s (Leaving epoch)) client act (asks k f s epoch client row act call known []).known
        (asks k f s epoch client row act call known []).names (asks k f s epoch client row act call known []).reply
        ∙ asks_home k f s epoch client row act call known []

door_home : (f : FileNow) (s : ℕ) (door : Option Enter) (client : ℕ) (row : ClientRow) (act : Action) (call : Call) (known : Known) → (at_door f s door client row act call known).file.home ≡ f.home
unfolding at_door
door_home f s None client row act call known = refl
door_home f s (Some (enter.Entered pass)) client row act call known = calls_home f s pass.epoch client row act call known
door_home f s (Some enter.Delay) client row act call known = refl
door_home f s (Some (enter.Moved dest)) client row act call known = refl
door_home f s (Some (enter.Full passes)) client row act call known = refl
door_home f s (Some enter.Unknown) client row act call known = refl

tries_home : (f : FileNow) (client : ℕ) (row : ClientRow) (act : Action) (call : Call) (known : Known) → (tries f client row act call known).file.home ≡ f.home
unfolding tries
tries_home f client row act call known = by_knocks requests_limit
  where
    by_knocks : (k : ℕ) → (at_door (knocks k f (place_of client f.home.fs f.home.first known.places)).file (knocks k f (place_of client f.home.fs f.home.first known.places)).server
        (knocks k f (place_of client f.home.fs f.home.first known.places)).door client row act call
        (record known { places = sent_to client f.home.fs (knocks k f (place_of client f.home.fs f.home.first known.places)).server known.places })).file.home ≡ f.home
    by_knocks k = door_home (knocks k f (place_of client f.home.fs f.home.first known.places)).file (knocks k f (place_of client f.home.fs f.home.first known.places)).server
        (knocks k f (place_of client f.home.fs f.home.first known.places)).door client row act call
        (record known { places = sent_to client f.home.fs (knocks k f (place_of client f.home.fs f.home.first known.places)).server known.places })
        ∙ knocks_home k f (place_of client f.home.fs f.home.first known.places)

-- ---- the run

abbrev pub homes : RunNow → List Home
homes r = map (λ (f : FileNow). f.home) r.files

homes_set : (fs : List FileNow) (i : ℕ) (f g : FileNow) → slice_get fs i ≡ Some f → g.home ≡ f.home
    → map (λ (x : FileNow). x.home) (slice_set fs i g) ≡ map (λ (x : FileNow). x.home) fs
homes_set [] i f g at same = refl
homes_set (x ∷ xs) zero f g at same =
    let its : x ≡ f = cc in
    ap (λ h. h ∷ map (λ (x : FileNow). x.home) xs) (same ∙ ap (λ (y : FileNow). y.home) (sym its))
homes_set (x ∷ xs) (suc i) f g at same = ap (λ hs. x.home ∷ hs) (homes_set xs i f g at same)

-- ---- a release

after_home : (f : FileNow) (s : ℕ) (call : Call) (a : Enter) → (frees_after f s call a).file.home ≡ f.home
unfolding frees_after frees_within
after_home f s call (enter.Entered pass) = refl
after_home f s call (enter.Moved dest) = refl
after_home f s call (enter.Full passes) = refl
after_home f s call enter.Delay = refl
after_home f s call enter.Unknown = refl

frees_home : (f : FileNow) (s : ℕ) (call : Call) → (frees f s call).file.home ≡ f.home
unfolding frees
frees_home f s call = after_home (did f s (Entering (enter_answer (at_server f s)))) s call (enter_answer (at_server f s))

left_homes : (fs : List FileNow) (i s epoch : ℕ) (g : Option FileNow) → slice_get fs i ≡ g
    → map (λ (x : FileNow). x.home) (left_by fs i s epoch g) ≡ map (λ (x : FileNow). x.home) fs
unfolding left_by
left_homes fs i s epoch None at = refl
left_homes fs i s epoch (Some g) at = homes_set fs i g (did g s (Leaving epoch)) at refl

frees_homes : (r : RunNow) (client : ℕ) (row : ClientRow) (act : Action) (owner : List ℕ) (call : Call) (s epoch : ℕ)
    → homes (frees_at r client row act owner call s epoch).run ≡ homes r
unfolding frees_at
frees_homes r client row act owner call s epoch =
    left_homes (frees_all r.files s call).files (fs_of act) s epoch (slice_get (frees_all r.files s call).files (fs_of act)) refl
    ∙ all_keep (λ (x : FileNow). x.home) s call r.files (λ f. frees_home f s call)

turned_homes : (r : RunNow) (client : ℕ) (row : ClientRow) (act : Action) (call : Call) (s : ℕ) (door : Option Enter) (f : Option FileNow) → slice_get r.files (fs_of act) ≡ f
    → homes (turned_away r client row act call s door f).run ≡ homes r
unfolding turned_away
turned_homes r client row act call s door None at = refl
turned_homes r client row act call s door (Some f) at =
    homes_set r.files (fs_of act) f (at_door f s door client row act call r.known).file at (door_home f s door client row act call r.known)

released_homes : (r : RunNow) (client : ℕ) (row : ClientRow) (act : Action) (owner : List ℕ) (call : Call) (s : ℕ) (door : Option Enter) (its : Option ℕ)
    → homes (released_at r client row act owner call s door its).run ≡ homes r
unfolding released_at
released_homes r client row act owner call s door None = turned_homes r client row act call s door (slice_get r.files (fs_of act)) refl
released_homes r client row act owner call s door (Some epoch) = frees_homes r client row act owner call s epoch

releases_homes : (r : RunNow) (client : ℕ) (row : ClientRow) (act : Action) (owner : List ℕ) (call : Call) (f : Option FileNow) → slice_get r.files (fs_of act) ≡ f
    → homes (releases r client row act owner call f).run ≡ homes r
unfolding releases
releases_homes r client row act owner call None at = refl
releases_homes r client row act owner call (Some f) at = by_knocks requests_limit
  where
    by_knocks : (k : ℕ) → homes (released_at (record {
      files = slice_set r.files (fs_of act) (knocks k f (place_of client f.home.fs f.home.first r.known.places)).file;
      known = record r.known { places = sent_to client f.home.fs (knocks k f (place_of client f.home.fs f.home.first r.known.places)).server r.known.places };
    }) client row act owner call (knocks k f (place_of client f.home.fs f.home.first r.known.places)).server
        (knocks k f (place_of client f.home.fs f.home.first r.known.places)).door
        (let_in (knocks k f (place_of client f.home.fs f.home.first r.known.places)).door)).run ≡ homes r
    by_knocks k = released_homes (record {
      files = slice_set r.files (fs_of act) (knocks k f (place_of client f.home.fs f.home.first r.known.places)).file;
      known = record r.known { places = sent_to client f.home.fs (knocks k f (place_of client f.home.fs f.home.first r.known.places)).server r.known.places };
    }) client row act owner call (knocks k f (place_of client f.home.fs f.home.first r.known.places)).server
        (knocks k f (place_of client f.home.fs f.home.first r.known.places)).door
        (let_in (knocks k f (place_of client f.home.fs f.home.first r.known.places)).door)
        ∙ homes_set r.files (fs_of act) f (knocks k f (place_of client f.home.fs f.home.first r.known.places)).file at
        (knocks_home k f (place_of client f.home.fs f.home.first r.known.places))

tries_homes : (r : RunNow) (client : ℕ) (row : ClientRow) (act : Action) (call : Call) (f : Option FileNow) → slice_get r.files (fs_of act) ≡ f
    → homes (ran_tries r client row act call f).run ≡ homes r
unfolding ran_tries
tries_homes r client row act call None at = refl
tries_homes r client row act call (Some f) at =
    homes_set r.files (fs_of act) f (tries f client row act call r.known).file at (tries_home f client row act call r.known)

found_homes : (r : RunNow) (client : ℕ) (row : ClientRow) (act : Action) (call : Call) (owner : Option (List ℕ)) (f : Option FileNow)
    → slice_get r.files (fs_of act) ≡ f → homes (ran_found r client row act call owner f).run ≡ homes r
unfolding ran_found
found_homes r client row act call None f at = tries_homes r client row act call f at
found_homes r client row act call (Some owner) f at = releases_homes r client row act owner call f at

-- ---- every line

call_homes : (r : RunNow) (client : ℕ) (row : ClientRow) (act : Action) (call : Option Call) (f : Option FileNow) → slice_get r.files (fs_of act) ≡ f
    → homes (ran_call r client row act call f).run ≡ homes r
unfolding ran_call
call_homes r client row act None f at = refl
call_homes r client row act (Some call) f at = found_homes r client row act call (released_by act) f at

acts_homes : (r : RunNow) (client : ℕ) (row : ClientRow) (act : Action) → homes (acts r client row act).run ≡ homes r
unfolding acts
acts_homes r client row act = call_homes r client row act (call_of client row r.known act) (slice_get r.files (fs_of act)) refl

do_homes : (r : RunNow) (client : ℕ) (act : Action) (row : Option ClientRow) → homes (ran_do r client act row).run ≡ homes r
unfolding ran_do starts
do_homes r client act None = refl
do_homes r client act (Some row) = by_hand (hand_of client r.known.in_hand)
  where
    by_hand : (hand : Option Action) → homes (starts r client row act hand).run ≡ homes r
    by_hand (Some in_hand) = refl
    by_hand None = acts_homes r client row act

finish_homes : (r : RunNow) (client : ℕ) (row : Option ClientRow) → homes (ran_finish r client row).run ≡ homes r
unfolding ran_finish goes_on
finish_homes r client None = refl
finish_homes r client (Some row) = by_hand (hand_of client r.known.in_hand)
  where
    by_hand : (hand : Option Action) → homes (goes_on r client row hand).run ≡ homes r
    by_hand None = refl
    by_hand (Some act) = acts_homes r client row act

order_homes : (head : Head) (r : RunNow) (i : ℕ) (order : Order) (f : Option FileNow) → slice_get r.files i ≡ f
    → homes (ran_order head r i order f).run ≡ homes r
unfolding ran_order
order_homes head r i order None at = refl
order_homes head r i order (Some f) at = homes_set r.files i f (ordered head f order).file at (ordered_home head f order)

line_homes : (head : Head) (r : RunNow) (line : Line) → homes (run_line head r line).run ≡ homes r
unfolding run_line
line_homes head r (Do client act) = do_homes r client act (slice_get head.clients client)
line_homes head r (Finish client) = finish_homes r client (slice_get head.clients client)
line_homes head r (MoveLine i to) = order_homes head r i (ToMove to) (slice_get r.files i) refl
line_homes head r (FreezeLine i) = order_homes head r i ToFreeze (slice_get r.files i) refl
line_homes head r (AbandonLine i) = order_homes head r i ToAbandon (slice_get r.files i) refl
line_homes head r (CommitLine i) = order_homes head r i ToCommit (slice_get r.files i) refl
line_homes head r (SettleLine i) = order_homes head r i ToSettle (slice_get r.files i) refl
line_homes head r (ShiftLine i to) = order_homes head r i (ToShift to) (slice_get r.files i) refl
line_homes head r (Show i) = order_homes head r i ToShow (slice_get r.files i) refl

pub homes_after : (head : Head) (r : RunNow) (lines : List Line) → homes (run_after head r lines) ≡ homes r
unfolding run_after
homes_after head r [] = refl
homes_after head r (line ∷ lines) = homes_after head (run_line head r line).run lines ∙ line_homes head r line

-- the homes of the rows of a head
pub home_at : (k i : ℕ) (rows : List FsRow) (row : FsRow) → slice_get rows i ≡ Some row
    → slice_get (map (λ (f : FileNow). f.home) (files_from k rows)) i ≡ Some (home_of (k + i) row)
home_at k i [] row at = cc
home_at k zero (x ∷ xs) row at =
    let its : x ≡ row = cc in
    let sum : k ≡ k + 0 = omega arith in
    ap (λ (y : FsRow). Some (home_of k y)) its ∙ ap (λ j. Some (home_of j row)) sum
home_at k (suc i) (x ∷ xs) row at =
    let sum : (k + 1) + i ≡ k + suc i = omega arith in
    home_at (k + 1) i xs row at ∙ ap (λ j. Some (home_of j row)) sum
