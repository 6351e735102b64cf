-- Each line is the same over tables as over steps.
use Rattle.std.proofs.Common.{◌≡◌, ◌<◌, ℕ, true, List, [], ◌∷◌, length, Option, Some, None, refl, sym, subst, ap, ◌∙◌}
use Rattle.std.proofs.lemmas.Option.{none-some, same_Some}
use Rattle.std.specs.Prelude.{slice_get, slice_set}
use Rattle.nm_types.specs.Actions.{fs_of}
use Rattle.nm_types.specs.declared.action.Action.{Action}
use Rattle.nm_types.specs.declared.calls.Call.{Call}
use Rattle.nm_script.specs.Grammar.{IsRun}
use Rattle.nm_script.specs.declared.script.ClientRow.{ClientRow}
use Rattle.nm_script.specs.declared.script.Head.{Head}
use Rattle.nm_script.specs.declared.script.Line.{Line}
use Rattle.nm_script.specs.declared.script.Line.TheVariants.{Do, Finish, Move, Freeze, Abandon, Commit, Settle, Shift, Show}
use Rattle.nm_slot.specs.declared.answers.Enter.{Enter}
use Rattle.nm_slot.specs.declared.answers.Enter.TheVariants as enter
use Rattle.nm_slot.specs.History.{passes_now, is_out}
use Rattle.nm_short.specs.Known.{Known, call_of, hand_of, place_of, sent_to, known_freed}
use Rattle.nm_short.specs.Requests.{requests_limit, released_by, let_in, told_freed}
use Rattle.nm_short.specs.ShortRun.{FileNow, Tried, Knocked, FreedFiles, RunNow, Ran, Order, knocks, at_door, tries, frees_all, frees_at, turned_away, released_at, releases, ran_tries, ran_found, ordered, outcome, ran_tried, ran_call, acts, starts, goes_on, ran_do, ran_finish, ran_order, gives_order, run_line}
use Rattle.nm_short.specs.ShortRun.Order.{ToMove, ToFreeze, ToAbandon, ToCommit, ToSettle, ToShift, ToShow}
use Rattle.nm_short.specs.Tables.{FileTables, TriedTo, KnockedTo, TablesNow, Step, knocks_to, door_to, tries_to, frees_all_to, frees_at_to, turned_to, released_to, releases_to, told_tried, told_tries, told_found, ordered_to, told_call, told_act, told_start, told_go_on, told_do, told_finish, told_order, told_ordered, told_line}
use Rattle.nm_short.proofs.ClientLaws.{IsTried, IsIn, IsKnocked, knocks_same, door_same, tries_same}
use Rattle.nm_short.proofs.OrderLaws.{IsWent}
use Rattle.nm_short.proofs.OrderedLaws.{IsOrder, ordered_same}
use Rattle.nm_short.proofs.ReleaseLaws.{AreFreed, all_freed_same, released_same}
use Rattle.nm_short.proofs.Several.{AllStand, BothStand, stands_at, stands_set, get_set}
use Rattle.nm_short.proofs.Standing.{Stands}

-- ---- the run

pub record RunStands (n : ℕ) (r : RunNow) (t : TablesNow) : Type 0 where
  pub files : AllStand n r.files t.files
  pub known : t.known ≡ r.known

-- the same is printed, and what is left stands for the steps
pub record IsRan (n : ℕ) (ran : Ran) (step : Step) : Type 0 where
  pub rows : step.rows ≡ ran.rows
  pub next : RunStands n ran.run step.next

-- ---- a client's line

tell_same : (n : ℕ) (r : RunNow) (t : TablesNow) (row : ClientRow) (act : Action) (tried : Tried) (to : TriedTo) → RunStands n r t → IsTried n tried to
    → IsRan n (ran_tried r row act tried) (told_tried t row act to)
tell_same n r t row act tried to run same = record {
  rows = ap (λ what. outcome row act what ∷ []) same.told;
  next = record {
    files = stands_set n (fs_of act) r.files t.files tried.file to.file run.files same.file;
    known = same.known;
  };
}

-- ---- a release

outside : (n : ℕ) (f : FileNow) (s : ℕ) (door : Option Enter) → let_in door ≡ None → IsIn n f s door
unfolding let_in
outside n f s None e = tt
outside n f s (Some (enter.Entered pass)) e = absurd (none-some pass.epoch (sym e))
outside n f s (Some (enter.Moved dest)) e = tt
outside n f s (Some (enter.Full passes)) e = tt
outside n f s (Some enter.Delay) e = tt
outside n f s (Some enter.Unknown) e = tt

inside : (n : ℕ) (f : FileNow) (s : ℕ) (door : Option Enter) (epoch : ℕ) → let_in door ≡ Some epoch → IsIn n f s door
    → (s < n) × (is_out epoch (passes_now f.moments s) ≡ true)
unfolding let_in
inside n f s None epoch e its = absurd (none-some epoch e)
inside n f s (Some (enter.Entered pass)) epoch e its =
    (its.0, subst (λ i. is_out i (passes_now f.moments s) ≡ true) (same_Some pass.epoch epoch e) its.1)
inside n f s (Some (enter.Moved dest)) epoch e its = absurd (none-some epoch e)
inside n f s (Some (enter.Full passes)) epoch e its = absurd (none-some epoch e)
inside n f s (Some enter.Delay) epoch e its = absurd (none-some epoch e)
inside n f s (Some enter.Unknown) epoch e its = absurd (none-some epoch e)

turned_same : (n : ℕ) (r : RunNow) (t : TablesNow) (client : ℕ) (row : ClientRow) (act : Action) (call : Call) (s : ℕ) (door : Option Enter)
    (f : Option FileNow) (u : Option FileTables) → RunStands n r t → BothStand n f u → let_in door ≡ None
    → IsRan n (turned_away r client row act call s door f) (turned_to t client row act call s door u)
unfolding turned_away turned_to
turned_same n r t client row act call s door None None run both e = record { rows = refl; next = run }
turned_same n r t client row act call s door None (Some u) run both e = absurd both
turned_same n r t client row act call s door (Some f) None run both e = absurd both
turned_same n r t client row act call s door (Some f) (Some u) run both e =
    subst (λ known. IsRan n (ran_tried r row act (at_door f s door client row act call r.known)) (told_tried t row act (door_to u s door client row act call known)))
    (sym run.known)
    (tell_same n r t row act (at_door f s door client row act call r.known) (door_to u s door client row act call r.known) run
    (door_same n f u s door client row act call r.known both (outside n f s door e)))

frees_same : (n : ℕ) (r : RunNow) (t : TablesNow) (client : ℕ) (row : ClientRow) (act : Action) (owner : List ℕ) (call : Call) (s epoch : ℕ) (f : FileNow)
    → RunStands n r t → s < n → slice_get r.files (fs_of act) ≡ Some f → is_out epoch (passes_now f.moments s) ≡ true
    → IsRan n (frees_at r client row act owner call s epoch) (frees_at_to t client row act owner call s epoch)
unfolding frees_at frees_at_to
frees_same n r t client row act owner call s epoch f run below at out =
    let all : FreedFiles = frees_all r.files s call in
    let same : AreFreed n all (frees_all_to t.files s call) = all_freed_same n r.files t.files s call run.files in
    record {
      rows = ap (λ its. outcome row act (told_freed its) ∷ []) same.freed;
      next = record {
        files = released_same n s epoch r.files t.files (fs_of act) f call below run.files at out;
        known = ap (λ its. known_freed client act owner s its t.known) same.freed ∙ ap (known_freed client act owner s all.freed) run.known;
      };
    }

door_released : (n : ℕ) (r : RunNow) (t : TablesNow) (client : ℕ) (row : ClientRow) (act : Action) (owner : List ℕ) (call : Call) (s : ℕ) (door : Option Enter)
    (f : FileNow) (its : Option ℕ) → let_in door ≡ its → RunStands n r t → slice_get r.files (fs_of act) ≡ Some f → IsIn n f s door
    → IsRan n (released_at r client row act owner call s door its) (released_to t client row act owner call s door its)
unfolding released_at released_to
door_released n r t client row act owner call s door f None e run at is =
    turned_same n r t client row act call s door (slice_get r.files (fs_of act)) (slice_get t.files (fs_of act)) run
    (stands_at n (fs_of act) r.files t.files run.files) e
door_released n r t client row act owner call s door f (Some epoch) e run at is =
    let let_it_in : (s < n) × (is_out epoch (passes_now f.moments s) ≡ true) = inside n f s door epoch e is in
    frees_same n r t client row act owner call s epoch f run let_it_in.0 at let_it_in.1

-- after the knocks, with what the client knows then
knocked_run : RunNow → Action → ℕ → ℕ → Knocked → Known → RunNow
knocked_run r act client fs knocked known =
    record { files = slice_set r.files (fs_of act) knocked.file; known = record known { places = sent_to client fs knocked.server known.places } }

knocked_tables : TablesNow → Action → ℕ → ℕ → FileTables → ℕ → Known → TablesNow
knocked_tables t act client fs file server known =
    record { files = slice_set t.files (fs_of act) file; known = record known { places = sent_to client fs server known.places } }

knocked_released : (n : ℕ) (r : RunNow) (t : TablesNow) (client fs : ℕ) (row : ClientRow) (act : Action) (owner : List ℕ) (call : Call) (f : FileNow)
    (knocked : Knocked) (to : KnockedTo) → RunStands n r t → slice_get r.files (fs_of act) ≡ Some f → IsKnocked n knocked to
    → IsRan n (released_at (knocked_run r act client fs knocked r.known) client row act owner call knocked.server knocked.door (let_in knocked.door))
    (released_to (knocked_tables t act client fs to.file to.server r.known) client row act owner call to.server to.door (let_in to.door))
unfolding knocked_run knocked_tables
knocked_released n r t client fs row act owner call f knocked to run at same =
    subst (λ s. IsRan n (released_at (knocked_run r act client fs knocked r.known) client row act owner call knocked.server knocked.door (let_in knocked.door))
    (released_to (knocked_tables t act client fs to.file s r.known) client row act owner call s to.door (let_in to.door))) (sym same.server)
    (subst (λ door. IsRan n (released_at (knocked_run r act client fs knocked r.known) client row act owner call knocked.server knocked.door (let_in knocked.door))
    (released_to (knocked_tables t act client fs to.file knocked.server r.known) client row act owner call knocked.server door (let_in door))) (sym same.door)
    (door_released n (knocked_run r act client fs knocked r.known) (knocked_tables t act client fs to.file knocked.server r.known) client row act owner call
    knocked.server knocked.door knocked.file (let_in knocked.door) refl
    (record { files = stands_set n (fs_of act) r.files t.files knocked.file to.file run.files same.file; known = refl })
    (get_set r.files (fs_of act) f knocked.file at) same.inside))

releases_by : (k n : ℕ) (r : RunNow) (t : TablesNow) (client fs first : ℕ) (row : ClientRow) (act : Action) (owner : List ℕ) (call : Call) (f : FileNow) (u : FileTables)
    → RunStands n r t → slice_get r.files (fs_of act) ≡ Some f → Stands n f u
    → IsRan n (released_at (knocked_run r act client fs (knocks k f (place_of client fs first r.known.places)) r.known) client row act owner call
    (knocks k f (place_of client fs first r.known.places)).server (knocks k f (place_of client fs first r.known.places)).door
    (let_in (knocks k f (place_of client fs first r.known.places)).door))
    (released_to (knocked_tables t act client fs (knocks_to k u (place_of client fs first r.known.places)).file
    (knocks_to k u (place_of client fs first r.known.places)).server r.known) client row act owner call
    (knocks_to k u (place_of client fs first r.known.places)).server (knocks_to k u (place_of client fs first r.known.places)).door
    (let_in (knocks_to k u (place_of client fs first r.known.places)).door))
releases_by k n r t client fs first row act owner call f u run at stands =
    knocked_released n r t client fs row act owner call f (knocks k f (place_of client fs first r.known.places)) (knocks_to k u (place_of client fs first r.known.places))
    run at (knocks_same k n f u (place_of client fs first r.known.places) stands)

-- what of a release over tables is told of the file system and of the client
releases_with : ℕ → TablesNow → ℕ → ClientRow → Action → List ℕ → Call → FileTables → ℕ → ℕ → Known → Step
releases_with k t client row act owner call u fs first known =
    released_to (knocked_tables t act client fs (knocks_to k u (place_of client fs first known.places)).file
    (knocks_to k u (place_of client fs first known.places)).server known) client row act owner call
    (knocks_to k u (place_of client fs first known.places)).server (knocks_to k u (place_of client fs first known.places)).door
    (let_in (knocks_to k u (place_of client fs first known.places)).door)

releases_same : (n : ℕ) (r : RunNow) (t : TablesNow) (client : ℕ) (row : ClientRow) (act : Action) (owner : List ℕ) (call : Call)
    (f : Option FileNow) (u : Option FileTables) → RunStands n r t → slice_get r.files (fs_of act) ≡ f → BothStand n f u
    → IsRan n (releases r client row act owner call f) (releases_to t client row act owner call u)
unfolding releases releases_to knocked_run knocked_tables releases_with
releases_same n r t client row act owner call None None run at both = record { rows = refl; next = run }
releases_same n r t client row act owner call None (Some u) run at both = absurd both
releases_same n r t client row act owner call (Some f) None run at both = absurd both
releases_same n r t client row act owner call (Some f) (Some u) run at both =
    subst (λ known. IsRan n (releases r client row act owner call (Some f)) (releases_with requests_limit t client row act owner call u u.fs u.first known)) (sym run.known)
    (subst (λ fs. IsRan n (releases r client row act owner call (Some f)) (releases_with requests_limit t client row act owner call u fs u.first r.known)) (sym both.fs)
    (subst (λ first. IsRan n (releases r client row act owner call (Some f)) (releases_with requests_limit t client row act owner call u f.home.fs first r.known)) (sym both.first)
    (releases_by requests_limit n r t client f.home.fs f.home.first row act owner call f u run at both)))

-- ---- an action

tries_found : (n : ℕ) (r : RunNow) (t : TablesNow) (client : ℕ) (row : ClientRow) (act : Action) (call : Call) (f : Option FileNow) (u : Option FileTables)
    → RunStands n r t → BothStand n f u → IsRan n (ran_tries r client row act call f) (told_tries t client row act call u)
unfolding ran_tries told_tries
tries_found n r t client row act call None None run both = record { rows = refl; next = run }
tries_found n r t client row act call None (Some u) run both = absurd both
tries_found n r t client row act call (Some f) None run both = absurd both
tries_found n r t client row act call (Some f) (Some u) run both =
    subst (λ known. IsRan n (ran_tried r row act (tries f client row act call r.known)) (told_tried t row act (tries_to u client row act call known))) (sym run.known)
    (tell_same n r t row act (tries f client row act call r.known) (tries_to u client row act call r.known) run
    (tries_same n f u client row act call r.known both))

found_same : (n : ℕ) (r : RunNow) (t : TablesNow) (client : ℕ) (row : ClientRow) (act : Action) (call : Call) (owner : Option (List ℕ))
    (f : Option FileNow) (u : Option FileTables) → RunStands n r t → slice_get r.files (fs_of act) ≡ f → BothStand n f u
    → IsRan n (ran_found r client row act call owner f) (told_found t client row act call owner u)
unfolding ran_found told_found
found_same n r t client row act call None f u run at both = tries_found n r t client row act call f u run both
found_same n r t client row act call (Some owner) f u run at both = releases_same n r t client row act owner call f u run at both

tried_same : (n : ℕ) (r : RunNow) (t : TablesNow) (client : ℕ) (row : ClientRow) (act : Action) (call : Option Call) (f : Option FileNow) (u : Option FileTables)
    → RunStands n r t → slice_get r.files (fs_of act) ≡ f → BothStand n f u → IsRan n (ran_call r client row act call f) (told_call t client row act call u)
unfolding ran_call told_call
tried_same n r t client row act None f u run at both = record { rows = refl; next = run }
tried_same n r t client row act (Some call) f u run at both = found_same n r t client row act call (released_by act) f u run at both

acts_same : (n : ℕ) (r : RunNow) (t : TablesNow) (client : ℕ) (row : ClientRow) (act : Action) → RunStands n r t
    → IsRan n (acts r client row act) (told_act t client row act)
unfolding acts told_act
acts_same n r t client row act run =
    subst (λ known. IsRan n (acts r client row act) (told_call t client row act (call_of client row known act) (slice_get t.files (fs_of act)))) (sym run.known)
    (tried_same n r t client row act (call_of client row r.known act) (slice_get r.files (fs_of act)) (slice_get t.files (fs_of act)) run refl
    (stands_at n (fs_of act) r.files t.files run.files))

started_same : (n : ℕ) (r : RunNow) (t : TablesNow) (client : ℕ) (row : ClientRow) (act : Action) (hand : Option Action) → RunStands n r t
    → IsRan n (starts r client row act hand) (told_start t client row act hand)
unfolding starts told_start
started_same n r t client row act (Some in_hand) run = record { rows = refl; next = run }
started_same n r t client row act None run = acts_same n r t client row act run

went_on_same : (n : ℕ) (r : RunNow) (t : TablesNow) (client : ℕ) (row : ClientRow) (hand : Option Action) → RunStands n r t
    → IsRan n (goes_on r client row hand) (told_go_on t client row hand)
unfolding goes_on told_go_on
went_on_same n r t client row None run = record { rows = refl; next = run }
went_on_same n r t client row (Some act) run = acts_same n r t client row act run

do_same : (n : ℕ) (r : RunNow) (t : TablesNow) (client : ℕ) (act : Action) (row : Option ClientRow) → RunStands n r t
    → IsRan n (ran_do r client act row) (told_do t client act row)
unfolding ran_do told_do
do_same n r t client act None run = record { rows = refl; next = run }
do_same n r t client act (Some row) run =
    subst (λ (known : Known). IsRan n (ran_do r client act (Some row)) (told_start t client row act (hand_of client known.in_hand))) (sym run.known)
    (started_same n r t client row act (hand_of client r.known.in_hand) run)

finish_same : (n : ℕ) (r : RunNow) (t : TablesNow) (client : ℕ) (row : Option ClientRow) → RunStands n r t
    → IsRan n (ran_finish r client row) (told_finish t client row)
unfolding ran_finish told_finish
finish_same n r t client None run = record { rows = refl; next = run }
finish_same n r t client (Some row) run =
    subst (λ (known : Known). IsRan n (ran_finish r client (Some row)) (told_go_on t client row (hand_of client known.in_hand))) (sym run.known)
    (went_on_same n r t client row (hand_of client r.known.in_hand) run)

-- ---- an operator's line

order_same : (n : ℕ) (head : Head) (r : RunNow) (t : TablesNow) (i : ℕ) (order : Order) (f : Option FileNow) (u : Option FileTables) → IsOrder n order
    → RunStands n r t → BothStand n f u → IsRan n (ran_order head r i order f) (told_order head t i order u)
unfolding ran_order told_order
order_same n head r t i order None None fits run both = record { rows = refl; next = run }
order_same n head r t i order None (Some u) fits run both = absurd both
order_same n head r t i order (Some f) None fits run both = absurd both
order_same n head r t i order (Some f) (Some u) fits run both =
    let same : IsWent n (ordered head f order) (ordered_to head u order) = ordered_same n head f u order fits both in
    record {
      rows = same.rows;
      next = record { files = stands_set n i r.files t.files (ordered head f order).file (ordered_to head u order).file run.files same.file; known = run.known };
    }

ordered_at : (n : ℕ) (head : Head) (r : RunNow) (t : TablesNow) (i : ℕ) (order : Order) → IsOrder n order
    → RunStands n r t → IsRan n (gives_order head r i order) (told_ordered head t i order)
ordered_at n head r t i order fits run =
    order_same n head r t i order (slice_get r.files i) (slice_get t.files i) fits run (stands_at n i r.files t.files run.files)

-- ---- every line

pub line_same : (head : Head) (r : RunNow) (t : TablesNow) (line : Line) → IsRun head line → RunStands (length head.servers) r t
    → IsRan (length head.servers) (run_line head r line) (told_line head t line)
unfolding run_line told_line
line_same head r t (Do client act) fits run = do_same (length head.servers) r t client act (slice_get head.clients client) run
line_same head r t (Finish client) fits run = finish_same (length head.servers) r t client (slice_get head.clients client) run
line_same head r t (Move i to) fits run = ordered_at (length head.servers) head r t i (ToMove to) fits.1 run
line_same head r t (Freeze i) fits run = ordered_at (length head.servers) head r t i ToFreeze tt run
line_same head r t (Abandon i) fits run = ordered_at (length head.servers) head r t i ToAbandon tt run
line_same head r t (Commit i) fits run = ordered_at (length head.servers) head r t i ToCommit tt run
line_same head r t (Settle i) fits run = ordered_at (length head.servers) head r t i ToSettle tt run
line_same head r t (Shift i to) fits run = ordered_at (length head.servers) head r t i (ToShift to) fits.1 run
line_same head r t (Show i) fits run = ordered_at (length head.servers) head r t i ToShow tt run
