-- A release is the same over tables as over steps: each file system of a server in turn.
use Rattle.std.proofs.Common.{◌≡◌, ◌<◌, ℕ, zero, suc, Bool, true, false, cond, List, [], ◌∷◌, map, Option, Some, None, refl, sym, subst, ap, ◌∙◌, eq-eqb}
use Rattle.std.proofs.lemmas.Option.{none-some, same_Some, slice_get-map}
use Rattle.std.specs.Prelude.{slice_get, slice_set, option_map}
use Rattle.nm_types.specs.declared.action.Action.{Action}
use Rattle.nm_types.specs.declared.calls.Call.{Call}
use Rattle.nm_types.specs.declared.calls.Verdict.TheVariants.{Pass}
use Rattle.nm_script.specs.declared.script.ClientRow.{ClientRow}
use Rattle.nm_slot.specs.declared.answers.Answer.{Answer}
use Rattle.nm_slot.specs.declared.answers.Enter.{Enter}
use Rattle.nm_slot.specs.declared.answers.Enter.TheVariants as enter
use Rattle.nm_slot.specs.Answers.{enter_answer, apply_answer, apply_ends}
use Rattle.nm_slot.specs.History.{passes_now, is_out}
use Rattle.nm_slot.specs.SlotNow.{SlotView}
use Rattle.nm_slot.specs.SlotNow.SlotStep.{Entering, Leaving, Applying}
use Rattle.nm_short.specs.declared.locking.Freed.{Freed}
use Rattle.nm_short.specs.Requests.{reply_of, freed_by, frees_more, let_in}
use Rattle.nm_short.specs.ShortRun.{FileNow, FreedFile, FreedFiles, at_server, did, frees_within, frees_after, frees, freed_then, frees_all, left_by, leaves_at}
use Rattle.nm_short.specs.Tables.{FileTables, FreedTo, FreedAllTo, slot_in, stepped, frees_within_to, frees_after_to, frees_to, freed_then_to, frees_all_to, left_to, leaves_to}
use Rattle.nm_short.proofs.ClientLaws.{IsIn, entered_stands, entered_inside, apply_out, pass_out}
use Rattle.nm_short.proofs.OrderLaws.{kept_inside}
use Rattle.nm_short.proofs.Standing.{Stands, plain_stands}
use Rattle.nm_short.proofs.Several.{AllStand, BothStand, stands_at, stands_set}

-- ---- one file system

-- the same came of it, and what is left stands for the steps
pub record IsFreed (n : ℕ) (one : FreedFile) (to : FreedTo) : Type 0 where
  pub file : Stands n one.file to.file
  pub freed : to.freed ≡ one.freed

-- the passes that are out at a server
abbrev pub passes_of : ℕ → FileNow → List ℕ
passes_of s f = passes_now f.moments s

-- A pass that was given and came back leaves those that were out.
left_out : (f : FileNow) (s epoch : ℕ) (rest : List ℕ) → passes_of s f ≡ epoch ∷ rest → passes_of s (did f s (Leaving epoch)) ≡ rest
unfolding passes_now
left_out f s epoch rest e = rw (eq-eqb s s refl, e, eq-eqb epoch epoch refl) refl

given_out : (f : FileNow) (s fs epoch : ℕ) → passes_of s (did f s (Entering (enter.Entered (record { fs = fs; epoch = epoch })))) ≡ epoch ∷ passes_of s f
unfolding passes_now
given_out f s fs epoch = rw (eq-eqb s s refl) refl

none_out : (f : FileNow) (s : ℕ) (a : Enter) → let_in (Some a) ≡ None → passes_of s (did f s (Entering a)) ≡ passes_of s f
unfolding passes_now let_in
none_out f s (enter.Entered pass) e = absurd (none-some pass.epoch (sym e))
none_out f s (enter.Moved dest) e = rw (eq-eqb s s refl) refl
none_out f s (enter.Full passes) e = rw (eq-eqb s s refl) refl
none_out f s enter.Delay e = rw (eq-eqb s s refl) refl
none_out f s enter.Unknown e = rw (eq-eqb s s refl) refl

within_by : (n : ℕ) (f : FileNow) (t : FileTables) (s epoch : ℕ) (call : Call) (a : Answer) → Stands n f t → s < n
    → is_out epoch (passes_of s f) ≡ true → a ≡ apply_answer (at_server f s) epoch None call Pass
    → Stands n (did (did f s (Applying epoch None call Pass [] a)) s (Leaving epoch)) (stepped (stepped t s (Applying epoch None call Pass [] a)) s (Leaving epoch))
unfolding apply_ends
within_by n f t s epoch call a stands below out e =
    let f' : FileNow = did f s (Applying epoch None call Pass [] a) in
    let t' : FileTables = stepped t s (Applying epoch None call Pass [] a) in
    let after : Stands n f' t' = plain_stands n f t s (Applying epoch None call Pass [] a) stands (record { answered = (e, refl); delivered = out })
    (kept_inside n f t s (Applying epoch None call Pass [] a) stands below) tt refl in
    let still : is_out epoch (passes_of s f') ≡ true = ap (is_out epoch) (apply_out f s epoch call a) ∙ out in
    plain_stands n f' t' s (Leaving epoch) after (record { answered = tt; delivered = still }) (kept_inside n f' t' s (Leaving epoch) after below) tt refl

within_same : (n : ℕ) (f : FileNow) (t : FileTables) (s epoch : ℕ) (call : Call) → Stands n f t → s < n → is_out epoch (passes_of s f) ≡ true
    → IsFreed n (frees_within f s epoch call) (frees_within_to t s epoch call)
unfolding frees_within frees_within_to
within_same n f t s epoch call stands below out =
    let a : Answer = apply_answer (at_server f s) epoch None call Pass in
    subst (λ v. IsFreed n (record { file = did (did f s (Applying epoch None call Pass [] a)) s (Leaving epoch); freed = freed_by (reply_of call a).status })
    (record {
      file = stepped (stepped t s (Applying epoch None call Pass [] (apply_answer v epoch None call Pass))) s (Leaving epoch);
      freed = freed_by (reply_of call (apply_answer v epoch None call Pass)).status;
    })) (sym (stands.slots s))
    (record { file = within_by n f t s epoch call a stands below out refl; freed = refl })

-- who is let in is at a server of the script, with a pass that is out
after_same : (n : ℕ) (f : FileNow) (t : FileTables) (s : ℕ) (call : Call) (a : Enter) → Stands n f t → IsIn n f s (Some a)
    → IsFreed n (frees_after f s call a) (frees_after_to t s call a)
unfolding frees_after frees_after_to
after_same n f t s call (enter.Entered pass) stands inside = within_same n f t s pass.epoch call stands inside.0 inside.1
after_same n f t s call (enter.Moved dest) stands inside = record { file = stands; freed = refl }
after_same n f t s call (enter.Full passes) stands inside = record { file = stands; freed = refl }
after_same n f t s call enter.Delay stands inside = record { file = stands; freed = refl }
after_same n f t s call enter.Unknown stands inside = record { file = stands; freed = refl }

is_in : (n : ℕ) (f : FileNow) (t : FileTables) (s : ℕ) (a : Enter) → Stands n f t → a ≡ enter_answer (at_server f s) → IsIn n (did f s (Entering a)) s (Some a)
is_in n f t s (enter.Entered pass) stands e = (entered_inside n f t s stands (enter.Entered pass) e (λ u. cc), pass_out f s pass.epoch pass.fs)
is_in n f t s (enter.Moved dest) stands e = tt
is_in n f t s (enter.Full passes) stands e = tt
is_in n f t s enter.Delay stands e = tt
is_in n f t s enter.Unknown stands e = tt

freed_same : (n : ℕ) (f : FileNow) (t : FileTables) (s : ℕ) (call : Call) → Stands n f t → IsFreed n (frees f s call) (frees_to t s call)
unfolding frees frees_to
freed_same n f t s call stands =
    let a : Enter = enter_answer (at_server f s) in
    subst (λ v. IsFreed n (frees_after (did f s (Entering a)) s call a) (frees_after_to (stepped t s (Entering (enter_answer v))) s call (enter_answer v)))
    (sym (stands.slots s))
    (after_same n (did f s (Entering a)) (stepped t s (Entering a)) s call a (entered_stands n f t s a stands refl) (is_in n f t s a stands refl))

-- The passes that were out are out still.
within_passes : (f : FileNow) (s epoch : ℕ) (call : Call) (rest : List ℕ) → passes_of s f ≡ epoch ∷ rest → passes_of s (frees_within f s epoch call).file ≡ rest
unfolding frees_within
within_passes f s epoch call rest e =
    let a : Answer = apply_answer (at_server f s) epoch None call Pass in
    left_out (did f s (Applying epoch None call Pass [] a)) s epoch rest (apply_out f s epoch call a ∙ e)

after_passes : (f : FileNow) (s : ℕ) (call : Call) (a : Enter) → passes_of s (frees_after (did f s (Entering a)) s call a).file ≡ passes_of s f
unfolding frees_after let_in
after_passes f s call (enter.Entered pass) =
    within_passes (did f s (Entering (enter.Entered pass))) s pass.epoch call (passes_of s f) (given_out f s pass.fs pass.epoch)
after_passes f s call (enter.Moved dest) = none_out f s (enter.Moved dest) refl
after_passes f s call (enter.Full passes) = none_out f s (enter.Full passes) refl
after_passes f s call enter.Delay = none_out f s enter.Delay refl
after_passes f s call enter.Unknown = none_out f s enter.Unknown refl

freed_passes : (f : FileNow) (s : ℕ) (call : Call) → passes_of s (frees f s call).file ≡ passes_of s f
unfolding frees
freed_passes f s call = after_passes f s call (enter_answer (at_server f s))

-- ---- each in turn

pub record AreFreed (n : ℕ) (all : FreedFiles) (to : FreedAllTo) : Type 0 where
  pub files : AllStand n all.files to.files
  pub freed : to.freed ≡ all.freed

then_same : (n : ℕ) (one : FreedFile) (to : FreedTo) (fs : List FileNow) (ts : List FileTables) (all : FreedFiles) (further : FreedAllTo)
    → IsFreed n one to → AllStand n fs ts → AreFreed n all further → AreFreed n (freed_then one fs all) (freed_then_to to ts further)
then_same n one to fs ts all further first rest same =
    subst (λ its. AreFreed n (freed_then one fs all) (freed_then_to (record { file = to.file; freed = its }) ts further)) (sym first.freed)
    (by_test (frees_more one.freed))
  where
    by_test : (b : Bool) → AreFreed n (cond b (record { files = one.file ∷ all.files; freed = all.freed }) (record { files = one.file ∷ fs; freed = one.freed }))
        (cond b (record { files = to.file ∷ further.files; freed = further.freed }) (record { files = to.file ∷ ts; freed = one.freed }))
    by_test true = record { files = (first.file, same.files); freed = same.freed }
    by_test false = record { files = (first.file, rest); freed = refl }

pub all_freed_same : (n : ℕ) (fs : List FileNow) (ts : List FileTables) (s : ℕ) (call : Call) → AllStand n fs ts → AreFreed n (frees_all fs s call) (frees_all_to ts s call)
unfolding frees_all frees_all_to
all_freed_same n [] [] s call all = record { files = tt; freed = refl }
all_freed_same n [] (t ∷ ts) s call all = absurd all
all_freed_same n (f ∷ fs) [] s call all = absurd all
all_freed_same n (f ∷ fs) (t ∷ ts) s call all =
    then_same n (frees f s call) (frees_to t s call) fs ts (frees_all fs s call) (frees_all_to ts s call) (freed_same n f t s call all.0) all.1
    (all_freed_same n fs ts s call all.1)

-- What one of them keeps, all keep.
then_keeps : {A : Type 0} (of : FileNow → A) (f : FileNow) (one : FreedFile) (fs : List FileNow) (all : FreedFiles) → of one.file ≡ of f → map of all.files ≡ map of fs
    → map of (freed_then one fs all).files ≡ of f ∷ map of fs
then_keeps of f one fs all first rest = by_test (frees_more one.freed)
  where
    by_test : (b : Bool)
        → map of (cond {A = FreedFiles} b (record { files = one.file ∷ all.files; freed = all.freed }) (record { files = one.file ∷ fs; freed = one.freed })).files
        ≡ of f ∷ map of fs
    by_test true = ap (λ x. x ∷ map of all.files) first ∙ ap (λ xs. of f ∷ xs) rest
    by_test false = ap (λ x. x ∷ map of fs) first

pub all_keep : {A : Type 0} (of : FileNow → A) (s : ℕ) (call : Call) (fs : List FileNow) → ((f : FileNow) → of (frees f s call).file ≡ of f)
    → map of (frees_all fs s call).files ≡ map of fs
unfolding frees_all
all_keep of s call [] keeps = refl
all_keep of s call (f ∷ fs) keeps = then_keeps of f (frees f s call) fs (frees_all fs s call) (keeps f) (all_keep of s call fs keeps)

-- ---- the pass of the first one comes back

still_out : (n s epoch : ℕ) (files fs : List FileNow) (i : ℕ) (f g : FileNow) → map (passes_of s) files ≡ map (passes_of s) fs → slice_get fs i ≡ Some f
    → slice_get files i ≡ Some g → is_out epoch (passes_of s f) ≡ true → is_out epoch (passes_of s g) ≡ true
still_out n s epoch files fs i f g same at now out =
    let there : Some (passes_of s g) ≡ Some (passes_of s f) =
    sym (slice_get-map (passes_of s) files i ∙ ap (option_map (passes_of s)) now)
    ∙ ap (λ xs. slice_get xs i) same
    ∙ slice_get-map (passes_of s) fs i ∙ ap (option_map (passes_of s)) at in
    ap (is_out epoch) (same_Some (passes_of s g) (passes_of s f) there) ∙ out

left_same : (n s epoch : ℕ) (fs : List FileNow) (ts : List FileTables) (i : ℕ) (g : Option FileNow) (u : Option FileTables) → s < n → AllStand n fs ts → BothStand n g u
    → ((f : FileNow) → g ≡ Some f → is_out epoch (passes_of s f) ≡ true)
    → AllStand n (left_by fs i s epoch g) (left_to ts i s epoch u)
unfolding left_by left_to
left_same n s epoch fs ts i None None below all both out = all
left_same n s epoch fs ts i None (Some u) below all both out = absurd both
left_same n s epoch fs ts i (Some g) None below all both out = absurd both
left_same n s epoch fs ts i (Some g) (Some u) below all both out =
    stands_set n i fs ts (did g s (Leaving epoch)) (stepped u s (Leaving epoch)) all
    (plain_stands n g u s (Leaving epoch) both (record { answered = tt; delivered = out g refl }) (kept_inside n g u s (Leaving epoch) both below) tt refl)

-- Released in each, with a pass of the one at that place.
pub released_same : (n s epoch : ℕ) (fs : List FileNow) (ts : List FileTables) (i : ℕ) (f : FileNow) (call : Call) → s < n → AllStand n fs ts
    → slice_get fs i ≡ Some f → is_out epoch (passes_of s f) ≡ true
    → AllStand n (leaves_at (frees_all fs s call).files i s epoch) (leaves_to (frees_all_to ts s call).files i s epoch)
released_same n s epoch fs ts i f call below all at out =
    let after : FreedFiles = frees_all fs s call in
    let after' : FreedAllTo = frees_all_to ts s call in
    let same : AreFreed n after after' = all_freed_same n fs ts s call all in
    left_same n s epoch after.files after'.files i (slice_get after.files i) (slice_get after'.files i) below same.files
    (stands_at n i after.files after'.files same.files)
    (λ g now. still_out n s epoch after.files fs i f g (all_keep (passes_of s) s call fs (λ x. freed_passes x s call)) at now out)
