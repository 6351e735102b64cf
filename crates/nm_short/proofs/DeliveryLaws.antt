-- What servers send one another is delivered alike over tables and over steps: `commit` and `settle`.
use Rattle.std.proofs.Common.{◌≡◌, ◌≢◌, ◌<◌, ℕ, true, cond, List, [], Option, Some, None, refl, sym, subst, ap, ◌∙◌, eq-eqb, ne_eqb}
use Rattle.std.specs.Prelude.{option_map}
use Rattle.nm_script.specs.declared.script.Head.{Head}
use Rattle.nm_slot.specs.declared.answers.Accept.{Accept}
use Rattle.nm_slot.specs.declared.answers.Accept.TheVariants as accept
use Rattle.nm_slot.specs.declared.answers.Install.{Install}
use Rattle.nm_slot.specs.declared.answers.Install.TheVariants as install
use Rattle.nm_types.specs.Parties.{Party}
use Rattle.nm_slot.specs.Answers.{accept_answer, commit_answer, install_answer, install_ends}
use Rattle.nm_slot.specs.Changes.{slot_after}
use Rattle.nm_slot.specs.History.{IsHistory, own_now, tables_now}
use Rattle.nm_slot.specs.Moves.{Move, Sent, no_move, move_now, latest_offer, latest_handed, told_by}
use Rattle.nm_slot.specs.Phases.{source_of, phase_after, phase_now}
use Rattle.nm_slot.specs.Phases.Phase.{Passing}
use Rattle.nm_slot.specs.SlotNow.{Offer, HandedOver}
use Rattle.nm_slot.specs.SlotNow.HandedOver.{Committed, Again, Dead}
use Rattle.nm_slot.specs.SlotNow.SlotStep.{Accepting, Committing, Installing}
use Rattle.nm_slot.proofs.Facts.{Facts}
use Rattle.nm_slot.proofs.HistoryFacts.{begins_now, facts_of}
use Rattle.nm_slot.proofs.HistoryLaws.{is_whole}
use Rattle.nm_short.specs.ShortRun.{FileNow, at_server, did, source, after_accept, commits_at, delivers_offer, commits, delivers_handed, settles}
use Rattle.nm_short.specs.Tables.{FileTables, SentTo, HandedTo, no_part, slot_in, stepped, hands, commits_in, accept_to, delivers_to, commits_to, had_by, settles_by, settles_to, goes_well_to}
use Rattle.nm_short.proofs.HistoryFacts.{also_of}
use Rattle.nm_short.proofs.OrderLaws.{IsWent, well_same, ends_same, kept_inside}
use Rattle.nm_short.proofs.Standing.{Stands, Comes, IsKeptOutside, moment, sent_as, handed_as, with_sent, offer_stays, handed_stays, plain_stands, stands_by, source_stays, slot_outside, goes_same, offered_began}

-- ---- the source commits

-- where no part was had of a file system, a commit is told that the move is dead
nothing_committed : (fs number : ℕ) → commit_answer (no_part fs) number ≡ Dead 0
unfolding commit_answer
nothing_committed fs number = refl

commit_outside : (t : FileTables) (s number : ℕ) → IsKeptOutside t s (Committing number (commit_answer (slot_in t s) number))
unfolding slot_after
commit_outside t s number past =
    ap (λ a. slot_after (no_part t.fs) (Committing number a)) (ap (λ v. commit_answer v number) (slot_outside t s past) ∙ nothing_committed t.fs number)

commit_told : (number dest : ℕ) (a : HandedOver) (move : ℕ → Move) (before : Option HandedTo) (told : Option ℕ) → dest ≡ (move number).dest
    → before ≡ option_map (handed_as move) told → hands a dest number before ≡ option_map (handed_as move) (told_by (Committing number a) told)
commit_told number dest (Committed parties) move before told goes was = ap (λ d. Some (record { dest = d; number = number })) goes
commit_told number dest Again move before told goes was = ap (λ d. Some (record { dest = d; number = number })) goes
commit_told number dest (Dead known) move before told goes was = was

commit_sends : (s number : ℕ) (a : HandedOver) (f : FileNow) → latest_offer (did f s (Committing number a)).moments ≡ latest_offer f.moments
unfolding latest_offer
commit_sends s number a f = refl

commit_tells : (s number : ℕ) (a : HandedOver) (f : FileNow) → latest_handed (did f s (Committing number a)).moments ≡ told_by (Committing number a) (latest_handed f.moments)
unfolding latest_handed
commit_tells s number a f = refl

committed_stands : (n : ℕ) (f : FileNow) (t : FileTables) (x : SentTo) → Stands n f t
    → (move_now f.moments x.offer.number).prepared ≡ true → (move_now f.moments x.offer.number).source ≡ x.source → x.dest ≡ (move_now f.moments x.offer.number).dest
    → move_now f.moments x.offer.number ≢ no_move
    → Stands n (commits_at f x.source x.offer.number) (commits_in t x)
unfolding commits_in stepped
committed_stands n f t x stands prepared from goes began =
    let s : ℕ = x.source in
    let number : ℕ = x.offer.number in
    let a : HandedOver = commit_answer (at_server f s) number in
    let comes : Comes f s (Committing number a) = record { answered = refl; delivered = (prepared, from) } in
    let after : ℕ → Move = move_now (did f s (Committing number a)).moments in
    let goes_on : x.dest ≡ (after number).dest = goes ∙ sym (goes_same n f t s (Committing number a) stands comes number began) in
    let same : commit_answer (slot_in t s) number ≡ a = ap (λ v. commit_answer v number) (stands.slots s) in
    subst (λ b. Stands n (commits_at f s number) (with_sent (stepped t s (Committing number b)) t.at t.offer (hands b x.dest number t.handed))) (sym same)
    (stands_by n f t s (Committing number a) t.at t.offer (hands a x.dest number t.handed) stands comes
    (subst (λ b. IsKeptOutside t s (Committing number b)) same (commit_outside t s number)) tt
    (stands.at ∙ source_stays f s (Committing number a) refl) stands.within
    (offer_stays n f t s (Committing number a) stands comes ∙ ap (option_map (sent_as after)) (sym (commit_sends s number a f)))
    (commit_told number x.dest a after t.handed (latest_handed f.moments) goes_on (handed_stays n f t s (Committing number a) stands comes)
    ∙ ap (option_map (handed_as after)) (sym (commit_tells s number a f))))

-- ---- the destination accepts

accept_prepared : (f : FileNow) (d : ℕ) (offer : Offer) → (move_now (did f d (Accepting offer [] accept.Held)).moments offer.number).prepared ≡ true
unfolding move_now
accept_prepared f d offer = ap (λ b. (cond b (record (move_now f.moments offer.number) { prepared = true }) (move_now f.moments offer.number)).prepared) (eq-eqb offer.number offer.number refl)

accept_sends : (f : FileNow) (d : ℕ) (offer : Offer) (a : Accept) → latest_offer (did f d (Accepting offer [] a)).moments ≡ latest_offer f.moments
unfolding latest_offer
accept_sends f d offer a = refl

accept_same : (n : ℕ) (head : Head) (f : FileNow) (t : FileTables) (x : Sent) (d : ℕ) (a : Accept) → latest_offer f.moments ≡ Some x
    → d ≡ (move_now f.moments x.offer.number).dest → Stands n f t → Comes f d (Accepting x.offer [] a)
    → Stands n (did f d (Accepting x.offer [] a)) (stepped t d (Accepting x.offer [] a))
    → IsWent n (after_accept head (did f d (Accepting x.offer [] a)) x.source x.offer.number a)
    (accept_to head (stepped t d (Accepting x.offer [] a)) (record { source = x.source; dest = d; offer = x.offer }) a)
unfolding after_accept accept_to
accept_same n head f t x d accept.Held latest at stands comes after =
    let number : ℕ = x.offer.number in
    let f' : FileNow = did f d (Accepting x.offer [] accept.Held) in
    let t' : FileTables = stepped t d (Accepting x.offer [] accept.Held) in
    let before = (also_of f.home f.moments stands.history).was_sent x latest in
    let now = (also_of f'.home f'.moments after.history).was_sent x (accept_sends f d x.offer accept.Held ∙ latest) in
    let goes : d ≡ (move_now f'.moments number).dest =
    at ∙ sym (goes_same n f t d (Accepting x.offer [] accept.Held) stands comes number (offered_began (move_now f.moments number) x.offer before.offer)) in
    well_same n head (commits_at f' x.source number) (commits_in t' (record { source = x.source; dest = d; offer = x.offer }))
    (committed_stands n f' t' (record { source = x.source; dest = d; offer = x.offer }) after (accept_prepared f d x.offer) now.source goes
    (offered_began (move_now f'.moments number) x.offer now.offer))
accept_same n head f t x d (accept.Old known) latest at stands comes after = ends_same n head (did f d (Accepting x.offer [] (accept.Old known))) _ _ after
accept_same n head f t x d accept.Live latest at stands comes after = ends_same n head (did f d (Accepting x.offer [] accept.Live)) _ _ after

offer_delivered : (n : ℕ) (head : Head) (f : FileNow) (t : FileTables) (sent : Option Sent) → latest_offer f.moments ≡ sent → Stands n f t
    → IsWent n (delivers_offer head f sent) (delivers_to head t (option_map (sent_as (move_now f.moments)) sent))
unfolding delivers_offer delivers_to
offer_delivered n head f t None latest stands = record { rows = refl; file = stands; well = refl }
offer_delivered n head f t (Some x) latest stands =
    let d : ℕ = (move_now f.moments x.offer.number).dest in
    let a : Accept = accept_answer (at_server f d) x.offer.number in
    let was = (also_of f.home f.moments stands.history).was_sent x latest in
    let comes : Comes f d (Accepting x.offer [] a) = record { answered = refl; delivered = (was.offer, refl) } in
    subst (λ v. IsWent n (delivers_offer head f (Some x)) (accept_to head (stepped t d (Accepting x.offer [] (accept_answer v x.offer.number)))
    (record { source = x.source; dest = d; offer = x.offer }) (accept_answer v x.offer.number))) (sym (stands.slots d))
    (accept_same n head f t x d a latest refl stands comes
    (plain_stands n f t d (Accepting x.offer [] a) stands comes (kept_inside n f t d (Accepting x.offer [] a) stands (stands.dests x.offer.number)) tt refl))

pub commits_same : (n : ℕ) (head : Head) (f : FileNow) (t : FileTables) → Stands n f t → IsWent n (commits head f) (commits_to head t)
unfolding commits
commits_same n head f t stands =
    subst (λ sent. IsWent n (commits head f) (delivers_to head t sent)) (sym stands.offer) (offer_delivered n head f t (latest_offer f.moments) refl stands)

-- ---- the destination installs

-- What is installed was on its way there, and is there then.
install_arrives : (f : FileNow) (d number : ℕ) (ends : List Party) → Comes f d (Installing number ends install.Now) → IsHistory f.home f.moments
    → source (did f d (Installing number ends install.Now)) ≡ d
unfolding phase_now
install_arrives f d number ends comes history =
    let whole = is_whole f.home f.moments d number ends (comes, history) in
    let has = facts_of f.home f.moments history in
    let here : Facts (Passing whole.source d number) (begins_now f.moments) (move_now f.moments) (own_now f.home.first f.moments) (tables_now f.home f.moments) =
    subst (λ p. Facts p (begins_now f.moments) (move_now f.moments) (own_now f.home.first f.moments) (tables_now f.home f.moments)) whole.handed has in
    ap (λ p. source_of (phase_after p (moment d (Installing number ends install.Now)))) whole.handed
    ∙ arrives whole.source here.offers.apart
  where
    arrives : (q : ℕ) → q ≢ d → source_of (phase_after (Passing q d number) (moment d (Installing number ends install.Now))) ≡ d
    arrives q apart = rw (ne_eqb d q (λ e. apart (sym e)), eq-eqb d d refl, eq-eqb number number refl) refl

install_sends : (f : FileNow) (d number : ℕ) (ends : List Party) (a : Install) → latest_offer (did f d (Installing number ends a)).moments ≡ latest_offer f.moments
unfolding latest_offer
install_sends f d number ends a = refl

install_tells : (f : FileNow) (d number : ℕ) (ends : List Party) (a : Install) → latest_handed (did f d (Installing number ends a)).moments ≡ latest_handed f.moments
unfolding latest_handed
install_tells f d number ends a = refl

had_same : (f : FileNow) (t : FileTables) (d number : ℕ) (ends : List Party) (a : Install) → Comes f d (Installing number ends a) → IsHistory f.home f.moments → t.at ≡ source f
    → had_by a d t.at ≡ source (did f d (Installing number ends a))
had_same f t d number ends install.Now comes history at = sym (install_arrives f d number ends comes history)
had_same f t d number ends install.Already comes history at = at ∙ source_stays f d (Installing number ends install.Already) refl
had_same f t d number ends install.Absent comes history at = at ∙ source_stays f d (Installing number ends install.Absent) refl

had_within : (n d at : ℕ) (a : Install) → d < n → at < n → had_by a d at < n
had_within n d at install.Now new old = new
had_within n d at install.Already new old = old
had_within n d at install.Absent new old = old

installed_stands : (n : ℕ) (f : FileNow) (t : FileTables) (d number : ℕ) (ends : List Party) (a : Install) → Stands n f t → Comes f d (Installing number ends a) → d < n
    → Stands n (did f d (Installing number ends a)) (record (stepped t d (Installing number ends a)) { at = had_by a d t.at })
unfolding stepped
installed_stands n f t d number ends a stands comes below =
    let after : ℕ → Move = move_now (did f d (Installing number ends a)).moments in
    stands_by n f t d (Installing number ends a) (had_by a d t.at) t.offer t.handed stands comes
    (kept_inside n f t d (Installing number ends a) stands below) tt
    (had_same f t d number ends a comes stands.history stands.at) (had_within n d t.at a below stands.within)
    (offer_stays n f t d (Installing number ends a) stands comes ∙ ap (option_map (sent_as after)) (sym (install_sends f d number ends a)))
    (handed_stays n f t d (Installing number ends a) stands comes ∙ ap (option_map (handed_as after)) (sym (install_tells f d number ends a)))

word_delivered : (n : ℕ) (head : Head) (f : FileNow) (t : FileTables) (told : Option ℕ) → latest_handed f.moments ≡ told → Stands n f t
    → IsWent n (delivers_handed head f told) (settles_by head t (option_map (handed_as (move_now f.moments)) told))
unfolding delivers_handed settles_by stepped
word_delivered n head f t None latest stands = record { rows = refl; file = stands; well = refl }
word_delivered n head f t (Some number) latest stands =
    let d : ℕ = (move_now f.moments number).dest in
    let a : Install = install_answer (at_server f d) number in
    let ends : List Party = install_ends (at_server f d) in
    let comes : Comes f d (Installing number ends a) = record { answered = (refl, refl); delivered = ((also_of f.home f.moments stands.history).was_told number latest, refl) } in
    subst (λ v. IsWent n (delivers_handed head f (Some number)) (goes_well_to head (record (stepped t d (Installing number (install_ends v) (install_answer v number))) { at = had_by (install_answer v number) d t.at })))
    (sym (stands.slots d))
    (well_same n head (did f d (Installing number ends a)) (record (stepped t d (Installing number ends a)) { at = had_by a d t.at })
    (installed_stands n f t d number ends a stands comes (stands.dests number)))

pub settles_same : (n : ℕ) (head : Head) (f : FileNow) (t : FileTables) → Stands n f t → IsWent n (settles head f) (settles_to head t)
unfolding settles
settles_same n head f t stands =
    subst (λ told. IsWent n (settles head f) (settles_by head t told)) (sym stands.handed) (word_delivered n head f t (latest_handed f.moments) refl stands)
