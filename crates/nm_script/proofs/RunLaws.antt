-- Lines that are run, and the places that names have: what is read is what was spelled.
use Rattle.std.proofs.Common.{◌≡◌, ℕ, zero, suc, ◌<◌, ◌≤◌, Bool, true, false, cond, not, ltb, leb, List, [], ◌∷◌, length, get_or, map, Option, Some, None, Result, Ok, Err, refl, sym, ap, subst, ◌∙◌, arith, inl, inr}
use Rattle.std.specs.Prelude.{◌&&◌, codes, position}
use Rattle.std.specs.List.{list_any, position_or_len, AllByRecursion}
use Rattle.std.specs.Str.{bytes_eq}
use Rattle.std.specs.Fmt.{decimal}
use Rattle.std.proofs.lemmas.Bool.{lt-ltb, leb-true, le-leb, or_parts, not-true, and_parts}
use Rattle.std.proofs.lemmas.List.{get_or-map, length-map}
use Rattle.std.proofs.lemmas.List.Sums.{position_or_len_is}
use Rattle.std.proofs.lemmas.List.Quantifiers.{position-Some}
use Rattle.hex.specs.Hex.{encode_lower}
use Rattle.nm_types.specs.declared.action.Action.{Action}
use Rattle.nm_types.specs.declared.action.Action.TheVariants as actions
use Rattle.nm_types.specs.declared.action.OpenAction.{OpenAction}
use Rattle.nm_types.specs.declared.action.CloseAction.{CloseAction}
use Rattle.nm_types.specs.declared.action.LockAction.{LockAction}
use Rattle.nm_types.specs.declared.action.UnlockAction.{UnlockAction}
use Rattle.nm_types.specs.declared.action.ReleaseAction.{ReleaseAction}
use Rattle.nm_types.specs.declared.action.ReadAction.{ReadAction}
use Rattle.nm_types.specs.declared.action.WriteAction.{WriteAction}
use Rattle.nm_types.specs.declared.action.SizeAction.{SizeAction}
use Rattle.nm_types.specs.declared.action.NameAction.{NameAction}
use Rattle.nm_types.specs.declared.results.LockKind.{LockKind}
use Rattle.nm_script.specs.declared.script.Head.{Head}
use Rattle.nm_script.specs.declared.script.Line.{Line}
use Rattle.nm_script.specs.declared.script.Line.TheVariants.{Do, Finish, Move, Freeze, Abandon, Commit, Settle, Shift, Show}
use Rattle.nm_script.specs.declared.script.Why.{Why}
use Rattle.nm_script.specs.declared.script.Why.TheVariants as why
use Rattle.nm_script.specs.Words.{is_name, is_file_name, number_at, access_at, deny_at, lock_kind_at, bytes_at}
use Rattle.nm_script.specs.Grammar.{name_at, server_names, file_system_names, client_names, access_word, deny_word, kind_word, open_words, close_words, lock_words, unlock_words, release_words, read_words, write_words, size_words, file_words, action_words, fs_words, fs_to_words, run_words, all_differ, IsOpen, IsClose, IsLock, IsUnlock, IsRelease, IsRead, IsWrite, IsSize, IsFile, IsAction, IsRun}
use Rattle.nm_script.specs.Reading.{◌>>=◌, place_below, server_number, file_system_number, client_number, open_action, close_action, lock_action, unlock_action, release_action, count_at, read_action, write_action, size_action, file_action, root_at, file_at, close_at, size_at, open_at, lock_at, action_at, done_by, action_line, finish_line, do_at, with_fs, with_fs_to, fs_line, fs_to_line, fs_at, run_line}
use Rattle.nm_script.proofs.WordLaws.{chosen, same_word, word_itself, has_space, IsWord, number_found, number_again, decimal_is_word, name_found, name_again, name_is_word, file_name_found, file_name_again, file_name_is_word, access_found, access_again, access_is_word, deny_found, deny_again, deny_is_word, kind_found, kind_again, kind_is_word}
use Rattle.nm_script.proofs.HexLaws.{hex_found, hex_again, hex_is_word}

-- the value of a step that did not fail
pub bind_ok : {A B E : Type 0} (r : Result A E) (f : A → Result B E) (y : B) → (r >>= f) ≡ Ok y → (x : A) × (r ≡ Ok x) × (f x ≡ Ok y)
bind_ok (Ok x) f y e = (x, refl, e)
bind_ok (Err d) f y e = absurd cc

abbrev done : {A : Type 0} → A → Result A Why
done x = Ok x

pub ok_is : {A : Type 0} (x y : A) → done x ≡ done y → x ≡ y
ok_is x y e = cc

-- a test that did not fail
pub guard_ok : {A : Type 0} (b : Bool) (w : Why) (x y : A) → cond b (done x) (Err w) ≡ Ok y → (b ≡ true) × (x ≡ y)
guard_ok true w x y e = (refl, ok_is x y e)
guard_ok false w x y e = absurd cc

-- ---- places of names

none_any : {X : Type 0} (p : X → Bool) (xs : List X) (k : ℕ) (d : X) → list_any p xs ≡ false → k < length xs → p (get_or xs k d) ≡ false
none_any p [] k d none lt = absurd (omega arith)
none_any p (x ∷ xs) zero d none lt = (or_parts (p x) (list_any p xs) none).0
none_any p (x ∷ xs) (suc k) d none lt = none_any p xs k d (or_parts (p x) (list_any p xs) none).1 (omega arith)

-- two names at two places differ
pub differ_at : (names : List (List ℕ)) (i j : ℕ) → all_differ names ≡ true → i < j → j < length names → bytes_eq (get_or names i []) (get_or names j []) ≡ false
differ_at [] i j h lt in' = absurd (omega arith)
differ_at (n ∷ ns) i zero h lt in' = absurd (omega arith)
differ_at (n ∷ ns) zero (suc j) h lt in' = none_any (bytes_eq n) ns j [] (not-true _ (and_parts _ (all_differ ns) h).0) (omega arith)
differ_at (n ∷ ns) (suc i) (suc j) h lt in' = differ_at ns i j (and_parts (not (list_any (bytes_eq n) ns)) (all_differ ns) h).1 (omega arith) (omega arith)

below_ok : (limit : ℕ) (o : Option ℕ) (k : ℕ) → place_below limit o ≡ Ok k → o ≡ Some k
unfolding place_below
below_ok limit None k e = absurd cc
below_ok limit (Some place) k e = ap (λ n. Some n) (guard_ok (ltb place limit) why.Name place k e).1

module _ {X : Type 0} (f : X → List ℕ) (d : X) where
  -- a place that is found has that name
  pub place_found : (limit : ℕ) (xs : List X) (word : List ℕ) (k : ℕ) → place_below limit (position (λ x. bytes_eq (f x) word) xs) ≡ Ok k → (k < length xs) × (word ≡ name_at (map f xs) k)
  place_found limit xs word k e =
      let at = position-Some (λ x. bytes_eq (f x) word) xs k d (below_ok limit _ k e) in
      (at.0, sym (get_or-map f xs k d [] at.0 ∙ same_word _ word at.1))

  -- a name among others is found in its place
  pub place_again : (limit : ℕ) (xs : List X) (k : ℕ) → all_differ (map f xs) ≡ true → length xs ≤ limit → k < length xs → place_below limit (position (λ x. bytes_eq (f x) (name_at (map f xs) k)) xs) ≡ Ok k
  unfolding place_below
  place_again limit xs k differ few lt =
      let names = map f xs in
      let name = name_at names k in
      let long : length names ≡ length xs = length-map xs f in
      let here : (j : ℕ) → j < length xs → bytes_eq (f (get_or xs j d)) name ≡ bytes_eq (get_or names j []) name = λ j in'. ap (λ n. bytes_eq n name) (sym (get_or-map f xs j d [] in')) in
      let is : position_or_len (λ x. bytes_eq (f x) name) xs ≡ k =
      position_or_len_is (λ x. bytes_eq (f x) name) xs k d (omega arith)
      (λ j before. here j (omega arith) ∙ differ_at names j k differ before (omega arith))
      (λ in'. here k in' ∙ word_itself name) in
      rw (is, lt-ltb k (length xs) lt, lt-ltb k limit (omega arith)) refl

-- ---- the parts of a head that lines need

pub record HasNames (head : Head) : Type 0 where
  pub servers : all_differ (server_names head) ≡ true
  pub file_systems : all_differ (file_system_names head) ≡ true
  pub clients : all_differ (client_names head) ≡ true
  pub servers_few : length head.servers ≤ 16
  pub file_systems_few : length head.file_systems ≤ 64
  pub clients_few : length head.clients ≤ 64
  pub server_words : AllByRecursion IsWord (server_names head)
  pub file_system_words : AllByRecursion IsWord (file_system_names head)
  pub client_words : AllByRecursion IsWord (client_names head)

server_found : (head : Head) (word : List ℕ) (k : ℕ) → server_number head word ≡ Ok k → (k < length head.servers) × (word ≡ name_at (server_names head) k)
server_found head word k e = place_found (λ row. row.name) (record { name = [] }) 16 head.servers word k e

server_again : (head : Head) (k : ℕ) → HasNames head → k < length head.servers → server_number head (name_at (server_names head) k) ≡ Ok k
server_again head k names lt = place_again (λ row. row.name) (record { name = [] }) 16 head.servers k names.servers names.servers_few lt

file_system_found : (head : Head) (word : List ℕ) (k : ℕ) → file_system_number head word ≡ Ok k → (k < length head.file_systems) × (word ≡ name_at (file_system_names head) k)
file_system_found head word k e = place_found (λ row. row.name) (record { name = []; at = 0 }) 64 head.file_systems word k e

file_system_again : (head : Head) (k : ℕ) → HasNames head → k < length head.file_systems → file_system_number head (name_at (file_system_names head) k) ≡ Ok k
file_system_again head k names lt = place_again (λ row. row.name) (record { name = []; at = 0 }) 64 head.file_systems k names.file_systems names.file_systems_few lt

client_found : (head : Head) (word : List ℕ) (k : ℕ) → client_number head word ≡ Ok k → (k < length head.clients) × (word ≡ name_at (client_names head) k)
client_found head word k e = place_found (λ row. row.name) (record { name = []; verifier = 0 }) 64 head.clients word k e

client_again : (head : Head) (k : ℕ) → HasNames head → k < length head.clients → client_number head (name_at (client_names head) k) ≡ Ok k
client_again head k names lt = place_again (λ row. row.name) (record { name = []; verifier = 0 }) 64 head.clients k names.clients names.clients_few lt

pub word_in : (names : List (List ℕ)) (k : ℕ) → AllByRecursion IsWord names → k < length names → IsWord (name_at names k)
word_in [] k are lt = absurd (omega arith)
word_in (n ∷ ns) zero are lt = are.0
word_in (n ∷ ns) (suc k) are lt = word_in ns k are.1 (omega arith)

server_is_word : (head : Head) (k : ℕ) → HasNames head → k < length head.servers → IsWord (name_at (server_names head) k)
server_is_word head k names lt = word_in (server_names head) k names.server_words (omega (arith, length-map head.servers (λ row. row.name)))

file_system_is_word : (head : Head) (k : ℕ) → HasNames head → k < length head.file_systems → IsWord (name_at (file_system_names head) k)
file_system_is_word head k names lt = word_in (file_system_names head) k names.file_system_words (omega (arith, length-map head.file_systems (λ row. row.name)))

client_is_word : (head : Head) (k : ℕ) → HasNames head → k < length head.clients → IsWord (name_at (client_names head) k)
client_is_word head k names lt = word_in (client_names head) k names.client_words (omega (arith, length-map head.clients (λ row. row.name)))

-- ---- actions

-- an open of those words
abbrev opened : List ℕ → List ℕ → ℕ → ℕ → ℕ → OpenAction
opened file owner access deny fs = record { fs = fs; file = file; access = access; deny = deny; owner = owner }

-- its words, and what is in its form
module _ (head : Head) (f file access_text deny_text owner : List ℕ) (access deny fs : ℕ) where
  opened_is : (fs < length head.file_systems) × (f ≡ name_at (file_system_names head) fs) → (access_text ≡ access_word access) × (1 ≤ access) × (access ≤ 3) → (deny_text ≡ deny_word deny) × (deny ≤ 3)
      → is_file_name file ≡ true → is_name owner ≡ true → (a : OpenAction) → opened file owner access deny fs ≡ a → (f ∷ file ∷ access_text ∷ deny_text ∷ owner ∷ [] ≡ open_words head a) × IsOpen head a
  opened_is at access_is deny_is file_is owner_is a made =
      let P : OpenAction → Type 0 = λ o. (f ∷ file ∷ access_text ∷ deny_text ∷ owner ∷ [] ≡ open_words head o) × IsOpen head o in
      subst P made (
        rw (at.1, access_is.0, deny_is.0) refl,
        record { fs = at.0; file = file_name_found file file_is; access_some = access_is.1; access_limit = access_is.2; deny_limit = deny_is.1; owner = name_found owner owner_is },
      )

open_found : (head : Head) (f file access_text deny_text owner : List ℕ) (a : OpenAction) → open_action head f file access_text deny_text owner ≡ Ok a → (f ∷ file ∷ access_text ∷ deny_text ∷ owner ∷ [] ≡ open_words head a) × IsOpen head a
unfolding open_action
open_found head f file access_text deny_text owner a e =
    let last : ℕ → ℕ → ℕ → Result OpenAction Why = λ access deny fs. cond (is_file_name file && is_name owner) (Ok (opened file owner access deny fs)) (Err why.Name) in
    let x = bind_ok (access_at access_text) (λ access. deny_at deny_text >>= λ deny. file_system_number head f >>= λ fs. last access deny fs) a e in
    let y = bind_ok (deny_at deny_text) (λ deny. file_system_number head f >>= λ fs. last x.0 deny fs) a x.2 in
    let z = bind_ok (file_system_number head f) (λ fs. last x.0 y.0 fs) a y.2 in
    let g = guard_ok (is_file_name file && is_name owner) why.Name (opened file owner x.0 y.0 z.0) a z.2 in
    let n = and_parts (is_file_name file) (is_name owner) g.0 in
    opened_is head f file access_text deny_text owner x.0 y.0 z.0 (file_system_found head f z.0 z.1) (access_found access_text x.0 x.1) (deny_found deny_text y.0 y.1) n.0 n.1 a g.1

open_again : (head : Head) (a : OpenAction) → HasNames head → IsOpen head a → open_action head (name_at (file_system_names head) a.fs) a.file (access_word a.access) (deny_word a.deny) a.owner ≡ Ok a
unfolding open_action
open_again head a names is =
    rw (access_again a.access is.access_some is.access_limit, deny_again a.deny is.deny_limit, file_system_again head a.fs names is.fs, file_name_again a.file is.file, name_again a.owner is.owner) refl

close_found : (head : Head) (f file owner : List ℕ) (a : CloseAction) → close_action head f file owner ≡ Ok a → (f ∷ file ∷ owner ∷ [] ≡ close_words head a) × IsClose head a
unfolding close_action
close_found head f file owner a e =
    let x = bind_ok (file_system_number head f) (λ fs. cond (is_file_name file && is_name owner) (done (record { fs = fs; file = file; owner = owner })) (Err why.Name)) a e in
    let g = guard_ok (is_file_name file && is_name owner) why.Name (record { fs = x.0; file = file; owner = owner }) a x.2 in
    let n = and_parts (is_file_name file) (is_name owner) g.0 in
    let at = file_system_found head f x.0 x.1 in
    subst (λ (c : CloseAction). (f ∷ file ∷ owner ∷ [] ≡ close_words head c) × IsClose head c) g.1
    (ap (λ (w : List ℕ). w ∷ file ∷ owner ∷ []) at.1, record { fs = at.0; file = file_name_found file n.0; owner = name_found owner n.1 })

close_again : (head : Head) (a : CloseAction) → HasNames head → IsClose head a → close_action head (name_at (file_system_names head) a.fs) a.file a.owner ≡ Ok a
unfolding close_action
close_again head a names is = rw (file_system_again head a.fs names is.fs, file_name_again a.file is.file, name_again a.owner is.owner) refl

-- ---- actions with numbers: their names are those of a close

-- one word between the names and the owner
before_owner : {f file owner g h o x x' : List ℕ} → f ∷ file ∷ owner ∷ [] ≡ g ∷ h ∷ o ∷ [] → x ≡ x' → f ∷ file ∷ x ∷ owner ∷ [] ≡ g ∷ h ∷ x' ∷ o ∷ []
before_owner names first = cc

-- two words there
between : {f file owner g h o x y x' y' : List ℕ} → f ∷ file ∷ owner ∷ [] ≡ g ∷ h ∷ o ∷ [] → x ≡ x' → y ≡ y' → f ∷ file ∷ x ∷ y ∷ owner ∷ [] ≡ g ∷ h ∷ x' ∷ y' ∷ o ∷ []
between names first second = cc

-- three words there
three_between : {f file owner g h o x y z x' y' z' : List ℕ} → f ∷ file ∷ owner ∷ [] ≡ g ∷ h ∷ o ∷ [] → x ≡ x' → y ≡ y' → z ≡ z' → f ∷ file ∷ x ∷ y ∷ z ∷ owner ∷ [] ≡ g ∷ h ∷ x' ∷ y' ∷ z' ∷ o ∷ []
three_between names first second third = cc

-- a lock of those parts
abbrev locks : LockKind → CloseAction → ℕ → ℕ → LockAction
locks kind names offset long = record { fs = names.fs; file = names.file; kind = kind; offset = offset; length = long; owner = names.owner }

lock_found : (head : Head) (f file kind_text offset_word length_word owner : List ℕ) (a : LockAction) → lock_action head f file kind_text offset_word length_word owner ≡ Ok a → (f ∷ file ∷ kind_text ∷ offset_word ∷ length_word ∷ owner ∷ [] ≡ lock_words head a) × IsLock head a
unfolding lock_action
lock_found head f file kind_text offset_word length_word owner a e =
    let last : LockKind → CloseAction → ℕ → Result LockAction Why = λ kind names offset. number_at length_word >>= λ long. done (locks kind names offset long) in
    let k = bind_ok (lock_kind_at kind_text) (λ kind. close_action head f file owner >>= λ names. number_at offset_word >>= λ offset. last kind names offset) a e in
    let x = bind_ok (close_action head f file owner) (λ names. number_at offset_word >>= λ offset. last k.0 names offset) a k.2 in
    let y = bind_ok (number_at offset_word) (λ offset. last k.0 x.0 offset) a x.2 in
    let z = bind_ok (number_at length_word) (λ long. done (locks k.0 x.0 y.0 long)) a y.2 in
    let names = close_found head f file owner x.0 x.1 in
    let offset = number_found offset_word y.0 y.1 in
    let long = number_found length_word z.0 z.1 in
    subst (λ (l : LockAction). (f ∷ file ∷ kind_text ∷ offset_word ∷ length_word ∷ owner ∷ [] ≡ lock_words head l) × IsLock head l) (ok_is (locks k.0 x.0 y.0 z.0) a z.2) (
      three_between names.0 (kind_found kind_text k.0 k.1) offset.0 long.0,
      record { fs = names.1.fs; file = names.1.file; offset = offset.1; length = long.1; owner = names.1.owner },
    )

lock_again : (head : Head) (a : LockAction) → HasNames head → IsLock head a → lock_action head (name_at (file_system_names head) a.fs) a.file (kind_word a.kind) (decimal a.offset) (decimal a.length) a.owner ≡ Ok a
unfolding lock_action close_action
lock_again head a names is =
    rw (kind_again a.kind, file_system_again head a.fs names is.fs, file_name_again a.file is.file, name_again a.owner is.owner, number_again a.offset is.offset, number_again a.length is.length) refl

-- an unlock of those parts
abbrev unlocks : CloseAction → ℕ → ℕ → UnlockAction
unlocks names offset long = record { fs = names.fs; file = names.file; offset = offset; length = long; owner = names.owner }

unlock_found : (head : Head) (f file offset_word length_word owner : List ℕ) (a : UnlockAction) → unlock_action head f file offset_word length_word owner ≡ Ok a → (f ∷ file ∷ offset_word ∷ length_word ∷ owner ∷ [] ≡ unlock_words head a) × IsUnlock head a
unfolding unlock_action
unlock_found head f file offset_word length_word owner a e =
    let x = bind_ok (close_action head f file owner) (λ names. number_at offset_word >>= λ offset. number_at length_word >>= λ long. done (unlocks names offset long)) a e in
    let y = bind_ok (number_at offset_word) (λ offset. number_at length_word >>= λ long. done (unlocks x.0 offset long)) a x.2 in
    let z = bind_ok (number_at length_word) (λ long. done (unlocks x.0 y.0 long)) a y.2 in
    let names = close_found head f file owner x.0 x.1 in
    let offset = number_found offset_word y.0 y.1 in
    let long = number_found length_word z.0 z.1 in
    subst (λ (u : UnlockAction). (f ∷ file ∷ offset_word ∷ length_word ∷ owner ∷ [] ≡ unlock_words head u) × IsUnlock head u) (ok_is (unlocks x.0 y.0 z.0) a z.2) (
      between names.0 offset.0 long.0,
      record { fs = names.1.fs; file = names.1.file; offset = offset.1; length = long.1; owner = names.1.owner },
    )

unlock_again : (head : Head) (a : UnlockAction) → HasNames head → IsUnlock head a → unlock_action head (name_at (file_system_names head) a.fs) a.file (decimal a.offset) (decimal a.length) a.owner ≡ Ok a
unfolding unlock_action close_action
unlock_again head a names is =
    rw (file_system_again head a.fs names is.fs, file_name_again a.file is.file, name_again a.owner is.owner, number_again a.offset is.offset, number_again a.length is.length) refl

release_found : (head : Head) (f owner : List ℕ) (a : ReleaseAction) → release_action head f owner ≡ Ok a → (f ∷ owner ∷ [] ≡ release_words head a) × IsRelease head a
unfolding release_action
release_found head f owner a e =
    let x = bind_ok (file_system_number head f) (λ fs. cond (is_name owner) (done (record { fs = fs; owner = owner })) (Err why.Name)) a e in
    let g = guard_ok (is_name owner) why.Name (record { fs = x.0; owner = owner }) a x.2 in
    let at = file_system_found head f x.0 x.1 in
    subst (λ (r : ReleaseAction). (f ∷ owner ∷ [] ≡ release_words head r) × IsRelease head r) g.1
    (ap (λ (w : List ℕ). w ∷ owner ∷ []) at.1, record { fs = at.0; owner = name_found owner g.0 })

release_again : (head : Head) (a : ReleaseAction) → HasNames head → IsRelease head a → release_action head (name_at (file_system_names head) a.fs) a.owner ≡ Ok a
unfolding release_action
release_again head a names is = rw (file_system_again head a.fs names is.fs, name_again a.owner is.owner) refl

count_found : (word : List ℕ) (count : ℕ) → count_at word ≡ Ok count → (word ≡ decimal count) × (count ≤ 65536)
unfolding count_at
count_found word count e =
    let x = bind_ok (number_at word) (λ n. cond (leb n 65536) (done n) (Err why.Number)) count e in
    let g = guard_ok (leb x.0 65536) why.Number x.0 count x.2 in
    let few : x.0 ≤ 65536 = leb-true _ _ g.0 in
    subst (λ (n : ℕ). (word ≡ decimal n) × (n ≤ 65536)) g.1 ((number_found word x.0 x.1).0, few)

count_again : (count : ℕ) → count ≤ 65536 → count_at (decimal count) ≡ Ok count
unfolding count_at
count_again count few = rw (number_again count (omega (arith, few)), le-leb _ _ few) refl

-- a read of those parts
abbrev reads : CloseAction → ℕ → ℕ → ReadAction
reads names offset count = record { fs = names.fs; file = names.file; offset = offset; count = count; owner = names.owner }

read_found : (head : Head) (f file offset_word count_word owner : List ℕ) (a : ReadAction) → read_action head f file offset_word count_word owner ≡ Ok a → (f ∷ file ∷ offset_word ∷ count_word ∷ owner ∷ [] ≡ read_words head a) × IsRead head a
unfolding read_action
read_found head f file offset_word count_word owner a e =
    let x = bind_ok (close_action head f file owner) (λ names. number_at offset_word >>= λ offset. count_at count_word >>= λ count. done (reads names offset count)) a e in
    let y = bind_ok (number_at offset_word) (λ offset. count_at count_word >>= λ count. done (reads x.0 offset count)) a x.2 in
    let z = bind_ok (count_at count_word) (λ count. done (reads x.0 y.0 count)) a y.2 in
    let names = close_found head f file owner x.0 x.1 in
    let offset = number_found offset_word y.0 y.1 in
    let count = count_found count_word z.0 z.1 in
    subst (λ (r : ReadAction). (f ∷ file ∷ offset_word ∷ count_word ∷ owner ∷ [] ≡ read_words head r) × IsRead head r) (ok_is (reads x.0 y.0 z.0) a z.2) (
      between names.0 offset.0 count.0,
      record { fs = names.1.fs; file = names.1.file; offset = offset.1; count = count.1; owner = names.1.owner },
    )

read_again : (head : Head) (a : ReadAction) → HasNames head → IsRead head a → read_action head (name_at (file_system_names head) a.fs) a.file (decimal a.offset) (decimal a.count) a.owner ≡ Ok a
unfolding read_action close_action
read_again head a names is =
    rw (file_system_again head a.fs names is.fs, file_name_again a.file is.file, name_again a.owner is.owner, number_again a.offset is.offset, count_again a.count is.count) refl

-- a write of those parts
abbrev writes : CloseAction → ℕ → List ℕ → WriteAction
writes names offset bytes = record { fs = names.fs; file = names.file; offset = offset; «data» = bytes; owner = names.owner }

write_found : (head : Head) (f file offset_word hex owner : List ℕ) (a : WriteAction) → write_action head f file offset_word hex owner ≡ Ok a → (f ∷ file ∷ offset_word ∷ hex ∷ owner ∷ [] ≡ write_words head a) × IsWrite head a
unfolding write_action
write_found head f file offset_word hex owner a e =
    let x = bind_ok (close_action head f file owner) (λ names. number_at offset_word >>= λ offset. bytes_at hex >>= λ bytes. done (writes names offset bytes)) a e in
    let y = bind_ok (number_at offset_word) (λ offset. bytes_at hex >>= λ bytes. done (writes x.0 offset bytes)) a x.2 in
    let z = bind_ok (bytes_at hex) (λ bytes. done (writes x.0 y.0 bytes)) a y.2 in
    let names = close_found head f file owner x.0 x.1 in
    let offset = number_found offset_word y.0 y.1 in
    let bytes = hex_found hex z.0 z.1 in
    subst (λ (w : WriteAction). (f ∷ file ∷ offset_word ∷ hex ∷ owner ∷ [] ≡ write_words head w) × IsWrite head w) (ok_is (writes x.0 y.0 z.0) a z.2) (
      between names.0 offset.0 bytes.0,
      record { fs = names.1.fs; file = names.1.file; offset = offset.1; some = bytes.1; limit = bytes.2; bytes = bytes.3; owner = names.1.owner },
    )

write_again : (head : Head) (a : WriteAction) → HasNames head → IsWrite head a → write_action head (name_at (file_system_names head) a.fs) a.file (decimal a.offset) (encode_lower a.«data») a.owner ≡ Ok a
unfolding write_action close_action
write_again head a names is =
    rw (file_system_again head a.fs names is.fs, file_name_again a.file is.file, name_again a.owner is.owner, number_again a.offset is.offset, hex_again a.«data» is.some is.limit is.bytes) refl

-- a change of size of those parts
abbrev sizes : CloseAction → ℕ → SizeAction
sizes names size = record { fs = names.fs; file = names.file; size = size; owner = names.owner }

size_found : (head : Head) (f file size_word owner : List ℕ) (a : SizeAction) → size_action head f file size_word owner ≡ Ok a → (f ∷ file ∷ size_word ∷ owner ∷ [] ≡ size_words head a) × IsSize head a
unfolding size_action
size_found head f file size_word owner a e =
    let x = bind_ok (close_action head f file owner) (λ names. number_at size_word >>= λ size. done (sizes names size)) a e in
    let y = bind_ok (number_at size_word) (λ size. done (sizes x.0 size)) a x.2 in
    let names = close_found head f file owner x.0 x.1 in
    let size = number_found size_word y.0 y.1 in
    subst (λ (s : SizeAction). (f ∷ file ∷ size_word ∷ owner ∷ [] ≡ size_words head s) × IsSize head s) (ok_is (sizes x.0 y.0) a y.2)
    (before_owner names.0 size.0, record { fs = names.1.fs; file = names.1.file; size = size.1; owner = names.1.owner })

size_again : (head : Head) (a : SizeAction) → HasNames head → IsSize head a → size_action head (name_at (file_system_names head) a.fs) a.file (decimal a.size) a.owner ≡ Ok a
unfolding size_action close_action
size_again head a names is =
    rw (file_system_again head a.fs names is.fs, file_name_again a.file is.file, name_again a.owner is.owner, number_again a.size is.size) refl

file_found : (head : Head) (f file : List ℕ) (a : NameAction) → file_action head f file ≡ Ok a → (f ∷ file ∷ [] ≡ file_words head a) × IsFile head a
unfolding file_action
file_found head f file a e =
    let x = bind_ok (file_system_number head f) (λ fs. cond (is_file_name file) (done (record { fs = fs; file = file })) (Err why.Name)) a e in
    let g = guard_ok (is_file_name file) why.Name (record { fs = x.0; file = file }) a x.2 in
    let at = file_system_found head f x.0 x.1 in
    subst (λ (n : NameAction). (f ∷ file ∷ [] ≡ file_words head n) × IsFile head n) g.1
    (ap (λ (w : List ℕ). w ∷ file ∷ []) at.1, record { fs = at.0; file = file_name_found file g.0 })

file_again : (head : Head) (a : NameAction) → HasNames head → IsFile head a → file_action head (name_at (file_system_names head) a.fs) a.file ≡ Ok a
unfolding file_action
file_again head a names is = rw (file_system_again head a.fs names is.fs, file_name_again a.file is.file) refl

-- ---- actions by their verbs

-- what is read by its verb, or by one of the verbs behind it
by_verb : {A : Type 0} (says : List (List ℕ) → A → Type 0) (verb key : List ℕ) (words : List (List ℕ)) (read : A) (here otherwise : Result A Why)
    → (here ≡ Ok read → says (key ∷ words) read) → (otherwise ≡ Ok read → says (verb ∷ words) read) → cond (bytes_eq verb key) here otherwise ≡ Ok read → says (verb ∷ words) read
by_verb says verb key words read here otherwise is later e =
    elim (chosen (bytes_eq verb key) here otherwise (Ok read) e) [
      | inl h ↦ subst (λ (w : List ℕ). says (w ∷ words) read) (sym (same_word verb key h.0)) (is h.1)
      | inr h ↦ later h.1
    ]

-- the words say the action, and it is in its form
abbrev IsAsked : Head → List (List ℕ) → Action → Type 0
IsAsked head words a = (words ≡ action_words head a) × IsAction head a

-- an action that is made of what was read
module _ {A : Type 0} (head : Head) (key : List ℕ) (words : List (List ℕ)) (read : Result A Why) (make : A → Action) (action : Action) where
  made_found : ((a : A) → read ≡ Ok a → IsAsked head (key ∷ words) (make a)) → (read >>= λ a. Ok (make a)) ≡ Ok action → IsAsked head (key ∷ words) action
  made_found says e =
      let x = bind_ok read (λ a. done (make a)) action e in
      subst (IsAsked head (key ∷ words)) (ok_is (make x.0) action x.2) (says x.0 x.1)

root_found : (head : Head) (verb f : List ℕ) (a : Action) → root_at head verb f ≡ Ok a → IsAsked head (verb ∷ f ∷ []) a
unfolding root_at
root_found head verb f a =
    by_verb (IsAsked head) verb (codes "list") (f ∷ []) a _ _
    (made_found head (codes "list") (f ∷ []) (file_system_number head f) actions.List a
    (λ fs e. let at = file_system_found head f fs e in (ap (λ (w : List ℕ). codes "list" ∷ w ∷ []) at.1, at.0)))
    (λ e. absurd cc)

on_file_found : (head : Head) (verb f file : List ℕ) (a : Action) → file_at head verb f file ≡ Ok a → IsAsked head (verb ∷ f ∷ file ∷ []) a
unfolding file_at
on_file_found head verb f file a =
    let words : List (List ℕ) = f ∷ file ∷ [] in
    by_verb (IsAsked head) verb (codes "remove") words a _ _
    (made_found head (codes "remove") words (file_action head f file) actions.Remove a
    (λ n e. let p = file_found head f file n e in (ap (λ (ws : List (List ℕ)). codes "remove" ∷ ws) p.0, p.1)))
    (by_verb (IsAsked head) verb (codes "mkdir") words a _ _
    (made_found head (codes "mkdir") words (file_action head f file) actions.MkDir a
    (λ n e. let p = file_found head f file n e in (ap (λ (ws : List (List ℕ)). codes "mkdir" ∷ ws) p.0, p.1)))
    (by_verb (IsAsked head) verb (codes "release") words a _ _
    (made_found head (codes "release") words (release_action head f file) actions.Release a
    (λ r e. let p = release_found head f file r e in (ap (λ (ws : List (List ℕ)). codes "release" ∷ ws) p.0, p.1)))
    (λ e. absurd cc)))

on_close_found : (head : Head) (verb f file owner : List ℕ) (a : Action) → close_at head verb f file owner ≡ Ok a → IsAsked head (verb ∷ f ∷ file ∷ owner ∷ []) a
unfolding close_at
on_close_found head verb f file owner a =
    let words : List (List ℕ) = f ∷ file ∷ owner ∷ [] in
    by_verb (IsAsked head) verb (codes "close") words a _ _
    (made_found head (codes "close") words (close_action head f file owner) actions.Close a
    (λ c e. let p = close_found head f file owner c e in (ap (λ (ws : List (List ℕ)). codes "close" ∷ ws) p.0, p.1)))
    (λ e. absurd cc)

on_size_found : (head : Head) (verb f file size_word owner : List ℕ) (a : Action) → size_at head verb f file size_word owner ≡ Ok a → IsAsked head (verb ∷ f ∷ file ∷ size_word ∷ owner ∷ []) a
unfolding size_at
on_size_found head verb f file size_word owner a =
    let words : List (List ℕ) = f ∷ file ∷ size_word ∷ owner ∷ [] in
    by_verb (IsAsked head) verb (codes "size") words a _ _
    (made_found head (codes "size") words (size_action head f file size_word owner) actions.Size a
    (λ s e. let p = size_found head f file size_word owner s e in (ap (λ (ws : List (List ℕ)). codes "size" ∷ ws) p.0, p.1)))
    (λ e. absurd cc)

module _ (head : Head) (verb f file first second owner : List ℕ) (a : Action) where
  abbrev five : List (List ℕ)
  five = f ∷ file ∷ first ∷ second ∷ owner ∷ []

  on_open_found : open_at head verb f file first second owner ≡ Ok a → IsAsked head (verb ∷ five) a
  unfolding open_at
  on_open_found =
      by_verb (IsAsked head) verb (codes "open") five a _ _
      (made_found head (codes "open") five (open_action head f file first second owner) actions.Open a
      (λ o e. let p = open_found head f file first second owner o e in (ap (λ (ws : List (List ℕ)). codes "open" ∷ ws) p.0, p.1)))
      (by_verb (IsAsked head) verb (codes "create") five a _ _
      (made_found head (codes "create") five (open_action head f file first second owner) actions.Create a
      (λ o e. let p = open_found head f file first second owner o e in (ap (λ (ws : List (List ℕ)). codes "create" ∷ ws) p.0, p.1)))
      (by_verb (IsAsked head) verb (codes "downgrade") five a _ _
      (made_found head (codes "downgrade") five (open_action head f file first second owner) actions.Downgrade a
      (λ o e. let p = open_found head f file first second owner o e in (ap (λ (ws : List (List ℕ)). codes "downgrade" ∷ ws) p.0, p.1)))
      (by_verb (IsAsked head) verb (codes "read") five a _ _
      (made_found head (codes "read") five (read_action head f file first second owner) actions.Read a
      (λ r e. let p = read_found head f file first second owner r e in (ap (λ (ws : List (List ℕ)). codes "read" ∷ ws) p.0, p.1)))
      (by_verb (IsAsked head) verb (codes "write") five a _ _
      (made_found head (codes "write") five (write_action head f file first second owner) actions.Write a
      (λ w e. let p = write_found head f file first second owner w e in (ap (λ (ws : List (List ℕ)). codes "write" ∷ ws) p.0, p.1)))
      (by_verb (IsAsked head) verb (codes "unlock") five a _ _
      (made_found head (codes "unlock") five (unlock_action head f file first second owner) actions.Unlock a
      (λ u e. let p = unlock_found head f file first second owner u e in (ap (λ (ws : List (List ℕ)). codes "unlock" ∷ ws) p.0, p.1)))
      (λ e. absurd cc))))))

module _ (head : Head) (verb f file kind_text offset_word length_word owner : List ℕ) (a : Action) where
  abbrev six : List (List ℕ)
  six = f ∷ file ∷ kind_text ∷ offset_word ∷ length_word ∷ owner ∷ []

  on_lock_found : lock_at head verb f file kind_text offset_word length_word owner ≡ Ok a → IsAsked head (verb ∷ six) a
  unfolding lock_at
  on_lock_found =
      by_verb (IsAsked head) verb (codes "lock") six a _ _
      (made_found head (codes "lock") six (lock_action head f file kind_text offset_word length_word owner) actions.Lock a
      (λ l e. let p = lock_found head f file kind_text offset_word length_word owner l e in (ap (λ (ws : List (List ℕ)). codes "lock" ∷ ws) p.0, p.1)))
      (by_verb (IsAsked head) verb (codes "test") six a _ _
      (made_found head (codes "test") six (lock_action head f file kind_text offset_word length_word owner) actions.Test a
      (λ l e. let p = lock_found head f file kind_text offset_word length_word owner l e in (ap (λ (ws : List (List ℕ)). codes "test" ∷ ws) p.0, p.1)))
      (λ e. absurd cc))

action_found : (head : Head) (verb : List ℕ) (words : List (List ℕ)) (a : Action) → action_at head verb words ≡ Ok a → IsAsked head (verb ∷ words) a
unfolding action_at
action_found head verb [] a e = absurd cc
action_found head verb (f ∷ []) a e = root_found head verb f a e
action_found head verb (f ∷ file ∷ []) a e = on_file_found head verb f file a e
action_found head verb (f ∷ file ∷ owner ∷ []) a e = on_close_found head verb f file owner a e
action_found head verb (f ∷ file ∷ size_word ∷ owner ∷ []) a e = on_size_found head verb f file size_word owner a e
action_found head verb (f ∷ file ∷ first ∷ second ∷ owner ∷ []) a e = on_open_found head verb f file first second owner a e
action_found head verb (f ∷ file ∷ kind ∷ offset ∷ long ∷ owner ∷ []) a e = on_lock_found head verb f file kind offset long owner a e
action_found head verb (f ∷ file ∷ kind ∷ offset ∷ long ∷ owner ∷ more ∷ words) a e = absurd cc

-- ---- lines

-- the words say the line, and it is in its form
abbrev IsSaid : Head → List (List ℕ) → Line → Type 0
IsSaid head words line = (words ≡ run_words head line) × IsRun head line

done_by_ok : (client : Result ℕ Why) (read : Result Action Why) (line : Line) → done_by client read ≡ Ok line → (a : Action) × (n : ℕ) × (read ≡ Ok a) × (client ≡ Ok n) × (Do n a ≡ line)
done_by_ok client (Ok a) line e =
    let x = bind_ok client (λ n. done (Do n a)) line e in
    (a, x.0, refl, x.1, ok_is (Do x.0 a) line x.2)
done_by_ok client (Err fault) line e = absurd cc

action_line_found : (head : Head) (c verb : List ℕ) (words : List (List ℕ)) (line : Line) → action_line head c verb words ≡ Ok line → IsSaid head (codes "do" ∷ c ∷ verb ∷ words) line
unfolding action_line
action_line_found head c verb words line e =
    let x = done_by_ok (client_number head c) (action_at head verb words) line e in
    let action = action_found head verb words x.0 x.2 in
    let at = client_found head c x.1 x.3 in
    subst (IsSaid head (codes "do" ∷ c ∷ verb ∷ words)) x.4
    (ap (λ (w : List ℕ). codes "do" ∷ w ∷ verb ∷ words) at.1 ∙ ap (λ (ws : List (List ℕ)). codes "do" ∷ name_at (client_names head) x.1 ∷ ws) action.0, (at.0, action.1))

finish_line_found : (head : Head) (c verb : List ℕ) (line : Line) → finish_line head c verb ≡ Ok line → IsSaid head (codes "do" ∷ c ∷ verb ∷ []) line
unfolding finish_line
finish_line_found head c verb line e =
    elim (chosen (bytes_eq verb (codes "finish")) (client_number head c >>= λ client. done (Finish client)) (Err why.Word) (Ok line) e) [
      | inl h ↦
          let x = bind_ok (client_number head c) (λ client. done (Finish client)) line h.1 in
          let at = client_found head c x.0 x.1 in
          subst (IsSaid head (codes "do" ∷ c ∷ verb ∷ [])) (ok_is (Finish x.0) line x.2)
          (ap (λ (w : List ℕ). codes "do" ∷ w ∷ verb ∷ []) at.1 ∙ ap (λ (w : List ℕ). codes "do" ∷ name_at (client_names head) x.0 ∷ w ∷ []) (same_word verb (codes "finish") h.0), at.0)
      | inr h ↦ absurd cc
    ]

do_found : (head : Head) (words : List (List ℕ)) (line : Line) → do_at head words ≡ Ok line → IsSaid head (codes "do" ∷ words) line
unfolding do_at
do_found head [] line e = absurd cc
do_found head (c ∷ []) line e = absurd cc
do_found head (c ∷ verb ∷ []) line e = finish_line_found head c verb line e
do_found head (c ∷ verb ∷ word ∷ words) line e = action_line_found head c verb (word ∷ words) line e

-- a line of a file system's number
module _ (head : Head) (key f : List ℕ) (make : ℕ → Line) (line : Line) where
  with_fs_found : ((fs : ℕ) → fs < length head.file_systems → IsSaid head (fs_words head key fs) (make fs)) → with_fs head f make ≡ Ok line → IsSaid head (key ∷ f ∷ []) line
  with_fs_found says e =
      let x = bind_ok (file_system_number head f) (λ fs. done (make fs)) line e in
      let at = file_system_found head f x.0 x.1 in
      let said = says x.0 at.0 in
      subst (IsSaid head (key ∷ f ∷ [])) (ok_is (make x.0) line x.2) (ap (λ (w : List ℕ). key ∷ w ∷ []) at.1 ∙ said.0, said.1)

fs_line_found : (head : Head) (verb f : List ℕ) (line : Line) → fs_line head verb f ≡ Ok line → IsSaid head (verb ∷ f ∷ []) line
unfolding fs_line
fs_line_found head verb f line =
    by_verb (IsSaid head) verb (codes "freeze") (f ∷ []) line _ _ (with_fs_found head (codes "freeze") f Freeze line (λ fs lt. (refl, lt)))
    (by_verb (IsSaid head) verb (codes "abandon") (f ∷ []) line _ _ (with_fs_found head (codes "abandon") f Abandon line (λ fs lt. (refl, lt)))
    (by_verb (IsSaid head) verb (codes "commit") (f ∷ []) line _ _ (with_fs_found head (codes "commit") f Commit line (λ fs lt. (refl, lt)))
    (by_verb (IsSaid head) verb (codes "settle") (f ∷ []) line _ _ (with_fs_found head (codes "settle") f Settle line (λ fs lt. (refl, lt)))
    (by_verb (IsSaid head) verb (codes "show") (f ∷ []) line _ _ (with_fs_found head (codes "show") f Show line (λ fs lt. (refl, lt))) (λ e. absurd cc)))))

-- a line of the numbers of a file system and of a server
module _ (head : Head) (key f s : List ℕ) (make : ℕ → ℕ → Line) (line : Line) where
  with_fs_to_found : ((fs to : ℕ) → fs < length head.file_systems → to < length head.servers → IsSaid head (fs_to_words head key fs to) (make fs to)) → with_fs_to head f s make ≡ Ok line
      → IsSaid head (key ∷ f ∷ s ∷ []) line
  with_fs_to_found says e =
      let x = bind_ok (file_system_number head f) (λ fs. server_number head s >>= λ to. done (make fs to)) line e in
      let y = bind_ok (server_number head s) (λ to. done (make x.0 to)) line x.2 in
      let at = file_system_found head f x.0 x.1 in
      let to = server_found head s y.0 y.1 in
      let said = says x.0 y.0 at.0 to.0 in
      subst (IsSaid head (key ∷ f ∷ s ∷ [])) (ok_is (make x.0 y.0) line y.2)
      (ap (λ (w : List ℕ). key ∷ w ∷ s ∷ []) at.1 ∙ ap (λ (w : List ℕ). key ∷ name_at (file_system_names head) x.0 ∷ w ∷ []) to.1 ∙ said.0, said.1)

fs_to_line_found : (head : Head) (verb f s : List ℕ) (line : Line) → fs_to_line head verb f s ≡ Ok line → IsSaid head (verb ∷ f ∷ s ∷ []) line
unfolding fs_to_line
fs_to_line_found head verb f s line =
    by_verb (IsSaid head) verb (codes "move") (f ∷ s ∷ []) line _ _ (with_fs_to_found head (codes "move") f s Move line (λ fs to lt less. (refl, (lt, less))))
    (by_verb (IsSaid head) verb (codes "shift") (f ∷ s ∷ []) line _ _ (with_fs_to_found head (codes "shift") f s Shift line (λ fs to lt less. (refl, (lt, less)))) (λ e. absurd cc))

fs_found : (head : Head) (verb : List ℕ) (words : List (List ℕ)) (line : Line) → fs_at head verb words ≡ Ok line → IsSaid head (verb ∷ words) line
unfolding fs_at
fs_found head verb [] line e = absurd cc
fs_found head verb (f ∷ []) line e = fs_line_found head verb f line e
fs_found head verb (f ∷ s ∷ []) line e = fs_to_line_found head verb f s line e
fs_found head verb (f ∷ s ∷ more ∷ words) line e = absurd cc

-- a line that is read is spelled so
pub run_found : (head : Head) (words : List (List ℕ)) (line : Line) → run_line head words ≡ Ok line → (words ≡ run_words head line) × IsRun head line
unfolding run_line
run_found head [] line e = absurd cc
run_found head (first ∷ words) line e = by_verb (IsSaid head) first (codes "do") words line (do_at head words) (fs_at head first words) (do_found head words line) (fs_found head first words line) e

-- and what is spelled so is read
pub run_again : (head : Head) (line : Line) → HasNames head → IsRun head line → run_line head (run_words head line) ≡ Ok line
unfolding run_line do_at action_line finish_line fs_at fs_line fs_to_line action_at root_at file_at close_at size_at open_at lock_at
run_again head (Do client (actions.Open a)) names is = rw (open_again head a names is.1, client_again head client names is.0) refl
run_again head (Do client (actions.Create a)) names is = rw (open_again head a names is.1, client_again head client names is.0) refl
run_again head (Do client (actions.Close a)) names is = rw (close_again head a names is.1, client_again head client names is.0) refl
run_again head (Do client (actions.Downgrade a)) names is = rw (open_again head a names is.1, client_again head client names is.0) refl
run_again head (Do client (actions.Lock a)) names is = rw (lock_again head a names is.1, client_again head client names is.0) refl
run_again head (Do client (actions.Unlock a)) names is = rw (unlock_again head a names is.1, client_again head client names is.0) refl
run_again head (Do client (actions.Test a)) names is = rw (lock_again head a names is.1, client_again head client names is.0) refl
run_again head (Do client (actions.Release a)) names is = rw (release_again head a names is.1, client_again head client names is.0) refl
run_again head (Do client (actions.Read a)) names is = rw (read_again head a names is.1, client_again head client names is.0) refl
run_again head (Do client (actions.Write a)) names is = rw (write_again head a names is.1, client_again head client names is.0) refl
run_again head (Do client (actions.Size a)) names is = rw (size_again head a names is.1, client_again head client names is.0) refl
run_again head (Do client (actions.Remove a)) names is = rw (file_again head a names is.1, client_again head client names is.0) refl
run_again head (Do client (actions.MkDir a)) names is = rw (file_again head a names is.1, client_again head client names is.0) refl
run_again head (Do client (actions.List fs)) names is = rw (file_system_again head fs names is.1, client_again head client names is.0) refl
run_again head (Finish client) names is = rw (client_again head client names is) refl
run_again head (Move fs to) names is = rw (file_system_again head fs names is.0, server_again head to names is.1) refl
run_again head (Freeze fs) names is = rw (file_system_again head fs names is) refl
run_again head (Abandon fs) names is = rw (file_system_again head fs names is) refl
run_again head (Commit fs) names is = rw (file_system_again head fs names is) refl
run_again head (Settle fs) names is = rw (file_system_again head fs names is) refl
run_again head (Shift fs to) names is = rw (file_system_again head fs names is.0, server_again head to names is.1) refl
run_again head (Show fs) names is = rw (file_system_again head fs names is) refl

open_are_words : (head : Head) (a : OpenAction) → HasNames head → IsOpen head a → AllByRecursion IsWord (open_words head a)
open_are_words head a names is =
    (file_system_is_word head a.fs names is.fs, (file_name_is_word a.file is.file, (access_is_word a.access is.access_some is.access_limit, (deny_is_word a.deny is.deny_limit, (name_is_word a.owner is.owner, tt)))))

pub keyword : (word : List ℕ) → 0 < length word → has_space word ≡ false → IsWord word
keyword word some whole = record { some = some; whole = whole }

fs_are_words : (head : Head) (verb : List ℕ) (fs : ℕ) → HasNames head → IsWord verb → fs < length head.file_systems → AllByRecursion IsWord (fs_words head verb fs)
fs_are_words head verb fs names word lt = (word, (file_system_is_word head fs names lt, tt))

fs_to_are_words : (head : Head) (verb : List ℕ) (fs to : ℕ) → HasNames head → IsWord verb → fs < length head.file_systems → to < length head.servers → AllByRecursion IsWord (fs_to_words head verb fs to)
fs_to_are_words head verb fs to names word lt less = (word, (file_system_is_word head fs names lt, (server_is_word head to names less, tt)))

close_are_words : (head : Head) (a : CloseAction) → HasNames head → IsClose head a → AllByRecursion IsWord (close_words head a)
close_are_words head a names is = (file_system_is_word head a.fs names is.fs, (file_name_is_word a.file is.file, (name_is_word a.owner is.owner, tt)))

lock_are_words : (head : Head) (a : LockAction) → HasNames head → IsLock head a → AllByRecursion IsWord (lock_words head a)
lock_are_words head a names is =
    (file_system_is_word head a.fs names is.fs, (file_name_is_word a.file is.file, (kind_is_word a.kind, (decimal_is_word a.offset is.offset, (decimal_is_word a.length is.length, (name_is_word a.owner is.owner, tt))))))

unlock_are_words : (head : Head) (a : UnlockAction) → HasNames head → IsUnlock head a → AllByRecursion IsWord (unlock_words head a)
unlock_are_words head a names is =
    (file_system_is_word head a.fs names is.fs, (file_name_is_word a.file is.file, (decimal_is_word a.offset is.offset, (decimal_is_word a.length is.length, (name_is_word a.owner is.owner, tt)))))

release_are_words : (head : Head) (a : ReleaseAction) → HasNames head → IsRelease head a → AllByRecursion IsWord (release_words head a)
release_are_words head a names is = (file_system_is_word head a.fs names is.fs, (name_is_word a.owner is.owner, tt))

read_are_words : (head : Head) (a : ReadAction) → HasNames head → IsRead head a → AllByRecursion IsWord (read_words head a)
read_are_words head a names is =
    (file_system_is_word head a.fs names is.fs, (file_name_is_word a.file is.file, (decimal_is_word a.offset is.offset, (decimal_is_word a.count (omega (arith, is.count)), (name_is_word a.owner is.owner, tt)))))

write_are_words : (head : Head) (a : WriteAction) → HasNames head → IsWrite head a → AllByRecursion IsWord (write_words head a)
write_are_words head a names is =
    (file_system_is_word head a.fs names is.fs, (file_name_is_word a.file is.file, (decimal_is_word a.offset is.offset, (hex_is_word a.«data» is.some is.bytes, (name_is_word a.owner is.owner, tt)))))

size_are_words : (head : Head) (a : SizeAction) → HasNames head → IsSize head a → AllByRecursion IsWord (size_words head a)
size_are_words head a names is =
    (file_system_is_word head a.fs names is.fs, (file_name_is_word a.file is.file, (decimal_is_word a.size is.size, (name_is_word a.owner is.owner, tt))))

file_are_words : (head : Head) (a : NameAction) → HasNames head → IsFile head a → AllByRecursion IsWord (file_words head a)
file_are_words head a names is = (file_system_is_word head a.fs names is.fs, (file_name_is_word a.file is.file, tt))

action_are_words : (head : Head) (a : Action) → HasNames head → IsAction head a → AllByRecursion IsWord (action_words head a)
action_are_words head (actions.Open a) names is = (keyword (codes "open") (omega arith) refl, open_are_words head a names is)
action_are_words head (actions.Create a) names is = (keyword (codes "create") (omega arith) refl, open_are_words head a names is)
action_are_words head (actions.Close a) names is = (keyword (codes "close") (omega arith) refl, close_are_words head a names is)
action_are_words head (actions.Downgrade a) names is = (keyword (codes "downgrade") (omega arith) refl, open_are_words head a names is)
action_are_words head (actions.Lock a) names is = (keyword (codes "lock") (omega arith) refl, lock_are_words head a names is)
action_are_words head (actions.Unlock a) names is = (keyword (codes "unlock") (omega arith) refl, unlock_are_words head a names is)
action_are_words head (actions.Test a) names is = (keyword (codes "test") (omega arith) refl, lock_are_words head a names is)
action_are_words head (actions.Release a) names is = (keyword (codes "release") (omega arith) refl, release_are_words head a names is)
action_are_words head (actions.Read a) names is = (keyword (codes "read") (omega arith) refl, read_are_words head a names is)
action_are_words head (actions.Write a) names is = (keyword (codes "write") (omega arith) refl, write_are_words head a names is)
action_are_words head (actions.Size a) names is = (keyword (codes "size") (omega arith) refl, size_are_words head a names is)
action_are_words head (actions.Remove a) names is = (keyword (codes "remove") (omega arith) refl, file_are_words head a names is)
action_are_words head (actions.MkDir a) names is = (keyword (codes "mkdir") (omega arith) refl, file_are_words head a names is)
action_are_words head (actions.List fs) names is = fs_are_words head (codes "list") fs names (keyword (codes "list") (omega arith) refl) is

pub run_are_words : (head : Head) (line : Line) → HasNames head → IsRun head line → AllByRecursion IsWord (run_words head line)
run_are_words head (Do client action) names is = (keyword (codes "do") (omega arith) refl, (client_is_word head client names is.0, action_are_words head action names is.1))
run_are_words head (Finish client) names is = (keyword (codes "do") (omega arith) refl, (client_is_word head client names is, (keyword (codes "finish") (omega arith) refl, tt)))
run_are_words head (Move fs to) names is = fs_to_are_words head (codes "move") fs to names (keyword (codes "move") (omega arith) refl) is.0 is.1
run_are_words head (Freeze fs) names is = fs_are_words head (codes "freeze") fs names (keyword (codes "freeze") (omega arith) refl) is
run_are_words head (Abandon fs) names is = fs_are_words head (codes "abandon") fs names (keyword (codes "abandon") (omega arith) refl) is
run_are_words head (Commit fs) names is = fs_are_words head (codes "commit") fs names (keyword (codes "commit") (omega arith) refl) is
run_are_words head (Settle fs) names is = fs_are_words head (codes "settle") fs names (keyword (codes "settle") (omega arith) refl) is
run_are_words head (Shift fs to) names is = fs_to_are_words head (codes "shift") fs to names (keyword (codes "shift") (omega arith) refl) is.0 is.1
run_are_words head (Show fs) names is = fs_are_words head (codes "show") fs names (keyword (codes "show") (omega arith) refl) is
