-- Every line of an operator is the same over tables as over steps.
use Rattle.std.proofs.Common.{◌≡◌, ◌<◌, ℕ, Bool, true, false, cond, List, [], ◌∷◌, ◌++◌, refl, sym, subst, ap, ◌∙◌}
use Rattle.nm_types.specs.declared.table.HeldRow.{HeldRow}
use Rattle.nm_script.specs.declared.script.Head.{Head}
use Rattle.nm_script.specs.declared.report.ReportRow.{ReportRow}
use Rattle.nm_script.specs.declared.report.ReportRow.TheVariants.{Held}
use Rattle.nm_slot.specs.Phases.{Phase}
use Rattle.nm_short.specs.ShortRun.{FileNow, Went, Order, fs_name, phase_shown, phase_of_file, and_then, begins, freezes, commits, settles, shifts, held_row, ordered}
use Rattle.nm_short.specs.ShortRun.Order.{ToMove, ToFreeze, ToAbandon, ToCommit, ToSettle, ToShift, ToShow}
use Rattle.nm_short.specs.Tables.{FileTables, WentTo, phase_in, then_to, begins_to, freezes_to, commits_to, settles_to, shifts_to, shown_table, held_line, ordered_to}
use Rattle.nm_short.proofs.DeliveryLaws.{commits_same, settles_same}
use Rattle.nm_short.proofs.FreezeLaws.{freezes_same}
use Rattle.nm_short.proofs.OrderLaws.{IsWent, begins_same, abandons_same}
use Rattle.nm_short.proofs.PhaseLaws.{phase_same, table_same}
use Rattle.nm_short.proofs.Standing.{Stands}

-- ---- shift

then_same : (n : ℕ) (one two : Went) (one' two' : WentTo) → IsWent n one one' → IsWent n two two' → IsWent n (and_then one two) (then_to one' two')
then_same n one two one' two' first second =
    subst (λ b. IsWent n (and_then one two) (cond b (record two' { rows = one'.rows ++ two'.rows }) one')) (sym first.well) (by_test one.well)
  where
    both : one'.rows ++ two'.rows ≡ one.rows ++ two.rows
    both = rw (first.rows, second.rows) refl

    by_test : (b : Bool) → IsWent n (cond b (record two { rows = one.rows ++ two.rows }) one) (cond b (record two' { rows = one'.rows ++ two'.rows }) one')
    by_test true = record { rows = both; file = second.file; well = second.well }
    by_test false = first

shifts_same : (n : ℕ) (head : Head) (f : FileNow) (t : FileTables) (dest : ℕ) → dest < n → Stands n f t → IsWent n (shifts head f dest) (shifts_to head t dest)
unfolding shifts shifts_to
shifts_same n head f t dest below stands =
    let one : Went = begins head f dest in
    let one' : WentTo = begins_to head t dest in
    let first : IsWent n one one' = begins_same n head f t dest below stands in
    let two : Went = and_then one (freezes head one.file) in
    let two' : WentTo = then_to one' (freezes_to head one'.file) in
    let second : IsWent n two two' = then_same n one (freezes head one.file) one' (freezes_to head one'.file) first (freezes_same n head one.file one'.file first.file) in
    let three : Went = and_then two (commits head two.file) in
    let three' : WentTo = then_to two' (commits_to head two'.file) in
    let third : IsWent n three three' = then_same n two (commits head two.file) two' (commits_to head two'.file) second (commits_same n head two.file two'.file second.file) in
    then_same n three (settles head three.file) three' (settles_to head three'.file) third (settles_same n head three.file three'.file third.file)

-- ---- show

held_of : Head → ℕ → Phase → List HeldRow → ReportRow
held_of head fs phase table = Held (record { file_system = fs_name head fs; phase = phase_shown head phase; table = table })

shows_same : (n : ℕ) (head : Head) (f : FileNow) (t : FileTables) → Stands n f t → held_line head t ≡ held_row head f
unfolding held_of
shows_same n head f t stands =
    ap (λ fs. held_of head fs (phase_in t) (shown_table t)) stands.fs
    ∙ ap (λ p. held_of head f.home.fs p (shown_table t)) (phase_same n f t stands)
    ∙ ap (λ table. held_of head f.home.fs (phase_of_file f) table) (table_same n f t stands)

-- ---- every line of an operator

-- a line that names a server names one of the script's
abbrev pub IsOrder : ℕ → Order → Type 0
IsOrder n (ToMove dest) = dest < n
IsOrder n (ToShift dest) = dest < n
IsOrder n _ = Unit {0}

pub ordered_same : (n : ℕ) (head : Head) (f : FileNow) (t : FileTables) (order : Order) → IsOrder n order → Stands n f t
    → IsWent n (ordered head f order) (ordered_to head t order)
unfolding ordered ordered_to
ordered_same n head f t (ToMove dest) fits stands = begins_same n head f t dest fits stands
ordered_same n head f t ToFreeze fits stands = freezes_same n head f t stands
ordered_same n head f t ToAbandon fits stands = abandons_same n head f t stands
ordered_same n head f t ToCommit fits stands = commits_same n head f t stands
ordered_same n head f t ToSettle fits stands = settles_same n head f t stands
ordered_same n head f t (ToShift dest) fits stands = shifts_same n head f t dest fits stands
ordered_same n head f t ToShow fits stands = record {
  rows = ap (λ row. row ∷ []) (shows_same n head f t stands);
  file = stands;
  well = refl;
}
