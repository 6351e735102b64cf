-- What the program's answer to bytes says of its source's whole input.
use Rattle.std.proofs.Common.{◌≡◌, ◌<◌, ◌+◌, ◌^◌, ℕ, List, length, take, subst, length-take, refl, ap, sym, ◌∙◌, arith}
use Rattle.std.specs.Prelude.{Option, Some, None, IfSome, Result, Err, nat_lt}
use Rattle.std.proofs.lemmas.Bool.{ltb-true, ltb-false}
use Rattle.std.proofs.lemmas.Bool.Decides.{nat_tests}
use Rattle.std.proofs.Common.{Bool, true, false, cond}
use Rattle.nm_script.specs.declared.script.ScriptFault.{ScriptFault}
use Rattle.nm_script.specs.declared.script.Script.{Script}
use Rattle.nm_script.specs.declared.script.ScriptFault.TheVariants.{At}
use Rattle.nm_script.specs.declared.script.Why.{Why}
use Rattle.nm_script.specs.Grammar.{IsScript}
use Rattle.nm_script.specs.Reading.{script_at, cut_at, whole_at}
use Rattle.nm_script.specs.Text.{fault_text_of}
use Rattle.nm_cmd.specs.Replay.{IsRan, IsRefused, IsAnswer, written_for}
use Rattle.nm_cmd.specs.declared.replay.Answer.{Answer}
use Rattle.nm_cmd.specs.declared.replay.Answer.TheVariants.{Ran, Refused}
use Rattle.std.proofs.lemmas.List.{take_all, take-take}

-- the answer to bytes that are no script
pub refused_is : (bytes : List ℕ) (line : ℕ) (why : Why) (text : List ℕ) → script_at bytes ≡ Err (At line why)
    → ((s : Script) → IsScript bytes s → ⊥) → text ≡ fault_text_of line why → IsRefused bytes text
unfolding written_for
refused_is bytes line why text faulty no_script it = record {
  line = line;
  why = why;
  none = no_script;
  first = faulty;
  fault = it;
  written = rw faulty it;
}

-- a front that is shorter than was asked for is the whole
whole_front : (n : ℕ) (input : List ℕ) → length (take n input) < n → take n input ≡ input
whole_front n input short = take_all n input (omega (arith, length-take n input, short))

chosen : ℕ → List ℕ → Result Script ScriptFault
chosen n bytes = cond (nat_lt n (length bytes)) (cut_at (take n bytes)) (whole_at bytes)

chosen_front : (n : ℕ) (input : List ℕ) → chosen n (take (n + 1) input) ≡ chosen n input
unfolding chosen
chosen_front n input = by_length (nat_lt n (length input)) refl
  where
    by_length : (b : Bool) → nat_lt n (length input) ≡ b → chosen n (take (n + 1) input) ≡ chosen n input
    by_length true long =
        let past : nat_lt n (length (take (n + 1) input)) ≡ true = rw length-take (grind (arith, nat_tests, ltb-true n (length input) long)) in
        rw (past, long) (ap cut_at (take-take n (n + 1) input (omega arith)))
    by_length false short = ap (chosen n) (take_all (n + 1) input (omega (arith, ltb-false n (length input) short)))

-- what reads at most 16 MiB and one byte reads the same script or fault
front_reads : (input : List ℕ) → script_at (take (2 ^ 24 + 1) input) ≡ script_at input
unfolding script_at chosen
front_reads input = chosen_front (2 ^ 24) input

whole_input : (input text : List ℕ) (s : Script) → text ≡ take (2 ^ 24 + 1) input → IsScript text s → text ≡ input
whole_input input text s front is = front ∙ whole_front (2 ^ 24 + 1) input (rw (← front) (omega (arith, is.size)))

whole_text : (input text : List ℕ) (s : Script) → text ≡ take (2 ^ 24 + 1) input → IsScript input s → text ≡ input
whole_text input text s front is = front ∙ take_all (2 ^ 24 + 1) input (omega (arith, is.size))

-- An answer to the front of the input, up to one byte past 16 MiB, is the answer to the input.
pub ran_input : (input text written : List ℕ) → text ≡ take (2 ^ 24 + 1) input → IsRan text written → IsRan input written
ran_input input text written front ran = record {
  script = ran.script;
  spelled = subst (λ bytes. IsScript bytes ran.script) (whole_input input text ran.script front ran.spelled) ran.spelled;
  run = ran.run;
  written = ran.written ∙ ap written_for (ap script_at front ∙ front_reads input);
}

pub refused_input : (input text written : List ℕ) → text ≡ take (2 ^ 24 + 1) input → IsRefused text written → IsRefused input written
refused_input input text written front refused = record {
  line = refused.line;
  why = refused.why;
  none = λ s is. refused.none s (subst (λ bytes. IsScript bytes s) (sym (whole_text input text s front is)) is);
  first = sym (ap script_at front ∙ front_reads input) ∙ refused.first;
  fault = refused.fault;
  written = refused.written ∙ ap written_for (ap script_at front ∙ front_reads input);
}

pub answer_input : (input text : List ℕ) (a : Answer) → text ≡ take (2 ^ 24 + 1) input → IsAnswer text a → IsAnswer input a
answer_input input text (Ran written) front ran = ran_input input text written.items front ran
answer_input input text (Refused written) front refused = refused_input input text written.items front refused

-- where the source tells its bytes, the answer is to them
pub answer_told : (left : Option (List ℕ)) (bytes : List ℕ) (a : Answer) → IfSome left (λ l. bytes ≡ take (2 ^ 24 + 1) l) → IsAnswer bytes a → IfSome left (λ input. IsAnswer input a)
answer_told None bytes a front is = tt
answer_told (Some input) bytes a front is = answer_input input bytes a front is
