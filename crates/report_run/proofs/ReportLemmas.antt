-- How a report ends, by its parts.
use Rattle.std.proofs.Common.{◌≡◌, ℕ, suc, List, [], ◌∷◌, ◌++◌, map, flat_map, Option, None, Result, Ok, Err, refl, sym, ap, subst, ◌∙◌, inl, arith, IsTrue, append-nil}
use Rattle.std.specs.Prelude.{codes, IfOk, OnErr}
use Rattle.outer_store.specs.Bytes.{GrownInPart}
use Rattle.outer_store.specs.Contents.{Contents}
use Rattle.outer_store.specs.declared.fault.StoreFault.{StoreFault}
use Rattle.outer_store.specs.declared.fault.StoreFault.TheVariants as store_fault
use Rattle.rcc5_core.specs.declared.Rel.{Rel}
use Rattle.world_model.specs.declared.Switches.{Switches}
use Rattle.world_model.specs.Problem.{Problem, is_problem}
use Rattle.world_model.proofs.TrialLaws.{trial_is_right_law}
use Rattle.merge_print.specs.Json.{HasUtf8Names}
use Rattle.merge_print.specs.Laws.{ReadNamesAreUtf8}
use Rattle.world_watch.specs.Steps.{Texts}
use Rattle.run_ends.specs.declared.Status.{Status}
use Rattle.run_ends.specs.declared.Status.TheVariants as status
use Rattle.run_ends.specs.Ends.{line_of, in_lines, complete_line, end_line}
use Rattle.run_ends.specs.Reads.{problem_in, ComesOf, IsWithout}
use Rattle.outer_store.specs.States.{StoreState, SinkState, IsQuiet}
use Rattle.run_ends.specs.Runs.{LeavesPiece, Answered, ending_of, IsEarlyEnd, IsCarriedOut}
use Rattle.run_ends.proofs.TextLemmas.{says_problem, without_text}
use Rattle.run_ends.proofs.EndLemmas.{all_kept, none_written}
use Rattle.report_run.specs.Reporting.{Watched, watched, asked, AreKinds, report_of, report_text, report_status, IsAnswerBy, IsReportAnswer, report_names}
use Rattle.report_run.specs.Steps.{all_worlds, HaveSeen, AreShownAll}
use Rattle.report_run.proofs.AskLemmas.{asked_named, names_seen}

-- a run that has no problem
pub without_problem : (input : List ℕ) (kinds : List (List ℕ)) (switches : Switches) (ws : List Watched) (s : Status) (one other : StoreState) → IsWithout input (problem_in switches) s one other
    → IsEarlyEnd (report_names input) (IsReportAnswer input kinds switches ws) s one other
without_problem input kinds switches ws s one other end =
    without_text (report_names input) (IsReportAnswer input kinds switches ws) input switches s one other (0, omega arith, refl)
    (λ fault text. record {
      bytes = text.bytes;
      told = text.told_are;
      answer =
          subst (λ r. IsAnswerBy r (asked ws kinds) (status.RefusedText fault.0 fault.1) (end_line (status.RefusedText fault.0 fault.1))) (sym text.is) (refl, refl);
      none_written = refl;
    })
    end

-- the names of a problem that is read are UTF-8
pub names_utf8 : (held : Contents) (input : List ℕ) (switches : Switches) (p : Problem) → ReadNamesAreUtf8 → ComesOf held input (problem_in switches) (Ok p) → HasUtf8Names p
names_utf8 held input switches p law comes = let text = says_problem held input switches p comes in law text.bytes switches p text.is

-- the reports on a problem are the answer
report_answer : (input : List ℕ) (kinds : List (List ℕ)) (switches : Switches) (ws : List Watched) (p : Problem) (one : Contents) → IsTrue (is_problem p) → ComesOf one input (problem_in switches) (Ok p)
    → IsReportAnswer input kinds switches ws one (report_status (all_worlds p)) (report_text p (all_worlds p) (asked ws kinds)) []
report_answer input kinds switches ws p one valid comes =
    let text = says_problem one input switches p comes in
    record {
      bytes = text.bytes;
      told = text.told_are;
      answer = subst (λ r. IsAnswerBy r (asked ws kinds) (report_status (all_worlds p)) (report_text p (all_worlds p) (asked ws kinds))) (sym text.is)
          (record { worlds = all_worlds p; all = trial_is_right_law.worlds p valid [] None; put = refl; ended = refl });
      none_written = refl;
    }

status_answered : (worlds : List (List Rel)) → ending_of (report_status worlds) ≡ Answered
status_answered [] = refl
status_answered (world ∷ worlds) = refl

pub carried : (input : List ℕ) (kinds : List (List ℕ)) (switches : Switches) (ws : List Watched) (p : Problem) (r : Result Status StoreFault) (one other : StoreState) (old new : SinkState)
    → IsTrue (is_problem p) → ComesOf one.held input (problem_in switches) (Ok p) → other.held ≡ one.held → IsQuiet one other
    → IfOk r (λ s. s ≡ report_status (all_worlds p)) → LeavesPiece r (report_text p (all_worlds p) (asked ws kinds)) old new
    → IsCarriedOut (IsReportAnswer input kinds switches ws) r [] one other old new
carried input kinds switches ws p (Ok s) one other old new valid comes kept quiet is put = record {
  done = record {
    text = report_text p (all_worlds p) (asked ws kinds);
    files = [];
    asked = subst (λ x. IsReportAnswer input kinds switches ws one.held x (report_text p (all_worlds p) (asked ws kinds)) []) (sym is) (report_answer input kinds switches ws p one.held valid comes);
    answered = ap ending_of is ∙ status_answered (all_worlds p);
    put = put.ok;
    written = none_written one.held other.held kept;
  };
  refused = tt;
  by_cause = record { cause = (quiet, put.cause); kept = all_kept [] one.held other.held kept };
}
carried input kinds switches ws p (Err store_fault.Failed) one other old new valid comes kept quiet is put = record {
  done = tt;
  refused = record {
    text = report_text p (all_worlds p) (asked ws kinds);
    of_answer = inl (report_status (all_worlds p), [], report_answer input kinds switches ws p one.held valid comes);
    part = put.err;
  };
  by_cause = record { cause = inl (put.cause, quiet); kept = all_kept [] one.held other.held kept };
}
carried input kinds switches ws p (Err store_fault.NoMemory) one other old new valid comes kept quiet is put = record {
  done = tt;
  refused = record {
    text = report_text p (all_worlds p) (asked ws kinds);
    of_answer = inl (report_status (all_worlds p), [], report_answer input kinds switches ws p one.held valid comes);
    part = put.err;
  };
  by_cause = record { cause = (quiet, put.cause); kept = all_kept [] one.held other.held kept };
}

-- watchers that have seen all worlds have their names still, and report on all
pub seen_names : {W : Type 0} (name : W → List ℕ) (text : W → Texts) (p : Problem) (worlds : List (List Rel)) (old new : List W) → HaveSeen name text p worlds old new → map name new ≡ map name old
seen_names name text p worlds [] [] seen = refl
seen_names name text p worlds [] (n ∷ ns) seen = absurd (omega (arith, seen.counted))
seen_names name text p worlds (o ∷ os) [] seen = absurd (omega (arith, seen.counted))
seen_names name text p worlds (o ∷ os) (n ∷ ns) seen =
    ap (λ x. x ∷ map name ns) (seen.each 0 o (omega arith)).named ∙ ap (λ xs. name o ∷ xs) (seen_names name text p worlds os ns (rest_seen seen))
  where
    rest_seen : HaveSeen name text p worlds (o ∷ os) (n ∷ ns) → HaveSeen name text p worlds os ns
    rest_seen seen = record { counted = omega (arith, seen.counted); each = λ k d less. seen.each (suc k) d (omega (arith, less)) }

pub seen_texts : {W : Type 0} (name : W → List ℕ) (text : W → Texts) (p : Problem) (worlds : List (List Rel)) (old new : List W) → HaveSeen name text p worlds old new
    → flat_map (report_of p []) (watched name text new) ≡ flat_map (report_of p worlds) (watched name text old)
seen_texts name text p worlds [] [] seen = refl
seen_texts name text p worlds [] (n ∷ ns) seen = absurd (omega (arith, seen.counted))
seen_texts name text p worlds (o ∷ os) [] seen = absurd (omega (arith, seen.counted))
seen_texts name text p worlds (o ∷ os) (n ∷ ns) seen =
    let first = seen.each 0 o (omega arith) in
    let told : text n p [] ≡ text o p worlds = first.seen [] ∙ ap (text o p) (append-nil worlds) in
    ap (λ x. (line_of (codes "report " ++ x) ++ in_lines (text n p [])) ++ flat_map (report_of p []) (watched name text ns)) first.named
    ∙ ap (λ x. (line_of (codes "report " ++ name o) ++ in_lines x) ++ flat_map (report_of p []) (watched name text ns)) told
    ∙ ap (λ xs. report_of p worlds (record { name = name o; text = text o }) ++ xs) (seen_texts name text p worlds os ns (rest_seen seen))
  where
    rest_seen : HaveSeen name text p worlds (o ∷ os) (n ∷ ns) → HaveSeen name text p worlds os ns
    rest_seen seen = record { counted = omega (arith, seen.counted); each = λ k d less. seen.each (suc k) d (omega (arith, less)) }

-- so what is put of them is the text of the answer
pub text_told : {W : Type 0} (name : W → List ℕ) (text : W → Texts) (p : Problem) (ws : List Watched) (old new : List W) (count : ℕ) → watched name text old ≡ ws → AreShownAll name text p old new count
    → flat_map (report_of p []) (watched name text new) ++ complete_line count ≡ report_text p (all_worlds p) ws
text_told name text p ws old new count are shown =
    ap (λ t. t ++ complete_line count) (seen_texts name text p (all_worlds p) old new shown.0)
    ∙ ap (λ xs. flat_map (report_of p (all_worlds p)) xs ++ complete_line count) are
    ∙ ap (λ (n : ℕ). flat_map (report_of p (all_worlds p)) ws ++ complete_line n) shown.1

-- they have the names of the kinds
pub names_right : {W : Type 0} (name : W → List ℕ) (text : W → Texts) (p : Problem) (ws old new : List W) (kinds : List (List ℕ)) (count : ℕ) → AreKinds (watched name text ws) kinds
    → watched name text old ≡ asked (watched name text ws) kinds → AreShownAll name text p old new count → map name new ≡ kinds
names_right name text p ws old new kinds count kinds_are are shown =
    seen_names name text p (all_worlds p) old new shown.0 ∙ sym (names_seen name text old) ∙ ap (map (λ (w : Watched). w.name)) are ∙ asked_named (watched name text ws) kinds kinds_are.named

-- a first part of what is put of watchers that have seen all worlds is one of the text of the answer
pub part_told : {W T E : Type 0} (r : Result T E) (name : W → List ℕ) (text : W → Texts) (p : Problem) (ws : List Watched) (old new : List W) (count : ℕ) (before now : Option (List ℕ)) → watched name text old ≡ ws
    → AreShownAll name text p old new count → GrownInPart before now (flat_map (report_of p []) (watched name text new) ++ complete_line count) → OnErr r (GrownInPart before now (report_text p (all_worlds p) ws))
part_told (Ok v) name text p ws old new count before now are shown part = tt
part_told (Err e) name text p ws old new count before now are shown part = subst (GrownInPart before now) (text_told name text p ws old new count are shown) part
