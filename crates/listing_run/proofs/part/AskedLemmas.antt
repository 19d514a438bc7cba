-- What a part comes to that words ask for, by the bytes that are read for it.
use Rattle.std.proofs.Common.{◌≡◌, ◌≢◌, ℕ, Bool, true, false, List, [], ◌∷◌, Option, None, Some, IfSome, IfOk, IfErr, Result, Ok, Err, refl, sym, ap, subst, ◌∙◌, arith, inl}
use Rattle.std.specs.Prelude.{option_map, unwrap_or, if◌then◌else◌}
use Rattle.std.specs.Option.{option_to_list}
use Rattle.std.proofs.lemmas.List.Elements.{Contains-append_right}
use Rattle.outer_store.specs.Contents.{Contents}
use Rattle.outer_store.specs.States.{StoreState, IsQuiet}
use Rattle.rcc5_core.specs.declared.Rel.{Rel}
use Rattle.world_model.specs.Problem.{Problem}
use Rattle.world_model.specs.Listing.{is_before_end}
use Rattle.command_line.specs.declared.request.PartArgs.{PartArgs}
use Rattle.command_line.specs.Requests.{AreApart, IsPart}
use Rattle.run_ends.specs.declared.Status.{Status}
use Rattle.run_ends.specs.declared.Status.TheVariants.{EmptyPart}
use Rattle.run_ends.specs.Reads.{problem_in, token_in, ComesOf, IsWithout, IsGiven, IsWithoutGiven}
use Rattle.run_ends.specs.Runs.{Answered, ending_of, IsEarlyEnd}
use Rattle.run_ends.proofs.ReadLemmas.{early_without}
use Rattle.run_ends.proofs.TextLemmas.{text_answers, err_same}
use Rattle.run_ends.proofs.TokenLemmas.{token_answers}
use Rattle.run_ends.proofs.HeldLemmas.{read_of, read_first, read_later, filled, filled_told, filled_problem, filled_token}
use Rattle.listing_run.specs.declared.plan.ListingPlan.{ListingPlan}
use Rattle.listing_run.specs.Part.Answering.{given_by, given_in, plan_between, plan_from, plan_by, ComesTo, IsPartAnswer, part_names}

-- what a part comes to, by the bytes that were read for it
comes : (held : Contents) (read : List (List ℕ × List ℕ)) (args : PartArgs) (problem : Result Problem Status) (outcome : Result ListingPlan Status)
    → problem_in args.switches (filled held read args.input) ≡ problem
    → plan_by problem (option_map (filled held read) args.resume) (option_map (filled held read) args.until) ≡ outcome → ComesTo args held outcome
comes held read args problem outcome is e = record {
  bytes = filled held read;
  told = filled_told held read;
  is = ap (λ r. plan_by r (option_map (filled held read) args.resume) (option_map (filled held read) args.until)) is ∙ e;
}

-- one whose text is refused
comes_refused : (held : Contents) (args : PartArgs) (s : Status) → ComesOf held args.input (problem_in args.switches) (Err s) → ComesTo args held (Err s)
comes_refused held args s problem =
    let read = (args.input, problem.bytes) ∷ [] in
    comes held read args (Err s) (Err s) (filled_problem held read args.input args.switches (Err s) problem (read_first args.input problem.bytes [])) refl

-- what comes of a token that may be given, by bytes that are read under its name
record GivenBy (held : Contents) (p : Problem) (name : Option (List ℕ)) (outcome : Result (Option (List Rel)) Status) : Type 0 where
  bytes : List ℕ
  is : (read : List (List ℕ × List ℕ)) → IfSome name (λ n. read_of read n ≡ bytes) → given_in p (option_map (filled held read) name) ≡ outcome

of_token : (held : Contents) (p : Problem) (name : List ℕ) (outcome : Result (List Rel) Status) → ComesOf held name (token_in p) outcome → GivenBy held p (Some name) (given_by outcome)
of_token held p name outcome token = record { bytes = token.bytes; is = λ read there. ap given_by (filled_token held read name p outcome token there) }

of_given : (held : Contents) (p : Problem) (name : Option (List ℕ)) (position : Option (List Rel)) → IsGiven held p name position → GivenBy held p name (Ok position)
of_given held p None position none = record { bytes = []; is = λ read there. ap (λ (q : Option (List Rel)). Ok q) (sym none) }
of_given held p (Some name) None none = absurd none
of_given held p (Some name) (Some position) token = of_token held p name (Ok position) token

-- one more name that was read, where it is given
abbrev read_if : Option (List ℕ) → List ℕ → List (List ℕ × List ℕ) → List (List ℕ × List ℕ)
read_if None bytes more = more
read_if (Some name) bytes more = (name, bytes) ∷ more

read_there : (name : Option (List ℕ)) (bytes : List ℕ) (more : List (List ℕ × List ℕ)) → IfSome name (λ n. read_of (read_if name bytes more) n ≡ bytes)
read_there None bytes more = tt
read_there (Some name) bytes more = read_first name bytes more

-- what was read under a name that is apart from one that was read before it
read_past : (one name : Option (List ℕ)) (these bytes : List ℕ) (more : List (List ℕ × List ℕ)) → AreApart one name
    → IfSome name (λ n. read_of more n ≡ bytes) → IfSome name (λ n. read_of (read_if one these more) n ≡ bytes)
read_past one None these bytes more apart there = tt
read_past None (Some name) these bytes more apart there = there
read_past (Some one) (Some name) these bytes more apart there = read_later one these name more apart ∙ there

-- one whose problem is found, by what comes of its two tokens
comes_given : (held : Contents) (args : PartArgs) (p : Problem) (start end : Result (Option (List Rel)) Status) → IsPart args → ComesOf held args.input (problem_in args.switches) (Ok p)
    → GivenBy held p args.resume start → GivenBy held p args.until end → ComesTo args held (plan_from p start end)
comes_given held args p start end part problem resumed ended =
    let last = read_if args.until ended.bytes [] in
    let behind = read_if args.resume resumed.bytes last in
    let read = (args.input, problem.bytes) ∷ behind in
    let of_start = resumed.is read (read_past (Some args.input) args.resume problem.bytes resumed.bytes behind part.resumed (read_there args.resume resumed.bytes last)) in
    let of_end = ended.is read
    (read_past (Some args.input) args.until problem.bytes ended.bytes behind part.ended
    (read_past args.resume args.until resumed.bytes ended.bytes last part.two (read_there args.until ended.bytes []))) in
    comes held read args (Ok p) (plan_from p start end)
    (filled_problem held read args.input args.switches (Ok p) problem (read_first args.input problem.bytes behind))
    (ap (λ r. plan_from p r (given_in p (option_map (filled held read) args.until))) of_start ∙ ap (plan_from p start) of_end)

-- one whose start is refused
comes_unstarted : (held : Contents) (args : PartArgs) (name : List ℕ) (p : Problem) (s : Status) → args.input ≢ name → ComesOf held args.input (problem_in args.switches) (Ok p)
    → ComesOf held name (token_in p) (Err s) → ComesTo (record args { resume = Some name }) held (Err s)
comes_unstarted held args name p s apart problem token =
    let behind = (name, token.bytes) ∷ [] in
    let read = (args.input, problem.bytes) ∷ behind in
    comes held read (record args { resume = Some name }) (Ok p) (Err s)
    (filled_problem held read args.input args.switches (Ok p) problem (read_first args.input problem.bytes behind))
    (ap (λ r. plan_from p (given_by r) (given_in p (option_map (filled held read) args.until)))
    (filled_token held read name p (Err s) token (read_later args.input problem.bytes name behind apart ∙ read_first name token.bytes [])))

-- a part that ends before its start is read
pub ends_without_problem : (one other : StoreState) (args : PartArgs) (s : Status) → IsWithout args.input (problem_in args.switches) s one other
    → IsEarlyEnd (part_names args) (IsPartAnswer args) s one other
ends_without_problem one other args s end =
    early_without (part_names args) (IsPartAnswer args) args.input (problem_in args.switches) s one other (0, omega arith, refl)
    (λ refused. (record { outcome = Err s; comes = comes_refused one.held args s refused; answer = (refl, refl, refl) }, text_answers args.switches refused.bytes s refused.judged))
    end

-- one that ends without its start
pub ends_without_start : (one mid other : StoreState) (args : PartArgs) (p : Problem) (s : Status) → IsPart args → mid ≡ one
    → ComesOf one.held args.input (problem_in args.switches) (Ok p) → IsWithoutGiven p args.resume s mid other → IsEarlyEnd (part_names args) (IsPartAnswer args) s one other
ends_without_start one mid other args p s part same problem end =
    by args.resume part.resumed (subst (λ (state : StoreState). IsWithoutGiven p args.resume s state other) same end)
  where
    by : (resume : Option (List ℕ)) → AreApart (Some args.input) resume → IsWithoutGiven p resume s one other
        → IsEarlyEnd (part_names (record args { resume = resume })) (IsPartAnswer (record args { resume = resume })) s one other
    by None apart end = absurd end
    by (Some name) apart end =
        early_without (part_names (record args { resume = Some name })) (IsPartAnswer (record args { resume = Some name })) name (token_in p) s one other (1, omega arith, refl)
        (λ refused. (
          record { outcome = Err s; comes = comes_unstarted one.held args name p s apart problem refused; answer = (refl, refl, refl) },
          token_answers p refused.bytes s refused.judged,
        ))
        end

-- and one that ends without its end
pub ends_without_end : (one mid other : StoreState) (args : PartArgs) (p : Problem) (start : Option (List Rel)) (s : Status) → IsPart args → mid ≡ one
    → ComesOf one.held args.input (problem_in args.switches) (Ok p) → IsGiven one.held p args.resume start → IsWithoutGiven p args.until s mid other
    → IsEarlyEnd (part_names args) (IsPartAnswer args) s one other
ends_without_end one mid other args p start s part same problem resumed end =
    by args.until part.ended part.two (subst (λ (state : StoreState). IsWithoutGiven p args.until s state other) same end)
  where
    by : (until : Option (List ℕ)) → AreApart (Some args.input) until → AreApart args.resume until → IsWithoutGiven p until s one other
        → IsEarlyEnd (part_names (record args { until = until })) (IsPartAnswer (record args { until = until })) s one other
    by None apart two end = absurd end
    by (Some name) apart two end =
        let asked : PartArgs = record args { until = Some name } in
        early_without (part_names asked) (IsPartAnswer asked) name (token_in p) s one other
        (Contains-append_right (args.input ∷ option_to_list args.resume) (name ∷ []) name (0, omega arith, refl))
        (λ refused. (
          record {
            outcome = Err s;
            comes =
                comes_given one.held asked p (Ok start) (Err s) (record { resumed = part.resumed; ended = apart; two = two }) problem (of_given one.held p args.resume start resumed)
                (of_token one.held p name (Err s) refused);
            answer = (refl, refl, refl);
          },
          token_answers p refused.bytes s refused.judged,
        ))
        end

-- a part whose start and end are found
pub comes_of_both : (held : Contents) (args : PartArgs) (p : Problem) (start end : Option (List Rel)) (first : List Rel) (outcome : Result ListingPlan Status) → IsPart args
    → ComesOf held args.input (problem_in args.switches) (Ok p) → IsGiven held p args.resume start → IsGiven held p args.until end → first ≡ unwrap_or start [] → outcome ≡ plan_between p first end
    → ComesTo args held outcome
comes_of_both held args p start end first outcome part problem resumed ended opened is =
    subst (ComesTo args held) (ap (λ (q : List Rel). plan_between p q end) (sym opened) ∙ sym is)
    (comes_given held args p (Ok start) (Ok end) part problem (of_given held p args.resume start resumed) (of_given held p args.until end ended))

pub found : (held : Contents) (args : PartArgs) (outcome : Result ListingPlan Status) → ComesTo args held outcome → IfOk outcome (λ plan. ComesTo args held (Ok plan))
found held args (Ok plan) comes = comes
found held args (Err s) comes = tt

-- and one that is empty
empty_ends : (b : Bool) (plan : ListingPlan) (s : Status) → Err s ≡ (if b then Ok plan else Err EmptyPart) → ending_of s ≡ Answered
empty_ends true plan s e = cc
empty_ends false plan s e = ap ending_of (err_same s EmptyPart (Err s) refl e)

pub ends_empty : (one other : StoreState) (args : PartArgs) (p : Problem) (first : List Rel) (end : Option (List Rel)) (outcome : Result ListingPlan Status) → ComesTo args one.held outcome
    → outcome ≡ plan_between p first end → IsQuiet one other → IfErr outcome (λ s. IsEarlyEnd (part_names args) (IsPartAnswer args) s one other)
ends_empty one other args p first end (Ok plan) comes is quiet = tt
ends_empty one other args p first end (Err s) comes is quiet = inl (
  record { outcome = Err s; comes = comes; answer = (refl, refl, refl) },
  empty_ends (is_before_end first end) (record { problem = p; start = first; end = end; nodes = None; worlds = None }) s is,
  quiet,
)
