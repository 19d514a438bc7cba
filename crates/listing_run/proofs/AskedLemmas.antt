-- What a listing comes to that words ask for, by the bytes that are read for it.
use Rattle.std.proofs.Common.{◌≡◌, ◌≢◌, ℕ, List, [], ◌∷◌, Option, None, Some, Result, Ok, Err, refl, sym, ap, subst, ◌∙◌, arith}
use Rattle.std.specs.Prelude.{option_map, unwrap_or}
use Rattle.rcc5_core.specs.declared.Rel.{Rel}
use Rattle.world_model.specs.Problem.{Problem}
use Rattle.cleantax_text.specs.declared.TextKind.{TextKind}
use Rattle.cleantax_text.specs.Reading.{text_result}
use Rattle.run_ends.specs.declared.token.TokenKind.{TokenKind}
use Rattle.run_ends.specs.Token.Token.{token_result}
use Rattle.outer_store.specs.Contents.{Contents}
use Rattle.outer_store.specs.States.{StoreState}
use Rattle.run_ends.specs.declared.Status.{Status}
use Rattle.run_ends.specs.Reads.{problem_by, problem_in, token_by, token_in, ComesOf, IsWithout, IsGiven, IsWithoutGiven}
use Rattle.run_ends.specs.Runs.{IsEarlyEnd}
use Rattle.run_ends.proofs.ReadLemmas.{early_without}
use Rattle.run_ends.proofs.TextLemmas.{text_answers}
use Rattle.run_ends.proofs.TokenLemmas.{token_answers}
use Rattle.run_ends.proofs.HeldLemmas.{read_first, read_later, filled, filled_told, filled_problem, filled_token}
use Rattle.command_line.specs.declared.request.AlignArgs.{AlignArgs}
use Rattle.command_line.specs.Requests.{AreApart, IsAlign}
use Rattle.listing_run.specs.declared.plan.ListingPlan.{ListingPlan}
use Rattle.listing_run.specs.Output.{start_of, plan_from, plan_by, ComesTo, listing_names, IsListingAnswer}

-- a plan by what comes of its text and of its token
abbrev from_start : Problem → Option ℕ → Option ℕ → Result (List Rel) Status → Result ListingPlan Status
from_start p nodes worlds (Ok start) = Ok (record { problem = p; start = start; end = None; nodes = nodes; worlds = worlds })
from_start p nodes worlds (Err s) = Err s

abbrev from_problem : Result Problem Status → Option ℕ → Option ℕ → (Problem → Result (List Rel) Status) → Result ListingPlan Status
from_problem (Ok p) nodes worlds start = from_start p nodes worlds (start p)
from_problem (Err s) nodes worlds start = Err s

by_start : (p : Problem) (nodes worlds : Option ℕ) (r : Result (List Rel) TokenKind) → plan_from p nodes worlds r ≡ from_start p nodes worlds (token_by r)
by_start p nodes worlds (Ok start) = refl
by_start p nodes worlds (Err kind) = refl

by_problem : (r : Result Problem (ℕ × TextKind)) (nodes worlds : Option ℕ) (token : Option (List ℕ))
    → plan_by r nodes worlds token ≡ from_problem (problem_by r) nodes worlds (λ p. token_by (start_of p token))
by_problem (Ok p) nodes worlds token = by_start p nodes worlds (start_of p token)
by_problem (Err fault) nodes worlds token = refl

-- what a request comes to, by the bytes that were read for it
comes : (held : Contents) (read : List (List ℕ × List ℕ)) (args : AlignArgs) (problem : Result Problem Status) (outcome : Result ListingPlan Status)
    → problem_in args.switches (filled held read args.input) ≡ problem
    → from_problem problem args.nodes args.worlds (λ p. token_by (start_of p (option_map (filled held read) args.resume))) ≡ outcome → ComesTo args held outcome
comes held read args problem outcome is e = record {
  bytes = filled held read;
  told = filled_told held read;
  is =
      by_problem (text_result (filled held read args.input) args.switches) args.nodes args.worlds (option_map (filled held read) args.resume)
      ∙ ap (λ r. from_problem r args.nodes args.worlds (λ p. token_by (start_of p (option_map (filled held read) args.resume)))) is
      ∙ e;
}

-- one whose text is refused
comes_refused : (held : Contents) (args : AlignArgs) (s : Status) → ComesOf held args.input (problem_in args.switches) (Err s) → ComesTo args held (Err s)
comes_refused held args s problem =
    let read = (args.input, problem.bytes) ∷ [] in
    comes held read args (Err s) (Err s) (filled_problem held read args.input args.switches (Err s) problem (read_first args.input problem.bytes [])) refl

-- one whose problem is found, by what comes of its token
comes_resumed : (held : Contents) (args : AlignArgs) (name : List ℕ) (p : Problem) (start : Result (List Rel) Status) → args.input ≢ name
    → ComesOf held args.input (problem_in args.switches) (Ok p) → ComesOf held name (token_in p) start
    → ComesTo (record args { resume = Some name }) held (from_start p args.nodes args.worlds start)
comes_resumed held args name p start apart problem of_token =
    let behind = (name, of_token.bytes) ∷ [] in
    let read = (args.input, problem.bytes) ∷ behind in
    comes held read (record args { resume = Some name }) (Ok p) (from_start p args.nodes args.worlds start)
    (filled_problem held read args.input args.switches (Ok p) problem (read_first args.input problem.bytes behind))
    (ap (from_start p args.nodes args.worlds)
    (filled_token held read name p start of_token (read_later args.input problem.bytes name behind apart ∙ read_first name of_token.bytes [])))

-- one whose problem and start are found
pub comes_ok : (held : Contents) (args : AlignArgs) (p : Problem) (given : Option (List Rel)) (start : List Rel) → IsAlign args → ComesOf held args.input (problem_in args.switches) (Ok p)
    → IsGiven held p args.resume given → start ≡ unwrap_or given [] → ComesTo args held (from_start p args.nodes args.worlds (Ok start))
comes_ok held args p given start align problem found is =
    subst (λ (q : List Rel). ComesTo args held (from_start p args.nodes args.worlds (Ok q))) (sym is) (by args.resume given align.apart found)
  where
    by : (resume : Option (List ℕ)) (given : Option (List Rel)) → AreApart (Some args.input) resume → IsGiven held p resume given
        → ComesTo (record args { resume = resume }) held (from_start p args.nodes args.worlds (Ok (unwrap_or given [])))
    by None given apart none =
        let read = (args.input, problem.bytes) ∷ [] in
        comes held read (record args { resume = None }) (Ok p) (from_start p args.nodes args.worlds (Ok (unwrap_or given [])))
        (filled_problem held read args.input args.switches (Ok p) problem (read_first args.input problem.bytes []))
        (ap (λ (q : Option (List Rel)). from_start p args.nodes args.worlds (Ok (unwrap_or q []))) (sym none))
    by (Some name) None apart none = absurd none
    by (Some name) (Some start) apart of_token = comes_resumed held args name p (Ok start) apart problem of_token

-- a listing that ends before its start is read
pub ends_without_problem : (one other : StoreState) (args : AlignArgs) (s : Status) → IsWithout args.input (problem_in args.switches) s one other
    → IsEarlyEnd (listing_names args) (IsListingAnswer args) s one other
ends_without_problem one other args s end =
    early_without (listing_names args) (IsListingAnswer args) args.input (problem_in args.switches) s one other (0, omega arith, refl)
    (λ refused. (record { outcome = Err s; comes = comes_refused one.held args s refused; answer = (refl, refl, refl) }, text_answers args.switches refused.bytes s refused.judged))
    end

-- and one that ends without its start
pub ends_without_start : (one mid other : StoreState) (args : AlignArgs) (p : Problem) (s : Status) → IsAlign args → mid ≡ one
    → ComesOf one.held args.input (problem_in args.switches) (Ok p) → IsWithoutGiven p args.resume s mid other → IsEarlyEnd (listing_names args) (IsListingAnswer args) s one other
ends_without_start one mid other args p s align same problem end =
    by args.resume align.apart (subst (λ (state : StoreState). IsWithoutGiven p args.resume s state other) same end)
  where
    by : (resume : Option (List ℕ)) → AreApart (Some args.input) resume → IsWithoutGiven p resume s one other
        → IsEarlyEnd (listing_names (record args { resume = resume })) (IsListingAnswer (record args { resume = resume })) s one other
    by None apart end = absurd end
    by (Some name) apart end =
        early_without (listing_names (record args { resume = Some name })) (IsListingAnswer (record args { resume = Some name })) name (token_in p) s one other (1, omega arith, refl)
        (λ refused. (
          record { outcome = Err s; comes = comes_resumed one.held args name p (Err s) apart problem refused; answer = (refl, refl, refl) },
          token_answers p refused.bytes s refused.judged,
        ))
        end
