-- What a clause that closes a need shows.
use Rattle.std.proofs.Common.{◌≡◌, ℕ, List, [], ◌∷◌, Some, refl, sym, subst, arith}
use Rattle.std.specs.Prelude.{Contains, MatchOption}
use Rattle.std.proofs.lemmas.List.Elements.{Contains-append_right}
use Rattle.rcc5_core.specs.declared.Rel.{Rel}
use Rattle.lits_core.specs.Derivation.{State, live_clause}
use Rattle.world_model.specs.Problem.{Problem}
use Rattle.world_model.specs.Alive.{Need, needs, problem_at}
use Rattle.point_encode.specs.Model.Forced.{need_with, IsClosedAt}
use Rattle.point_query.specs.Asking.{AskerState}
use Rattle.point_query.specs.Answers.{IsFirstClosed}
use Rattle.cert_rules.specs.Writing.{IsClosedNeed}

-- a need that a node forces, and a clause that closes it
pub closed_need : (p : Problem) (s : State) (m : List Rel) (need : Need) (number id : ℕ) → need_with p number ≡ Some need → Contains (needs (problem_at p m)) need →
    MatchOption (live_clause s id) ⊥ (IsClosedAt p m need) → IsClosedNeed p s m number id
closed_need p s m need number id named among closed = record { need = need; named = named; among = among; closed = closed }

-- the first need without a point
pub first_closed : (asker : AskerState) (p : Problem) (m : List Rel) (need : Need) (number id : ℕ) → need_with p number ≡ Some need → IsFirstClosed asker p m need id →
    IsClosedNeed p asker.solver.state m number id
first_closed asker p m need number id named closed =
    closed_need p asker.solver.state m need number id named
    (subst (λ ns. Contains ns need) (sym closed.among) (Contains-append_right closed.before (need ∷ closed.after) need (0, omega arith, refl))) closed.closed.named
