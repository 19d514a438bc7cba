-- Lines of nodes, as an asker tells of them. The lemmas are those of a search over all pairs, at the empty prefix of a node's problem.
use Rattle.std.proofs.Common.{◌≡◌, ℕ, cond, List, [], ◌∷◌, length, Option, Some, None, refl, sym, ap, ◌∙◌, subst, arith}
use Rattle.std.specs.Prelude.{Contains}
use Rattle.std.proofs.lemmas.Bool.{lt-ltb}
use Rattle.std.proofs.lemmas.List.Elements.{Contains-append_right}
use Rattle.rcc5_core.specs.declared.Rel.{Rel}
use Rattle.lits_core.specs.Derivation.{State}
use Rattle.world_model.specs.Problem.{Problem, concept_count, pair_count}
use Rattle.world_model.specs.Alive.{InRegion, InConcept, problem_at, IsAlive}
use Rattle.world_model.specs.Node.{pair_at}
use Rattle.world_model.proofs.PointOnce.{at_empty}
use Rattle.point_encode.specs.Model.Forced.{need_at, need_count, need_with}
use Rattle.point_encode.specs.declared.need.Need.{Need}
use Rattle.point_encode.specs.Needs.{need_seen, IsInRange, need_number}
use Rattle.point_pool.proofs.Settling.{numbered_need}
use Rattle.point_query.specs.Asking.{AskerState}
use Rattle.point_query.specs.Answers.{IsFirstClosed, IsFirstEmpty}
use Rattle.cert_text.specs.declared.line.CertLine.TheVariants.{NoPoint, NoRelation}
use Rattle.cert_rules.specs.Trees.{Branching, node_problem, last_of}
use Rattle.cert_rules.specs.ClaimWriting.{TellsWithin}
use Rattle.cert_rules.specs.Writing.{IsClosedNeed}
use Rattle.cert_rules.proofs.NodeLines.{named}

-- the need with its number
need_numbered : (p : Problem) (need : Need) → IsInRange p need → need_with p (need_number p need) ≡ Some (need_seen p need)
need_numbered p need range =
    let n = numbered_need p need range in
    ap (λ b. cond b (Some (need_at p (need_number p need))) None) (lt-ltb (need_number p need) (need_count p) n.0) ∙ ap Some n.1

-- a need that has no point, by its number
pub closed_need : (asker : AskerState) (p : Problem) (m : List Rel) (need : Need) (id number : ℕ) → number ≡ need_number p need → IsInRange p need → IsFirstClosed asker p m (need_seen p need) id →
    IsClosedNeed p asker.solver.state m number id
closed_need asker p m need id number is range closed = record {
  need = need_seen p need;
  named = ap (need_with p) is ∙ need_numbered p need range;
  among = subst (λ ns. Contains ns (need_seen p need)) (sym closed.among)
      (Contains-append_right closed.before (need_seen p need ∷ closed.after) (need_seen p need) (0, omega arith, refl));
  closed = closed.closed.named;
}

-- what an asker says of the root of a node's problem
abbrev pub here_is : Branching → List Rel → Problem → List Rel → Type 0
here_is tree m node prefix = (node ≡ node_problem tree m) × (prefix ≡ [])

root_problem : (tree : Branching) (m : List Rel) (node : Problem) (prefix : List Rel) → here_is tree m node prefix → problem_at node prefix ≡ node_problem tree m
root_problem tree m node prefix here = ap (problem_at node) here.1 ∙ at_empty node ∙ here.0

pub alive_here : (tree : Branching) (m : List Rel) (node : Problem) (prefix : List Rel) → here_is tree m node prefix → IsAlive (problem_at node prefix) → IsAlive (node_problem tree m)
alive_here tree m node prefix here alive = subst IsAlive (root_problem tree m node prefix here) alive

pub dead_here : (tree : Branching) (m : List Rel) (node : Problem) (prefix : List Rel) → here_is tree m node prefix → (IsAlive (problem_at node prefix) → ⊥) → IsAlive (node_problem tree m) → ⊥
dead_here tree m node prefix here dead alive = dead (subst IsAlive (sym (root_problem tree m node prefix here)) alive)

pub tells_pair : (tree : Branching) (m : List Rel) (node : Problem) (prefix : List Rel) (state : State) (depth : ℕ) (last : Option Rel) (pair : ℕ) → here_is tree m node prefix → depth ≡ length m → last ≡ last_of m →
    IsFirstEmpty (problem_at node prefix) pair → TellsWithin tree state m (NoRelation depth last pair)
tells_pair tree m node prefix state depth last pair here is_depth is_last first =
    let at : IsFirstEmpty (node_problem tree m) pair = subst (λ q. IsFirstEmpty q pair) (root_problem tree m node prefix here) first in
    (named m depth last is_depth is_last, (at.within, at.empty))

pub tells_need : (tree : Branching) (m : List Rel) (node : Problem) (prefix : List Rel) (asker : AskerState) (depth : ℕ) (last : Option Rel) (need : Need) (id number : ℕ) → here_is tree m node prefix →
    depth ≡ length m → last ≡ last_of m → number ≡ need_number node need → IsInRange node need → IsFirstClosed asker node prefix (need_seen node need) id →
    TellsWithin tree asker.solver.state m (NoPoint depth last number id)
tells_need tree m node prefix asker depth last need id number here is_depth is_last is range closed = (
  named m depth last is_depth is_last,
  subst (λ q. IsClosedNeed q asker.solver.state [] number id) here.0
      (subst (λ prefix. IsClosedNeed node asker.solver.state prefix number id) here.1 (closed_need asker node prefix need id number is range closed)),
)
