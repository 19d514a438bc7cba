-- Guides along a prefix: further with it, and back.
use Rattle.std.proofs.Common.{◌≡◌, ◌≤◌, List, [], ◌∷◌, ◌++◌, length, take, refl, sym, ap, ◌∙◌, subst, arith, append_assoc, append-nil}
use Rattle.std.specs.Prelude.{Option, Some, None, IfSome, slice_get}
use Rattle.rcc5_core.specs.declared.Rel.{Rel}
use Rattle.world_model.specs.Problem.{Problem}
use Rattle.world_model.specs.Alive.{problem_at, IsAlive}
use Rattle.world_model.specs.Laws.{PrefixesOfTheAliveAreAlive}
use Rattle.point_ladder.specs.Ladders.{LadderState}
use Rattle.world_search.specs.declared.guide.Guide.{Guide}
use Rattle.world_search.specs.Guiding.{IsLadderOf, IsGuideOf}
use Rattle.world_search.proofs.Leading.{rest_begins}

-- the longer one of two first parts begins with the shorter one
shorter_begins : (a b c d : List Rel) → a ++ b ≡ c ++ d → length a ≤ length c → (x : List Rel) × (c ≡ a ++ x)
shorter_begins [] b c d e upto = (c, refl)
shorter_begins (r ∷ a) b [] d e upto = absurd (omega arith)
shorter_begins (r ∷ a) b (t ∷ c) d e upto =
    let tail : a ++ b ≡ c ++ d = cc in
    let head : t ≡ r = cc in
    let rest = shorter_begins a b c d tail (omega arith) in
    let same = rest.1 in
    (rest.0, λ i. head i ∷ same i)

take_front : (a x : List Rel) → take (length a) (a ++ x) ≡ a
take_front [] x = refl
take_front (r ∷ a) x = let rest = take_front a x in λ i. r ∷ rest i

-- a new ladder
pub new_ladder : (p : Problem) (l : Option LadderState) → IfSome l (λ s. s ≡ record { problem = p; path = [] }) → IfSome l (IsLadderOf p [])
new_ladder p None new = tt
new_ladder p (Some s) new = record {
  problem = ap (λ (t : LadderState). t.problem) new;
  rest = [];
  begins = sym (append-nil s.path ∙ ap (λ (t : LadderState). t.path) new);
}

-- a ladder further along
pub ladder_further : (p : Problem) (m n rest : List Rel) (s : LadderState) → n ≡ m ++ rest → IsLadderOf p m s → IsLadderOf p n s
ladder_further p m n rest s is at = record {
  problem = at.problem;
  rest = at.rest ++ rest;
  begins = is ∙ ap (λ x. x ++ rest) at.begins ∙ append_assoc s.path at.rest rest;
}

-- a guide at a prefix is one at any that begins with it
pub guide_further : (p : Problem) (m n rest : List Rel) (g : Guide) → n ≡ m ++ rest → IsGuideOf p m g → IsGuideOf p n g
guide_further p m n rest g is at = by g.ladder at
  where
    by : (l : Option LadderState) → IfSome l (IsLadderOf p m) → IfSome l (IsLadderOf p n)
    by None h = tt
    by (Some s) h = ladder_further p m n rest s is h

-- a ladder is cut to a shorter prefix, or stays where it is no longer
pub ladder_cut : (p : Problem) (m rest : List Rel) (s new : LadderState) → IsLadderOf p (m ++ rest) s → length m ≤ length s.path →
    new ≡ record s { path = take (length m) s.path } → IsLadderOf p m new
ladder_cut p m rest s new at long is =
    let longer = shorter_begins m rest s.path at.rest at.begins long in
    let front : take (length m) s.path ≡ m = ap (take (length m)) longer.1 ∙ take_front m longer.0 in
    let path : new.path ≡ m = ap (λ (t : LadderState). t.path) is ∙ front in
    record {
      problem = ap (λ (t : LadderState). t.problem) is ∙ at.problem;
      rest = [];
      begins = sym (append-nil new.path ∙ path);
    }

pub ladder_stays : (p : Problem) (m rest : List Rel) (s : LadderState) → IsLadderOf p (m ++ rest) s → length s.path ≤ length m → IsLadderOf p m s
ladder_stays p m rest s at short =
    let longer = shorter_begins s.path at.rest m rest (sym at.begins) short in
    record { problem = at.problem; rest = longer.0; begins = longer.1 }

-- one relation further along a prefix
pub ladder_step : (p : Problem) (prefix : List Rel) (rel : Rel) (s new : LadderState) → IsLadderOf p prefix s → slice_get prefix (length s.path) ≡ Some rel →
    new ≡ record s { path = s.path ++ rel ∷ [] } → IsLadderOf p prefix new
ladder_step p prefix rel s new at next is =
    let more = rest_begins prefix s.path at.rest rel at.begins next in
    let path : new.path ≡ s.path ++ rel ∷ [] = ap (λ (t : LadderState). t.path) is in
    record {
      problem = ap (λ (t : LadderState). t.problem) is ∙ at.problem;
      rest = more.0;
      begins = more.1 ∙ sym (append_assoc s.path (rel ∷ []) more.0) ∙ ap (λ x. x ++ more.0) (sym path);
    }

-- where a first part of a prefix is dead, so is the prefix
pub dead_at : (p : Problem) (prefix : List Rel) (s : LadderState) → PrefixesOfTheAliveAreAlive → IsLadderOf p prefix s →
    (IsAlive (problem_at s.problem s.path) → ⊥) → IsAlive (problem_at p prefix) → ⊥
dead_at p prefix s law at dead alive =
    let long : IsAlive (problem_at p (s.path ++ at.rest)) = subst (λ m. IsAlive (problem_at p m)) at.begins alive in
    dead (subst (λ q. IsAlive (problem_at q s.path)) (sym at.problem) (law.prefixes p s.path at.rest long))

pub dead_behind : (p : Problem) (prefix : List Rel) (rel : Rel) (s : LadderState) → PrefixesOfTheAliveAreAlive → IsLadderOf p prefix s →
    slice_get prefix (length s.path) ≡ Some rel → (IsAlive (problem_at s.problem (s.path ++ rel ∷ [])) → ⊥) → IsAlive (problem_at p prefix) → ⊥
dead_behind p prefix rel s law at next dead alive =
    let more = rest_begins prefix s.path at.rest rel at.begins next in
    let long : IsAlive (problem_at p ((s.path ++ rel ∷ []) ++ more.0)) =
    subst (λ m. IsAlive (problem_at p m)) (more.1 ∙ sym (append_assoc s.path (rel ∷ []) more.0)) alive in
    dead (subst (λ q. IsAlive (problem_at q (s.path ++ rel ∷ []))) (sym at.problem) (law.prefixes p (s.path ++ rel ∷ []) more.0 long))
