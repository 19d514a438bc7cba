-- The subjects that are asked, and their problems.
use Rattle.std.proofs.Common.{◌≡◌, ℕ, ◌<◌, ◌^◌, ◌↔◌, Bool, List, length, None, Some, cond, ◌==◌, nat_lt, sym, ap, ◌∙◌, subst, arith}
use Rattle.std.proofs.lemmas.Bool.{lt-ltb, eq-eqb, eqb-true, and_parts}
use Rattle.std.specs.List.{list_all}
use Rattle.rcc5_core.specs.declared.Rel.{Rel}
use Rattle.rcc5_core.specs.declared.RelSet.{RelSet}
use Rattle.rcc5_core.specs.RelationSet.{only}
use Rattle.lits_core.specs.Derivation.{State}
use Rattle.world_model.specs.Problem.{Problem, concept_count, pair_count, narrowed}
use Rattle.world_model.specs.Family.{Family}
use Rattle.world_model.specs.Alive.{IsAlive}
use Rattle.world_model.specs.Node.{pair_at}
use Rattle.world_model.specs.Questions.{IsMet, IsPossibleRelation}
use Rattle.world_model.proofs.PointAlive.{met_is_alive}
use Rattle.world_model.proofs.PointRules.{met_parts}
use Rattle.world_model.proofs.OrderConflict.{has_flags}
use Rattle.constraint_set.specs.Facts.{IsBuilt}
use Rattle.cert_text.specs.declared.line.Subject.TheVariants.{Narrowed, Kept}
use Rattle.cert_rules.specs.declared.RejectKind.TheVariants.{WrongSubject}
use Rattle.cert_rules.specs.ClaimLists.{subject_fault}
use Rattle.cert_rules.specs.ClaimWriting.{ShowsSubject}
use Rattle.set_family.specs.Meeting.{IsMetBy}
use Rattle.dead_pairs.specs.declared.why.Closing.{Closing}
use Rattle.dead_pairs.specs.Lone.{IsClosing}
use Rattle.pick_search.specs.Blocks.Blocks.{IsProblemOf, IsClosedSubject}
use Rattle.mir_report.specs.Steps.{ShowsAt}
use Rattle.cert_rules.proofs.Narrowing.{shown_is_met, met_is_shown}
use Rattle.mir_report.proofs.Laws.{possible_is_met}

named : (p : Problem) (pair : ℕ) (rel : Rel) → pair < pair_count p → subject_fault p (Narrowed pair rel) ≡ None
named p pair rel within = ap (λ b. cond b None (Some WrongSubject)) (lt-ltb pair (pair_count p) within)

-- a family that shows a relation meets the problem of its claim
pub shows_subject : (p : Problem) (pair : ℕ) (rel : Rel) (f : Family) → pair < pair_count p → ShowsAt p pair rel f → ShowsSubject p (Narrowed pair rel) f
shows_subject p pair rel f within shows = record {
  subject_is = named p pair rel within;
  sets = shows.met_by.sets;
  met = shown_is_met p (pair_at p pair) rel f shows.met_by.met shows.there;
}

-- the problem of a claim
pub pair_problem : (p : Problem) (pair : ℕ) (rel : Rel) (set : RelSet) (q : Problem) → pair < pair_count p → set ≡ only rel → q ≡ narrowed p (pair_at p pair) set → IsProblemOf p (Narrowed pair rel) q
pair_problem p pair rel set q within one is = record {
  named = named p pair rel within;
  problem = ap (narrowed p (pair_at p pair)) (sym one) ∙ sym is;
}

pub kept_problem : (p : Problem) (flags : List Bool) → IsBuilt p → flags ≡ p.kept → IsProblemOf p (Kept flags) p
kept_problem p flags built are = record {
  named = ap (λ b. cond b None (Some WrongSubject)) (eq-eqb (length flags) (length p.articulations) (ap length are ∙ has_flags p built.valid));
  problem = ap {B = Problem} (λ kept. record p { kept = kept }) are;
}

-- a family that meets the problem with a pair narrowed meets the problem
pub met_by_above : (p q : Problem) (pair : ℕ) (rel : Rel) (set : RelSet) (f : Family) → set ≡ only rel → q ≡ narrowed p (pair_at p pair) set → IsMetBy q f → IsMetBy p f
met_by_above p q pair rel set f one is by =
    let same : q ≡ narrowed p (pair_at p pair) (only rel) = is ∙ ap (narrowed p (pair_at p pair)) one in
    let here : IsMetBy (narrowed p (pair_at p pair) (only rel)) f = subst (λ q. IsMetBy q f) same by in
    record { sets = here.sets; met = (met_is_shown p (pair_at p pair) rel f here.met).0 }

-- and shows that the relation is possible; where none meets it, the relation is not
pub met_is_possible : (p q : Problem) (pair : ℕ) (rel : Rel) (set : RelSet) → pair < pair_count p → set ≡ only rel → q ≡ narrowed p (pair_at p pair) set → IsMet q ↔ IsPossibleRelation p pair rel
met_is_possible p q pair rel set within one is =
    let same : q ≡ narrowed p (pair_at p pair) (only rel) = is ∙ ap (narrowed p (pair_at p pair)) one in
    let law = possible_is_met p pair rel within in
    (λ met. law.1 (subst IsMet same met), λ r. subst IsMet (sym same) (law.0 r))

-- a family that meets a problem has a set for each concept, and these are few
pub one_each : (p : Problem) (f : Family) → IsMetBy p f → length f.sets ≡ concept_count p
one_each p f by = eqb-true (length f.sets) (concept_count p) (and_parts (length f.sets == concept_count p) (list_all (list_all (λ x. nat_lt x f.universe)) f.sets) (met_parts p f by.met).fits).0

pub few_sets : (p : Problem) (f : Family) → IsBuilt p → IsMetBy p f → length f.sets < 2 ^ 32
few_sets p f built by =
    let full = one_each p f by in
    let few = built.concepts in
    omega (arith, full, few)

-- what shows that a problem with a pair narrowed is dead closes a need of the problem of the claim
pub closed_subject : (p : Problem) (state : State) (pair : ℕ) (rel : Rel) (closing : Closing) → pair < pair_count p → IsClosing p state (record { pair = pair; rel = rel }) closing →
    IsClosedSubject p (Narrowed pair rel) state closing.need closing.clause
closed_subject p state pair rel closing within closes = record { named = named p pair rel within; closed = closes.closed }

-- and then the relation is not possible
pub dead_is_impossible : (p : Problem) (pair : ℕ) (rel : Rel) → pair < pair_count p → (IsAlive (narrowed p (pair_at p pair) (only rel)) → ⊥) → IsPossibleRelation p pair rel → ⊥
dead_is_impossible p pair rel within dead r = dead (met_is_alive (narrowed p (pair_at p pair) (only rel)) ((possible_is_met p pair rel within).0 r))
