-- Families by their words: where they are a family that meets a problem, and where not.
use Rattle.std.proofs.Common.{Bool, ◌≡◌, true, false, cond, List, Option, Some, None, option_and_then, refl, sym, ap, ◌∙◌}
use Rattle.std.specs.List.{list_all}
use Rattle.rcc5_core.specs.declared.Rel.{Rel}
use Rattle.world_model.specs.Problem.{Problem}
use Rattle.world_model.specs.Family.{Family, meets}
use Rattle.set_family.specs.Sets.{is_set_below}
use Rattle.cert_rules.specs.Trees.{Branching, fault_or, family_fault, table_fault, world_fault}
use Rattle.cert_rules.specs.declared.RejectKind.{RejectKind}
use Rattle.cert_rules.specs.declared.RejectKind.TheVariants.{FamilyDoesNotMeet}
use Rattle.cert_tree.specs.Families.{met_family}

meets-some : (words f : Family) (met : Bool) → ◌≡◌ {A = Option Family} (cond met (Some words) None) (Some f) → (f ≡ words) × (◌≡◌ {A = Option RejectKind} (cond met None (Some FamilyDoesNotMeet)) None)
meets-some words f true e = (cc, refl)
meets-some words f false e = absurd (cc)

words-some : (q : Problem) (words f : Family) (valid : Bool) →
    option_and_then (λ f. cond (meets q f) (Some f) None) (cond valid (Some words) None) ≡ Some f → (f ≡ words) × (family_fault q (cond valid (Some words) None) ≡ None)
words-some q words f true e = meets-some words f (meets q words) e
words-some q words f false e = absurd (cc)

-- a family that meets the tree's problem is what the words say, and only its table may be wrong
pub world-some : (tree : Branching) (m : List Rel) (words f : Family) → met_family tree.subject words ≡ Some f → world_fault tree m words ≡ table_fault tree m f
world-some tree m words f e =
    let is = words-some tree.subject words f (list_all (is_set_below words.universe) words.sets) e in
    ap (λ fault. fault_or fault (table_fault tree m words)) is.1 ∙ ap (table_fault tree m) (sym is.0)

meets-none : (words : Family) (met : Bool) → ◌≡◌ {A = Option Family} (cond met (Some words) None) None → ◌≡◌ {A = Option RejectKind} (cond met None (Some FamilyDoesNotMeet)) (Some FamilyDoesNotMeet)
meets-none words true e = absurd (cc)
meets-none words false e = refl

words-none : (q : Problem) (words : Family) (valid : Bool) →
    option_and_then (λ f. cond (meets q f) (Some f) None) (cond valid (Some words) None) ≡ None → family_fault q (cond valid (Some words) None) ≡ Some FamilyDoesNotMeet
words-none q words true e = meets-none words (meets q words) e
words-none q words false e = refl

pub world-none : (tree : Branching) (m : List Rel) (words : Family) → met_family tree.subject words ≡ None → world_fault tree m words ≡ Some FamilyDoesNotMeet
world-none tree m words e =
    ap (λ fault. fault_or fault (table_fault tree m words)) (words-none tree.subject words (list_all (is_set_below words.universe) words.sets) e)
