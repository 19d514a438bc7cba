use Rattle.std.proofs.Common.{◌≡◌, IsTrue, Contains, refl, ap, sym, ◌∙◌, subst, ◌↔◌}
use denote.Enum.Bare.{sameb}
use Rattle.rcc5_core.specs.contracts.Occupancy.{the_type}
use Rattle.rcc5_core.specs.declared.Occupancy.{Occupancy}
use Rattle.rcc5_core.specs.declared.Occupancy.TheVariants.{Empty, Occupied, Free}
use Rattle.rcc5_core.specs.Region.{same_word, word_at}
use Rattle.world_model.specs.Alive.{needs, problem_at}
use Rattle.point_encode.specs.Model.Forced.{region_with}
use Rattle.point_encode.specs.Needs.{need_seen, IsInRange}
use Rattle.point_encode.proofs.NeedLists.{concept_forced, region_forced}
use Rattle.point_encode.proofs.need.is_forced.Goals as goal

-- the test for one word
is_occupied : (word : Occupancy) → sameb the_type word Occupied ≡ same_word word Occupied
is_occupied Empty = refl
is_occupied Occupied = refl
is_occupied Free = refl

pub returns-in-Concept : goal.returns-in-Concept
returns-in-Concept c =
    let p = c.args.problem.now in
    let m = c.args.prefix.now in
    subst (λ need. IsTrue c.switches.result.nonempty ↔ Contains (needs (problem_at p m)) (need_seen p need)) (sym c.in-Concept.is)
    (concept_forced p m c.in-Concept.field-0 c.switches.result.nonempty (subst (IsInRange p) c.in-Concept.is c.requires.range) (ap (λ s. s.nonempty) c.switches.ensures))

pub returns-in-Region : goal.returns-in-Region
returns-in-Region c =
    let p = c.args.problem.now in
    let m = c.args.prefix.now in
    let word = ap (λ r. word_at r c.region_of.result) c.forced_at.ensures ∙ ap (word_at _) c.region_of.ensures in
    subst (λ need. IsTrue c.eq.result ↔ Contains (needs (problem_at p m)) (need_seen p need)) (sym c.in-Region.is)
    (region_forced p m c.in-Region.pair (region_with c.in-Region.part) c.eq.result (subst (IsInRange p) c.in-Region.is c.requires.range).0
    (c.eq.ensures ∙ is_occupied c.at.result ∙ ap (λ w. same_word w Occupied) (c.at.ensures ∙ word)))
