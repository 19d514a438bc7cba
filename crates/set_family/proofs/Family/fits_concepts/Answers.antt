use Rattle.std.proofs.Common.{◌≡◌, length, map, arith, ap, ◌∙◌, subst, true}
use Rattle.std.specs.Prelude.{◌==◌}
use Rattle.std.specs.List.{list_all}
use Rattle.std.proofs.lemmas.List.{length-map}
use Rattle.set_family.specs.Sets.{is_set_below}
use Rattle.set_family.proofs.Holding.{fits_by_count}
use Rattle.set_family.proofs.Family.fits_concepts.Goals as goal

pub returns : goal.returns
returns c =
    let counted : c.len.result ≡ length (map (λ v. v.items) c.self.inside.sets.items) = omega (arith, length-map c.self.inside.sets.items (λ v. v.items)) in
    let here : c.len.result ≡ length c.args.self.now.sets = counted ∙ ap (λ f. length f.sets) c.self.view_is in
    ap (λ n. n == c.concept_count.result) here ∙ ap (λ n. length c.args.self.now.sets == n) c.concept_count.ensures ∙
    fits_by_count c.args.problem.now c.args.self.now (subst (λ f. list_all (is_set_below f.universe) f.sets ≡ true) c.self.view_is c.self.invariant)
