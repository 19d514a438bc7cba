use Rattle.std.proofs.Common.{◌≡◌, ◌<◌, ℕ, length, map, arith, ap, refl, ◌∙◌}
use Rattle.std.specs.Prelude.{slice_get}
use Rattle.std.proofs.lemmas.List.{length-map}
use Rattle.rcc5_core.specs.Relation.{relation_of}
use Rattle.world_model.specs.Problem.{concept_count, pairs}
use Rattle.world_model.specs.Family.{set_of, table_of}
use Rattle.set_family.proofs.Holding.{same_items}
use Rattle.set_family.proofs.Family.has_table.Goals as goal

pub returns : goal.returns
returns c =
    let counted : c.len.result ≡ length (map (λ v. v.items) c.self.inside.sets.items) = omega (arith, length-map c.self.inside.sets.items (λ v. v.items)) in
    let sets : c.len.result ≡ length c.args.self.now.sets = counted ∙ ap (λ f. length f.sets) c.self.view_is in
    let pair_total : length (table_of c.args.problem.now c.args.self.now) ≡ length (pairs c.args.problem.now) =
    length-map (pairs c.args.problem.now) (λ pair. relation_of (set_of c.args.self.now pair.0) (set_of c.args.self.now pair.1)) in
    let same : length (table_of c.args.problem.now c.args.self.now) ≡ length c.args.table.now = omega arith in
    let one_each : length c.args.self.now.sets ≡ concept_count c.args.problem.now = omega arith in
    let all : (k : ℕ) → k < length (table_of c.args.problem.now c.args.self.now) → slice_get (table_of c.args.problem.now c.args.self.now) k ≡ slice_get c.args.table.now k =
    λ k h. c.loop-pair.invariant k (omega arith) in
    (λ _. record { one_each = one_each; shown = same_items (table_of c.args.problem.now c.args.self.now) c.args.table.now same all }, λ _. refl)
