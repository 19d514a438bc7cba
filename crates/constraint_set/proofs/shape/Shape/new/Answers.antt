use Rattle.std.proofs.Common.{◌≡◌, map, length, sym, ap, ◌∙◌, subst, arith}
use Rattle.std.specs.Prelude.{filter}
use Rattle.std.specs.List.{range_with_len}
use Rattle.constraint_set.specs.Build.{owners_from}
use Rattle.constraint_set.specs.Gather.{Gathered, gathered}
use Rattle.constraint_set.specs.Numbers.{AscendingOwners}
use Rattle.constraint_set.specs.Readers.{is_sum_at}
use Rattle.constraint_set.proofs.Gathering.{length-owners_from, owners_ascending, shape_made}
use Rattle.constraint_set.proofs.shape.Shape.new.Goals as goal

pub new-requires-clause-few : goal.new-requires-clause-few
new-requires-clause-few c =
    let forests = c.args.forests.now in
    let owners : c.names.inside.owners.items ≡ owners_from 0 forests = ap (λ (g : Gathered). g.owners) (c.names.view_is ∙ c.in_ok-names.ensures.concepts) in
    omega (arith, ap length owners, length-owners_from 0 forests, c.requires.concepts)

pub new-requires-clause-ascending : goal.new-requires-clause-ascending
new-requires-clause-ascending c =
    let forests = c.args.forests.now in
    let owners : c.names.inside.owners.items ≡ owners_from 0 forests = ap (λ (g : Gathered). g.owners) (c.names.view_is ∙ c.in_ok-names.ensures.concepts) in
    subst AscendingOwners (sym owners) (owners_ascending 0 forests)

pub invariant_of-result : goal.invariant_of-result
invariant_of-result c =
    let forests = c.args.forests.now in
    let names = map (λ v. v.items) c.names.inside.names.items in
    let children = map (λ v. v.items) c.names.inside.children.items in
    let parents = c.names.inside.parents.items in
    let g : Gathered = record { names = names; owners = c.in_ok-numbering.numbering; parents = parents; children = children } in
    let same : g ≡ gathered forests =
    ap (λ o. record { names = names; owners = o; parents = parents; children = children }) c.in_ok-numbering.ensures ∙ c.names.view_is ∙ c.in_ok-names.ensures.concepts in
    shape_made (map (λ v. v.items) c.args.ids.items) forests c.args.articulations.items c.args.switches g c.in_ok-sums.sums.items c.requires c.in_ok-names.ensures.forests same
    (c.in_ok-sums.ensures ∙ ap (λ l. filter (is_sum_at l) (range_with_len 0 (length l))) c.deref.ensures.value)
