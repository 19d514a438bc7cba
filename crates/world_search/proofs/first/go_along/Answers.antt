use Rattle.std.proofs.Common.{◌≡◌, List, ◌∷◌, ◌++◌, true≢false, false, inl, sym, ap, ◌∙◌}
use Rattle.rcc5_core.specs.declared.Rel.{Rel}
use Rattle.cert_rules.specs.Listings.{listing_next}
use Rattle.world_model.specs.Alive.{problem_at, IsAlive}
use Rattle.world_search.specs.Walking.{place}
use Rattle.world_search.proofs.Leading.{rest_goes_on, way_node, way_begins, dead_from_behind, leads_from_behind}
use Rattle.world_search.proofs.Telling.{next_off_way, dead_no_node}
use Rattle.world_search.proofs.first.go_along.Goals as goal

pub returns-clause-ok : goal.returns-clause-ok
returns-clause-ok c =
    let p = c.args.problem.now in
    let from = c.args.from.now in
    let path = c.args.walk.now.path in
    let way = c.requires.way in
    let more : (r : Rel) × (more : List Rel) × (from ≡ path ++ r ∷ more) = rest_goes_on from path way.rest (way_begins p from c.args.walk.now way c.requires.settled) c.requires.short in
    leads_from_behind p from path (more.0 ∷ more.1) (place c.pass.new.walk) c.pass.new.walk.stage more.2
    (dead_from_behind p from path more.0 more.1 more.2 (λ alive. true≢false (sym (c.requires.alive.1 alive) ∙ c.if-alive.false))) c.pass.ensures.on

pub returns-clause-next : goal.returns-clause-next
returns-clause-next c =
    let p = c.args.problem.now in
    let from = c.args.from.now in
    let path = c.args.walk.now.path in
    let way = c.requires.way in
    let more : (r : Rel) × (more : List Rel) × (from ≡ path ++ r ∷ more) = rest_goes_on from path way.rest (way_begins p from c.args.walk.now way c.requires.settled) c.requires.short in
    let dead : IsAlive (problem_at p path) → ⊥ = λ alive. true≢false (sym (c.requires.alive.1 alive) ∙ c.if-alive.false) in
    ap (λ b. listing_next p from b path) c.if-alive.false
    ∙ next_off_way p from path more.0 more.1 (place c.pass.new.walk) c.pass.new.walk.stage false more.2 (way_node p from c.args.walk.now way c.requires.settled) (inl dead)
    (dead_no_node p path more.0 dead)
    (leads_from_behind p from path (more.0 ∷ more.1) (place c.pass.new.walk) c.pass.new.walk.stage more.2 (dead_from_behind p from path more.0 more.1 more.2 dead) c.pass.ensures.on)
