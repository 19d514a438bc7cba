use Rattle.std.proofs.Common.{◌≡◌, ◌<◌, List, [], ◌∷◌, ◌++◌, length, true, false, refl, sym, ap, ◌∙◌, subst, arith}
use Rattle.std.specs.Prelude.{slice_get, Some}
use Rattle.rcc5_core.specs.declared.Rel.{Rel}
use Rattle.rcc5_core.specs.RelationSet.{has, next_of}
use Rattle.world_model.specs.Problem.{pair_count}
use Rattle.world_model.specs.Alive.{allowed}
use Rattle.world_model.specs.Node.{pair_at}
use Rattle.world_search.specs.Walking.{place, expects_by}
use Rattle.world_search.specs.declared.walk.Stage.TheVariants.{Standing}
use Rattle.world_model.proofs.Nodes.{child_is_node}
use Rattle.world_search.proofs.Leading.{rest_begins, way_node, way_begins, longer_way, leads_to_later, leads_from_behind, none_from_behind}
use Rattle.world_search.proofs.Telling.{next_on_way, next_off_way, lacks_no_node}
use Rattle.world_search.proofs.first.follow.Goals as goal

pub returns-then-has-clause-ok : goal.returns-then-has-clause-ok
returns-then-has-clause-ok c =
    let p = c.args.problem.now in
    let w = c.args.walk.now in
    let r = c.at-wanted.result in
    let at : slice_get c.args.from.now (length w.path) ≡ Some r = subst (λ k. slice_get c.args.from.now k ≡ Some r) c.len.ensures c.at-wanted.ensures in
    let short : length w.path < pair_count p = omega arith in
    let allows : has (allowed p (pair_at p (length w.path))) r ≡ true = ap (λ set. has set r) (sym c.next_set-set.ensures) ∙ sym c.has.ensures ∙ c.if-has.true in
    longer_way p c.args.from.now w _ r c.requires.way c.requires.settled at c.requires.alive short allows refl refl

pub returns-then-has-clause-next : goal.returns-then-has-clause-next
returns-then-has-clause-next c =
    let p = c.args.problem.now in
    let w = c.args.walk.now in
    let r = c.at-wanted.result in
    let way = c.requires.way in
    let at : slice_get c.args.from.now (length w.path) ≡ Some r = subst (λ k. slice_get c.args.from.now k ≡ Some r) c.len.ensures c.at-wanted.ensures in
    let more : (more : List Rel) × (c.args.from.now ≡ w.path ++ r ∷ more) = rest_begins c.args.from.now w.path way.rest r (way_begins p c.args.from.now w way c.requires.settled) at in
    let short : length w.path < pair_count p = omega arith in
    let allows : has (allowed p (pair_at p (length w.path))) r ≡ true = ap (λ set. has set r) (sym c.next_set-set.ensures) ∙ sym c.has.ensures ∙ c.if-has.true in
    next_on_way p c.args.from.now w.path r more.0 true more.1 (way_node p c.args.from.now w way c.requires.settled) (c.requires.alive, short)
    (child_is_node p w.path r (record { alive = c.requires.alive; short = short; allows = allows }))
    ∙ sym (ap (expects_by (w.path ++ r ∷ [])) way.begun)

pub returns-in-Some-clause-ok : goal.returns-in-Some-clause-ok
returns-in-Some-clause-ok c =
    let p = c.args.problem.now in
    let w = c.args.walk.now in
    let r = c.at-wanted.result in
    let at : slice_get c.args.from.now (length w.path) ≡ Some r = subst (λ k. slice_get c.args.from.now k ≡ Some r) c.len.ensures c.at-wanted.ensures in
    let more : (more : List Rel) × (c.args.from.now ≡ w.path ++ r ∷ more) = rest_begins c.args.from.now w.path c.requires.way.rest r (way_begins p c.args.from.now w c.requires.way c.requires.settled) at in
    let short : length w.path < pair_count p = omega arith in
    let lacks : has (allowed p (pair_at p (length w.path))) r ≡ false = ap (λ set. has set r) (sym c.next_set-set.ensures) ∙ sym c.has.ensures ∙ c.if-has.false in
    leads_to_later p c.args.from.now w.path r more.0 c.in-Some.rel more.1 c.requires.alive short lacks
    (ap (λ set. next_of set r) (sym c.next_set-set.ensures) ∙ sym c.after.ensures ∙ c.in-Some.is)

pub returns-in-Some-clause-next : goal.returns-in-Some-clause-next
returns-in-Some-clause-next c =
    let p = c.args.problem.now in
    let w = c.args.walk.now in
    let r = c.at-wanted.result in
    let at : slice_get c.args.from.now (length w.path) ≡ Some r = subst (λ k. slice_get c.args.from.now k ≡ Some r) c.len.ensures c.at-wanted.ensures in
    let more : (more : List Rel) × (c.args.from.now ≡ w.path ++ r ∷ more) = rest_begins c.args.from.now w.path c.requires.way.rest r (way_begins p c.args.from.now w c.requires.way c.requires.settled) at in
    let short : length w.path < pair_count p = omega arith in
    let lacks : has (allowed p (pair_at p (length w.path))) r ≡ false = ap (λ set. has set r) (sym c.next_set-set.ensures) ∙ sym c.has.ensures ∙ c.if-has.false in
    next_off_way p c.args.from.now w.path r more.0 (w.path ++ c.in-Some.rel ∷ []) Standing true more.1 (way_node p c.args.from.now w c.requires.way c.requires.settled) (c.requires.alive, short)
    (lacks_no_node p w.path r lacks)
    (leads_to_later p c.args.from.now w.path r more.0 c.in-Some.rel more.1 c.requires.alive short lacks
    (ap (λ set. next_of set r) (sym c.next_set-set.ensures) ∙ sym c.after.ensures ∙ c.in-Some.is))

pub returns-in-None-clause-ok : goal.returns-in-None-clause-ok
returns-in-None-clause-ok c =
    let p = c.args.problem.now in
    let w = c.args.walk.now in
    let r = c.at-wanted.result in
    let at : slice_get c.args.from.now (length w.path) ≡ Some r = subst (λ k. slice_get c.args.from.now k ≡ Some r) c.len.ensures c.at-wanted.ensures in
    let more : (more : List Rel) × (c.args.from.now ≡ w.path ++ r ∷ more) = rest_begins c.args.from.now w.path c.requires.way.rest r (way_begins p c.args.from.now w c.requires.way c.requires.settled) at in
    let lacks : has (allowed p (pair_at p (length w.path))) r ≡ false = ap (λ set. has set r) (sym c.next_set-set.ensures) ∙ sym c.has.ensures ∙ c.if-has.false in
    leads_from_behind p c.args.from.now w.path (r ∷ more.0) (place c.pass.new.walk) c.pass.new.walk.stage more.1
    (none_from_behind p c.args.from.now w.path r more.0 more.1 lacks (ap (λ set. next_of set r) (sym c.next_set-set.ensures) ∙ sym c.after.ensures ∙ c.in-None.is)) c.pass.ensures.on

pub returns-in-None-clause-next : goal.returns-in-None-clause-next
returns-in-None-clause-next c =
    let p = c.args.problem.now in
    let w = c.args.walk.now in
    let r = c.at-wanted.result in
    let at : slice_get c.args.from.now (length w.path) ≡ Some r = subst (λ k. slice_get c.args.from.now k ≡ Some r) c.len.ensures c.at-wanted.ensures in
    let more : (more : List Rel) × (c.args.from.now ≡ w.path ++ r ∷ more) = rest_begins c.args.from.now w.path c.requires.way.rest r (way_begins p c.args.from.now w c.requires.way c.requires.settled) at in
    let short : length w.path < pair_count p = omega arith in
    let lacks : has (allowed p (pair_at p (length w.path))) r ≡ false = ap (λ set. has set r) (sym c.next_set-set.ensures) ∙ sym c.has.ensures ∙ c.if-has.false in
    next_off_way p c.args.from.now w.path r more.0 (place c.pass.new.walk) c.pass.new.walk.stage true more.1 (way_node p c.args.from.now w c.requires.way c.requires.settled) (c.requires.alive, short)
    (lacks_no_node p w.path r lacks)
    (leads_from_behind p c.args.from.now w.path (r ∷ more.0) (place c.pass.new.walk) c.pass.new.walk.stage more.1
    (none_from_behind p c.args.from.now w.path r more.0 more.1 lacks (ap (λ set. next_of set r) (sym c.next_set-set.ensures) ∙ sym c.after.ensures ∙ c.in-None.is)) c.pass.ensures.on)
