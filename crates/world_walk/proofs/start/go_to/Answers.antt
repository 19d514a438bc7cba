use Rattle.std.proofs.Common.{false, ap, ◌∙◌, subst, arith}
use Rattle.world_model.specs.Listing.{rel_at}
use Rattle.world_walk.specs.declared.way.Way.{Way}
use Rattle.world_walk.specs.Ways.{problem_of, Follows}
use Rattle.world_walk.proofs.HasBegun.{begun_past, begun_there}
use Rattle.world_walk.proofs.start.go_to.Goals as goal

pub returns-then-not-branch : goal.returns-then-not-branch
returns-then-not-branch c =
    let items = c.rels-rel-items.result.now in
    let i = c.loop-rel.rel-index in
    let same = c.next_set.ensures.same in
    let left : Follows c.add_waiting.new.way c.follow.new.way (rel_at items i) false =
    subst (λ (w : Way). Follows w c.follow.new.way (rel_at items i) false) same (subst (Follows c.next_set.new.way c.follow.new.way (rel_at items i)) c.if-not-branch.true c.in_ok-follow.ensures.follows) in
    begun_past (problem_of c.args.way.now) c.args.from.now items i c.add_waiting.new.way c.follow.new.way c.rels-rel-items.ensures (omega (arith, c.loop-rel-test.true)) (c.in_ok-add_waiting.ensures.place ∙ c.loop-rel.invariant.there)
    c.in_ok-add_waiting.ensures.ready (c.in_ok-add_waiting.ensures.went.problem ∙ c.loop-rel.invariant.problem) (c.in_ok-follow.ensures.problem ∙ ap problem_of same) c.in_ok-follow.ensures.way c.in_ok-follow.ensures.untold left

pub returns : goal.returns
returns c =
    begun_there (problem_of c.args.way.now) c.args.from.now c.rels-rel-items.result.now c.loop-rel.rel-index c.loop-rel.way c.rels-rel-items.ensures (omega (arith, c.loop-rel-test.false)) c.loop-rel.invariant.there
    c.loop-rel.invariant.problem c.loop-rel.invariant.way c.loop-rel.invariant.standing
