use Rattle.std.proofs.Common.{◌∙◌, ◌<◌, length, sym, ap, subst, arith}
use Rattle.std.specs.Prelude.{All}
use Rattle.world_model.specs.Problem.{pair_count}
use Rattle.pick_search.specs.Picking.{AreClashes}
use Rattle.pick_search.proofs.Narrowing.{same_pairs}
use Rattle.pick_search.proofs.search.take_turns.Goals as goal

pub try_next-requires-clause-few : goal.try_next-requires-clause-few
try_next-requires-clause-few c = let same = ap length c.deref.ensures.value in omega (arith, same, c.loop-turn.invariant.known.few, c.facts.ensures.pairs)

pub try_next-requires-clause-pairs : goal.try_next-requires-clause-pairs
try_next-requires-clause-pairs c =
    subst (λ ps. All (λ pair. pair < pair_count c.args.problem.now) ps) (sym c.deref.ensures.value)
    (same_pairs c.args.wide.now c.args.problem.now c.loop-turn.known.pairs.items c.requires.part.shape c.loop-turn.invariant.known.within)

pub try_next-requires-clause-known : goal.try_next-requires-clause-known
try_next-requires-clause-known c = subst (λ ps. AreClashes c.args.wide.now ps c.loop-turn.known.clashes.items) (sym c.deref.ensures.value) c.loop-turn.invariant.known.clashes

pub try_next-requires-clause-own : goal.try_next-requires-clause-own
try_next-requires-clause-own c = subst (λ ps. AreClashes c.args.problem.now ps c.loop-turn.own.items) (sym c.deref.ensures.value) c.loop-turn.invariant.own

pub returns-in-Done-clause-known : goal.returns-in-Done-clause-known
returns-in-Done-clause-known c = record {
  few = c.loop-turn.invariant.known.few;
  within = c.loop-turn.invariant.known.within;
  clashes = subst (λ ps. AreClashes c.args.wide.now ps c.try_next.new.known.items) c.deref.ensures.value c.in_ok-next.ensures.known;
}

pub returns-in-Lost-clause-known : goal.returns-in-Lost-clause-known
returns-in-Lost-clause-known c = record {
  few = c.loop-turn.invariant.known.few;
  within = c.loop-turn.invariant.known.within;
  clashes = subst (λ ps. AreClashes c.args.wide.now ps c.try_next.new.known.items) c.deref.ensures.value c.in_ok-next.ensures.known;
}

pub loop-turn-preserved : goal.loop-turn-preserved
loop-turn-preserved c = record {
  shape = c.in_ok-next.ensures.shape ∙ c.in_ok-clean_at.ensures ∙ c.loop-turn.invariant.shape;
  known = record {
    few = c.loop-turn.invariant.known.few;
    within = c.loop-turn.invariant.known.within;
    clashes = subst (λ ps. AreClashes c.args.wide.now ps c.try_next.new.known.items) c.deref.ensures.value c.in_ok-next.ensures.known;
  };
  own = subst (λ ps. AreClashes c.args.problem.now ps c.try_next.new.own.items) c.deref.ensures.value c.in_ok-next.ensures.own;
}
