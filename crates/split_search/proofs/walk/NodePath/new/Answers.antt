use Rattle.std.proofs.Common.{◌≡◌, ◌<◌, map, length, ap, sym, subst, arith, All}
use Rattle.world_model.specs.Problem.{pair_count}
use Rattle.world_model.specs.Node.{pair_at}
use Rattle.cert_rules.specs.ClaimLists.{split_pairs}
use Rattle.split_search.proofs.Nodes.{root_problems}
use Rattle.split_search.proofs.walk.NodePath.new.Goals as goal

pub returns-clause-walk : goal.returns-clause-walk
returns-clause-walk c =
    let list = c.in_ok-pairs.pairs.items in
    let none = ap length c.new.ensures in
    record {
      pairs = subst (λ s. map (pair_at s) list ≡ split_pairs s) (sym c.in_ok-subject.ensures) c.in_ok-pairs.ensures.pairs;
      within = subst (λ s. All (λ pair. pair < pair_count s) list) (sym c.in_ok-subject.ensures) c.in_ok-pairs.ensures.within;
      short = omega (arith, none);
      problems = root_problems c.args.problem.now c.in_ok-subject.subject c.in_ok-copy.field-0 c.new.result c.new-problems.result.items c.push.new.self.items
          c.in_ok-subject.ensures c.in_ok-copy.ensures c.new.ensures c.new-problems.ensures.items c.in_ok-push.ensures.items;
    }
