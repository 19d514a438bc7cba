use Rattle.std.proofs.Common.{◌≡◌, ◌-◌, ◌∙◌, length, take, ap, arith, vec_len}
use Rattle.split_search.specs.Walking.{split_tree}
use Rattle.split_search.proofs.Nodes.{problems_less, shorter}
use Rattle.split_search.proofs.walk.NodePath.go_up.Goals as goal

pub returns-in-Some-clause-walk : goal.returns-in-Some-clause-walk
returns-in-Some-clause-walk c =
    let w = c.args.self.now in
    let less = shorter c.pop.new.self c.in-Some.rel w.path _ c.in-Some.ensures.some c.requires.short in
    let counted : vec_len w.problems ≡ length w.problems.items = omega (arith, w.problems.ok.0) in
    record {
      pairs = c.requires.pairs;
      within = c.requires.within;
      short = omega (arith, less);
      problems = problems_less (split_tree w.subject) w.path c.pop.new.self c.in-Some.rel w.problems.items c.pop-in-Some.new.self.items c.in-Some.ensures.some c.requires.problems
          (c.pop-in-Some.ensures.rest ∙ ap (λ n. take (n - 1) w.problems.items) counted);
    }
