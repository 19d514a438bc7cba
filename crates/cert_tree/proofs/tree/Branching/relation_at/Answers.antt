use Rattle.std.proofs.Common.{◌≡◌, ◌<◌, ℕ, List, Option, Some, None, sym, ap, ◌∙◌, subst}
use Rattle.rcc5_core.specs.declared.Rel.{Rel}
use Rattle.world_model.specs.Problem.{pair_count}
use Rattle.world_model.specs.Alive.{allowed}
use Rattle.world_model.specs.Node.{pair_at}
use Rattle.cert_rules.specs.Trees.{Branching, node_problem}
use Rattle.cert_tree.specs.Levels.{narrowed_set}
use Rattle.cert_tree.proofs.TreeLemmas.{allowed_by_depth}
use Rattle.cert_tree.proofs.tree.Branching.relation_at.Goals as goal

-- what a relation narrows a pair to
abbrev Narrows : ℕ → Option Rel → List Rel → Branching → Type 0
Narrows k rel m t = narrowed_set (allowed t.subject (pair_at t.subject k)) rel ≡ allowed (node_problem t m) (pair_at t.subject k)

pub returns-in-Some : goal.returns-in-Some
returns-in-Some c =
    let q = c.self.inside.subject in
    let inside : c.args.pair < pair_count q = subst (λ t. c.args.pair < pair_count t.subject) (sym c.self.view_is) c.requires.pair in
    subst (Narrows c.args.pair c.rel_at.result c.args.path.now) c.self.view_is
    (ap (narrowed_set (allowed q (pair_at q c.args.pair))) c.rel_at.ensures
    ∙ allowed_by_depth c.pairs_stand_once.ensures q c.self.inside.levels.list.items c.self.inside.levels.depths.items c.args.path.now c.args.pair (Some c.in-Some.depth) c.self.invariant inside
    (sym c.depth_of.ensures ∙ c.in-Some.is))

pub returns-in-None : goal.returns-in-None
returns-in-None c =
    let q = c.self.inside.subject in
    let inside : c.args.pair < pair_count q = subst (λ t. c.args.pair < pair_count t.subject) (sym c.self.view_is) c.requires.pair in
    subst (Narrows c.args.pair None c.args.path.now) c.self.view_is
    (allowed_by_depth c.pairs_stand_once.ensures q c.self.inside.levels.list.items c.self.inside.levels.depths.items c.args.path.now c.args.pair None c.self.invariant inside
    (sym c.depth_of.ensures ∙ c.in-None.is))
