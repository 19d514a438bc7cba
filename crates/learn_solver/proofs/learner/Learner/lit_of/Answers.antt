use Rattle.std.proofs.Common.{◌≡◌, ◌∙◌, ◌<◌, ℕ, List, ap, sym, subst, get_or}
use Rattle.std.proofs.lemmas.List.Elements.{Contains-get_or}
use Rattle.clause_arena.specs.Records.{Record, record_at}
use Rattle.lits_core.specs.Literals.{variable_of}
use Rattle.learn_solver.proofs.learner.Learner.lit_of.Goals as goal

pub returns-clause-range : goal.returns-clause-range
returns-clause-range c =
    let t = c.args.self.now.trail in
    let range = c.facts.ensures.lits_in_range c.args.at (get_or (record_at t.records c.args.at).lits c.args.place 0) (Contains-get_or (record_at t.records c.args.at).lits c.args.place 0 c.requires.in_range) in
    let is : c.from_code.result ≡ get_or (record_at t.records c.args.at).lits c.args.place 0 =
    c.from_code.ensures ∙ c.lit_at.ensures ∙ ap (λ (records : List Record). get_or (record_at records c.args.at).lits c.args.place 0) c.arena.ensures in
    subst (λ (l : ℕ). variable_of l < t.variables) (sym is) range
