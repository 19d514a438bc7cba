use Rattle.std.proofs.Common.{◌≡◌, ◌∙◌, ap, sym, subst}
use Rattle.rcc5_core.specs.RelationSet.{both_of}
use Rattle.constraint_set.specs.Sets.{set_at, Narrows}
use Rattle.constraint_set.proofs.Saying.{put_narrows, more_marks}
use Rattle.constraint_set.proofs.statements.Sets.meet.Goals as goal

pub returns-clause-narrows : goal.returns-clause-narrows
returns-clause-narrows c =
    let old = c.self.inside.by_pair.entries in
    let new = c.insert.new.self.entries in
    let met : c.meet-set.result ≡ both_of (set_at old c.args.pair) c.args.set = c.meet-set.ensures ∙ ap (λ set. both_of set c.args.set) (c.at.ensures ∙ ap (λ sets. set_at sets c.args.pair) (sym c.self.view_is)) in
    subst (λ sets. Narrows sets new c.args.pair c.args.set) c.self.view_is (put_narrows old new c.args.pair c.args.set c.meet-set.result met c.in_ok-insert.ensures.updates.0)

pub invariant_of-self : goal.invariant_of-self
invariant_of-self c = more_marks c.self.inside.by_pair.entries c.self.inside.marks.items c.mark.new.marks.items c.mark.ensures.stay c.self.invariant
