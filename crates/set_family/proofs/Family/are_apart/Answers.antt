use Rattle.std.proofs.Common.{◌&&◌, sym, ap, ◌∙◌, drop, arith, ◌+◌, get_or}
use Rattle.std.specs.List.{list_all}
use Rattle.set_family.specs.Rules.{is_apart, are_apart}
use Rattle.set_family.proofs.Holding.{apart_at, slice_to_end}
use Rattle.std.proofs.lemmas.List.{drop_all}
use Rattle.set_family.proofs.Family.are_apart.Goals as goal

pub returns-then-not-is_apart_from : goal.returns-then-not-is_apart_from
returns-then-not-is_apart_from c =
    ap (λ b. b && are_apart c.args.self.now (drop (c.loop-place.place + 1) c.args.children.now)) (c.if-not-is_apart_from.ensures ∙ ap (list_all (is_apart c.args.self.now (get_or c.args.children.now c.loop-place.place 0))) (slice_to_end c.args.children.now (c.loop-place.place + 1))) ∙
    sym (apart_at c.args.self.now c.args.children.now c.loop-place.place (omega arith)) ∙ c.loop-place.invariant

pub loop-place-preserved : goal.loop-place-preserved
loop-place-preserved c =
    ap (λ b. b && are_apart c.args.self.now (drop (c.loop-place.place + 1) c.args.children.now)) (c.if-not-is_apart_from.ensures ∙ ap (list_all (is_apart c.args.self.now (get_or c.args.children.now c.loop-place.place 0))) (slice_to_end c.args.children.now (c.loop-place.place + 1))) ∙
    sym (apart_at c.args.self.now c.args.children.now c.loop-place.place (omega arith)) ∙ c.loop-place.invariant

pub returns : goal.returns
returns c =
    sym (ap (are_apart c.args.self.now) (drop_all c.loop-place.place c.args.children.now c.loop-place-test.false)) ∙ c.loop-place.invariant
