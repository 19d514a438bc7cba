use Rattle.std.proofs.Common.{◌≡◌, ◌+◌, ◌-◌, ◌++◌, ◌∷◌, [], length, refl, sym, ap, ◌∙◌, subst, arith}
use Rattle.std.proofs.lemmas.List.{length-append}
use Rattle.point_table.specs.Growing.{IsTried}
use Rattle.point_table.proofs.Begins.{adds_none, adds_last, adds_both}
use Rattle.point_table.proofs.grow.+grow.Goals as goal

pub grow-returns-then-left-eq0-clause-points : goal.grow-returns-then-left-eq0-clause-points
grow-returns-then-left-eq0-clause-points t c =
    adds_last c.add_if_point.result c.args.terms.now.problem.now c.args.search.now.tried.items c.args.left c.args.search.now.points.items c.add_if_point.new.search.points.items c.if-left-eq0.true c.add_if_point.ensures.points

pub grow-returns-clause-points : goal.grow-returns-clause-points
grow-returns-clause-points t c =
    adds_both c.grow_by-2.result c.args.terms.now.problem.now c.args.search.now.tried.items c.grow_by.new.search.tried.items c.args.left (c.args.left - 1)
    c.args.search.now.points.items c.grow_by.new.search.points.items c.grow_by-2.new.search.points.items (omega (arith, c.if-left-eq0.false))
    (c.in_ok-grow_by.ensures.tried c.if-not-branch.false) (c.in_ok-grow_by.ensures.points c.if-not-branch.false) c.grow_by-2.ensures.points

pub grow_by-returns-then-not-may_add-clause-points :
    goal.grow_by-returns-then-not-may_add-clause-points
grow_by-returns-then-not-may_add-clause-points t c = λ h.
    let p = c.args.terms.now.problem.now in
    let begin = c.args.search.now.tried.items in
    adds_none p (begin ++ c.args.bit ∷ []) (c.args.left - 1) c.args.search.now.points.items
    (c.if-not-may_add.ensures refl p begin c.requires.terms.rules c.requires.tried (omega (arith, c.len-concept.ensures, c.args.search.now.tried.ok)))

pub grow_by-covers_may_hold-requires-clause-two : goal.grow_by-covers_may_hold-requires-clause-two
grow_by-covers_may_hold-requires-clause-two t c = (c.in_ok-next.ensures.tried c.args.terms.now.problem.now c.args.search.now.tried.items c.requires.terms.rules c.requires.tried (omega (arith, c.len-concept.ensures, c.args.search.now.tried.ok))).two

pub grow_by-returns-then-not-covers_may_hold-clause-points :
    goal.grow_by-returns-then-not-covers_may_hold-clause-points
grow_by-returns-then-not-covers_may_hold-clause-points t c = λ h.
    let p = c.args.terms.now.problem.now in
    let begin = c.args.search.now.tried.items in
    adds_none p (begin ++ c.args.bit ∷ []) (c.args.left - 1) c.args.search.now.points.items
    (c.if-not-covers_may_hold.ensures refl p (begin ++ c.args.bit ∷ []) c.requires.terms.rules (c.in_ok-next.ensures.tried p begin c.requires.terms.rules c.requires.tried (omega (arith, c.len-concept.ensures, c.args.search.now.tried.ok))))

pub grow_by-grow-requires : goal.grow_by-grow-requires
grow_by-grow-requires t c =
    let p = c.args.terms.now.problem.now in
    let begin = c.args.search.now.tried.items in
    let longer : length c.push.new.self.items ≡ length begin + 1 = ap length c.in_ok-push.ensures.items ∙ length-append begin (c.args.bit ∷ []) in (
      omega arith,
      (
        c.requires.terms,
        (
          subst (λ bits. IsTried p bits c.in_ok-next.next) (sym c.in_ok-push.ensures.items)
              (c.in_ok-next.ensures.tried p begin c.requires.terms.rules c.requires.tried (omega (arith, c.len-concept.ensures, c.args.search.now.tried.ok))),
          (c.in_ok-next.ensures.width ∙ c.requires.width, omega (arith, longer, c.requires.left, c.requires.some)),
        ),
      ),
    )
