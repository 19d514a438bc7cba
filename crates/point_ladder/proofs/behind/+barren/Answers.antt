use Rattle.std.proofs.Common.{◌≡◌, ℕ, true, get_or, take, Ok, Err, subst, arith}
use Rattle.std.specs.Prelude.{Result, Bool, IfOk}
use Rattle.std.proofs.lemmas.List.{take_more, get_or_default}
use Rattle.rcc5_core.specs.declared.Rel.{Rel}
use Rattle.rcc5_core.specs.declared.Regions.{Regions}
use Rattle.rcc5_core.specs.Region.{row_of}
use Rattle.rcc5_core.specs.RelationSet.{no_rels}
use Rattle.world_model.specs.Node.{pair_at}
use Rattle.world_model.specs.Trial.{points_by_trial}
use Rattle.bit_rows.specs.Rows.{BitRows, has_bit}
use Rattle.point_ladder.specs.Barren.{LiesNone, AreNoneBy}
use Rattle.point_frames.specs.Frames.{IsNarrowed}
use Rattle.point_ladder.specs.Ladders.{ShowsPair}
use Rattle.point_ladder.proofs.Barren.{none_skipped, none_by_all, narrowed_lives}
use Rattle.point_ladder.proofs.behind.+barren.Goals as goal

-- what follows from an answer follows from what it says
if_ok : {E : Type 0} {P Q : Type 0} (result : Result Bool E) → IfOk result (λ none. none ≡ true → P) → (P → Q) → IfOk result (λ none. none ≡ true → Q)
if_ok (Ok x) h f = λ e. f (h e)
if_ok (Err e) h f = h

pub is_barren-returns-then-not-is_free : goal.is_barren-returns-then-not-is_free
is_barren-returns-then-not-is_free t c =
    let g = c.args.ground.now in
    let more = take_more g.order.now c.args.at 0 c.if-at-ground.false in
    if_ok c.is_barren.result c.is_barren.ensures (λ none.
    none_skipped g.problem.now g.sets.now g.from (take c.args.at g.order.now) c.args.frame.now (get_or g.order.now c.args.at 0)
    (subst (λ tried. LiesNone g.problem.now g.sets.now g.from tried c.args.frame.now) more none))

pub is_barren-returns : goal.is_barren-returns
is_barren-returns t c =
    let g = c.args.ground.now in
    let pair = get_or g.order.now c.args.at 0 in
    let old = get_or g.sets.now pair no_rels in
    let l = has_bit c.sides_of-sides.result.left.now in
    let r = has_bit c.sides_of-sides.result.right.now in
    let more = take_more g.order.now c.args.at 0 c.if-at-ground.false in
    let free = c.is_free.ensures c.if-not-is_free.false in
    let shows : ShowsPair (pair_at g.problem.now pair) (points_by_trial g.problem.now) l r = c.sides_of-sides.ensures in
    if_ok c.are_barren.result c.are_barren.ensures (λ none ns is.
    none_by_all g.problem.now g.sets.now g.from (take c.args.at g.order.now) c.args.frame.now ns pair l r old c.bound-set.result
    (record {
      stand = is;
      free = free;
      shows = shows;
      read = get_or_default g.sets.now pair no_rels old c.if-pair-ground.false;
      has_alive = c.bound-set.ensures;
    })
    (subst (λ tried. AreNoneBy g.problem.now g.sets.now g.from tried c.args.frame.now l r c.bound-set.result) more none))

-- what a frame is narrowed by
by_rel : (old new : BitRows) (l r : ℕ → Bool) (words : Regions) (rel : Rel) → words ≡ row_of rel → IsNarrowed old new l r words → IsNarrowed old new l r (row_of rel)
by_rel old new l r words rel is narrowed = subst (λ words. IsNarrowed old new l r words) is narrowed

pub is_barren_by-is_barren-requires : goal.is_barren_by-is_barren-requires
is_barren_by-is_barren-requires t c =
    let l = has_bit c.args.sides.now.left.now in
    let r = has_bit c.args.sides.now.right.now in
    let narrowed = by_rel c.args.frame.now c.args.frame.now l r c.row.result c.args.rel c.row.ensures (c.is_same.ensures c.if-is_same.true) in
    (omega arith, (c.requires.rows, (c.requires.at, narrowed_lives c.args.frame.now c.args.frame.now l r (row_of c.args.rel) narrowed c.requires.leads)))

pub is_barren_by-returns-then-is_same : goal.is_barren_by-returns-then-is_same
is_barren_by-returns-then-is_same t c =
    let l = has_bit c.args.sides.now.left.now in
    let r = has_bit c.args.sides.now.right.now in
    let narrowed = by_rel c.args.frame.now c.args.frame.now l r c.row.result c.args.rel c.row.ensures (c.is_same.ensures c.if-is_same.true) in
    if_ok c.is_barren.result c.is_barren.ensures (λ none. record { next = c.args.frame.now; narrowed = narrowed; none = none })

pub is_barren_by-is_barren-requires-2 : goal.is_barren_by-is_barren-requires-2
is_barren_by-is_barren-requires-2 t c =
    let l = has_bit c.args.sides.now.left.now in
    let r = has_bit c.args.sides.now.right.now in
    let narrowed = by_rel c.args.frame.now c.in_ok-next.next l r c.row-2.result c.args.rel c.row-2.ensures c.in_ok-next.ensures in
    (omega arith, (c.requires.rows, (c.requires.at, narrowed_lives c.args.frame.now c.in_ok-next.next l r (row_of c.args.rel) narrowed c.requires.leads)))

pub is_barren_by-returns : goal.is_barren_by-returns
is_barren_by-returns t c =
    let l = has_bit c.args.sides.now.left.now in
    let r = has_bit c.args.sides.now.right.now in
    let narrowed = by_rel c.args.frame.now c.in_ok-next.next l r c.row-2.result c.args.rel c.row-2.ensures c.in_ok-next.ensures in
    if_ok c.is_barren-2.result c.is_barren-2.ensures (λ none. record { next = c.in_ok-next.next; narrowed = narrowed; none = none })
