use Rattle.std.proofs.Common.{◌≤◌, ◌++◌, length, take, subst, ap, ◌∙◌, arith}
use Rattle.std.specs.Prelude.{IfSome}
use Rattle.world_search.specs.Guiding.{IsLadderOf}
use Rattle.world_search.proofs.Guiding.{ladder_cut, ladder_stays}
use Rattle.world_search.proofs.guide.Guide.back_to.Goals as goal

pub returns-then-len-path : goal.returns-then-len-path
returns-then-len-path c = λ p rest at.
    let m = c.args.prefix.now in
    let s = c.in-Some.ladder in
    let here : IsLadderOf p (m ++ rest) s = subst (λ o. IfSome o (IsLadderOf p (m ++ rest))) c.in-Some.is at in
    let long : length m ≤ length s.path = let same = ap length c.path.ensures in omega arith in
    ladder_cut p m rest s c.back_to.new.self here long
    (c.back_to.ensures ∙ ap (λ n. record s { path = take n s.path }) c.len-then-len-path.ensures)

pub returns-else-len-path : goal.returns-else-len-path
returns-else-len-path c = λ p rest at.
    let m = c.args.prefix.now in
    let s = c.in-Some.ladder in
    let here : IsLadderOf p (m ++ rest) s = subst (λ o. IfSome o (IsLadderOf p (m ++ rest))) c.in-Some.is at in
    let short : length s.path ≤ length m = let same = ap length c.path.ensures in omega arith in
    ladder_stays p m rest s here short
