use Rattle.std.proofs.Common.{◌≡◌, Bool, true, false, ◌&&◌, refl, sym, ◌∙◌}
use Rattle.std.proofs.Math.Bool.{beq}
use Rattle.std.proofs.lemmas.Bool.{and_parts, false≢true}
use Rattle.point_ladder.proofs.bounds.are_same.Goals as goal

same_bit : (a b : Bool) → beq a b ≡ true → a ≡ b
same_bit true true h = refl
same_bit true false h = absurd (false≢true h)
same_bit false true h = absurd (false≢true h)
same_bit false false h = refl

pub returns : goal.returns
returns c = λ h.
    let a = c.args.one in
    let b = c.args.other in
    let x = beq a.equals b.equals in
    let y = beq a.includes b.includes in
    let z = beq a.included_in b.included_in in
    let u = beq a.overlaps b.overlaps in
    let v = beq a.disjoint b.disjoint in
    let one = and_parts x (y && (z && (u && v))) (sym c.eq.ensures ∙ h) in
    let two = and_parts y (z && (u && v)) one.1 in
    let three = and_parts z (u && v) two.1 in
    let four = and_parts u v three.1 in
    let e1 : a.equals ≡ b.equals = same_bit a.equals b.equals one.0 in
    let e2 : a.includes ≡ b.includes = same_bit a.includes b.includes two.0 in
    let e3 : a.included_in ≡ b.included_in = same_bit a.included_in b.included_in three.0 in
    let e4 : a.overlaps ≡ b.overlaps = same_bit a.overlaps b.overlaps four.0 in
    let e5 : a.disjoint ≡ b.disjoint = same_bit a.disjoint b.disjoint four.1 in
    let whole : record { equals = a.equals; includes = a.includes; included_in = a.included_in; overlaps = a.overlaps; disjoint = a.disjoint } ≡ b = rw (e1, e2, e3, e4, e5) refl in
    whole
