use Rattle.std.proofs.Common.{◌∙◌, refl, ap, subst, arith}
use Rattle.bit_rows.specs.Rows.{has_bit}
use Rattle.point_table.specs.Places.Places.{AreRevived}
use Rattle.point_table.specs.contracts.places.places.Places.{the_view}
use Rattle.point_table.proofs.places.Bits.{no_words}
use Rattle.point_table.proofs.places.places.Places.revive_all.Goals as goal

pub returns : goal.returns
returns c =
    let s = c.self.inside in
    subst (λ v. AreRevived v (the_view (record { points = s.points; with = s.with; live = c.set_below.new.self; used = c.clear.new.self }))) c.self.view_is (record {
      concepts = refl;
      points = refl;
      live = λ k small. c.set_below.ensures.set k (omega (arith, c.len.ensures, s.points.ok));
      used = λ k. ap (λ ws. has_bit ws k) c.clear.ensures ∙ no_words k;
    })
