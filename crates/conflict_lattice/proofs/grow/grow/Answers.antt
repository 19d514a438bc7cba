use Rattle.std.proofs.Common.{length, refl, sym, ap, subst, arith}
use Rattle.std.proofs.lemmas.List.{length-map}
use Rattle.set_family.specs.Rules.{articulation_holds}
use Rattle.conflict_lattice.specs.Lattice.{IsMaximalConsistent}
use Rattle.conflict_lattice.proofs.Growing.{grown_maximal, grown_none, grown_within}
use Rattle.conflict_lattice.proofs.grow.grow.Goals as goal

pub places-init : goal.places-init
places-init c = record {
  shape = refl;
  judge = c.requires.judge;
  so = grown_none c.args.problem.now c.args.seed.now c.in_ok-kept.kept.items c.args.family.now c.in_ok-kept.ensures c.requires.met;
  within = grown_within c.args.problem.now c.args.seed.now c.in_ok-kept.kept.items c.args.family.now c.in_ok-kept.ensures c.requires.flags c.requires.met;
}

pub returns-clause-maximal : goal.returns-clause-maximal
returns-clause-maximal c =
    let said = c.args.problem.now.articulations in
    subst (IsMaximalConsistent c.args.problem.now) (sym c.new.ensures)
    (grown_maximal c.args.problem.now c.places.kept.items c.places.place
    (omega (arith, c.places-test.false, c.len-place-end.ensures, c.in_ok-kept.kept.ok.0, ap length c.in_ok-kept.ensures, length-map said (articulation_holds c.args.family.now), c.places.invariant.so.flags)) c.places.invariant.so)
