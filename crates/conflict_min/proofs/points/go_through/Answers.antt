use Rattle.std.proofs.Common.{true, length, sym, ap, subst, arith}
use Rattle.std.proofs.lemmas.List.{length-map}
use Rattle.conflict_min.specs.Shrinking.{IsShrunk}
use Rattle.conflict_min.proofs.Courses.{shrunk_clash}
use Rattle.conflict_min.proofs.Passes.{least_of}
use Rattle.conflict_min.proofs.points.go_through.Goals as goal

pub places-init : goal.places-init
places-init c =
    let p = c.args.problem.now in
    let all = c.args.all.items in
    record {
      solver = c.requires.solver;
      end = omega (arith, c.len-count.ensures, c.args.all.ok.0, ap length c.requires.all, length-map p.articulations (λ _. true));
      course = record {
        shrunk = subst (IsShrunk p 0 all) (sym c.new.ensures.items) (shrunk_clash p all c.args.core.items c.requires.all c.requires.core);
        clash = c.requires.core;
      };
    }

pub returns : goal.returns
returns c =
    let p = c.args.problem.now in
    let course = c.places.course in
    let so = c.places.invariant.course.shrunk in
    least_of p course.kept.items course.families.items
    (subst (λ count. IsShrunk p count course.kept.items course.families.items) (omega (arith, c.places.invariant.end, c.places.auto.place-end, c.places-test.false, so.within, so.flags)) so)
