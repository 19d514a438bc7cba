use Rattle.wish_family.proofs.Shown.{AreFirst}
use Rattle.wish_family.proofs.rows.FamilyRows.new.Given as goal

abbrev pub invariant-loop-concept : goal.invariant-loop-concept
invariant-loop-concept l = AreFirst l.family l.rows l.concept l.initial.rows.width
