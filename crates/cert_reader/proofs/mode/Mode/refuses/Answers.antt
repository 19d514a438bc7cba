use Rattle.std.proofs.Common.{◌≡◌, Bool, true, false, not, length, refl, sym, ◌∙◌}
use Rattle.std.proofs.lemmas.Bool.{ltb-true, true≢false}
use Rattle.cert_reader.proofs.FrontLemmas.{begins_badly, begins_long}
use Rattle.cert_reader.proofs.mode.Mode.refuses.Goals as goal

was_false : (b : Bool) → not b ≡ true → b ≡ false
was_false false e = refl
was_false true e = absurd (true≢false (sym e))

pub returns-in-Some : goal.returns-in-Some
returns-in-Some c = λ refused. begins_badly c.args.self c.args.front.now c.in-Some.place (sym c.space_in.ensures ∙ c.in-Some.is) (c.is_begun_by.ensures (was_false c.is_begun_by.result refused))

pub returns-in-None : goal.returns-in-None
returns-in-None c = λ long. begins_long c.args.self c.args.front.now (sym c.space_in.ensures ∙ c.in-None.is) (ltb-true 11 (length c.args.front.now) long)
