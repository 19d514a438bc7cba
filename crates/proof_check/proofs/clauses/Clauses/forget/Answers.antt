use Rattle.std.proofs.Common.{◌≡◌, refl, take, arith}
use Rattle.proof_check.proofs.EntryLemmas.{without_ids-more}
use Rattle.std.proofs.lemmas.List.{take_all}
use Rattle.proof_check.proofs.clauses.Clauses.forget.Goals as goal

pub loop-id-preserved : goal.loop-id-preserved
loop-id-preserved c = record {
  taken = rw (without_ids-more c.self.inside.entries c.args.ids.now c.loop-id.id-index (omega arith), ← c.loop-id.invariant.taken) c.remove.ensures;
  given = c.loop-id.invariant.given;
}

pub returns-clause-ok : goal.returns-clause-ok
returns-clause-ok c =
    let all : take c.loop-id.id-index c.args.ids.now ≡ c.args.ids.now = take_all c.loop-id.id-index c.args.ids.now (omega arith) in
    rw (← c.self.view_is, c.loop-id.invariant.given, c.loop-id.invariant.taken, all) refl
