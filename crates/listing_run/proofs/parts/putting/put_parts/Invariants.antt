use Rattle.listing_run.proofs.parts.PutLemmas.{ArePutTo}
use Rattle.listing_run.proofs.parts.putting.put_parts.Given as goal

-- the first parts are put
abbrev pub invariant-parts : goal.invariant-parts
invariant-parts g l =
    ArePutTo l.problem l.args.token l.positions l.place (g.S.Store.state l.fn.store) (g.S.Store.state l.store) (g.W.Sink.state l.fn.out) (g.W.Sink.state l.out)
