use Rattle.std.proofs.Common.{rules, arith, flat_map, refl, sym, subst}
use Rattle.outer_store.specs.Bytes.{GrownInPart}
use Rattle.desk_run.specs.Script.Requests.{IsRequest}
use Rattle.desk_run.specs.Answering.{reply_line}
use Rattle.desk_run.proofs.TalkLemmas.{none_served, one_served, rest_talk, rest_talk_is, part_put, on_err, all_served}
use Rattle.desk_run.proofs.serving.put_replies.Goals as goal

pub requests-init : goal.requests-init
requests-init g c = record {
  served = none_served c.args.desk.now.problem c.args.requests.now c.args.desk.now (g.W.Sink.state c.args.out.now).bytes refl c.requires.closed;
  faults = refl;
}

pub handle-reply-requires : goal.handle-reply-requires
handle-reply-requires g c =
    subst (λ p. IsRequest p c.request-item.result) (sym c.requests.invariant.served.after.problem)
    (subst (IsRequest c.args.desk.now.problem) (sym c.request-item.is) (c.requires.fit c.requests.request-index c.request-item.result (omega arith)))

pub returns-in_err-put_reply : goal.returns-in_err-put_reply
returns-in_err-put_reply g c =
    let p = c.args.desk.now.problem in
    let requests = c.args.requests.now in
    let i = c.requests.request-index in
    let desk = c.requests.desk in
    let desk' = c.handle-reply.new.self in
    let old = (g.W.Sink.state c.args.out.now).bytes in
    let mid = (g.W.Sink.state c.requests.out).bytes in
    let new = (g.W.Sink.state c.put_reply.new.out).bytes in
    let request = c.request-item.result in
    let reply = c.handle-reply.result in
    let so_far = c.requests.invariant.served in
    let talk = rest_talk p requests i desk desk' old mid so_far request reply (omega arith) c.request-item.is c.handle-reply.ensures in (
      talk,
      (
        rest_talk_is p requests i desk desk' old mid so_far request reply (omega arith) c.request-item.is c.handle-reply.ensures,
        record {
          ok = search rules;
          err = on_err c.from_residual.result (GrownInPart old new (flat_map reply_line talk))
              (part_put p requests i desk desk' old mid so_far request reply (omega arith) c.request-item.is c.handle-reply.ensures new c.in_err-put_reply.ensures.err);
          cause = search rules;
          later = search rules;
        },
      ),
    )

pub requests-preserved : goal.requests-preserved
requests-preserved g c = record {
  served =
      one_served c.args.desk.now.problem c.args.requests.now c.requests.request-index c.requests.desk c.handle-reply.new.self (g.W.Sink.state c.args.out.now).bytes (g.W.Sink.state c.requests.out).bytes
      c.requests.invariant.served c.request-item.result c.handle-reply.result (omega arith) c.request-item.is c.handle-reply.ensures (g.W.Sink.state c.put_reply.new.out).bytes c.in_ok-put_reply.ensures.ok;
  faults = search rules;
}

pub returns : goal.returns
returns g c = (
  c.requests.invariant.served.talk,
  (
    all_served c.args.desk.now.problem c.args.requests.now c.requests.request-index c.requests.desk (g.W.Sink.state c.args.out.now).bytes (g.W.Sink.state c.requests.out).bytes (omega arith) c.requests.invariant.served,
    record {
      ok = c.requests.invariant.served.put;
      err = search rules;
      cause = search rules;
      later = search rules;
    },
  ),
)
