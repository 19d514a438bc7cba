use Rattle.std.proofs.Common.{rules, flat_map, length, refl, sym, ap, subst, ◌≡◌, ◌∙◌}
use Rattle.std.specs.Prelude.{All}
use Rattle.outer_store.specs.Bytes.{GrownInPart}
use Rattle.outer_store.proofs.BytesLemmas.{GrownInPart-kept, GrownInPart-longer}
use Rattle.world_model.specs.Problem.{Problem}
use Rattle.desk_run.specs.Script.Requests.{IsRequest}
use Rattle.desk_run.specs.Desk.Desks.{DeskState, all_closed}
use Rattle.desk_run.specs.Answering.{reply_line, served_line, IsTalkOf}
use Rattle.desk_run.proofs.TalkLemmas.{starved, none_reached, text_of, served_by, on_err, count_behind}
use Rattle.desk_run.proofs.serving.serve_all.Goals as goal

pub returns-in_err-desk : goal.returns-in_err-desk
returns-in_err-desk g c =
    let requests = c.args.requests.now in
    let told = (g.W.Sink.state c.args.out.now).bytes in (
      text_of (starved requests) requests,
      (
        served_by c.args.problem requests (starved requests) (none_reached c.args.problem requests),
        record {
          ok = search rules;
          err = on_err c.from_residual.result (GrownInPart told told (text_of (starved requests) requests)) (GrownInPart-kept told told (text_of (starved requests) requests) refl);
          cause = search rules;
          later = search rules;
        },
      ),
    )

pub put_replies-requires : goal.put_replies-requires
put_replies-requires g c =
    let problem : c.in_ok-desk.desk.problem ≡ c.args.problem = ap (λ (d : DeskState). d.problem) c.in_ok-desk.ensures in
    record {
      closed = c.in_ok-desk.ensures ∙ ap all_closed (sym problem);
      fit = subst (λ (p : Problem). All (IsRequest p) c.args.requests.now) (sym problem) c.requires;
    }

pub returns-in_err-put_replies : goal.returns-in_err-put_replies
returns-in_err-put_replies g c =
    let requests = c.args.requests.now in
    let put = c.in_err-put_replies.ensures in
    let problem : c.in_ok-desk.desk.problem ≡ c.args.problem = ap (λ (d : DeskState). d.problem) c.in_ok-desk.ensures in
    let old = (g.W.Sink.state c.args.out.now).bytes in
    let new = (g.W.Sink.state c.put_replies.new.out).bytes in (
      text_of put.0 requests,
      (
        served_by c.args.problem requests put.0 (subst (λ (p : Problem). IsTalkOf p requests put.0) problem put.1.0),
        record {
          ok = search rules;
          err = on_err c.from_residual-in_err-put_replies.result (GrownInPart old new (text_of put.0 requests))
              (GrownInPart-longer old new (flat_map reply_line put.0) (served_line (length requests)) put.1.1.err);
          cause = search rules;
          later = search rules;
        },
      ),
    )

pub returns : goal.returns
returns g c =
    let put = c.in_ok-put_replies.ensures in
    let problem : c.in_ok-desk.desk.problem ≡ c.args.problem = ap (λ (d : DeskState). d.problem) c.in_ok-desk.ensures in
    count_behind c.put_served.result c.args.problem c.args.requests.now put.0 (g.W.Sink.state c.args.out.now) (g.W.Sink.state c.put_replies.new.out) (g.W.Sink.state c.put_served.new.out)
    (subst (λ (p : Problem). IsTalkOf p c.args.requests.now put.0) problem put.1.0) put.1.1.ok put.1.1.cause c.put_served.ensures
