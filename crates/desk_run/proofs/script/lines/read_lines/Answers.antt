use Rattle.std.proofs.Common.{◌+◌, ◌∙◌, sym, rules}
use Rattle.std.proofs.lemmas.List.Elements.{All-push}
use Rattle.cleantax_text.proofs.TextLemmas.{lines_cut}
use Rattle.desk_run.specs.Script.Requests.{IsRequest}
use Rattle.desk_run.proofs.script.LineLemmas.{turn_taken}
use Rattle.desk_run.proofs.script.lines.read_lines.Goals as goal

pub loop-rest-preserved-in_ok-push-in-Ok : goal.loop-rest-preserved-in_ok-push-in-Ok
loop-rest-preserved-in_ok-push-in-Ok c =
    let here = c.in-Some.here.now in
    let line = c.first_line.result.0.now in
    let after = c.first_line.result.1 in
    record {
      same =
          turn_taken c.args.problem.now (c.loop-rest.number + 1) here line _ after _ c.in-Ok.request c.loop-rest.requests.items c.push.new.self.items _
          (rw c.in-Some.is at c.loop-rest.invariant.same) (lines_cut here line after c.first_line.ensures.more c.first_line.ensures.last)
          c.in-Some-next_word.ensures.word (sym c.in_ok-request.ensures.request ∙ c.in-Ok.is) c.in_ok-push-in-Ok.ensures.items;
      fit =
          rw c.in_ok-push-in-Ok.ensures.items
          (All-push (IsRequest c.args.problem.now) c.loop-rest.requests.items c.in-Ok.request c.loop-rest.invariant.fit (rw c.in-Ok.is at c.in_ok-request.ensures.fit));
      few = search rules;
    }
