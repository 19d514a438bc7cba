use Rattle.std.proofs.Common.{rules, map, string_bytes}
use Rattle.desk_run.proofs.ServeLemmas.{words_refused}
use Rattle.desk_run.proofs.serve_words.serve.Goals as goal

pub returns-in-Err-Usage : goal.returns-in-Err-Usage
returns-in-Err-Usage g c =
    words_refused (map string_bytes c.args.words.now) c.in-Err-Usage.kind c.put_desk_end.result
    (g.S.Store.state c.args.store.now)
    (g.W.Sink.state c.args.out.now) (g.W.Sink.state c.put_desk_end.new.out)
    (search rules) c.put_desk_end.ensures.put
