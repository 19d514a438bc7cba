use Rattle.std.proofs.Common.{◌∙◌, sym, ap}
use Rattle.proof_text.specs.Lines.{id_in, list_of}
use Rattle.proof_text.proofs.ListLemmas.{behind, behind-none, turn_zero, turn_item, turn_fault, turn_end, gives_fault}
use Rattle.proof_text.proofs.reading.read_ids.Goals as goal

pub loop-word-init : goal.loop-word-init
loop-word-init c = ap (λ front. behind front (list_of id_in c.args.words.now)) c.new-ids.ensures.items ∙ behind-none (list_of id_in c.args.words.now)

pub returns-then-is_zero_word : goal.returns-then-is_zero_word
returns-then-is_zero_word c =
    turn_zero id_in c.loop-word.ids.items c.in-Some.word.now c.loop-word.words c.next_word.new.self _ c.loop-word.invariant c.in-Some.ensures
    (sym c.is_zero_word.ensures ∙ c.if-is_zero_word.true)

pub returns-in_err-read_id : goal.returns-in_err-read_id
returns-in_err-read_id c =
    gives_fault _ c.from_residual.result c.in_err-read_id.field-0.0 _ c.from_residual.ensures.1
    (turn_fault id_in c.loop-word.ids.items c.in-Some.word.now c.loop-word.words c.next_word.new.self _ _ c.loop-word.invariant c.in-Some.ensures
    (sym c.is_zero_word.ensures ∙ c.if-is_zero_word.false) (sym c.read_id.ensures ∙ c.in_err-read_id.was))

pub loop-word-preserved : goal.loop-word-preserved
loop-word-preserved c =
    turn_item id_in c.loop-word.ids.items c.in-Some.word.now c.push.new.self.items c.loop-word.words c.next_word.new.self _ _ c.loop-word.invariant c.in-Some.ensures
    (sym c.is_zero_word.ensures ∙ c.if-is_zero_word.false) (sym c.read_id.ensures ∙ c.in_ok-read_id.was) c.in_ok-push.ensures.items

pub returns : goal.returns
returns c = λ _. turn_end id_in c.loop-word.ids.items c.loop-word.words _ c.loop-word.invariant c.in_default.ensures.0
