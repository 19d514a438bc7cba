use Rattle.std.proofs.Common.{◌∙◌, ap, arith, rules, length, length-append, List, ◌≡◌, ◌+◌, ◌≤◌, ◌^◌, ◌∷◌, [], ◌++◌}
use Rattle.clause_arena.specs.Records.{Record, new_record}
use Rattle.clause_arena.proofs.Ranges.{AreInOrder-later, AreInOrder-push, records_of-grown, records_of-put, on_err}
use Rattle.clause_arena.proofs.arena.Arena.put.Goals as goal

pub invariant_of-self-in_err-push : goal.invariant_of-self-in_err-push
invariant_of-self-in_err-push c =
    rw (c.in_err-push.ensures.items, c.in_ok-extend_from_slice.ensures.items)
    (AreInOrder-later c.self.inside.heads.items 0 _ _ c.self.invariant.0 (simp length-append (omega arith)), c.self.invariant.1)

pub returns-in_err-push-clause-err : goal.returns-in_err-push-clause-err
returns-in_err-push-clause-err c =
    on_err c.from_residual-in_err-push.result
    (rw (c.in_err-push.ensures.items, c.in_ok-extend_from_slice.ensures.items)
    (records_of-grown c.self.inside.codes.items c.args.lits.now c.self.inside.heads.items c.self.invariant.0 ∙ c.self.view_is))

start-is : (c : goal.After-new) → c.len-start.result ≡ length c.self.inside.codes.items
start-is c = search rules

len-is : (c : goal.After-new) → c.in-Ok-try_from.len ≡ length c.args.lits.now
len-is c = search rules

room : (c : goal.After-new) → length c.self.inside.heads.items + 1 ≤ 2 ^ 32
room c = search rules

pub invariant_of-self-2 : goal.invariant_of-self-2
invariant_of-self-2 c =
    rw (c.in_ok-push.ensures.items, c.in_ok-extend_from_slice.ensures.items)
    (AreInOrder-push c.self.inside.heads.items 0 (length c.self.inside.codes.items) _ _ c.self.invariant.0 (let e = start-is c in omega arith) (let e = start-is c in let f = len-is c in simp length-append (omega arith)), simp length-append (room c))

pub returns-clause-ok : goal.returns-clause-ok
returns-clause-ok c =
    rw (c.in_ok-push.ensures.items, c.in_ok-extend_from_slice.ensures.items)
    (records_of-put c.self.inside.codes.items c.args.lits.now c.self.inside.heads.items _ c.self.invariant.0 (start-is c) (len-is c)
    ∙ ap (λ (rs : List Record). rs ++ new_record c.args.id c.args.lits.now ∷ []) c.self.view_is)
