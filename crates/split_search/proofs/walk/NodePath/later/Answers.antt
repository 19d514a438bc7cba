use Rattle.std.proofs.Common.{◌≡◌, ◌≤◌, [], ◌∙◌, false, length, ap, sym, arith, rules}
use Rattle.rcc5_core.specs.RelationSet.{next_of}
use Rattle.cert_rules.specs.Trees.{sets_of}
use Rattle.cert_rules.specs.FromTheEnd.{set_at}
use Rattle.split_search.specs.Walking.{split_tree, next_node}
use Rattle.split_search.proofs.Nodes.{later_next, later_none, root_ends, shorter, if_some_any}
use Rattle.split_search.proofs.walk.NodePath.later.Goals as goal

pub set_at-requires-clause-within : goal.set_at-requires-clause-within
set_at-requires-clause-within c =
    let less = shorter c.go_up.new.self.path c.in-Some.rel c.loop-rel.self.path _ c.in-Some.ensures.some c.loop-rel.invariant.walk.short in
    let same = c.go_up.ensures.pairs in
    omega (arith, less, same)

pub returns-then-is_some-clause-next : goal.returns-then-is_some-clause-next
returns-then-is_some-clause-next c =
    let w = c.go_up.new.self in
    let found : c.after-next.result ≡ next_of (set_at (sets_of (split_tree w.subject)) (length w.path)) c.in-Some.rel =
    c.after-next.ensures ∙ ap (λ set. next_of set c.in-Some.rel) (c.set_at.ensures ∙ ap (set_at (sets_of (split_tree w.subject))) c.len.ensures) in
    let old_short = c.loop-rel.invariant.walk.short in
    let same = c.go_up.ensures.pairs in
    let short : length c.loop-rel.self.path ≤ length w.pairs.items = omega (arith, old_short, same) in
    sym c.loop-rel.invariant.next ∙ ap (λ q. next_node q false c.loop-rel.self.path) (sym c.go_up.ensures.subject)
    ∙ later_next w.subject w.pairs.items w.path c.in-Some.rel c.loop-rel.self.path c.after-next.result c.go_up.ensures.walk.pairs c.in-Some.ensures.some short found (sym c.is_some.ensures ∙ c.if-is_some.true)

pub returns-then-is_some-clause-room : goal.returns-then-is_some-clause-room
returns-then-is_some-clause-room c =
    let less = shorter c.go_up.new.self.path c.in-Some.rel c.loop-rel.self.path _ c.in-Some.ensures.some c.loop-rel.invariant.walk.short in
    let same = c.go_up.ensures.pairs in
    if_some_any c.after-next.result (omega (arith, less, same))

pub loop-rel-preserved : goal.loop-rel-preserved
loop-rel-preserved c =
    let w = c.go_up.new.self in
    let found : c.after-next.result ≡ next_of (set_at (sets_of (split_tree w.subject)) (length w.path)) c.in-Some.rel =
    c.after-next.ensures ∙ ap (λ set. next_of set c.in-Some.rel) (c.set_at.ensures ∙ ap (set_at (sets_of (split_tree w.subject))) c.len.ensures) in
    let old_short = c.loop-rel.invariant.walk.short in
    let same = c.go_up.ensures.pairs in
    let short : length c.loop-rel.self.path ≤ length w.pairs.items = omega (arith, old_short, same) in
    record {
      walk = c.go_up.ensures.walk;
      subject = c.go_up.ensures.subject ∙ c.loop-rel.invariant.subject;
      next =
          later_none w.subject w.pairs.items w.path c.in-Some.rel c.loop-rel.self.path c.after-next.result c.go_up.ensures.walk.pairs c.in-Some.ensures.some short found (sym c.is_some.ensures ∙ c.if-is_some.false)
          ∙ ap (λ q. next_node q false c.loop-rel.self.path) c.go_up.ensures.subject ∙ c.loop-rel.invariant.next;
    }

pub returns-clause-next : goal.returns-clause-next
returns-clause-next c =
    let empty : c.loop-rel.self.path ≡ [] = search rules in
    sym c.loop-rel.invariant.next ∙ root_ends c.loop-rel.self.subject c.loop-rel.self.path empty
