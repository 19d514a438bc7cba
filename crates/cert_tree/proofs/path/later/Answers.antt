use Rattle.std.proofs.Common.{rules, ◌≡◌, ◌∙◌, ap, sym, length, []}
use Rattle.rcc5_core.specs.RelationSet.{next_of}
use Rattle.cert_rules.specs.Trees.{sets_of}
use Rattle.cert_rules.specs.FromTheEnd.{set_at}
use Rattle.cert_tree.proofs.WalkLemmas.{later_next, later_beside, later_none, short_front, shown_rest, root_ends}
use Rattle.cert_tree.proofs.path.later.Goals as goal

pub returns-then-is_some-clause-next : goal.returns-then-is_some-clause-next
returns-then-is_some-clause-next c =
    let found : c.after-next.result ≡ next_of (set_at (sets_of c.args.tree.now) (length c.pop.new.self)) c.in-Some.rel =
    c.after-next.ensures ∙ ap (λ set. next_of set c.in-Some.rel) (c.set_at.ensures ∙ ap (set_at (sets_of c.args.tree.now)) c.len.ensures) in
    sym c.loop-rel.invariant.next
    ∙ later_next c.args.tree.now c.pop.new.self c.in-Some.rel c.loop-rel.path c.after-next.result c.in-Some.ensures.some c.loop-rel.invariant.short found (sym c.is_some.ensures ∙ c.if-is_some.true)

pub returns-then-is_some-clause-beside : goal.returns-then-is_some-clause-beside
returns-then-is_some-clause-beside c =
    let found : c.after-next.result ≡ next_of (set_at (sets_of c.args.tree.now) (length c.pop.new.self)) c.in-Some.rel =
    c.after-next.ensures ∙ ap (λ set. next_of set c.in-Some.rel) (c.set_at.ensures ∙ ap (set_at (sets_of c.args.tree.now)) c.len.ensures) in
    later_beside c.args.tree.now c.pop.new.self c.in-Some.rel c.loop-rel.path c.after-next.result c.in-Some.ensures.some c.loop-rel.invariant.shown found

pub loop-rel-preserved : goal.loop-rel-preserved
loop-rel-preserved c =
    let found : c.after-next.result ≡ next_of (set_at (sets_of c.args.tree.now) (length c.pop.new.self)) c.in-Some.rel =
    c.after-next.ensures ∙ ap (λ set. next_of set c.in-Some.rel) (c.set_at.ensures ∙ ap (set_at (sets_of c.args.tree.now)) c.len.ensures) in
    record {
      next =
          later_none c.args.tree.now c.pop.new.self c.in-Some.rel c.loop-rel.path c.after-next.result c.in-Some.ensures.some c.loop-rel.invariant.short found (sym c.is_some.ensures ∙ c.if-is_some.false)
          ∙ c.loop-rel.invariant.next;
      short = short_front c.pop.new.self c.in-Some.rel c.loop-rel.path (length c.args.tree.now.levels) c.in-Some.ensures.some c.loop-rel.invariant.short;
      shown = shown_rest c.args.tree.now.from c.pop.new.self c.in-Some.rel c.loop-rel.path c.in-Some.ensures.some c.loop-rel.invariant.shown;
    }

pub returns-clause-next : goal.returns-clause-next
returns-clause-next c =
    let empty : c.loop-rel.path ≡ [] = search rules in
    sym c.loop-rel.invariant.next ∙ root_ends c.args.tree.now c.loop-rel.path empty
