use Rattle.std.proofs.Common.{◌≡◌, ℕ, ◌-◌, ◌+◌, ◌++◌, List, length, take, drop, refl, sym, ap, ◌∙◌, subst, arith}
use Rattle.std.proofs.lemmas.List.{get_or_default, take-append-drop}
use Rattle.rcc5_core.specs.declared.Rel.{Rel}
use Rattle.world_model.specs.Problem.{Problem}
use Rattle.point_ladder.specs.Ladders.{LadderState}
use Rattle.std.specs.Prelude.{Some, None}
use Rattle.rcc5_core.specs.RelationSet.{no_rels, next_of}
use Rattle.world_walk.specs.declared.way.Stage.TheVariants.{Standing}
use Rattle.world_model.specs.Listing.{rel_at, Begins}
use Rattle.world_walk.specs.Ahead.{level_at, IsAhead}
use Rattle.world_walk.specs.Ways.{problem_of, LeadOn}
use Rattle.world_walk.proofs.Ahead.{drops_last}
use Rattle.world_walk.proofs.WentOn.{Turned, turned_way, past_way, some_room, leads_dropped}
use Rattle.world_walk.proofs.way.turn_off.Goals as goal

turned_here : (c : goal.After-way-in-Some-1) → Turned c.args.way.now (record { along = c.back_to.new.self; waiting = Some c.in-Some.next; levels = c.loop-way.way.levels; stage = Standing })
turned_here c =
    let old = c.args.way.now in
    let levels = c.loop-way.way.levels.items in
    let k : ℕ = c.len-last.result - 1 in
    let same = c.loop-way.invariant.along in
    let level : c.index.result.now ≡ level_at levels k = c.index.ensures ∙ get_or_default levels k c.index.result.now (record { depth = 0; set = no_rels }) (omega arith) in
    let next : next_of (level_at levels k).set (rel_at old.along.path (level_at levels k).depth) ≡ Some c.in-Some.next =
    ap (λ l. next_of (level_at levels k).set (rel_at l.path (level_at levels k).depth)) (sym same) ∙ sym c.next_at.ensures ∙ c.in-Some.is in
    turned_way old (record { along = c.back_to.new.self; waiting = Some c.in-Some.next; levels = c.loop-way.way.levels; stage = Standing }) levels k c.in-Some.next
    c.requires.way c.requires.under_way c.requires.ready
    (record {
      sized = omega arith;
      ahead = c.loop-way.invariant.ahead;
      leads = c.loop-way.invariant.leads;
      next = next;
      moved = c.back_to.ensures ∙ (λ i. record { problem = (same i).problem; path = take (level i).depth (same i).path });
      waiting = refl;
      kept = refl;
      standing = refl;
    })

pub returns-in-Some-clause-way : goal.returns-in-Some-clause-way
returns-in-Some-clause-way c = (turned_here c).way

pub returns-in-Some-clause-past : goal.returns-in-Some-clause-past
returns-in-Some-clause-past c = (turned_here c).past

-- what is left of a path begins it
cut_back : (now : LadderState) (problem : Problem) (n : ℕ) (path : List Rel) → now ≡ record { problem = problem; path = take n path } → Begins now.path path
cut_back now problem n path moved = (drop n path, sym (take-append-drop n path) ∙ ap (λ m. m ++ drop n path) (sym (ap (λ l. l.path) moved)))

pub returns-in-Some-clause-shorter : goal.returns-in-Some-clause-shorter
returns-in-Some-clause-shorter c =
    let old = c.args.way.now in
    let same = c.loop-way.invariant.along in
    cut_back c.back_to.new.self (problem_of old) c.index.result.now.depth old.along.path (c.back_to.ensures ∙ (λ i. record { problem = (same i).problem; path = take c.index.result.now.depth (same i).path }))

pub returns-in-Some-clause-less : goal.returns-in-Some-clause-less
returns-in-Some-clause-less c = (turned_here c).less

pub loop-way-preserved : goal.loop-way-preserved
loop-way-preserved c =
    let old = c.args.way.now in
    let p = problem_of old in
    let levels = c.loop-way.way.levels.items in
    let k : ℕ = c.len-last.result - 1 in
    let sized : length levels ≡ k + 1 = omega arith in
    let none : next_of (level_at levels k).set (rel_at old.along.path (level_at levels k).depth) ≡ None =
    ap (λ l. next_of (level_at levels k).set (rel_at l.path (level_at levels k).depth)) (sym c.loop-way.invariant.along) ∙ sym c.next_at.ensures ∙ c.in_default.is in
    let rest : c.pop.new.self.items ≡ take k levels = c.pop.ensures.rest ∙ ap (λ n. take n levels) (omega arith) in
    record {
      along = c.loop-way.invariant.along;
      waiting = c.loop-way.invariant.waiting;
      stage = c.loop-way.invariant.stage;
      ahead = subst (λ ls. IsAhead p old.along.path ls) (sym rest) (drops_last p old.along.path levels k sized c.loop-way.invariant.ahead none);
      leads = subst (λ ls. LeadOn p old.along.path ls) (sym rest) (leads_dropped p old.along.path levels k sized c.loop-way.invariant.leads);
    }

pub returns-clause-past : goal.returns-clause-past
returns-clause-past c = past_way c.args.way.now c.requires.under_way c.requires.ready c.loop-way.way.levels.items (omega arith) c.loop-way.invariant.ahead

pub returns-clause-less : goal.returns-clause-less
returns-clause-less c = some_room c.args.way.now c.requires.under_way
