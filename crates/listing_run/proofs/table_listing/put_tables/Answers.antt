use Rattle.std.proofs.Common.{rules, ◌≡◌, ◌≢◌, ◌∙◌, [], ◌∷◌, None, Some, take, sym, ap, refl, subst}
use Rattle.std.specs.Prelude.{IfSome, IfNone}
use Rattle.outer_store.specs.Bytes.{GrownInPart, added}
use Rattle.world_walk.specs.Ahead.{BeginAlike}
use Rattle.world_walk.specs.Ways.{told_table}
use Rattle.world_walk.specs.Tables.{IsAtWorld, Keeps}
use Rattle.run_ends.specs.Ends.{world_line}
use Rattle.listing_run.specs.Putting.{IsPutTo, IsStopBehind}
use Rattle.listing_run.proofs.PlaceLemmas.{right_behind}
use Rattle.listing_run.proofs.ListingLemmas.{partly_so_far, if_refused}
use Rattle.listing_run.proofs.TableLemmas.{IsTabled, tabled_first, tabled_on, tabled_met, tabled_end, tabled_world, tabled_partly, tabled_fewer, tabled_more, tabled_stop, line_kept}
use Rattle.listing_run.proofs.table_listing.put_tables.Goals as goal

pub loop-line-init : goal.loop-line-init
loop-line-init g c =
    let plan = c.args.plan.now in
    let received = (g.W.Sink.state c.args.out.now).bytes in
    record {
      tabled = subst (λ line. IsTabled plan c.args.tables.now line received received 0 plan.worlds) (sym c.new-line.ensures.items)
          (tabled_first plan c.args.tables.now received c.facts.ensures.built.valid c.requires);
      faults = refl;
    }

pub returns-in_err-kept : goal.returns-in_err-kept
returns-in_err-kept g c =
    let plan = c.args.plan.now in
    let valid = c.facts.ensures.built.valid in
    let old = (g.W.Sink.state c.args.out.now).bytes in
    let mid = (g.W.Sink.state c.loop-line.out).bytes in
    let so_far = c.loop-line.invariant.tabled in
    record {
      ok = search rules;
      err = if_refused c.from_residual.result _ (partly_so_far plan valid c.next.new.self.at old mid c.loop-line.count None c.loop-line.worlds
          (tabled_on plan c.loop-line.tables c.next.new.self c.loop-line.line.items old mid c.loop-line.count c.loop-line.worlds valid so_far c.in_err-kept.ensures.passed));
      cause = search rules;
      later = search rules;
    }

pub rewrite-requires-clause-same : goal.rewrite-requires-clause-same
rewrite-requires-clause-same g c =
    let told = c.loop-line.tables.told in
    let alike : Keeps c.loop-line.tables c.next.new.self c.in-Some.kept = subst (λ o. IfSome o (Keeps c.loop-line.tables c.next.new.self)) c.in-Some.is c.in_ok-kept.ensures.kept in
    ap (take c.in-Some.kept) c.loop-line.invariant.tabled.line_is
    ∙ (line_kept told c.table.result.now c.in-Some.kept (subst (λ t. BeginAlike (told_table told) t c.in-Some.kept) (ap told_table c.table.ensures) alike)).1

pub returns-in_err-rewrite : goal.returns-in_err-rewrite
returns-in_err-rewrite g c =
    let plan = c.args.plan.now in
    let valid = c.facts.ensures.built.valid in
    let old = (g.W.Sink.state c.args.out.now).bytes in
    let mid = (g.W.Sink.state c.loop-line.out).bytes in
    let so_far = c.loop-line.invariant.tabled in
    let passed = c.in_ok-kept.ensures.passed in
    let at : IsAtWorld c.next.new.self = subst (λ o. IfSome o (λ _. IsAtWorld c.next.new.self)) c.in-Some.is c.in_ok-kept.ensures.world in
    let t = c.table.result.now in
    let met = tabled_met plan c.loop-line.tables c.next.new.self c.loop-line.line.items old mid c.loop-line.count c.loop-line.worlds t valid so_far passed at c.table.ensures in
    record {
      ok = search rules;
      err = if_refused c.from_residual-in_err-rewrite.result _ (partly_so_far plan valid (Some t) old mid c.loop-line.count None c.loop-line.worlds met.put);
      cause = search rules;
      later = search rules;
    }

pub returns-in_err-put : goal.returns-in_err-put
returns-in_err-put g c =
    let plan = c.args.plan.now in
    let valid = c.facts.ensures.built.valid in
    let old = (g.W.Sink.state c.args.out.now).bytes in
    let mid = (g.W.Sink.state c.loop-line.out).bytes in
    let so_far = c.loop-line.invariant.tabled in
    let passed = c.in_ok-kept.ensures.passed in
    let at : IsAtWorld c.next.new.self = subst (λ o. IfSome o (λ _. IsAtWorld c.next.new.self)) c.in-Some.is c.in_ok-kept.ensures.world in
    let t = c.table.result.now in
    let met = tabled_met plan c.loop-line.tables c.next.new.self c.loop-line.line.items old mid c.loop-line.count c.loop-line.worlds t valid so_far passed at c.table.ensures in
    let new = (g.W.Sink.state c.put.new.self).bytes in
    let of_line : c.rewrite.new.line.items ≡ world_line t = c.in_ok-rewrite.ensures in
    record {
      ok = search rules;
      err = if_refused c.from_residual-in_err-put.result _ (tabled_partly plan t old mid new c.loop-line.count c.loop-line.worlds valid met.endless met.world met.put so_far.some
          (subst (GrownInPart mid new) (c.deref.ensures.value ∙ of_line) c.in_err-put.ensures.err));
      cause = search rules;
      later = search rules;
    }

pub returns-in_err-stop : goal.returns-in_err-stop
returns-in_err-stop g c =
    let plan = c.args.plan.now in
    let valid = c.facts.ensures.built.valid in
    let old = (g.W.Sink.state c.args.out.now).bytes in
    let mid = (g.W.Sink.state c.loop-line.out).bytes in
    let so_far = c.loop-line.invariant.tabled in
    let passed = c.in_ok-kept.ensures.passed in
    let at : IsAtWorld c.next.new.self = subst (λ o. IfSome o (λ _. IsAtWorld c.next.new.self)) c.in-Some.is c.in_ok-kept.ensures.world in
    let t = c.table.result.now in
    let met = tabled_met plan c.loop-line.tables c.next.new.self c.loop-line.line.items old mid c.loop-line.count c.loop-line.worlds t valid so_far passed at c.table.ensures in
    let new = (g.W.Sink.state c.put.new.self).bytes in
    let of_line : c.rewrite.new.line.items ≡ world_line t = c.in_ok-rewrite.ensures in
    let put : new ≡ added mid (world_line t) = c.in_ok-put.ensures.ok ∙ ap (added mid) (c.deref.ensures.value ∙ of_line) in
    record {
      ok = search rules;
      err = if_refused c.from_residual-in_err-stop.result _ (partly_so_far plan valid (Some (right_behind t)) old new _ None c.one_less-worlds.result
          (tabled_world plan t old mid new c.loop-line.count c.loop-line.worlds c.one_less-worlds.result valid met.endless met.world met.put so_far.some c.one_less-worlds.ensures put));
      cause = search rules;
      later = search rules;
    }

pub returns-then-is_spent : goal.returns-then-is_spent
returns-then-is_spent g c =
    let plan = c.args.plan.now in
    let valid = c.facts.ensures.built.valid in
    let old = (g.W.Sink.state c.args.out.now).bytes in
    let mid = (g.W.Sink.state c.loop-line.out).bytes in
    let so_far = c.loop-line.invariant.tabled in
    let passed = c.in_ok-kept.ensures.passed in
    let at : IsAtWorld c.next.new.self = subst (λ o. IfSome o (λ _. IsAtWorld c.next.new.self)) c.in-Some.is c.in_ok-kept.ensures.world in
    let t = c.table.result.now in
    let met = tabled_met plan c.loop-line.tables c.next.new.self c.loop-line.line.items old mid c.loop-line.count c.loop-line.worlds t valid so_far passed at c.table.ensures in
    let new = (g.W.Sink.state c.put.new.self).bytes in
    let of_line : c.rewrite.new.line.items ≡ world_line t = c.in_ok-rewrite.ensures in
    let put : new ≡ added mid (world_line t) = c.in_ok-put.ensures.ok ∙ ap (added mid) (c.deref.ensures.value ∙ of_line) in
    let again : c.table-then-is_spent.result.now ∷ [] ≡ t ∷ [] = sym c.table-then-is_spent.ensures ∙ c.table.ensures in
    let same : c.table-then-is_spent.result.now ≡ t = cc in
    record {
      ok = tabled_stop plan t c.in_ok-stop.stop old new c.saturating_add-count.result c.one_less-worlds.result met.endless met.world
          (subst (λ n. IsPutTo plan (Some (right_behind t)) old new n None c.one_less-worlds.result) (sym c.saturating_add-count.ensures)
          (tabled_world plan t old mid new c.loop-line.count c.loop-line.worlds c.one_less-worlds.result valid met.endless met.world met.put so_far.some c.one_less-worlds.ensures put))
          (c.is_spent.ensures.0 c.if-is_spent.true)
          (subst (λ m. IsStopBehind plan.problem m c.in_ok-stop.stop) same c.in_ok-stop.ensures);
      err = search rules;
      cause = search rules;
      later = search rules;
    }

pub loop-line-smaller : goal.loop-line-smaller
loop-line-smaller g c =
    let plan = c.args.plan.now in
    let valid = c.facts.ensures.built.valid in
    let old = (g.W.Sink.state c.args.out.now).bytes in
    let mid = (g.W.Sink.state c.loop-line.out).bytes in
    let so_far = c.loop-line.invariant.tabled in
    let passed = c.in_ok-kept.ensures.passed in
    let at : IsAtWorld c.next.new.self = subst (λ o. IfSome o (λ _. IsAtWorld c.next.new.self)) c.in-Some.is c.in_ok-kept.ensures.world in
    let t = c.table.result.now in
    let met = tabled_met plan c.loop-line.tables c.next.new.self c.loop-line.line.items old mid c.loop-line.count c.loop-line.worlds t valid so_far passed at c.table.ensures in
    tabled_fewer plan c.loop-line.tables c.next.new.self c.loop-line.line.items old mid c.loop-line.count c.loop-line.worlds t valid so_far passed met c.table.ensures

pub loop-line-preserved : goal.loop-line-preserved
loop-line-preserved g c =
    let plan = c.args.plan.now in
    let valid = c.facts.ensures.built.valid in
    let old = (g.W.Sink.state c.args.out.now).bytes in
    let mid = (g.W.Sink.state c.loop-line.out).bytes in
    let so_far = c.loop-line.invariant.tabled in
    let passed = c.in_ok-kept.ensures.passed in
    let at : IsAtWorld c.next.new.self = subst (λ o. IfSome o (λ _. IsAtWorld c.next.new.self)) c.in-Some.is c.in_ok-kept.ensures.world in
    let t = c.table.result.now in
    let met = tabled_met plan c.loop-line.tables c.next.new.self c.loop-line.line.items old mid c.loop-line.count c.loop-line.worlds t valid so_far passed at c.table.ensures in
    let new = (g.W.Sink.state c.put.new.self).bytes in
    let of_line : c.rewrite.new.line.items ≡ world_line t = c.in_ok-rewrite.ensures in
    let put : new ≡ added mid (world_line t) = c.in_ok-put.ensures.ok ∙ ap (added mid) (c.deref.ensures.value ∙ of_line) in
    let left : c.one_less-worlds.result ≢ Some 0 = λ e. let spent = c.is_spent.ensures.1 e in cc in
    record {
      tabled =
          tabled_more plan c.next.new.self t c.rewrite.new.line.items old mid new c.loop-line.count c.saturating_add-count.result c.loop-line.worlds c.one_less-worlds.result valid met c.table.ensures so_far.some
          c.one_less-worlds.ensures put c.saturating_add-count.ensures of_line left;
      faults = search rules;
    }

pub returns : goal.returns
returns g c =
    let plan = c.args.plan.now in
    let valid = c.facts.ensures.built.valid in
    let old = (g.W.Sink.state c.args.out.now).bytes in
    let mid = (g.W.Sink.state c.loop-line.out).bytes in
    let so_far = c.loop-line.invariant.tabled in
    let end = subst (λ o. IfNone o ((c.next.new.self.at ≡ None) × (c.next.new.self.told ≡ []))) c.in_default.is c.in_ok-kept.ensures.end in
    record {
      ok = tabled_end plan c.loop-line.tables c.next.new.self c.loop-line.line.items old mid c.loop-line.count c.loop-line.worlds valid so_far c.in_ok-kept.ensures.passed end.0;
      err = search rules;
      cause = search rules;
      later = search rules;
    }
