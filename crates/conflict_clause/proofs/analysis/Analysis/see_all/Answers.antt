use Rattle.std.proofs.Common.{◌≡◌, ◌∙◌, ◌<◌, ℕ, List, true, length, sym, ap, subst, arith, inl, inr, get_or, below_more, refl}
use Rattle.lits_core.specs.Literals.{variable_of}
use Rattle.clause_arena.specs.Records.{Record, record_at}
use Rattle.watch_arena.proofs.WatchedPair.{contains_at, index_of, live_within}
use Rattle.conflict_clause.specs.Search.{is_seen}
use Rattle.conflict_clause.proofs.SeenLits.{Sees-refl, Sees-trans, literal}
use Rattle.conflict_clause.proofs.analysis.Analysis.see_all.Goals as goal

pub see-requires-clause-range : goal.see-requires-clause-range
see-requires-clause-range c =
    let lt = c.loop-k-test.true in
    let size = c.len_of-k-end.ensures in
    let same = ap (λ (rs : List Record). length (record_at rs c.args.at).lits) c.arena-arena.ensures in
    c.facts.ensures.lits_in_range c.args.at c.from_code.result
    (contains_at (record_at c.args.trail.now.records c.args.at).lits c.loop-k.k c.from_code.result (omega arith) (sym (literal c.from_code.result c.lit_at.result c.arena-arena.result.now c.args.trail.now.records c.args.at c.loop-k.k c.from_code.ensures c.lit_at.ensures c.arena-arena.ensures)))

pub see-requires-clause-off : goal.see-requires-clause-off
see-requires-clause-off c =
    let lt = c.loop-k-test.true in
    let size = c.len_of-k-end.ensures in
    let same = ap (λ (rs : List Record). length (record_at rs c.args.at).lits) c.arena-arena.ensures in
    elim (c.requires.off c.from_code.result (contains_at (record_at c.args.trail.now.records c.args.at).lits c.loop-k.k c.from_code.result (omega arith) (sym (literal c.from_code.result c.lit_at.result c.arena-arena.result.now c.args.trail.now.records c.args.at c.loop-k.k c.from_code.ensures c.lit_at.ensures c.arena-arena.ensures)))) [
      | inl seen ↦ inl (c.loop-k.invariant.sees.marks (variable_of c.from_code.result) seen)
      | inr off ↦ inr off
    ]

pub loop-k-init : goal.loop-k-init
loop-k-init c = record {
  looking = c.requires.looking;
  sees = Sees-refl c.args.trail.now c.args.level c.args.self.now;
  seen = λ j lt. absurd (omega arith);
  hints = refl;
}

pub loop-k-preserved : goal.loop-k-preserved
loop-k-preserved c =
    let P : ℕ → Type 0 = λ j. is_seen c.see.new.self (variable_of (get_or (record_at c.args.trail.now.records c.args.at).lits j 0)) ≡ true in
    record {
      looking = c.in_ok-see.ensures.looking;
      sees = Sees-trans c.args.trail.now c.args.level c.args.self.now c.loop-k.self c.see.new.self c.loop-k.invariant.sees c.in_ok-see.ensures.sees;
      seen = below_more P c.loop-k.k (λ j lt. c.in_ok-see.ensures.sees.marks _ (c.loop-k.invariant.seen j lt))
          (subst (λ (lit : ℕ). is_seen c.see.new.self (variable_of lit) ≡ true) (literal c.from_code.result c.lit_at.result c.arena-arena.result.now c.args.trail.now.records c.args.at c.loop-k.k c.from_code.ensures c.lit_at.ensures c.arena-arena.ensures) c.in_ok-see.ensures.seen);
      hints = c.see.ensures.hints ∙ c.loop-k.invariant.hints;
    }

pub returns-clause-seen : goal.returns-clause-seen
returns-clause-seen c lit has =
    let entry = index_of (record_at c.args.trail.now.records c.args.at).lits lit has in
    let below = entry.1 in
    let end = c.loop-k-test.false in
    let size = c.len_of-k-end.ensures in
    let same = ap (λ (rs : List Record). length (record_at rs c.args.at).lits) c.arena-arena.ensures in
    subst (λ (x : ℕ). is_seen c.loop-k.self (variable_of x) ≡ true) entry.2 (c.loop-k.invariant.seen entry.0 (omega arith))

pub returns-in_err-see-clause-seen_list : goal.returns-in_err-see-clause-seen_list
returns-in_err-see-clause-seen_list c = c.see.ensures.seen_list

pub returns-in_err-see-clause-hints : goal.returns-in_err-see-clause-hints
returns-in_err-see-clause-hints c = c.see.ensures.hints ∙ c.loop-k.invariant.hints

pub returns-clause-seen_list : goal.returns-clause-seen_list
returns-clause-seen_list c = c.loop-k.invariant.looking.seen_list

pub returns-clause-looking : goal.returns-clause-looking
returns-clause-looking c = c.loop-k.invariant.looking

pub returns-clause-sees : goal.returns-clause-sees
returns-clause-sees c = c.loop-k.invariant.sees

pub len_of-k-end-requires : goal.len_of-k-end-requires
len_of-k-end-requires c = subst (λ (rs : List Record). c.args.at < length rs) (sym c.arena-arena.ensures) (live_within c.args.trail.now.records c.args.at c.requires.live)

pub lit_at-requires-clause-of_the_list : goal.lit_at-requires-clause-of_the_list
lit_at-requires-clause-of_the_list c = subst (λ (rs : List Record). c.args.at < length rs) (sym c.arena-arena.ensures) (live_within c.args.trail.now.records c.args.at c.requires.live)

pub lit_at-requires-clause-in_range : goal.lit_at-requires-clause-in_range
lit_at-requires-clause-in_range c = let lt = c.loop-k-test.true in let size = c.len_of-k-end.ensures in omega arith
