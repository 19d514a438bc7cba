use Rattle.std.proofs.Common.{◌≡◌, true, false, not, get_or, inl, inr, refl, sym, ◌∙◌, ap, arith, nat_cmp}
use Rattle.std.specs.BTreeSet.{contains}
use Rattle.std.proofs.lemmas.Bool.{not-true, not-false}
use Rattle.lits_core.specs.Derivation.{distinct_ids}
use Rattle.proof_check.proofs.EntryLemmas.{passes, stops, found-some, seen-more}
use Rattle.proof_check.proofs.PlaceLemmas.{distinct-places}
use Rattle.proof_check.proofs.entries.Entries.can_forget.Goals as goal
use Rattle.proof_check.proofs.entries.Entries.can_forget.Goals.{then-not-found-via-then-not-found, then-not-found-via-else-not-found+then-not-new}

pub returns-then-not-found : goal.returns-then-not-found
returns-then-not-found c _ =
    sym c.loop-id.invariant.rest ∙ stops c.args.self.now c.args.ids.now c.loop-id.id-index (get_or c.args.ids.now c.loop-id.id-index 0) (ap distinct_ids (sym c.self.view_is) ∙ distinct-places c.self.inside.slots.items c.self.inside.places c.self.invariant) (omega arith) refl (elim c.then-not-found.branch [
      | then-not-found-via-then-not-found w ↦ inr (found-some c.find.result _ c.find.ensures ∙ sym c.is_some-found.ensures ∙ w.if-not-found.true)
      | then-not-found-via-else-not-found+then-not-new w ↦
          let old : not (contains nat_cmp c.loop-id.seen (get_or c.args.ids.now c.loop-id.id-index 0)) ≡ false = sym c.in_ok-new.ensures.new ∙ w.if-not-new.true in
          inl (sym (c.loop-id.invariant.seen (get_or c.args.ids.now c.loop-id.id-index 0)) ∙ not-false _ old)
    ])

pub loop-id-preserved : goal.loop-id-preserved
loop-id-preserved c =
    let new : not (contains nat_cmp c.loop-id.seen (get_or c.args.ids.now c.loop-id.id-index 0)) ≡ true = sym c.in_ok-new.ensures.new ∙ c.if-not-new.false in
    record {
      rest = sym (passes c.args.self.now c.args.ids.now c.loop-id.id-index (get_or c.args.ids.now c.loop-id.id-index 0) (ap distinct_ids (sym c.self.view_is) ∙ distinct-places c.self.inside.slots.items c.self.inside.places c.self.invariant) (omega arith) refl (sym (c.loop-id.invariant.seen (get_or c.args.ids.now c.loop-id.id-index 0)) ∙ not-true _ new) (found-some c.find.result _ c.find.ensures ∙ sym c.is_some-found.ensures ∙ c.if-not-found.false)) ∙ c.loop-id.invariant.rest;
      seen = λ q. c.in_ok-new.ensures.added q ∙ seen-more c.args.ids.now c.loop-id.id-index q (contains nat_cmp c.loop-id.seen q) (omega arith) (c.loop-id.invariant.seen q);
    }
