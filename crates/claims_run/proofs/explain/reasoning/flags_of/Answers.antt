use Rattle.std.proofs.Common.{◌≡◌, ℕ, ◌+◌, Bool, false, List, [], ◌∷◌, ◌++◌, take, Some, sym, ap, ◌∙◌}
use Rattle.std.specs.Prelude.{slice_get}
use Rattle.std.proofs.lemmas.List.{take_more}
use Rattle.std.proofs.lemmas.Option.{slice_get_within, get_or_from_slice_get}
use Rattle.claims_run.proofs.explain.reasoning.flags_of.Goals as goal

-- one more flag
flag_more : (kept flags new : List Bool) (k : ℕ) (b : Bool) → flags ≡ take k kept → slice_get kept k ≡ Some b → new ≡ flags ++ b ∷ [] → new ≡ take (k + 1) kept
flag_more kept flags new k b so_far at more =
    more
    ∙ ap (λ front. front ++ b ∷ []) so_far
    ∙ ap (λ here. take k kept ++ here ∷ []) (sym (get_or_from_slice_get kept k b false at))
    ∙ sym (take_more kept k false (slice_get_within kept k b at))

pub loop-index-preserved : goal.loop-index-preserved
loop-index-preserved c =
    flag_more c.args.kept.now c.loop-index.flags.items c.push.new.self.items c.loop-index.index c.has.result c.loop-index.invariant c.has.ensures c.in_ok-push.ensures.items
