use Rattle.std.proofs.Common.{◌≡◌, ℕ, ◌<◌, ◌^◌, ◌++◌, drop, get_or, map, All, Vec, Global}
use Rattle.proof_text.specs.Words.{parted}
use Rattle.cert_text.specs.Lines.{elements_word}
use Rattle.cert_text.proofs.pieces.put_sets.Given as goal

-- what is put so far and the sets to come are what all of them put
abbrev pub invariant-loop-set : goal.invariant-loop-set
invariant-loop-set l = record {
  text :
      l.out.items ++ parted 32 (map elements_word (map (λ v. v.items) (drop l.set-index l.sets)))
      ≡ l.fn.out.items ++ parted 32 (map elements_word (map (λ v. v.items) l.sets));
  small : (k : ℕ) (d : Vec ℕ Global) → k < l.set-index → All (λ x. x < 2 ^ 32) (get_or l.sets k d).items;
}
