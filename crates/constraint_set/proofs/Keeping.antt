-- What every problem keeps, from what it was made of.
use Rattle.std.proofs.Common.{◌≡◌, ℕ, Bool, List, length, ap, arith}
use Rattle.rcc5_core.specs.declared.RelSet.{RelSet}
use Rattle.taxon_tree.specs.Trees.{Trees}
use Rattle.world_model.specs.Problem.{Problem, Constraint}
use Rattle.constraint_set.specs.Build.{owners_from}
use Rattle.constraint_set.specs.Facts.{IsMadeOf, IsBuilt}
use Rattle.constraint_set.specs.Sets.{IsState}
use Rattle.constraint_set.specs.Shape.{with_state}
use Rattle.constraint_set.proofs.Gathering.{length-owners_from, valid_shape}
use Rattle.constraint_set.proofs.Laying.{IsLaid, owners_ascend, names_apart, parents_within, listed, once, no_cycle}

-- what every problem keeps
pub built : (shape : Problem) (flags : List Bool) (kept_sets : List (ℕ × RelSet)) (narrowings : List Constraint) (narrowed_sets : List (ℕ × RelSet)) →
    (forests : List Trees) × IsMadeOf shape forests → IsState shape flags kept_sets narrowings narrowed_sets → IsBuilt (with_state shape flags narrowings)
built shape flags kept_sets narrowings narrowed_sets made s =
    let p = with_state shape flags narrowings in
    let fs = made.0 in
    let m : IsMadeOf p fs = record { can = made.1.can; forests_hold = made.1.forests_hold; made = made.1.made } in
    let owners : p.owners ≡ owners_from 0 fs = ap (λ (q : Problem). q.owners) m.made in
    let laid : IsLaid p fs = record {
      forests = m.forests_hold;
      names = ap (λ (q : Problem). q.names) m.made;
      owners = owners;
      parents = ap (λ (q : Problem). q.parents) m.made;
      children = ap (λ (q : Problem). q.children) m.made;
    } in
    record {
      valid = valid_shape p fs m s.flags_counted s.about_pairs;
      made = (fs, m);
      two = omega (arith, m.can.named, m.can.two);
      eight = omega (arith, m.can.named, m.can.eight);
      concepts = omega (arith, ap length owners, length-owners_from 0 fs, m.can.concepts);
      few = m.can.few;
      said = m.can.said;
      owners_ascend = owners_ascend p fs laid;
      names_apart = names_apart p fs laid;
      parents_within = parents_within p fs laid;
      listed = listed p fs laid;
      once = once p fs laid;
      no_cycle = no_cycle p fs laid;
    }
