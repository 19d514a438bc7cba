use Rattle.std.proofs.Common.{◌∙◌, ap, sym, arith, rules, length, take, drop, ◌++◌, ◌≡◌, List, ℕ, Option, subst}
use Rattle.clause_arena.specs.declared.arena.Head.{Head}
use Rattle.clause_arena.specs.Records.{Record, compacted}
use Rattle.clause_arena.specs.Layout.{records_of, Packs}
use Rattle.clause_arena.specs.Movings.{Movings, place_after, pairs_from, new_ref, AreMoves}
use Rattle.clause_arena.proofs.Pairs.{none-from_no_pairs, new_ref-pairs_from}
use Rattle.clause_arena.proofs.PackInvariant.{Packs-cut, records_of-cut, AreMoves-from_places, written_over}
use Rattle.clause_arena.proofs.arena.Arena.compact.Goals as goal

pub pack-packed-requires-clause-empty : goal.pack-packed-requires-clause-empty
pack-packed-requires-clause-empty c at =
    rw c.deref_mut-3.ensures.value (none-from_no_pairs c.moves.inside.table.items 0 at (ap (λ (m : Movings). m.pairs) c.moves.view_is ∙ c.requires.no_pairs))

heads-are : (c : goal.After-truncate-2) → c.truncate.new.self.items ≡ take c.pack-packed.result.heads c.pack-packed.new.heads
heads-are c =
    c.truncate.ensures.items ∙ ap (take c.pack-packed.result.heads) (written_over c.pack-packed.new.heads c.self.inside.heads.items c.self.inside.heads.len (c.pack-packed.auto.heads ∙ ap length c.deref_mut.ensures.value) (search rules))

codes-are : (c : goal.After-truncate-2) → c.truncate-2.new.self.items ≡ take c.pack-packed.result.codes c.pack-packed.new.codes
codes-are c =
    c.truncate-2.ensures.items ∙ ap (take c.pack-packed.result.codes) (written_over c.pack-packed.new.codes c.self.inside.codes.items c.self.inside.codes.len (c.pack-packed.auto.codes ∙ ap length c.deref_mut-2.ensures.value) (search rules))

table-is : (c : goal.After-truncate-2) → take c.moves.inside.table.len (c.pack-packed.new.table ++ drop (length c.pack-packed.new.table) c.moves.inside.table.items) ≡ c.pack-packed.new.table
table-is c =
    written_over c.pack-packed.new.table c.moves.inside.table.items c.moves.inside.table.len (c.pack-packed.auto.table ∙ ap length c.deref_mut-3.ensures.value) (search rules)

packs : (c : goal.After-truncate-2) → Packs c.self.inside.heads.items c.self.inside.codes.items c.pack-packed.new.heads c.pack-packed.new.codes c.pack-packed.new.table c.pack-packed.result.heads c.pack-packed.result.codes
packs c =
    rw (sym c.deref_mut.ensures.value, sym c.deref_mut-2.ensures.value) c.pack-packed.ensures

kept : (c : goal.After-truncate-2) → records_of c.truncate-2.new.self.items c.truncate.new.self.items ≡ compacted c.args.self.now
kept c =
    ap (λ (codes : List ℕ). records_of codes c.truncate.new.self.items) (codes-are c)
    ∙ ap (λ (heads : List Head). records_of (take c.pack-packed.result.codes c.pack-packed.new.codes) heads) (heads-are c)
    ∙ records_of-cut c.self.inside.heads.items c.self.inside.codes.items c.pack-packed.new.heads c.pack-packed.new.codes c.pack-packed.new.table c.pack-packed.result.heads c.pack-packed.result.codes (packs c)
    ∙ ap compacted c.self.view_is

places : (c : goal.After-truncate-2) (at : ℕ) → new_ref (pairs_from 0 (take c.moves.inside.table.len (c.pack-packed.new.table ++ drop (length c.pack-packed.new.table) c.moves.inside.table.items))) at ≡ place_after c.args.self.now at
places c at =
    ap (λ (table : List (Option ℕ)). new_ref (pairs_from 0 table) at) (table-is c)
    ∙ new_ref-pairs_from c.pack-packed.new.table 0 at at (omega arith)
    ∙ (packs c).places at
    ∙ ap (λ (rs : List Record). place_after rs at) c.self.view_is

pub invariant_of-self : goal.invariant_of-self
invariant_of-self c =
    rw (heads-are c, codes-are c) (Packs-cut c.self.inside.heads.items c.self.inside.codes.items c.pack-packed.new.heads c.pack-packed.new.codes c.pack-packed.new.table c.pack-packed.result.heads c.pack-packed.result.codes (packs c) c.self.invariant.1)

pub returns-clause-kept : goal.returns-clause-kept
returns-clause-kept c = kept c

pub returns-clause-moved : goal.returns-clause-moved
returns-clause-moved c at = places c at

pub returns-clause-leads : goal.returns-clause-leads
returns-clause-leads c at =
    let pairs : List (ℕ × ℕ) = pairs_from 0 (take c.moves.inside.table.len (c.pack-packed.new.table ++ drop (length c.pack-packed.new.table) c.moves.inside.table.items)) in
    subst (λ (rs : List Record). AreMoves pairs c.args.self.now rs) (sym (kept c)) (AreMoves-from_places pairs c.args.self.now (places c)) at
