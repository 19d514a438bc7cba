-- The bits of a point of a prefix: the point, and then the selectors of the prefix and no others.
use Rattle.std.proofs.Common.{◌≡◌, ℕ, zero, suc, ◌+◌, ◌*◌, ◌<◌, Bool, true, false, List, [], ◌∷◌, ◌++◌, map, take, length, get_or, inl, inr, refl, sym, ap, ◌∙◌, subst, arith}
use Rattle.std.specs.List.{list_all}
use Rattle.std.proofs.lemmas.Bool.{eqb-true, eq-eqb, both_ways}
use Rattle.std.proofs.lemmas.List.{length-append, length-map, length-take-le, get_or-map, get_or-append-add, get_or_append_left}
use Rattle.std.proofs.lemmas.Option.{slice_get_within}
use Rattle.std.proofs.Math.Seq.{take-append_seam}
use Rattle.rcc5_core.specs.declared.Rel.{Rel}
use Rattle.rcc5_core.specs.declared.Region.{Region}
use Rattle.rcc5_core.specs.declared.Region.TheVariants.{LeftOnly, Both, RightOnly}
use Rattle.rcc5_core.specs.declared.Regions.{Regions}
use Rattle.rcc5_core.specs.declared.Occupancy.TheVariants.{Empty}
use Rattle.rcc5_core.specs.Region.{all_regions, word_at, same_word, forced_regions}
use Rattle.lits_core.specs.Literals.{lit_true, meets_all}
use Rattle.world_model.specs.Problem.{Problem, concept_count, pairs, pair_count, kept_sums}
use Rattle.world_model.specs.Family.{implies}
use Rattle.world_model.specs.Alive.{bit_of, point_within, point_apart, point_covered, lies_in, allowed, forced_of, forced_pairs, problem_at, point_sums, is_point}
use Rattle.world_model.specs.Node.{pair_at}
use Rattle.world_model.proofs.Members.{In-get_or, all_at, all_from, place_of}
use Rattle.world_model.proofs.PointSets.{Forces}
use Rattle.world_model.proofs.PointRules.{Structured, structure_parts, structure_whole}
use Rattle.world_model.proofs.PointAlive.{point_parts, point_whole}
use Rattle.constraint_set.specs.Facts.{IsBuilt}
use Rattle.constraint_set.specs.Readers.{sum_places, all_sums}
use Rattle.constraint_set.proofs.Sums.{places_counted}
use Rattle.point_encode.specs.Model.Clauses.{first_sum_selector, given_clauses, variable_count}
use Rattle.point_encode.specs.Model.Forced.{region_number, selectors_of}
use Rattle.point_encode.specs.Model.Laws.{Obeys, Extends}
use Rattle.point_encode.proofs.model.Bits.{so_true}
use Rattle.point_encode.proofs.model.Groups.{obey_from, obey_to}
use Rattle.point_encode.proofs.model.Selectors.{flag_of, from_selectors, In-region_selectors, In-sum_selectors, sum_kept, kept_flag}

-- bits that obey, with the selectors of a prefix true, are of a point of the prefix
pub point_from : (p : Problem) → IsBuilt p → (m : List Rel) (bits : List Bool) → length bits ≡ variable_count p → meets_all bits (given_clauses p) ≡ true →
    list_all (lit_true bits) (selectors_of p m) ≡ true → is_point (problem_at p m) (take (concept_count p) bits) ≡ true
point_from p built m bits counted given selected =
    let n = concept_count p in
    let o = obey_from p built bits given in
    let full : length (take n bits) ≡ n = length-take-le n bits (omega arith) in
    point_whole (problem_at p m) (take n bits) (record {
      structure = structure_whole (problem_at p m) (take n bits) (record {
        full = eq-eqb (length (take n bits)) n full;
        within = o.within;
        apart = o.apart;
        covered = o.covered;
        summed = all_from (point_sums (take n bits)) (kept_sums p) (λ s i.
            let f = kept_flag p s i in
            o.sums f.sum s f.at (all_at (lit_true bits) selected (In-sum_selectors p m f.sum f.within f.on)));
      });
      apart = λ pair region i f.
          let r = place_of i in
          let at : pair_at p r.place ≡ pair = r.is (0, 0) in
          let on = all_at (lit_true bits) selected (In-region_selectors p m r.place region r.within (subst (λ q. Forces (allowed (problem_at p m) q) region false) (sym at) f)) in
          none (lies_in region pair (take n bits)) (λ lies. o.regions r.place region r.within on (ap (λ q. lies_in region q (take n bits)) at ∙ lies));
    })
  where
    none : (b : Bool) → (b ≡ true → ⊥) → b ≡ false
    none true h = absurd (h refl)
    none false h = refl

-- whether each region of each pair is forced empty
abbrev region_bits : List ((ℕ × ℕ) × Regions) → List Bool
region_bits [] = []
region_bits (entry ∷ rest) = map (λ region. same_word (word_at entry.1 region) Empty) all_regions ++ region_bits rest

region_bits_counted : (q : Problem) (ps : List (ℕ × ℕ)) → length (region_bits (forced_of q ps)) ≡ 3 * length ps
region_bits_counted q [] = omega arith
region_bits_counted q (pair ∷ ps) = omega (arith, region_bits_counted q ps)

region_bit : (q : Problem) (ps : List (ℕ × ℕ)) (k : ℕ) (region : Region) → k < length ps →
    get_or (region_bits (forced_of q ps)) (3 * k + region_number region) false ≡ same_word (word_at (forced_regions (allowed q (get_or ps k (0, 0)))) region) Empty
region_bit q [] k region within = absurd (omega arith)
region_bit q (pair ∷ ps) zero LeftOnly within = refl
region_bit q (pair ∷ ps) zero Both within = refl
region_bit q (pair ∷ ps) zero RightOnly within = refl
region_bit q (pair ∷ ps) (suc k) region within =
    let e : 3 * suc k + region_number region ≡ suc (suc (suc (3 * k + region_number region))) = omega arith in
    ap (λ x. get_or (region_bits (forced_of q (pair ∷ ps))) x false) e ∙ region_bit q ps k region (omega arith)

-- whether each sum is kept
abbrev sum_bits : Problem → List Bool
sum_bits p = map (λ place. get_or p.kept place false) (sum_places p)

abbrev witness : Problem → List Rel → List Bool → List Bool
witness p m point = point ++ (region_bits (forced_pairs (problem_at p m)) ++ sum_bits p)

-- a region's number is one of three
below_three : (region : Region) → region_number region < 3
below_three LeftOnly = omega arith
below_three Both = omega arith
below_three RightOnly = omega arith

witness_region : (p : Problem) (m : List Rel) (point : List Bool) → length point ≡ concept_count p → (k : ℕ) (region : Region) → k < pair_count p →
    bit_of (witness p m point) (concept_count p + 3 * k + region_number region) ≡ same_word (word_at (forced_regions (allowed (problem_at p m) (pair_at p k))) region) Empty
witness_region p m point full k region within =
    let regions = region_bits (forced_pairs (problem_at p m)) in
    let place = 3 * k + region_number region in
    let e : concept_count p + 3 * k + region_number region ≡ length point + place = omega arith in
    let counted = region_bits_counted (problem_at p m) (pairs p) in
    let inside : place < length regions = omega (arith, counted, below_three region) in
    ap (bit_of (witness p m point)) e ∙ get_or-append-add point (regions ++ sum_bits p) place false ∙ get_or_append_left regions (sum_bits p) false place inside
    ∙ region_bit (problem_at p m) (pairs p) k region within

witness_sum : (p : Problem) (m : List Rel) (point : List Bool) → length point ≡ concept_count p → (j : ℕ) → j < length (sum_places p) →
    bit_of (witness p m point) (first_sum_selector p + j) ≡ flag_of p.kept (sum_places p) j
witness_sum p m point full j within =
    let regions = region_bits (forced_pairs (problem_at p m)) in
    let counted : length regions ≡ 3 * pair_count p = region_bits_counted (problem_at p m) (pairs p) in
    let e : first_sum_selector p + j ≡ length point + (length regions + j) = omega arith in
    ap (bit_of (witness p m point)) e ∙ get_or-append-add point (regions ++ sum_bits p) (length regions + j) false ∙ get_or-append-add regions (sum_bits p) j false
    ∙ get_or-map (λ place. get_or p.kept place false) (sum_places p) j 0 false within

-- each point of a prefix comes of bits that meet the clauses, with the selectors of the prefix true
pub bits_of : (p : Problem) → IsBuilt p → (m : List Rel) (point : List Bool) → is_point (problem_at p m) point ≡ true → (bits : List Bool) × Extends p m point bits
bits_of p built m point h =
    let q = point_parts (problem_at p m) point h in
    let s : Structured (problem_at p m) point = structure_parts (problem_at p m) point q.structure in
    let n = concept_count p in
    let full : length point ≡ n = eqb-true (length point) n s.full in
    let bits = witness p m point in
    let regions = region_bits (forced_pairs (problem_at p m)) in
    let front : take n bits ≡ point = ap (λ k. take k bits) (sym full) ∙ take-append_seam point (regions ++ sum_bits p) in
    let obeys : Obeys p bits = record {
      within = subst (λ pt. point_within p pt ≡ true) (sym front) s.within;
      apart = subst (λ pt. implies p.switches.sibling (point_apart p pt) ≡ true) (sym front) s.apart;
      covered = subst (λ pt. implies p.switches.coverage (point_covered p pt) ≡ true) (sym front) s.covered;
      regions = λ k region within on lies.
          let forced : Forces (allowed (problem_at p m) (pair_at p k)) region false = record { same = sym (witness_region p m point full k region within) ∙ sym (so_true bits (n + 3 * k + region_number region)) ∙ on } in
          both_ways (lies_in region (pair_at p k) point) (q.apart (pair_at p k) region (In-get_or (pairs p) k (0, 0) within) forced) (ap (lies_in region (pair_at p k)) (sym front) ∙ lies);
      sums = λ j sum at on.
          let within : j < length (sum_places p) = omega (arith, slice_get_within (all_sums p) j sum at, places_counted p) in
          let flag : flag_of p.kept (sum_places p) j ≡ true = sym (witness_sum p m point full j within) ∙ sym (so_true bits (first_sum_selector p + j)) ∙ on in
          ap (λ pt. point_sums pt sum) front ∙ all_at (point_sums point) s.summed (sum_kept p j sum at flag);
    } in (
      bits,
      record {
        counted = omega (arith, length-append point (regions ++ sum_bits p), length-append regions (sum_bits p), region_bits_counted (problem_at p m) (pairs p), length-map (sum_places p) (λ place. get_or p.kept place false), places_counted p);
        front = front;
        given = obey_to p built bits obeys;
        selected = all_from (lit_true bits) (selectors_of p m) (λ lit i. elim (from_selectors p m lit i) [
          | inl r ↦ ap (lit_true bits) r.is ∙ so_true bits (n + 3 * r.pair + region_number r.region) ∙ witness_region p m point full r.pair r.region r.within ∙ r.forced.same
          | inr t ↦ ap (lit_true bits) t.is ∙ so_true bits (first_sum_selector p + t.sum) ∙ witness_sum p m point full t.sum t.within ∙ t.on
        ]);
      },
    )
