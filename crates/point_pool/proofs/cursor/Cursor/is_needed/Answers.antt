use Rattle.std.proofs.Common.{◌≡◌, ◌<◌, ◌≤◌, ◌/◌, ◌%◌, length, refl, subst, ap, ◌∙◌, arith}
use denote.Enum.Bare.{sameb}
use Rattle.rcc5_core.specs.contracts.Occupancy.{the_type}
use Rattle.rcc5_core.specs.declared.Occupancy.{Occupancy}
use Rattle.rcc5_core.specs.declared.Occupancy.TheVariants.{Empty, Occupied, Free}
use Rattle.rcc5_core.specs.Region.{word_at, same_word}
use Rattle.point_encode.specs.Model.Forced.{region_with}
use Rattle.world_model.specs.Alive.{problem_at}
use Rattle.point_encode.specs.Numbers.{is_needed}
use Rattle.point_pool.proofs.Cursors.{needed_region, needed_concept}
use Rattle.point_pool.proofs.cursor.Cursor.is_needed.Goals as goal

same_occupied : (word : Occupancy) → sameb the_type word Occupied ≡ same_word word Occupied
same_occupied Empty = refl
same_occupied Occupied = refl
same_occupied Free = refl

pub returns-then-pair-len : goal.returns-then-pair-len
returns-then-pair-len c =
    let s = c.self.inside in
    let n = c.args.number in
    let within : n / 3 < length s.at_path.items = omega (arith, s.at_path.ok, c.len.ensures, c.if-pair-len.true) in
    subst (λ s. c.eq.result ≡ is_needed (problem_at s.problem s.path) n) c.self.view_is
    (c.eq.ensures ∙ same_occupied c.word_of.result ∙ ap (λ w. same_word w Occupied) c.word_of.ensures ∙
    ap (λ r. same_word (word_at r (region_with (n % 3))) Occupied) c.index.ensures ∙
    needed_region s.problem s.path.items s.at_path.items n (n / 3) c.index.result.now c.self.invariant.now_forced refl within)

pub returns-else-pair-len : goal.returns-else-pair-len
returns-else-pair-len c =
    let s = c.self.inside in
    let n = c.args.number in
    let past : length s.at_path.items ≤ n / 3 = omega (arith, s.at_path.ok, c.len.ensures, c.if-pair-len.false) in
    subst (λ s. c.switches.result.nonempty ≡ is_needed (problem_at s.problem s.path) n) c.self.view_is
    (ap (λ s. s.nonempty) c.switches.ensures ∙
    needed_concept s.problem s.path.items s.at_path.items n (n / 3) c.self.invariant.now_forced refl past)
