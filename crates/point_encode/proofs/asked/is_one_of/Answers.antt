use Rattle.std.proofs.Common.{◌≡◌, ℕ, Option, Some, None, refl, arith}
use Rattle.std.specs.Prelude.{Contains}
use Rattle.point_encode.specs.Needs.{lits_there}
use Rattle.point_encode.proofs.asked.is_one_of.Goals as goal

-- a literal that is there is one of those that are there
first_there : (a b : Option ℕ) (lit : ℕ) → a ≡ Some lit → Contains (lits_there a b) lit
first_there a None lit is = rw is (0, omega arith, refl)
first_there a (Some b) lit is = rw is (0, omega arith, refl)

second_there : (a b : Option ℕ) (lit : ℕ) → b ≡ Some lit → Contains (lits_there a b) lit
second_there None b lit is = rw is (0, omega arith, refl)
second_there (Some a) b lit is = rw is (1, omega arith, refl)

pub returns-then-is_it : goal.returns-then-is_it
returns-then-is_it c = λ yes. first_there c.args.first c.args.second c.args.lit (c.is_it.ensures c.if-is_it.true)

pub returns : goal.returns
returns c = λ yes. second_there c.args.first c.args.second c.args.lit (c.is_it-2.ensures yes)
