-- What is settled as marks come and go.
use Rattle.std.proofs.Common.{ℕ, ◌≤◌, List, get_or, arith}
use Rattle.lits_core.specs.Literals.{negation_of}
use Rattle.clause_arena.specs.Records.{Record, record_at}
use Rattle.watch_arena.specs.Engines.{IsReasonBelow, IsSettledAt}
use Rattle.watch_arena.proofs.Marks.{MarksGrow, TrueBelow-grown, TrueBelow-only}

-- as places come
pub IsSettledAt-grown : (records : List Record) (shorts old new : List ℕ) (count h s n : ℕ) → MarksGrow old new count → h ≤ count → IsSettledAt records shorts old h s n → (more : ℕ) → n ≤ more → IsSettledAt records shorts new h s more
IsSettledAt-grown records shorts old new count h s n g below p more le = record {
  within = (let first = p.within in omega arith);
  watched = λ at a b live w false_now. TrueBelow-grown old new count n more b g le (p.watched at a b live w (TrueBelow-only old new count h (negation_of a) g below false_now));
  alone = record {
    within = p.alone.within;
    each = λ at live short. let one = p.alone.each at live short in record {
      index = one.index;
      within = one.within;
      found = one.found;
      settled = λ lt. let was = one.settled lt in (was.0, TrueBelow-grown old new count n more (get_or (record_at records at).lits 0 0) g le was.1);
    };
  };
}

-- as places go
pub IsSettledAt-shrunk : (records : List Record) (shorts old new : List ℕ) (count h s n : ℕ) → MarksGrow new old count → n ≤ count → IsSettledAt records shorts old h s n → IsSettledAt records shorts new h s n
IsSettledAt-shrunk records shorts old new count h s n g le p = record {
  within = p.within;
  watched = λ at a b live w false_now. TrueBelow-only new old count n b g le (p.watched at a b live w (TrueBelow-grown new old count h h (negation_of a) g (omega arith) false_now));
  alone = record {
    within = p.alone.within;
    each = λ at live short. let one = p.alone.each at live short in record {
      index = one.index;
      within = one.within;
      found = one.found;
      settled = λ lt. let was = one.settled lt in (was.0, TrueBelow-only new old count n (get_or (record_at records at).lits 0 0) g le was.1);
    };
  };
}

-- a reason stays one as places come
pub IsReasonBelow-grown : (r : Record) (old new : List ℕ) (count n lit : ℕ) → MarksGrow old new count → IsReasonBelow r old n lit → IsReasonBelow r new n lit
IsReasonBelow-grown r old new count n lit g p = record {
  live = p.live;
  has = p.has;
  others = λ m in_it differs. TrueBelow-grown old new count n n (negation_of m) g (omega arith) (p.others m in_it differs);
}

-- and as later places go
pub IsReasonBelow-shrunk : (r : Record) (old new : List ℕ) (count n lit : ℕ) → MarksGrow new old count → n ≤ count → IsReasonBelow r old n lit → IsReasonBelow r new n lit
IsReasonBelow-shrunk r old new count n lit g le p = record {
  live = p.live;
  has = p.has;
  others = λ m in_it differs. TrueBelow-only new old count n (negation_of m) g le (p.others m in_it differs);
}
