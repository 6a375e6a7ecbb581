-- Runs that go on, one after the other.
use Rattle.std.proofs.Common.{ℕ, ◌+◌, ◌≤◌, arith}
use Rattle.mz_symbol.specs.Runs.{Run}
use Rattle.mz_symbol.specs.Makes.{GoesOn, GoesOnBy, Spares, owed, earned}

pub goes_both : (n m : ℕ) (old mid new : Run) → GoesOnBy n old mid → GoesOnBy m mid new → GoesOnBy (n + m) old new
goes_both n m old mid new f g = record {
  back = λ r h. f.back r (g.back r h);
  paid = sums (owed old) (owed mid) (owed new) (earned old) (earned mid) (earned new) n m f.paid g.paid;
}
  where
    sums : (a b c x y z n m : ℕ) → b + x ≤ a + y + n → c + y ≤ b + z + m → c + x ≤ a + z + (n + m)
    sums a b c x y z n m p q = omega (arith, p, q)

pub goes_most : (n m : ℕ) (old new : Run) → n ≤ m → GoesOnBy n old new → GoesOnBy m old new
goes_most n m old new h f = record {
  back = f.back;
  paid = more (owed old) (owed new) (earned old) (earned new) n m h f.paid;
}
  where
    more : (a b x y n m : ℕ) → n ≤ m → b + x ≤ a + y + n → b + x ≤ a + y + m
    more a b x y n m p q = omega (arith, p, q)

-- what was saved pays for what is made next
pub goes_drawn : (n : ℕ) (old mid new : Run) → Spares n old mid → GoesOnBy n mid new → GoesOn old new
goes_drawn n old mid new f g = record {
  back = λ r h. f.back r (g.back r h);
  paid = sums (owed old) (owed mid) (owed new) (earned old) (earned mid) (earned new) n f.paid g.paid;
}
  where
    sums : (a b c x y z n : ℕ) → b + x + n ≤ a + y → c + y ≤ b + z + n → c + x ≤ a + z + 0
    sums a b c x y z n p q = omega (arith, p, q)
