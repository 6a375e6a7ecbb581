use Rattle.std.proofs.Common.{arith, w64, ◌≡◌, ◌+ℤ◌, option_map}
use Rattle.std.proofs.lemmas.Int.{ints}
use Rattle.mz_interval.specs.Ends.{if_in_limit}
use Rattle.mz_interval.specs.Rows.{sum_of}
use Rattle.mz_interval.specs.Interval.{ends}
use Rattle.mz_interval.proofs.BitsRead.{read_back}
use Rattle.mz_interval.proofs.Limits.{some_row, some_encloses}
use Rattle.mz_interval.proofs.interval.Interval.add.Goals as goal
use Rattle.mz_interval.proofs.interval.Interval.add.Goals.{After-new}

row : (c : After-new) → option_map ends c.new.result ≡ if_in_limit (sum_of (ends c.args.self) (ends c.args.o))
row c =
    some_row c.new.result (read_back w64 (read_back w64 c.args.self.lo +ℤ read_back w64 c.args.o.lo)) (read_back w64 (read_back w64 c.args.self.hi +ℤ read_back w64 c.args.o.hi)) (sum_of (ends c.args.self) (ends c.args.o)) c.new.ensures (omega (arith, ints)) (omega (arith, ints)) (omega (arith, ints))

pub returns-clause-row : goal.returns-clause-row
returns-clause-row c = row (goal.at.returns-clause-row c).After-new

pub returns-clause-encloses : goal.returns-clause-encloses
returns-clause-encloses c x y p q =
    some_encloses c.new.result (sum_of (ends c.args.self) (ends c.args.o)) (x +ℤ y) (row (goal.at.returns-clause-encloses c).After-new) (record { from = omega (arith, ints); to = omega (arith, ints) })
