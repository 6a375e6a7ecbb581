use Rattle.std.proofs.Common.{◌≡◌, ◌∙◌, sym, subst, int_rem}
use Rattle.mz_interval.specs.Ends.{Ends, Encloses, IsInterval}
use Rattle.mz_interval.specs.Rows.{remainder_of}
use Rattle.mz_interval.specs.Interval.{ends}
use Rattle.mz_interval.proofs.Limits.{are_interval}
use Rattle.mz_interval.proofs.Remainders.{remainder_of-encloses, remainders_are_interval}
use Rattle.mz_interval.proofs.interval.Interval.modulo.Goals as goal
use Rattle.mz_interval.proofs.interval.Interval.modulo.Goals.{After-remainder_ends, After-interval}

is : (c : After-remainder_ends) → c.remainder_ends.result ≡ remainder_of (ends c.args.self) (ends c.args.o)
is c = c.remainder_ends.ensures ∙ (λ t. remainder_of (c.pair.ensures t) (c.pair-2.ensures t))

pub interval-requires : goal.interval-requires
interval-requires c = subst IsInterval (sym (is c)) (remainders_are_interval (ends c.args.self) (ends c.args.o) (are_interval c.args.self))

pub returns-clause-row : goal.returns-clause-row
returns-clause-row c = c.interval.ensures ∙ is (goal.at.returns-clause-row c).After-remainder_ends

pub returns-clause-encloses : goal.returns-clause-encloses
returns-clause-encloses c x y p q s =
    let row = c.interval.ensures ∙ is (goal.at.returns-clause-encloses c).After-remainder_ends in
    subst (λ (e : Ends). Encloses e (int_rem x y)) (sym row) (remainder_of-encloses (ends c.args.self) (ends c.args.o) x y p q s)
