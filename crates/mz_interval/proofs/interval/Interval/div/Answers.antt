use Rattle.std.proofs.Common.{◌≡◌, ◌∙◌, sym, subst, int_div}
use Rattle.mz_interval.specs.Ends.{Ends, Encloses, IsInterval}
use Rattle.mz_interval.specs.Rows.{quotient_of}
use Rattle.mz_interval.specs.Interval.{ends}
use Rattle.mz_interval.proofs.Limits.{are_interval}
use Rattle.mz_interval.proofs.Quotients.{quotient_of-encloses, quotients_are_interval}
use Rattle.mz_interval.proofs.interval.Interval.div.Goals as goal
use Rattle.mz_interval.proofs.interval.Interval.div.Goals.{After-quotient_ends, After-interval}

is : (c : After-quotient_ends) → c.quotient_ends.result ≡ quotient_of (ends c.args.self) (ends c.args.o)
is c = c.quotient_ends.ensures ∙ (λ t. quotient_of (c.pair.ensures t) (c.pair-2.ensures t))

pub interval-requires : goal.interval-requires
interval-requires c = subst IsInterval (sym (is c)) (quotients_are_interval (ends c.args.self) (ends c.args.o) (are_interval c.args.self))

pub returns-clause-row : goal.returns-clause-row
returns-clause-row c = c.interval.ensures ∙ is (goal.at.returns-clause-row c).After-quotient_ends

pub returns-clause-encloses : goal.returns-clause-encloses
returns-clause-encloses c x y p q s =
    let row = c.interval.ensures ∙ is (goal.at.returns-clause-encloses c).After-quotient_ends in
    subst (λ (e : Ends). Encloses e (int_div x y)) (sym row) (quotient_of-encloses (ends c.args.self) (ends c.args.o) x y p q s)
