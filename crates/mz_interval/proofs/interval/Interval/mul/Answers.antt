use Rattle.std.proofs.Common.{arith, ◌≡◌, ◌∙◌, ◌*ℤ◌, option_map, ap, subst, sym, ◌≤ℤ◌}
use Rattle.std.proofs.lemmas.Int.{ints, clamps}
use Rattle.mz_interval.specs.Ends.{Ends, if_in_limit}
use Rattle.mz_interval.specs.Rows.{product_of}
use Rattle.mz_interval.specs.Interval.{ends}
use Rattle.mz_interval.proofs.Limits.{some_encloses}
use Rattle.mz_interval.proofs.Products.{product_of-encloses}
use Rattle.mz_interval.proofs.interval.Interval.mul.Goals as goal
use Rattle.mz_interval.proofs.interval.Interval.mul.Goals.{After-product_ends, After-narrowed}

is : (c : After-product_ends) → c.product_ends.result ≡ product_of (ends c.args.self) (ends c.args.o)
is c = c.product_ends.ensures ∙ (λ t. product_of (c.pair.ensures t) (c.pair-2.ensures t))

ordered : (e f : Ends) → (product_of e f).0 ≤ℤ (product_of e f).1
ordered e f = omega (arith, ints, clamps)

pub narrowed-requires : goal.narrowed-requires
narrowed-requires c = subst (λ (e : Ends). e.0 ≤ℤ e.1) (sym (is c)) (ordered (ends c.args.self) (ends c.args.o))

row : (c : After-narrowed) → option_map ends c.narrowed.result ≡ if_in_limit (product_of (ends c.args.self) (ends c.args.o))
row c = c.narrowed.ensures ∙ ap if_in_limit (is c.before)

pub returns-clause-row : goal.returns-clause-row
returns-clause-row c = row (goal.at.returns-clause-row c).After-narrowed

pub returns-clause-encloses : goal.returns-clause-encloses
returns-clause-encloses c x y p q =
    some_encloses c.narrowed.result (product_of (ends c.args.self) (ends c.args.o)) (x *ℤ y) (row (goal.at.returns-clause-encloses c).After-narrowed) (product_of-encloses (ends c.args.self) (ends c.args.o) x y p q)
