-- Mirror of src/lists.rt; private clauses only.
use Rattle.mz_interval.specs.Ends.{Ends, hull_of}
use Rattle.mz_interval.specs.Rows.{sum_of, product_of}
use Rattle.mz_operations.specs.declared.row.Fold.{Fold}
use Rattle.mz_operations.specs.declared.row.Fold.TheVariants.{Sum, SumOfOptions, Product}
use Rattle.mz_operations.specs.Bounds.{nothing}

-- one step of a sum or product, without the limit
abbrev pub taken_in : Fold → Ends → Ends → Ends
taken_in Sum acc e = sum_of acc e
taken_in SumOfOptions acc e = sum_of acc (hull_of nothing e)
taken_in Product acc e = product_of acc e
