-- Mirror of src/limits.rt; private clauses only.
use Rattle.std.specs.Prelude.{ℤ, Option, Some, None}
use Rattle.mz_base.specs.declared.kind.Kind.TheVariants.{Bounds}
use Rattle.mz_value.specs.Contents.{Content}
use Rattle.mz_operations.specs.Answers.{Answer, Gives, Stops}

-- a value, where no integer lies outside the limit
abbrev pub unless_outside : Option ℤ → Option Content → Answer
unless_outside None v = Gives v
unless_outside (Some n) v = Stops Bounds n
