-- What the code's scalars stand for.
use Rattle.mz_value.specs.Contents.{Content, bool, int, case}
use Rattle.mz_builtin_values.specs.declared.outcome.Scalar.{Scalar}
use Rattle.mz_builtin_values.specs.declared.outcome.Scalar.TheVariants.{Truth, Number, Case}

abbrev pub scalar_content : Scalar → Content
scalar_content (Truth b) = bool b
scalar_content (Number n) = int n
scalar_content (Case e k) = case e k
