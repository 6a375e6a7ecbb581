-- What a value is as an argument of a row: a truth value that is no option is there always.
use Rattle.std.specs.Prelude.{ℕ, Option, Some, None}
use Rattle.mz_value.specs.Contents.{Content}
use Rattle.mz_value.specs.Contents as values
use Rattle.mz_core.specs.declared.types.Base.{Base}
use Rattle.mz_core.specs.declared.types.Base.TheVariants as base
use Rattle.mz_meaning.specs.Cells.{is_true}

-- a Boolean is false where it is undefined
abbrev pub truth_of : Option Content → Option Content
truth_of v = Some (values.bool (is_true v))

abbrev pub as_argument : Base → Option ℕ → Option Content → Option Content
as_argument base.Bool None v = truth_of v
as_argument b o v = v
