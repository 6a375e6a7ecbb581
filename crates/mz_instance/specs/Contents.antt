-- What the values of a cell's parts stand for.
use Rattle.std.specs.Prelude.{ℤ, pos, Bool, List, Some, None, if◌then◌else◌}
use Rattle.std.specs.Ordering.{int_eq}
use Rattle.mz_value.specs.Ranges.{Range}
use Rattle.mz_value.specs.Contents.{Content}
use Rattle.mz_value.specs.Contents as values
use Rattle.mz_core.specs.declared.types.Base.{Base}
use Rattle.mz_core.specs.declared.types.Base.TheVariants as base

-- a truth value is true where it is 1
abbrev pub is_one : ℤ → Bool
is_one n = int_eq n (pos 1)

-- a number, or a set, as a value of a base
abbrev pub content_by : Base → ℤ → List Range → Content
content_by base.Bool n s = values.bool (is_one n)
content_by (base.Enum e) n s = values.case e n
content_by base.SetInt n s = values.set None s
content_by (base.SetEnum e) n s = values.set (Some e) s
content_by b n s = values.int n

-- an option's value, where its occurrence is the first number
abbrev pub option_by : Base → ℤ → ℤ → List Range → Content
option_by b o n s = if is_one o then content_by b n s else values.absent
