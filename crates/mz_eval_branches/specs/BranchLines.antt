-- Branches of an array type as lines of the run.
use Rattle.std.specs.Prelude.{ℕ, ◌+◌, ◌*◌, Bool, true, false, Option, Some, None}
use Rattle.mz_value.specs.Contents.{Content}
use Rattle.mz_symbol.specs.Readings.{Reading}
use Rattle.mz_eval_cells.specs.declared.types.Known.{Known}
use Rattle.mz_eval_cells.specs.declared.types.Known.TheVariants as known
use Rattle.mz_eval_cells.specs.declared.types.Origin.{Origin}
use Rattle.mz_eval_cells.specs.declared.types.Origin.TheVariants as origin
use Rattle.mz_eval_cells.specs.declared.types.Origins.{Origins}
use Rattle.mz_eval_cells.specs.declared.types.Origins.TheVariants as origins
use Rattle.mz_eval_symbols.specs.Taken.{line_seen}

-- the line with this number, under the index ranges of a cell; none is undefined
abbrev pub option_seen : Known → Reading → Option ℕ → Option Content
option_seen like r None = None
option_seen like r (Some k) = line_seen like r k

-- nothing tells a value
abbrev pub is_untold : Origin → Bool
is_untold origin.Nothing = true
is_untold o = false

-- nothing tells an array's elements
abbrev pub is_nothing : Origins → Bool
is_nothing origins.Nothing = true
is_nothing o = false

-- a cell that is undefined wherever it is read
abbrev pub has_no_value : Known → Bool
has_no_value known.Undefined = true
has_no_value (known.Unshaped d) = true
has_no_value (known.Var x) = is_untold x.value.origin
has_no_value (known.Row ix xs) = is_nothing xs.value.origins
has_no_value k = false

-- what one branch more may cost, of arrays with n elements
abbrev pub branch_charge : ℕ → ℕ
branch_charge n = 108 * n + 24

-- what k branches and the last may cost
abbrev pub fold_charge : ℕ → ℕ → ℕ
fold_charge n k = k * branch_charge n + 20 * n
