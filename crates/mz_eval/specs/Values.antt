-- The value of a par expression.
use Rattle.std.specs.Prelude.{ℤ, ◌-◌, Option}
use Rattle.mz_base.specs.Counts.{Spending, Nesting}
use Rattle.mz_value.specs.Contents.{Content}
use Rattle.mz_core.specs.Program.{PlainProgram}
use Rattle.mz_core.specs.Tree.{Tree}
use Rattle.mz_meaning.specs.Runs.{Answer, give, then_do}
use Rattle.mz_meaning.specs.Cells.{Env, value_of}
use Rattle.mz_meaning.specs.Contexts.{Untested}
use Rattle.mz_meaning.specs.Evaluation.{eval}
use Rattle.mz_eval_scopes.specs.Runs.{at_work}
use Rattle.mz_eval_scopes.specs.Views.{world_for}

-- in the scope of a program's top-level names, after the steps that are spent and below what is open
abbrev pub value_in : PlainProgram → ℤ → Env → Spending → Nesting → Tree → Answer (Option Content)
value_in p n env s d e = then_do (eval (world_for p s.budget n env) (d.limit - d.nesting) Untested e env (at_work s.used)) (λ c. give (value_of c))
