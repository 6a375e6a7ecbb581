use Rattle.std.proofs.Common.{◌≡◌, ◌-◌, ℕ, drop, length, map}
use Rattle.mz_value.specs.Contents.{content}
use Rattle.mz_eval_scopes.specs.Views.{env_cells}
use Rattle.mz_print.specs.Output.{assigned, output_env, variable_slots}
use Rattle.mz_print.specs.Names.{top_names}
use Rattle.mz_print.proofs.env.output_env.Given as goal

abbrev pub invariant-loop-turn : goal.invariant-loop-turn
invariant-loop-turn l = (n : ℕ) → env_cells l.env n ≡ output_env (assigned (variable_slots (top_names l.names)) (map content l.values)) (drop (length l.names - l.turn) (top_names l.names)) n
