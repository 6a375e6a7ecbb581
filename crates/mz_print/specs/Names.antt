-- Top-level names, as the code has them.
use Rattle.std.specs.Prelude.{ℕ, List, map, Option}
use Rattle.std.specs.Option.{option_map}
use Rattle.mz_eval_cells.specs.Views.{cell_of}
use Rattle.mz_value.specs.Contents.{content}
use Rattle.mz_value.specs.declared.value.Value.{Value}
use Rattle.mz_meaning.specs.Cells.{Env}
use Rattle.mz_meaning.specs.Walk.{Assignment}
use Rattle.mz_print.specs.Output.{OutputName, assigned, output_env, variable_slots}
use Rattle.mz_print.specs.Lines.{place_of}
use Rattle.mz_print.specs.declared.names.TopName.{TopName}

abbrev pub top_name : TopName → OutputName
top_name x = record { slot = x.slot; fixed = option_map cell_of x.fixed }

abbrev pub top_names : List TopName → List OutputName
top_names xs = map top_name xs

-- the place of a name's slot
abbrev pub place_in : List ℕ → OutputName → Option ℕ
place_in slots x = place_of x.slot slots

-- what a solution's values, in the order of the decision variables, give the names
abbrev pub values_of : List TopName → List Value → Assignment
values_of xs vs = assigned (variable_slots (top_names xs)) (map content vs)

-- and the cells of all names under it
abbrev pub cells_for : List TopName → List Value → Env
cells_for xs vs = output_env (values_of xs vs) (top_names xs)
