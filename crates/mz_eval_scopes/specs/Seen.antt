-- What worlds and scopes are under a reading.
use Rattle.std.specs.Prelude.{map}
use Rattle.mz_value.specs.Contents.{case_names}
use Rattle.mz_core.specs.Program.{function}
use Rattle.mz_eval_cells.specs.Views.{seen}
use Rattle.mz_meaning.specs.Cells as cells
use Rattle.mz_meaning.specs.Contexts as contexts
use Rattle.mz_meaning.specs.Forms as forms
use Rattle.mz_symbol.specs.Readings.{Reading}
use Rattle.mz_eval_scopes.specs.declared.types.Context.{Context}
use Rattle.mz_eval_scopes.specs.declared.types.Context.TheVariants as context
use Rattle.mz_eval_scopes.specs.declared.types.World.{World}
use Rattle.mz_eval_scopes.specs.declared.types.Scope.{Scope}
use Rattle.mz_eval_scopes.specs.Views.{text_entry, env_cells_by, env_by}

abbrev pub world_seen : Reading → World → forms.World
world_seen r w = record {
  functions = map function w.program.now.functions.items;
  cases = case_names w.program.now.cases;
  texts = map text_entry w.program.now.texts.items;
  budget = w.budget;
  int_range = w.int_range;
  top = env_cells_by (seen r) w.env.now;
  mode = r.mode;
}

abbrev pub env_seen : Reading → World → Scope → cells.Env
env_seen r w s = env_by (seen r) w s

abbrev pub ctx_of : Context → contexts.Context
ctx_of context.Untested = contexts.Untested
ctx_of context.Positive = contexts.Positive
ctx_of context.Other = contexts.Other
