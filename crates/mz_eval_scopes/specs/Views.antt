-- What worlds and scopes stand for.
use Rattle.std.specs.Prelude.{ℕ, ℤ, List, map, Option, Some, None, slice_get}
use Rattle.mz_value.specs.declared.value.TextValue.{TextValue}
use Rattle.mz_value.specs.Contents.{case_names, text_bytes}
use Rattle.mz_core.specs.Program.{PlainProgram, function}
use Rattle.mz_eval_cells.specs.declared.types.Known.{Known}
use Rattle.mz_eval_cells.specs.Views.{cell_of}
use Rattle.mz_meaning.specs.Cells as cells
use Rattle.mz_meaning.specs.Cells.{Cell, Bare, undefined, bind, bind_all}
use Rattle.mz_meaning.specs.Forms as forms
use Rattle.mz_eval_scopes.specs.declared.types.Env.{Env}
use Rattle.mz_eval_scopes.specs.declared.types.World.{World}
use Rattle.mz_eval_scopes.specs.declared.types.Scope.{Scope}
use Rattle.mz_eval_scopes.specs.declared.types.Scope.TheVariants.{Top, Bound', Frame'}

-- how cells in code are seen
abbrev pub View : Type 0
View = Known → Cell

abbrev pub known_by : (Known → Cell) → Option Known → Cell
known_by see None = undefined
known_by see (Some k) = see k

abbrev pub known_if : Option Known → Cell
known_if o = known_by cell_of o

abbrev pub env_cells_by : (Known → Cell) → Env → cells.Env
env_cells_by see e = λ k. known_by see (slice_get e.cells.items k)

-- the cell of each slot
abbrev pub env_cells : Env → cells.Env
env_cells e = env_cells_by cell_of e

-- the world of an evaluation without values: a program, its budget, the range of a free `int`, and the cells of top-level names
abbrev pub world_for : PlainProgram → ℕ → ℤ → cells.Env → forms.World
world_for p budget n top = record { functions = p.functions; cases = p.cases; texts = p.texts; budget = budget; int_range = n; top = top; mode = Bare }

-- a text literal's name and its text
abbrev pub text_entry : ℕ × TextValue → ℕ × List ℕ
text_entry t = (t.0, text_bytes t.1)

abbrev pub world_of : World → forms.World
world_of w = record {
  functions = map function w.program.now.functions.items;
  cases = case_names w.program.now.cases;
  texts = map text_entry w.program.now.texts.items;
  budget = w.budget;
  int_range = w.int_range;
  top = env_cells w.env.now;
  mode = Bare;
}

abbrev pub env_by : (Known → Cell) → World → Scope → cells.Env
env_by see w Top = env_cells_by see w.env.now
env_by see w (Bound' slot k p rest) = bind slot (see k.now) (env_by see w rest)
env_by see w (Frame' slots ks p rest) = bind_all slots.now (map see ks.now) (env_by see w rest)

abbrev pub env_of : World → Scope → cells.Env
env_of w s = env_by cell_of w s
