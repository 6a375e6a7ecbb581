-- What an evaluation without values gives, from the clause under each reading.
use Rattle.std.proofs.Common.{◌≡◌, ◌∙◌, ℕ, Option, Some, None, Result, Ok, Err, map, slice_get, refl, sym, ap}
use Rattle.std.proofs.Math.Path.{fun_ext}
use Rattle.mz_base.specs.declared.stop.Stop.{Stop}
use Rattle.mz_base.specs.declared.stop.Stop.TheVariants.{Refused, Memory}
use Rattle.mz_value.specs.Contents.{case_names}
use Rattle.mz_core.specs.Program.{function}
use Rattle.mz_core.specs.Tree.{Tree}
use Rattle.mz_arena.specs.Arenas.{IsArena}
use Rattle.mz_meaning.specs.Runs.{State, Answer, Out}
use Rattle.mz_meaning.specs.Cells as cells
use Rattle.mz_meaning.specs.Cells.{Cell, Bare}
use Rattle.mz_meaning.specs.Contexts.{Untested}
use Rattle.mz_meaning.specs.Evaluation.{eval}
use Rattle.mz_symbol.specs.Runs.{Run}
use Rattle.mz_symbol.specs.Readings.{bare}
use Rattle.mz_symbol.specs.Makes.{Means}
use Rattle.mz_symbol.proofs.ReadingLaws.{bare_reads}
use Rattle.mz_eval_cells.specs.declared.types.Known.{Known}
use Rattle.mz_eval_cells.specs.declared.types.Known.TheVariants as known
use Rattle.mz_eval_cells.specs.Views.{cell_of, seen}
use Rattle.mz_eval_scopes.specs.declared.types.Env.{Env}
use Rattle.mz_eval_scopes.specs.declared.types.World.{World}
use Rattle.mz_eval_scopes.specs.Runs.{Meets, at_work}
use Rattle.mz_eval_scopes.specs.Seen.{world_seen}
use Rattle.mz_eval_scopes.specs.Views.{text_entry, env_cells, env_cells_by, known_by, known_if, world_of}

cell_blind : (s : Run) (k : Known) → seen (bare s) k ≡ cell_of k
cell_blind s known.Undefined = refl
cell_blind s (known.One i) = refl
cell_blind s (known.Array ix xs) = refl
cell_blind s (known.Var x) = refl
cell_blind s (known.Row ix xs) = refl
cell_blind s (known.Unshaped d) = refl

name_blind : (s : Run) (o : Option Known) → known_by (seen (bare s)) o ≡ known_if o
name_blind s None = refl
name_blind s (Some k) = cell_blind s k

names_blind : (s : Run) (e : Env) → env_cells_by (seen (bare s)) e ≡ env_cells e
names_blind s e = fun_ext (λ k. name_blind s (slice_get e.cells.items k))

-- an evaluation without values over these names
abbrev eval_over : World → ℕ → Tree → State → cells.Env → Answer Cell
eval_over w left e s top = eval (record {
  functions = map function w.program.now.functions.items;
  cases = case_names w.program.now.cases;
  texts = map text_entry w.program.now.texts.items;
  budget = w.budget;
  int_range = w.int_range;
  top = top;
  mode = Bare;
}) left Untested e top s

pub blind : (w : World) (left : ℕ) (e : Tree) (x : Result Known Stop) (old new : Run) → IsArena new.arena → Means seen x old new (λ r. eval (world_seen r w) left Untested e (env_cells_by (seen r) w.env.now)) → Meets cell_of x new.work (eval (world_of w) left Untested e (env_cells w.env.now) (at_work old.work))
blind w left e (Ok k) old new a h = ap (eval_over w left e (at_work old.work)) (sym (names_blind new w.env.now)) ∙ h (bare new) (bare_reads new a) ∙ ap (λ c. Out c (at_work new.work)) (cell_blind new k)
blind w left e (Err (Refused f)) old new a h = ap (eval_over w left e (at_work old.work)) (sym (names_blind new w.env.now)) ∙ h (bare new) (bare_reads new a)
blind w left e (Err Memory) old new a h = tt
