-- Clauses of a node without values, from those under each reading.
use Rattle.std.proofs.Common.{◌≡◌, ◌∙◌, false, List, [], ◌∷◌, Some, Result, Ok, Err, refl, sym, ap}
use Rattle.mz_base.specs.declared.fault.Span.{Span}
use Rattle.mz_base.specs.declared.stop.Stop.{Stop}
use Rattle.mz_base.specs.declared.stop.Stop.TheVariants.{Refused, Memory}
use Rattle.mz_core.specs.Types.{PlainType}
use Rattle.mz_operations.specs.declared.row.Row.{Row}
use Rattle.mz_arena.specs.Arenas.{IsArena}
use Rattle.mz_meaning.specs.Runs as runs
use Rattle.mz_meaning.specs.Runs.{Out}
use Rattle.mz_meaning.specs.Cells.{Cell, Bare, typed}
use Rattle.mz_symbol.specs.Runs.{Run}
use Rattle.mz_symbol.specs.Readings.{Reading, bare, blank, state_of}
use Rattle.mz_symbol.specs.Makes.{Means, MeansBare}
use Rattle.mz_symbol.proofs.ReadingLaws.{bare_reads}
use Rattle.mz_eval_cells.specs.declared.types.Known.{Known}
use Rattle.mz_eval_cells.specs.declared.types.Known.TheVariants as known
use Rattle.mz_eval_cells.specs.Views.{all_seen, seen}
use Rattle.mz_eval_scopes.specs.declared.types.World.{World}
use Rattle.mz_eval_scopes.specs.Seen.{world_seen}
use Rattle.mz_eval_row_symbols.specs.NodeRows.{stamped}
use Rattle.mz_eval_nodes.specs.RowNodes.{IsBlind, node_by}

pub cell_blind : (s : Run) (k : Known) → seen (bare s) k ≡ seen blank k
cell_blind s known.Undefined = refl
cell_blind s (known.One i) = refl
cell_blind s (known.Array ix xs) = refl
cell_blind s (known.Var x) = refl
cell_blind s (known.Row ix xs) = refl
cell_blind s (known.Unshaped d) = refl

cells_blind : (s : Run) (ks : List Known) → all_seen (bare s) ks ≡ all_seen blank ks
cells_blind s [] = refl
cells_blind s (k ∷ ks) = ap (λ c. c ∷ all_seen (bare s) ks) (cell_blind s k) ∙ ap (λ cs. seen blank k ∷ cs) (cells_blind s ks)

-- a node of a row
abbrev pub node_seen : World → Span → PlainType → List Known → Row → Reading → runs.Run Cell
node_seen w place t ks row r = node_by (world_seen r w) place t (all_seen r ks) (Some row)

node_blind : (w : World) (place : Span) (t : PlainType) (ks : List Known) (row : Row) (s : Run) → node_seen w place t ks row (bare s) ≡ node_seen w place t ks row blank
node_blind w place t ks row s = ap (λ cs. node_by (world_seen blank w) place t cs (Some row)) (cells_blind s ks)

bare_follows : (t : PlainType) (x : Result Known Stop) (old new : Run) (m : Reading → runs.Run Cell) → IsArena new.arena → m (bare new) ≡ m blank → Means (stamped t) x old new m → MeansBare (stamped t) x old new m
bare_follows t (Ok k) old new m a n h = ap (λ (f : runs.Run Cell). f (state_of blank old)) (sym n) ∙ h (bare new) (bare_reads new a) ∙ ap (λ c. Out (typed Bare false t c) (state_of blank new)) (cell_blind new k)
bare_follows t (Err (Refused f)) old new m a n h = ap (λ (f : runs.Run Cell). f (state_of blank old)) (sym n) ∙ h (bare new) (bare_reads new a)
bare_follows t (Err Memory) old new m a n h = tt

pub node_bare : (w : World) (place : Span) (t : PlainType) (ks : List Known) (row : Row) (x : Result Known Stop) (old new : Run) → IsArena new.arena → Means (stamped t) x old new (node_seen w place t ks row) → MeansBare (stamped t) x old new (node_seen w place t ks row)
node_bare w place t ks row x old new a h = bare_follows t x old new (node_seen w place t ks row) a (node_blind w place t ks row new) h

numbers_blind : (w : World) (place : Span) (t : PlainType) (x y : Reading → Cell) (row : Row) (s : Run) → IsBlind x → IsBlind y → node_by (world_seen (bare s) w) place t (x (bare s) ∷ y (bare s) ∷ []) (Some row) ≡ node_by (world_seen blank w) place t (x blank ∷ y blank ∷ []) (Some row)
numbers_blind w place t x y row s h i =
    ap (λ c. node_by (world_seen blank w) place t (c ∷ y (bare s) ∷ []) (Some row)) (h s)
    ∙ ap (λ c. node_by (world_seen blank w) place t (x blank ∷ c ∷ []) (Some row)) (i s)

pub numbers_bare : (w : World) (place : Span) (t : PlainType) (x y : Reading → Cell) (row : Row) (k : Result Known Stop) (old new : Run) → IsArena new.arena → IsBlind x → IsBlind y → Means (stamped t) k old new (λ r. node_by (world_seen r w) place t (x r ∷ y r ∷ []) (Some row)) → MeansBare (stamped t) k old new (λ r. node_by (world_seen r w) place t (x r ∷ y r ∷ []) (Some row))
numbers_bare w place t x y row k old new a h i j = bare_follows t k old new (λ r. node_by (world_seen r w) place t (x r ∷ y r ∷ []) (Some row)) a (numbers_blind w place t x y row new h i) j
