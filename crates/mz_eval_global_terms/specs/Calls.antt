-- Arguments of globals as nodes, and what the node of a call is.
use Rattle.std.specs.Prelude.{◌≡◌, ℕ, ◌+◌, ◌*◌, ◌≤◌, nat_abs, Bool, true, false, List, [], ◌∷◌, map, length, Option, Some}
use Rattle.std.specs.Option.{option_map}
use Rattle.mz_value.specs.Ranges.{Range}
use Rattle.mz_value.specs.Contents.{Content, contents}
use Rattle.mz_value.specs.Contents as values
use Rattle.mz_core.specs.declared.types.Base.{Base}
use Rattle.mz_globals.specs.declared.global.Global.{Global}
use Rattle.mz_globals.specs.declared.global.Global.TheVariants.{CountOf}
use Rattle.mz_meaning.specs.Cells.{held, value_of}
use Rattle.mz_meaning.specs.Globals.{global_value}
use Rattle.mz_meaning.specs.Operations.{size_of}
use Rattle.mz_symbol.specs.declared.types.Symbol.{Symbol}
use Rattle.mz_symbol.specs.Runs.{Run}
use Rattle.mz_symbol.specs.Symbols.{value_by}
use Rattle.mz_symbol.specs.Readings.{Reading, Reads, state_of}
use Rattle.mz_symbol_rows.specs.RowValues.{argument}
use Rattle.mz_eval_cells.specs.declared.types.Known.{Known}
use Rattle.mz_eval_cells.specs.Views.{all_seen, cell_of, cells_of, seen}
use Rattle.mz_eval_symbols.specs.Taken.{cell_value, line_seen, ranges_in}
use Rattle.glob_nodes.specs.declared.arguments.Numbers.{Numbers}
use Rattle.glob_nodes.specs.Arguments.{IsWhole, array_value, number_value}
use Rattle.glob_nodes.specs.Rows.{row_cost}
use Rattle.glob_nodes.specs.Sets.{set_value}
use Rattle.glob_graph.specs.declared.automata.Automaton.{Automaton}
use Rattle.glob_graph.specs.Tables.{table_value}
use Rattle.glob_sets.specs.Arrays.{AreSets, AreTruths, sets_value, truths_value}

-- under each reading of a run this is the value of a cell
abbrev pub IsGiven : Known → Run → (Reading → Option Content) → Type 0
IsGiven k s v = (r : Reading) → Reads r s → held r.mode (v r) ≡ cell_value r k

-- nothing but nodes and lists was made
abbrev pub IsSame : Run → Run → Type 0
IsSame old new = (r : Reading) → Reads r new → state_of r old ≡ state_of r new

-- a symbol that a cell is
pub record IsSymbol (k : Known) (old new : Run) (s : Symbol) : Type 0 where
  pub given : (r : Reading) → Reads r new → cell_value r k ≡ argument r s
  pub same : IsSame old new

-- a line that an array is
pub record IsLine (k : Known) (old new : Run) (n : ℕ) : Type 0 where
  pub given : (r : Reading) → Reads r new → cell_value r k ≡ line_seen k r n
  pub same : IsSame old new

-- an array of integers that a cell is
pub record IsArray (k : Known) (old new : Run) (a : Numbers) : Type 0 where
  pub whole : IsWhole new a
  pub given : IsGiven k new (λ r. array_value r a)
  pub size : length a.items.items ≡ size_of (cell_of k)
  pub same : IsSame old new

-- an array of sets
pub record IsSets (k : Known) (old new : Run) (a : Numbers) : Type 0 where
  pub sets : AreSets new a
  pub given : IsGiven k new (λ r. sets_value r a)
  pub size : length a.items.items ≡ size_of (cell_of k)
  pub same : IsSame old new

-- an array of Booleans
pub record IsTruths (k : Known) (old new : Run) (a : Numbers) : Type 0 where
  pub truths : AreTruths new a
  pub given : IsGiven k new (λ r. truths_value r a)
  pub size : length a.items.items ≡ size_of (cell_of k)
  pub same : IsSame old new

pub record IsNumber (k : Known) (old new : Run) (id : ℕ) : Type 0 where
  pub given : IsGiven k new (λ r. number_value r id)
  pub same : IsSame old new

pub record IsOneSet (k : Known) (old new : Run) (id : ℕ) : Type 0 where
  pub given : IsGiven k new (λ r. set_value r id)
  pub same : IsSame old new

-- an automaton that four par arguments are, with the node of the states that accept; it has no more steps than its states and letters ask for
pub record IsAutomaton (b c d e : Known) (id : ℕ) (m : Automaton) : Type 0 where
  pub states : (r : Reading) → value_of (seen r b) ≡ Some (values.int m.states)
  pub letters : (r : Reading) → value_of (seen r c) ≡ Some (values.int m.letters)
  pub steps : (r : Reading) → value_of (seen r d) ≡ table_value m.steps
  pub start : (r : Reading) → value_of (seen r e) ≡ Some (values.int m.start)
  pub accepting : m.accepting ≡ id
  pub state_count : nat_abs m.states ≡ size_of (cell_of b)
  pub letter_count : nat_abs m.letters ≡ size_of (cell_of c)
  pub fits : length m.steps.cells.items ≤ nat_abs m.states * nat_abs m.letters

abbrev pub with_range : Range → Option (List Content) → Option Content
with_range x o = option_map (λ xs. values.array (x ∷ []) (contents xs)) o

-- the index range of an array of one dimension; of what is no array any
abbrev pub IsRange : Known → Range → Type 0
IsRange k x = (r : Reading) (o : Option (List Content)) → cell_value r k ≡ held r.mode (option_map (λ xs. values.array (ranges_in k) (contents xs)) o) → held r.mode (with_range x o) ≡ cell_value r k

-- THE NODE OF A CALL: under each reading it stands for what the global gives of the cells, and nothing but nodes and lists was made
pub record IsCall (b : Base) (g : Global) (ks : List Known) (old new : Run) (id : ℕ) : Type 0 where
  pub same : IsSame old new
  pub value : (r : Reading) → Reads r new → held r.mode (value_by b (r.term id)) ≡ held r.mode (global_value g (all_seen r ks))

-- what its nodes may cost
abbrev pub call_room : Global → List Known → ℕ
call_room g ks = 56 * row_cost g (map size_of (cells_of ks)) + 24

-- all but the function `count` give truth values
abbrev pub is_truth : Global → Bool
is_truth CountOf = false
is_truth g = true
