-- READINGS: what ids mean, such that the nodes of a run are obeyed. No reading asks which later arena there is.
use Rattle.std.specs.Prelude.{◌≡◌, ℕ, pos, false, List, [], map, Option, Some, None, slice_get}
use Rattle.mz_value.specs.Contents.{Content}
use Rattle.mz_arena.specs.declared.node.Node.{Node}
use Rattle.mz_arena.specs.Entries.{entry, children}
use Rattle.mz_arena.specs.Values.{Values, Term}
use Rattle.mz_arena.specs.Terms.{node_term, term}
use Rattle.mz_meaning.specs.Runs.{State}
use Rattle.mz_meaning.specs.Domains.{Domain}
use Rattle.mz_meaning.specs.Cells.{Mode, Blank, Given, Bare, held}
use Rattle.mz_symbol.specs.declared.types.Symbol.{Symbol}
use Rattle.mz_symbol.specs.declared.types.Free.{Free}
use Rattle.mz_symbol.specs.declared.types.Line.{Line}
use Rattle.mz_symbol.specs.Symbols.{symbol_value, domain_of, line_value}
use Rattle.mz_symbol.specs.Runs.{Run, ReadsNodes}

-- The mode that this is a reading for, the term of each id, and the values of the elements of each var array by its number. In a bare run var cells have no values
pub record Reading : Type 0 where
  pub mode : Mode
  pub term : ℕ → Term
  pub line : ℕ → Option (List Content)

-- the values of var cells are there
abbrev pub IsGiven : Mode → Type 0
IsGiven (Blank n) = ⊥
IsGiven (Given f) = Unit {0}

-- the k-th choice of the mode is the value of the k-th choice's nodes; a run that notes choices without values isn't read
abbrev pub ReadsChoices : Mode → (ℕ → Term) → List Free → Type 0
ReadsChoices (Blank n) t cs = n ≡ false
ReadsChoices (Given f) t cs = (k : ℕ) (c : Free) → slice_get cs k ≡ Some c → symbol_value t c.symbol ≡ Some (f k)

-- A READING READS A RUN
pub record Reads (r : Reading) (s : Run) : Type 0 where
  pub nodes : ReadsNodes r.term s.arena
  pub choices : ReadsChoices r.mode r.term s.choices
  pub lines : (k : ℕ) (l : Line) → slice_get s.lines k ≡ Some l → r.line k ≡ line_value r.term l

-- what a symbol is; nothing in a run without values
abbrev pub symbol_seen : Reading → Symbol → Option Content
symbol_seen r s = held r.mode (symbol_value r.term s)

-- a node that isn't free reads no values
abbrev pub no_values : Values
no_values = record { number = λ _. pos 0; set = λ _. [] }

abbrev pub node_meaning : Reading → Node → Term
node_meaning r n = node_term no_values (entry n) (map r.term (children n))

-- an id that means this node, which isn't free
abbrev pub IsNodeOf : Run → Node → ℕ → Type 0
IsNodeOf s n id = (r : Reading) → Reads r s → r.term id ≡ node_meaning r n

-- ---- states

abbrev pub taken_in : Mode → List Free → List Domain
taken_in (Blank n) cs = []
taken_in (Given f) cs = map domain_of cs

abbrev pub weight_in : Mode → ℕ → ℕ
weight_in (Blank n) k = 0
weight_in (Given f) k = k

abbrev pub state_of : Reading → Run → State
state_of r s = record { work = s.work; taken = taken_in r.mode s.choices; weight = weight_in r.mode s.weight }

-- the reading of a run without values: what no run reads isn't told
abbrev pub blank : Reading
blank = record { mode = Bare; term = λ id. None; line = λ k. None }

-- ---- readings that there are: any values of the variables and the choices make one

abbrev pub line_in : (ℕ → Term) → Option Line → Option (List Content)
line_in t None = None
line_in t (Some l) = line_value t l

abbrev pub reading_in : Mode → Values → Run → Reading
reading_in m v s = record { mode = m; term = λ id. term v s.arena id; line = λ k. line_in (λ id. term v s.arena id) (slice_get s.lines k) }

abbrev pub reading : (ℕ → Content) → Values → Run → Reading
reading c v s = reading_in (Given c) v s

-- the reading without values
abbrev pub bare : Run → Reading
bare s = reading_in Bare no_values s
