-- What holds of readings and runs.
use Rattle.std.specs.Prelude.{◌≡◌, ℕ, [], ◌∷◌, ◌++◌, length, true, Option, Result}
use Rattle.mz_base.specs.declared.stop.Stop.{Stop}
use Rattle.mz_value.specs.Contents.{Content}
use Rattle.mz_arena.specs.Values.{Values}
use Rattle.mz_arena.specs.Terms.{term}
use Rattle.mz_arena.specs.Numbering.{by_id}
use Rattle.mz_arena.specs.Arenas.{IsArena, Grew}
use Rattle.mz_meaning.specs.Runs as runs
use Rattle.mz_meaning.specs.Cells.{Mode}
use Rattle.mz_symbol.specs.declared.types.Free.{Free}
use Rattle.mz_symbol.specs.declared.types.Symbol.{Symbol}
use Rattle.mz_instance.specs.Parts.{AreNodes}
use Rattle.mz_symbol.specs.Choices.{domain_parts, Chooses, IsChoosable}
use Rattle.mz_symbol.specs.Symbols.{symbol_ids, domain_of, free_ids}
use Rattle.mz_symbol.specs.Runs.{Run, taken, IsRun}
use Rattle.mz_symbol.specs.Readings.{Reading, ReadsChoices, Reads, symbol_seen, reading_in, reading, bare, blank}
use Rattle.mz_symbol.specs.Makes.{MeetsAt, Means, MeansBare}

-- EACH ASSIGNMENT READS A RUN, where the choices are the values of their nodes
abbrev pub TermsRead : Type 0
TermsRead = (v : Values) (m : Mode) (s : Run) → IsArena s.arena → ReadsChoices m (λ id. term v s.arena id) s.choices → Reads (reading_in m v s) s

-- values of the variables and of the choices by their numbers read a run, with the choices that these values are
abbrev pub ChoicesRead : Type 0
ChoicesRead = (s : Run) (c : ℕ → Content) (x y : Values) → IsRun s → Chooses (taken s) 0 0 y c → Reads (reading c (by_id s.arena x y) s) s

-- what holds of a run is kept by nodes
abbrev pub KeptByNodes : Type 0
KeptByNodes = (old new : Run) → IsRun old → IsArena new.arena → Grew old.arena new.arena → new.choices ≡ old.choices → new.lines ≡ old.lines → IsRun new

-- and by a choice, whose nodes have the next numbers
abbrev pub KeptByChoice : Type 0
KeptByChoice = (old new : Run) (f : Free) → IsRun old → IsArena new.arena → Grew old.arena new.arena → new.choices ≡ old.choices ++ f ∷ [] → new.lines ≡ old.lines → AreNodes new.arena true (length (free_ids old.choices)) (symbol_ids f.symbol) (domain_parts (domain_of f)) → IsChoosable (domain_of f) → IsRun new

-- the reading without values reads each run
abbrev pub BareReads : Type 0
BareReads = (s : Run) → IsArena s.arena → Reads (bare s) s

-- AN EVALUATION WITHOUT VALUES SEES NO TERM: what it makes and what is seen of it are the same under this run's bare reading
pub record IsBlind {A B : Type 0} (see : Reading → A → B) (new : Run) (m : Reading → runs.Run B) : Type 0 where
  pub seen : see (bare new) ≡ see blank
  pub made : m (bare new) ≡ m blank

-- A CLAUSE UNDER EACH READING GIVES THAT OF AN EVALUATION WITHOUT VALUES, here of what makes a symbol, of which no term is seen
abbrev pub MeansGivesBare : Type 0
MeansGivesBare = (x : Result Symbol Stop) (old new : Run) (m : Reading → runs.Run (Option Content)) → IsArena new.arena → m (bare new) ≡ m blank → Means symbol_seen x old new m → MeansBare symbol_seen x old new m

-- and that one tells what the evaluation without values gives
abbrev pub BareFollows : Type 0
BareFollows = (x : Result Symbol Stop) (old new : Run) (m : Reading → runs.Run (Option Content)) → MeansBare symbol_seen x old new m → MeetsAt (symbol_seen blank) x (record { work = new.work; taken = []; weight = 0 }) (m blank (record { work = old.work; taken = []; weight = 0 }))
