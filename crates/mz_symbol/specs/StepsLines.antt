-- Mirror of src/lines.rt; private clauses only.
use Rattle.std.specs.Prelude.{◌≡◌, List, [], ◌∷◌, ◌++◌}
use Rattle.mz_symbol.specs.declared.types.Line.{Line}
use Rattle.mz_symbol.specs.Runs.{Run}

-- one line more was kept, and nothing else changed
pub record IsLined (old new : Run) (l : Line) : Type 0 where
  pub work : new.work ≡ old.work
  pub weight : new.weight ≡ old.weight
  pub saved : new.saved ≡ old.saved
  pub arena : new.arena ≡ old.arena
  pub choices : new.choices ≡ old.choices
  pub lines : new.lines ≡ old.lines ++ l ∷ []
