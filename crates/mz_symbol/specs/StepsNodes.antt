-- Mirror of src/run.rt; private clauses only.
use Rattle.std.specs.Prelude.{◌≡◌, ℕ, ◌+◌, ◌≤◌}
use Rattle.mz_arena.specs.Arenas.{Grew}
use Rattle.mz_arena.specs.Charges.{charges}
use Rattle.mz_symbol.specs.Runs.{Run}

-- nodes were made, with charges up to n, and nothing else
pub record AddsNodes (n : ℕ) (old new : Run) : Type 0 where
  pub work : new.work ≡ old.work
  pub weight : new.weight ≡ old.weight
  pub saved : new.saved ≡ old.saved
  pub choices : new.choices ≡ old.choices
  pub lines : new.lines ≡ old.lines
  pub grew : Grew old.arena new.arena
  pub charged : charges new.arena ≤ charges old.arena + n
