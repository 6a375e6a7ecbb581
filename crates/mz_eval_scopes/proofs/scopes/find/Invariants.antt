use Rattle.std.proofs.Common.{◌≡◌, ◌≤◌, length, map, take}
use Rattle.mz_meaning.specs.Cells.{Cell, Env, bind_all}
use Rattle.mz_eval_cells.specs.declared.types.Known.{Known}
use Rattle.mz_eval_scopes.proofs.scopes.find.Given as goal

abbrev pub invariant-names : goal.invariant-names
invariant-names l =
    ((see : Known → Cell) (env : Env) → bind_all l.slots (map see l.cells) env l.slot ≡ bind_all (take l.n l.slots) (map see (take l.n l.cells)) env l.slot)
    × (l.n ≤ length l.slots) × (l.n ≤ length l.cells)

abbrev pub decreases-names : goal.decreases-names
decreases-names l = l.n
