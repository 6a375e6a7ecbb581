-- What posting an objective leaves.
use Rattle.std.specs.Prelude.{◌≡◌, ℕ, ◌<◌, List, length, true, Some, IsSome}
use Rattle.mz_arena.specs.Entries.{Entry}
use Rattle.mz_arena.specs.Values as terms
use Rattle.mz_arena.specs.Terms.{term}
use Rattle.mz_arena.specs.InBounds.{AreInDomains}
use Rattle.fz_program.specs.declared.row_name.Kind.TheVariants.{Int}
use Rattle.fz_program.specs.Arguments.{var}
use Rattle.fz_program.specs.Values.{Values}
use Rattle.fz_program.specs.Flat.{is_plain, plain_value}
use Rattle.flat_reif_rows.specs.Standing.{seen}
use Rattle.flat_reif.specs.States.{State, Meets}
use Rattle.flat_reif.specs.Roots.{IsWholeNode}
use Rattle.flat_root.specs.Keeps.{Keeps, IsReadyState, HasChoices}

-- an integer node
pub record IsWholeRoot (es : List Entry) (id : ℕ) : Type 0 where
  pub place : id < length es
  pub is_whole : IsWholeNode es id

-- the node has a value
abbrev pub HasValueAt : List Entry → ℕ → terms.Values → Type 0
HasValueAt es id v = IsSome (term v es id)

-- The solutions in which the node has a value are kept, and the variable at a place is that value.
pub record HasObjective (old new : State) (id k : ℕ) : Type 0 where
  pub keeps : Keeps old new (HasValueAt old.es id)
  pub ready : IsReadyState new
  pub sort : is_plain new.prog.vars Int (var k) ≡ true
  pub choices : HasChoices new
  pub value : (v : terms.Values) (f : Values) → AreInDomains new.es v → Meets new v f → term v old.es id ≡ Some (seen (plain_value f (var k)))
