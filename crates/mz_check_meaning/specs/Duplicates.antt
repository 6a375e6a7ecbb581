-- Functions with parameters of one name and the same types of parameters: of two functions of the model, or of one and a row of the
-- library that no function hides.
use Rattle.std.specs.Prelude.{ℕ, Bool, true, false, ◌&&◌, ◌||◌, List, [], ◌∷◌, ◌++◌, Option, Some, None, nat_eq, if◌then◌else◌}
use Rattle.std.specs.List.{list_any}
use Rattle.mz_base.specs.declared.fault.Span.{Span}
use Rattle.mz_base.specs.declared.fault.Fault.{Fault}
use Rattle.mz_base.specs.declared.kind.Kind.TheVariants as kind
use Rattle.mz_base.specs.Faults.{fault_at}
use Rattle.mz_base.specs.Names.{text_of}
use Rattle.mz_core.specs.Types.{PlainType}
use Rattle.mz_core.specs.Order.{same_type}
use Rattle.mz_builtin.specs.Readings.{Numbered}
use Rattle.mz_tree.specs.Tree.{Name}
use Rattle.mz_check_meaning.specs.Calls.{rows_for}

-- a function with parameters: its name with the name's place, and its parameters' types
pub record Signed : Type 0 where
  pub name : Name
  pub span : Span
  pub params : List PlainType

abbrev pub no_types : List PlainType → Bool
no_types [] = true
no_types (t ∷ ts) = false

unfoldable pub same_types : List PlainType → List PlainType → Bool
same_types [] us = no_types us
same_types (t ∷ ts) [] = false
same_types (t ∷ ts) (u ∷ us) = same_type t u && same_types ts us

abbrev pub is_same : Signed → Signed → Bool
is_same f g = nat_eq f.name g.name && same_types f.params g.params

abbrev pub has_params : List PlainType → Numbered → Bool
has_params ts n = same_types n.1.params ts

-- a row that no function hides is one of this name with these parameters
unfoldable pub is_in_library : List (List ℕ) → Signed → Bool
is_in_library texts f = list_any (has_params f.params) (rows_for true (text_of texts f.name) f.params)

abbrev pub is_taken : List (List ℕ) → List Signed → Signed → Bool
is_taken texts before f = list_any (is_same f) before || is_in_library texts f

-- the first that is taken, after these
unfoldable pub duplicate_after : List (List ℕ) → List Signed → List Signed → Option Fault
duplicate_after texts before [] = None
duplicate_after texts before (f ∷ fs) =
    if is_taken texts before f then Some (fault_at kind.DuplicateName f.span) else duplicate_after texts (before ++ f ∷ []) fs
