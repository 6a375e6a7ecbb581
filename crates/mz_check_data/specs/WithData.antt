-- WHAT A SCOPED MODEL IS TYPED TO WITH ITS DATA. The values that data gives are tested after the functions that are declared twice and
-- before values, bodies and all other items: all of them, in source order. Each is then the value of its declaration.
use Rattle.std.specs.Prelude.{◌≡◌, ℕ, ◌<◌, List, [], length, map, Option, Some, None, slice_index_or, Ok, Err}
use Rattle.mz_base.specs.declared.fault.Span.{Span}
use Rattle.mz_base.specs.declared.fault.Fault.{Fault}
use Rattle.mz_base.specs.declared.kind.Kind.TheVariants as kind
use Rattle.mz_core.specs.Tree.{Tree, Decl}
use Rattle.mz_core.specs.Program.{PlainProgram}
use Rattle.mz_tree.specs.Data.{Given}
use Rattle.mz_scope_order.specs.Scoped.{ScopedTree}
use Rattle.mz_scope_order.specs.Subjects.{Subject, IsTypeOrder}
use Rattle.mz_check_meaning.specs.declared.meaning.Meaning.{Meaning}
use Rattle.mz_check_meaning.specs.declared.meaning.Meaning.TheVariants as meaning
use Rattle.mz_check_meaning.specs.Tests.{Test, ◌>>=◌, ◌>>◌, refuse, each}
use Rattle.mz_check_meaning.specs.Models.{Model, entry_of, type_of_decl}
use Rattle.mz_check_meaning.specs.Headings.{with_types}
use Rattle.mz_check_meaning.specs.Duplicates.{duplicate_after}
use Rattle.mz_check_meaning.specs.Checks.{untyped, none_met, types_met, no_fault, signed, items_met, Sections, sections, IsProgramOf}
use Rattle.mz_check_data.specs.Datum.{typed_value}

-- ---- the values that data gives

-- the declaration of a name; a name that is none, which data can't have in a scoped model, has no value that fits
unfoldable pub declared_as : Span → Option Meaning → Test ℕ
declared_as at (Some (meaning.Decl d)) = Ok d
declared_as at x = refuse kind.DataForm at

-- a declaration's number, and its value
unfoldable pub given_value : Model → Given → Test (ℕ × Tree)
given_value m g = do
  d ← declared_as g.at (entry_of g.name m.names)
  u ← type_of_decl m g.span d
  e ← typed_value m.names u.ty g
  Ok (d, e)

-- in source order: data files come after the model, in the order in which they are given
unfoldable pub given_values : Model → List Given → Test (List (ℕ × Tree))
given_values m gs = each (given_value m) gs

-- ---- declarations with these values

-- a value that is written stays
abbrev pub or_given : Option Tree → Option Tree → Option Tree
or_given (Some e) given = Some e
or_given None given = given

abbrev pub with_value : List (ℕ × Tree) → Decl → Decl
with_value vs d = record d { value = or_given d.value (entry_of d.slot vs) }

-- declarations stand in the order of their slots, which are their places
abbrev pub AreNumbered : List Decl → Type 0
AreNumbered ds = (k : ℕ) (d : Decl) → k < length ds → (slice_index_or ds k d).slot ≡ k

unfoldable pub with_values : List (ℕ × Tree) → Sections → Sections
with_values vs all = record all { decls = map (with_value vs) all.decls }

-- ---- the whole

-- with types that were typed before
unfoldable pub checked_given : ScopedTree → Model → Test Sections
checked_given s m = do
  none_met (types_met s m)
  no_fault (duplicate_after m.texts [] (signed s m))
  vs ← given_values m s.given
  none_met (items_met s m)
  all ← sections s m
  Ok (with_values vs all)

unfoldable pub checked_with_data : List (List ℕ) → ScopedTree → List Subject → Test Sections
checked_with_data texts s order = checked_given s (with_types s (untyped texts s) order)

-- a scoped model is typed with its data to a program
pub record ChecksWithData (texts : List (List ℕ)) (s : ScopedTree) (p : PlainProgram) : Type 0 where
  pub order : List Subject
  pub types : IsTypeOrder s order
  pub all : Sections
  pub are : checked_with_data texts s order ≡ Ok all
  pub program : IsProgramOf texts s all p

-- or it is refused with the first fault
pub record IsRefusedWithData (texts : List (List ℕ)) (s : ScopedTree) (f : Fault) : Type 0 where
  pub order : List Subject
  pub types : IsTypeOrder s order
  pub fault : checked_with_data texts s order ≡ Err f
