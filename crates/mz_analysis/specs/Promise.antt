-- What holds of every model with its data.
use Rattle.std.specs.Prelude.{◌≡◌, ◌<◌, ℕ, List, true, false, All}
use Rattle.mz_base.specs.declared.fault.Fault.{Fault}
use Rattle.mz_base.specs.Names.{text_of}
use Rattle.mz_base.specs.Words.{is_identifier}
use Rattle.mz_io.specs.Files.{Texts}
use Rattle.mz_tree.specs.Data.{Given}
use Rattle.mz_scope.specs.Tests.{begins_reserved}
use Rattle.mz_include.specs.Naming.{File}
use Rattle.mz_include.specs.Sources.{IsSources}
use Rattle.mz_scope_order.specs.Scoped.{ScopedTree, AreDistinct}
use Rattle.mz_scope_order.specs.Subjects.{Subject, IsTypeOrder}
use Rattle.mz_check_data.specs.WithData.{AreNumbered, checked_with_data, IsRefusedWithData}
use Rattle.mz_analysis.specs.Known.{IsWithin}
use Rattle.mz_core.specs.Program.{PlainProgram}
use Rattle.mz_analysis.specs.Analysis.{IsScopedModel, IsIllNamed, IsTypedModel, IsRefused, HasTypedModel, IsOfTests, evaluated, names_of}

-- files and items of data have at most one scoped model
abbrev pub HaveOneScopedModel : Type 0
HaveOneScopedModel = (table : List (List ℕ)) (files : List File) (items : List Given) (s t : ScopedTree) → IsScopedModel table files items s → IsScopedModel table files items t → s ≡ t

-- files that have one aren't refused for their names
abbrev pub ScopedOrRefused : Type 0
ScopedOrRefused = (table : List (List ℕ)) (files : List File) (items : List Given) (s : ScopedTree) (f : Fault) → IsScopedModel table files items s → IsIllNamed table files items f → ⊥

-- files that have a typed model aren't refused
abbrev pub TypedOrRefused : Type 0
TypedOrRefused = (table : List (List ℕ)) (files : List File) (items : List Given) (f : Fault) → HasTypedModel table files items → IsRefused table files items f → ⊥

-- A scoped model is typed in every order of its types to the same, or refused with the same fault.
abbrev pub OrderMakesNoDifference : Type 0
OrderMakesNoDifference = (table : List (List ℕ)) (s : ScopedTree) (order other : List Subject) → IsTypeOrder s order → IsTypeOrder s other → checked_with_data table s order ≡ checked_with_data table s other

-- files and items of data have at most one typed program
abbrev pub HaveOneTypedProgram : Type 0
HaveOneTypedProgram = (table : List (List ℕ)) (files : List File) (items : List Given) (p q : PlainProgram) → IsTypedModel table files items p → IsTypedModel table files items q → p ≡ q

-- and at most one fault of names, types and data
abbrev pub HaveOneFault : Type 0
HaveOneFault = (table : List (List ℕ)) (files : List File) (items : List Given) (f g : Fault) → IsRefused table files items f → IsRefused table files items g → f ≡ g

-- A model's types, and its data, are refused with a kind of the tests, at a place in one of its files, where all its places are in this many
-- files.
abbrev pub TypesAreRefusedInFiles : Type 0
TypesAreRefusedInFiles = (names files : ℕ) (table : List (List ℕ)) (s : ScopedTree) (f : Fault) → 0 < names → 0 < files → IsWithin names files s → IsRefusedWithData table s f → (f.span.file < files) × IsOfTests f.kind

-- The declarations of a typed program, in the order of evaluation, have their places as slots, and no name stands twice.
abbrev pub DeclarationsAreNumbered : Type 0
DeclarationsAreNumbered = (table : List (List ℕ)) (files : List File) (items : List Given) (p : PlainProgram) → IsTypedModel table files items p → AreNumbered (evaluated p) × AreDistinct (names_of (evaluated p))

-- an identifier that doesn't begin with `X_`
abbrev pub IsOwnIdentifier : List ℕ → Type 0
IsOwnIdentifier x = (is_identifier x ≡ true) × (begins_reserved x ≡ false)

-- The names of the declarations of a typed program of a model's files are such identifiers.
abbrev pub NamesAreOwn : Type 0
NamesAreOwn = (table : List (List ℕ)) (texts : Texts) (first : List ℕ) (files : List File) (items : List Given) (p : PlainProgram) → IsSources table texts first files → IsTypedModel table files items p → All (λ n. IsOwnIdentifier (text_of table n)) (names_of p.decls)
