-- What a model with its data is tested for before it is compiled: its names, and then its types.
use Rattle.std.specs.Prelude.{◌≡◌, ◌<◌, ◌+◌, ◌-◌, refl, ℕ, length, map, All, List, [], ◌∷◌, Option, Some, None, slice_get, unwrap_or, codes}
use Rattle.std.specs.List.{flat_map}
use Rattle.mz_base.specs.declared.fault.Span.{Span}
use Rattle.mz_base.specs.declared.fault.Fault.{Fault}
use Rattle.mz_base.specs.declared.kind.Kind.{Kind}
use Rattle.mz_base.specs.declared.kind.Kind.TheVariants.{ReservedName, DuplicateName, SolveItems, UnknownName, DataForm, MissingData, Cyclic, TypeMismatch, NoOverload, Ambiguous, LeftOut, Syntax}
use Rattle.mz_base.specs.Faults.{start_of, fault_at}
use Rattle.mz_tree.specs.Items.{ItemTree, satisfy, solve}
use Rattle.mz_tree.specs.Data.{Given, given}
use Rattle.mz_scope_names.specs.Given.{occurrences}
use Rattle.mz_scope_order.specs.Scoped.{ScopedTree, IsScoped, IsCyclic}
use Rattle.mz_core.specs.Program.{PlainProgram}
use Rattle.mz_core.specs.Tree.{Decl}
use Rattle.mz_meaning.specs.Walk.{ordered}
use Rattle.mz_check_data.specs.WithData.{ChecksWithData, IsRefusedWithData}
use Rattle.mz_scope.specs.Tests.{known_in, solve_in, refusal, first, first_after}
use Rattle.mz_include.specs.Naming.{File}
use Rattle.mz_include.specs.Views.{file, AreKnown}
use Rattle.mz_include.specs.declared.with_data.gathering.SourcesWithData.{SourcesWithData}
use Rattle.mz_include.specs.WithData.{IsGivenKnown}

-- the items of a model's files, in the order of the text
abbrev pub items_of : List File → List ItemTree
items_of files = flat_map (λ f. f.items) files

-- the end of the model's own file
abbrev pub end_of : List File → Span
end_of [] = start_of 0
end_of (f ∷ fs) = f.end

-- what the tests of names find, by the table of names
abbrev pub name_fault : List (List ℕ) → List File → List Given → Option Fault
name_fault table files items = refusal table (known_in table) (end_of files) (flat_map solve_in (items_of files)) (occurrences (items_of files) items)

-- the tests of names find nothing, and this is the scoped model of the files with the items of the data
pub record IsScopedModel (table : List (List ℕ)) (files : List File) (items : List Given) (s : ScopedTree) : Type 0 where
  pub tested : name_fault table files items ≡ None
  pub scoped : IsScoped (items_of files) items s

-- why the names of a model are refused: what the tests find, or, where they find nothing, a cycle
pub data IsIllNamed (table : List (List ℕ)) (files : List File) (items : List Given) : Fault → Type 0 where
  by_a_test : {f : Fault} → name_fault table files items ≡ Some f → IsIllNamed table files items f
  by_a_cycle : {f : Fault} → name_fault table files items ≡ None → IsCyclic (items_of files) f → IsIllNamed table files items f

-- the scoped model is typed with its data to this program
pub record IsTypedModel (table : List (List ℕ)) (files : List File) (items : List Given) (p : PlainProgram) : Type 0 where
  pub scoped : ScopedTree
  pub is : IsScopedModel table files items scoped
  pub types : ChecksWithData table scoped p

-- its declarations in the order of evaluation, and their names
abbrev pub evaluated : PlainProgram → List Decl
evaluated p = ordered p.decls p.order

abbrev pub names_of : List Decl → List ℕ
names_of ds = map (λ d. d.name) ds

abbrev pub HasTypedModel : List (List ℕ) → List File → List Given → Type 0
HasTypedModel table files items = (p : PlainProgram) × IsTypedModel table files items p

-- why a scoped model's types, or its data, are refused
pub record IsIllTyped (table : List (List ℕ)) (files : List File) (items : List Given) (f : Fault) : Type 0 where
  pub scoped : ScopedTree
  pub is : IsScopedModel table files items scoped
  pub types : IsRefusedWithData table scoped f

-- why there is no typed model: the names are refused, or else the types
pub data IsRefused (table : List (List ℕ)) (files : List File) (items : List Given) : Fault → Type 0 where
  by_names : {f : Fault} → IsIllNamed table files items f → IsRefused table files items f
  by_types : {f : Fault} → IsIllTyped table files items f → IsRefused table files items f

-- the kinds of what tests of names and of types refuse
abbrev pub IsOfTests : Kind → Type 0
IsOfTests ReservedName = Unit {0}
IsOfTests DuplicateName = Unit {0}
IsOfTests SolveItems = Unit {0}
IsOfTests UnknownName = Unit {0}
IsOfTests DataForm = Unit {0}
IsOfTests MissingData = Unit {0}
IsOfTests Cyclic = Unit {0}
IsOfTests TypeMismatch = Unit {0}
IsOfTests NoOverload = Unit {0}
IsOfTests Ambiguous = Unit {0}
IsOfTests LeftOut = Unit {0}
IsOfTests Syntax = Unit {0}
IsOfTests _ = ⊥

-- A test of names or of types fails, with a kind of its own, at a place in one of the files, of which this many are data files. These are
-- numbered after all files of the model.
pub record FailsTest (table : List (List ℕ)) (files : List File) (data_files : ℕ) (items : List Given) (f : Fault) : Type 0 where
  pub refused : IsRefused table files items f
  pub kind : IsOfTests f.kind
  pub placed : f.span.file < length files + data_files

-- the name of the model's own file
abbrev pub own_name : List File → List ℕ
own_name [] = []
own_name (f ∷ fs) = f.name

-- the name of the data file of this number; the model's own where none has it
abbrev pub data_name : List File → List (List ℕ) → ℕ → List ℕ
data_name files data_files k = unwrap_or (slice_get data_files k) (own_name files)

abbrev pub name_or : List ℕ → Option File → List ℕ
name_or n None = n
name_or n (Some f) = f.name

-- the name of the file of this number: data files are numbered after all files of the model
abbrev pub file_name : List File → List (List ℕ) → ℕ → List ℕ
file_name files data_files k = name_or (data_name files data_files (k - length files)) (slice_get files k)

-- ---- the files that were read

abbrev pub files_read : List (List ℕ) → SourcesWithData → List File
files_read table read = map (file table) read.sources.files.items

abbrev pub items_read : SourcesWithData → List Given
items_read read = map given read.given_data.items.items

abbrev pub count_read : SourcesWithData → ℕ
count_read read = length read.sources.files.items + length read.data_files.items

-- There is a model. Its names and places, and those of its data, are of the table and of the files that were read.
pub record IsRead (table : List (List ℕ)) (read : SourcesWithData) : Type 0 where
  pub some : 0 < length read.sources.files.items
  pub files : AreKnown table read.sources.files.items
  pub items : All (IsGivenKnown (length table) (count_read read)) (items_read read)
  pub named : All (λ n. n < length table) read.data_files.items

-- Two files that end at the second line of their text; the second one includes nothing
abbrev end_in : ℕ → Span
end_in k = record { file = k; line = 2; col = 1; byte = 7 }

abbrev two : List ItemTree → List ItemTree → List File
two is js = record { name = codes "m"; items = is; end = end_in 0 } ∷ record { name = codes "a"; items = js; end = end_in 1 } ∷ []

-- a solve item is missing at the end of the model's own file, whatever the last one is
pub no_solve_item : name_fault [] (two [] []) [] ≡ Some (fault_at SolveItems (end_in 0))
unfolding first first_after
no_solve_item = refl

-- of two solve items in two files the second is one too many
pub two_solve_items : (s t : Span) → name_fault [] (two (solve s satisfy ∷ []) (solve t satisfy ∷ [])) [] ≡ Some (fault_at SolveItems t)
unfolding first first_after
two_solve_items s t = refl

pub second_file : file_name (two [] []) (codes "d" ∷ []) 1 ≡ codes "a"
second_file = refl

-- a data file is numbered after both
pub data_file : file_name (two [] []) (codes "d" ∷ []) 2 ≡ codes "d"
data_file = refl

pub no_fourth_file : file_name (two [] []) (codes "d" ∷ []) 3 ≡ codes "m"
no_fourth_file = refl
