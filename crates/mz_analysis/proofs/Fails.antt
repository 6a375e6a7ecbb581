-- What typing answers, of the files by name with the items of their data.
use Rattle.std.proofs.Common.{◌≡◌, ℕ, ◌<◌, ◌+◌, List, [], ◌∷◌, length, map, refl, arith}
use Rattle.std.specs.Prelude.{Result, Ok, Err, IfErr, IsErrAnd}
use Rattle.std.proofs.lemmas.List.{length-map}
use Rattle.mz_base.specs.declared.fault.Fault.{Fault}
use Rattle.mz_base.specs.declared.stop.Stop.{Stop}
use Rattle.mz_base.specs.declared.stop.Stop.TheVariants as stop
use Rattle.mz_base.specs.Faults.{IfRefused}
use Rattle.mz_tree.specs.declared.source.SourceFile.{SourceFile}
use Rattle.mz_scope_order.specs.Scoped.{ScopedTree}
use Rattle.mz_check_data.specs.WithData.{IsRefusedWithData}
use Rattle.mz_tree.specs.Data.{Given}
use Rattle.mz_include.specs.Naming.{File}
use Rattle.mz_include.specs.Views.{file, IsFileOf, AreKnown}
use Rattle.mz_analysis.specs.Analysis.{IsScopedModel, IsIllNamed, IsOfTests, by_names, by_types, FailsTest}
use Rattle.mz_analysis.specs.Known.{IsWithin}
use Rattle.mz_analysis.proofs.Types.{types_placed}
use Rattle.mz_analysis.proofs.Reasons.{ill_kind}

first_name : (table : List (List ℕ)) (fs : List SourceFile) → 0 < length fs → AreKnown table fs → 0 < length table
first_name table [] some known = absurd (omega (arith, some))
first_name table (f ∷ fs) some known = let is : IsFileOf table 0 f = known 0 f refl in let below = is.name in omega (arith, below)

module _ (table : List (List ℕ)) (fs : List SourceFile) (data_files : ℕ) (items : List Given) where
  abbrev Files : List File
  Files = map (file table) fs

  in_files : (f : Fault) → f.span.file < length fs + data_files → f.span.file < length Files + data_files
  in_files f below = let same = length-map fs (file table) in omega (arith, below, same)

  pub names_fail : (s : Stop) → IfRefused s (IsIllNamed table Files items) → IfRefused s (λ f. f.span.file < length fs + data_files) → IfRefused s (FailsTest table Files data_files items)
  names_fail (stop.Refused f) ill placed = record { refused = by_names ill; kind = ill_kind table Files items f ill; placed = in_files f placed }
  names_fail stop.Memory ill placed = tt

  types_refused : (t : ScopedTree) (f : Fault) → IsScopedModel table Files items t → IsRefusedWithData table t f → (f.span.file < length fs + data_files) × IsOfTests f.kind → FailsTest table Files data_files items f
  types_refused t f is refused at = record { refused = by_types (record { scoped = t; is = is; types = refused }); kind = at.1; placed = in_files f at.0 }

  some_of_all : 0 < length fs → 0 < length fs + data_files
  some_of_all some = omega (arith, some)

  pub types_fail : (t : ScopedTree) (s : Stop) → 0 < length fs → AreKnown table fs → IsScopedModel table Files items t → IsWithin (length table) (length fs + data_files) t → IfRefused s (IsRefusedWithData table t) → IfRefused s (FailsTest table Files data_files items)
  types_fail t (stop.Refused f) some known is within refused =
      types_refused t f is refused (types_placed (λ n. n < length table) (λ at. at.file < length fs + data_files) (some_of_all some) (first_name table fs some known) table t f within refused)
  types_fail t stop.Memory some known is within refused = tt

-- an error that is handed on
pub handed_on : {A : Type 0} (P : Fault → Type 0) (r : Result A Stop) (s : Stop) → IsErrAnd r (λ e. e ≡ s) → IfRefused s P → IfErr r (λ e. IfRefused e P)
handed_on P (Ok x) s is h = tt
handed_on P (Err d) s is h = rw is h
