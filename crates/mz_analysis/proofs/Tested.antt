-- What scoping answers, of the files by name with the items of their data.
use Rattle.std.proofs.Common.{◌≡◌, ℕ, ◌<◌, List, [], ◌∷◌, length, map, refl, sym, subst, ◌∙◌, ◌≤◌, arith}
use Rattle.std.specs.Prelude.{None, Result, Ok, Err, IfOk, IfErr, All}
use Rattle.std.specs.List.{flat_map}
use Rattle.mz_base.specs.declared.fault.Span.{Span}
use Rattle.mz_base.specs.declared.fault.Fault.{Fault}
use Rattle.mz_base.specs.declared.stop.Stop.{Stop}
use Rattle.mz_base.specs.declared.stop.Stop.TheVariants as stop
use Rattle.mz_base.specs.Faults.{IfRefused}
use Rattle.mz_tree.specs.declared.source.SourceFile.{SourceFile}
use Rattle.mz_tree.specs.declared.data.DataItem.{DataItem}
use Rattle.mz_tree.specs.Data.{given}
use Rattle.std.proofs.lemmas.List.Elements.{All-weaker}
use Rattle.mz_scope_names.specs.Given.{occurrences}
use Rattle.mz_scope_names.specs.StepsWalk as code
use Rattle.mz_scope_order.specs.declared.scoped.Scoped.{Scoped}
use Rattle.mz_scope_order.specs.Scoped.{scoped_tree, IsScoped, IsCyclic}
use Rattle.mz_scope.specs.Scope as scope
use Rattle.mz_scope.specs.Tests as tests
use Rattle.mz_scope.specs.Tests.{known_in, solve_in, refusal_of}
use Rattle.mz_include.specs.Views.{file, IsFileOf, AreKnown}
use Rattle.mz_include.specs.WithData.{IsGivenKnown}
use Rattle.mz_analysis.specs.Analysis.{IsScopedModel, IsIllNamed, by_a_test, by_a_cycle}
use Rattle.mz_analysis.specs.Known.{IsWithin, OfGiven}
use Rattle.mz_analysis.proofs.Items.{items_are, fault_is, all_among}
use Rattle.mz_analysis.proofs.DataParts.{known_given}
use Rattle.mz_analysis.proofs.Parts.{of_scoped}
use Rattle.mz_analysis.proofs.Faults.{refusal_placed, solves, places, cyclic_placed}

module _ (table : List (List ℕ)) (fs : List SourceFile) (ds : List DataItem) where
  abbrev Answer : Type 0
  Answer = Result Scoped Stop

  abbrev HaveScope : Scoped → Type 0
  HaveScope s = IsScoped (code.items_of fs) (map given ds) (scoped_tree s)

  pub scoped_model : (r : Answer) → IfOk r (λ _. refusal_of table fs ds ≡ None) → IfOk r HaveScope → IfOk r (λ s. IsScopedModel table (map (file table) fs) (map given ds) (scoped_tree s))
  scoped_model (Ok s) tested scoped = record { tested = sym (fault_is table fs ds) ∙ tested; scoped = subst (λ is. IsScoped is (map given ds) (scoped_tree s)) (items_are table fs) scoped }
  scoped_model (Err e) tested scoped = tt

  ill : (f : Fault) → scope.IsRefused table fs ds f → IsIllNamed table (map (file table) fs) (map given ds) f
  ill f (scope.by_a_test found) = by_a_test (sym (fault_is table fs ds) ∙ found)
  ill f (scope.by_a_cycle none cyclic) = by_a_cycle (sym (fault_is table fs ds) ∙ none) (subst (λ is. IsCyclic is f) (items_are table fs) cyclic)

  pub ill_named : (r : Answer) → IfErr r (λ s. IfRefused s (scope.IsRefused table fs ds)) → IfErr r (λ s. IfRefused s (IsIllNamed table (map (file table) fs) (map given ds)))
  ill_named (Ok s) refused = tt
  ill_named (Err (stop.Refused f)) refused = ill f refused
  ill_named (Err stop.Memory) refused = tt

  -- all names are of the table, and all places in this many files
  module _ (count : ℕ) (fewer : length fs ≤ count) (known : AreKnown table fs) (items : All (IsGivenKnown (length table) count) (map given ds)) where
    abbrev IsNamed : ℕ → Type 0
    IsNamed n = n < length table

    abbrev IsPlaced : Span → Type 0
    IsPlaced at = at.file < count

    all_given : All (OfGiven IsNamed IsPlaced) (map given ds)
    all_given = All-weaker (IsGivenKnown (length table) count) (OfGiven IsNamed IsPlaced) (known_given (length table) count) (map given ds) items

    pub within : (r : Answer) → IfOk r HaveScope → IfOk r (λ s. IsWithin (length table) count (scoped_tree s))
    within (Ok s) scoped = of_scoped IsNamed IsPlaced (code.items_of fs) (map given ds) (scoped_tree s) (all_among table fs count fewer known) all_given scoped
    within (Err e) scoped = tt

    module _ (some : 0 < length fs) where
      end_placed : (gs : List SourceFile) → AreKnown table gs → IsPlaced (tests.end_of gs)
      end_placed [] k = omega (arith, some, fewer)
      end_placed (g ∷ gs) k = let first : IsFileOf table 0 g = k 0 g refl in let zero = first.end in omega (arith, zero, some, fewer)

      placed : (f : Fault) → scope.IsRefused table fs ds f → IsPlaced f.span
      placed f (scope.by_a_test found) =
          refusal_placed IsPlaced table (known_in table) (tests.end_of fs) (flat_map solve_in (code.items_of fs)) (occurrences (code.items_of fs) (map given ds)) f (end_placed fs known)
          (solves IsNamed IsPlaced (code.items_of fs) (all_among table fs count fewer known)) (places IsNamed IsPlaced (code.items_of fs) (map given ds) (all_among table fs count fewer known) all_given) found
      placed f (scope.by_a_cycle none cyclic) = cyclic_placed IsNamed IsPlaced (code.items_of fs) f (all_among table fs count fewer known) cyclic

      pub fault_placed : (r : Answer) → IfErr r (λ s. IfRefused s (scope.IsRefused table fs ds)) → IfErr r (λ s. IfRefused s (λ f. f.span.file < count))
      fault_placed (Ok s) refused = tt
      fault_placed (Err (stop.Refused f)) refused = placed f refused
      fault_placed (Err stop.Memory) refused = tt
