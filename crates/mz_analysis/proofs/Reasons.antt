-- With which kinds the names of a model are refused.
use Rattle.std.proofs.Common.{◌≡◌, ℕ, Bool, List, [], subst}
use Rattle.std.specs.Prelude.{Option, Some, None}
use Rattle.std.specs.List.{flat_map}
use Rattle.mz_base.specs.declared.fault.Span.{Span}
use Rattle.mz_base.specs.declared.fault.Fault.{Fault}
use Rattle.mz_base.specs.declared.kind.Kind.{Kind}
use Rattle.mz_base.specs.declared.kind.Kind.TheVariants.{ReservedName, DuplicateName, SolveItems, UnknownName, DataForm, MissingData}
use Rattle.mz_base.specs.Faults.{fault_at}
use Rattle.mz_tree.specs.Items.{ItemTree}
use Rattle.mz_tree.specs.Data.{Given}
use Rattle.mz_scope_names.specs.declared.occurrence.Occurrence.{Occurrence}
use Rattle.mz_scope_names.specs.Given.{occurrences}
use Rattle.mz_scope_order.specs.Scoped.{IsCyclic, at_decl, at_function}
use Rattle.mz_scope.specs.Tests.{known_in, solve_in, or_refused, refusal, first_unknown_of, first_missing_of, first, first_after, is_reserved, is_repeated, solve_fault, is_misfit}
use Rattle.mz_include.specs.Naming.{File}
use Rattle.mz_analysis.specs.Analysis.{items_of, end_of, IsOfTests, IsIllNamed, by_a_test, by_a_cycle}

some_kind : (kind : Kind) (s : Span) (f : Fault) → IsOfTests kind → Some (fault_at kind s) ≡ Some f → IsOfTests f.kind
some_kind kind s f k is = let same : fault_at kind s ≡ f = cc in subst (λ (g : Fault). IsOfTests g.kind) same k

or_kind : (kind : Kind) (o : Option Span) (later : Option Fault) (f : Fault) → IsOfTests kind → (later ≡ Some f → IsOfTests f.kind) → or_refused kind o later ≡ Some f → IsOfTests f.kind
or_kind kind (Some s) later f k next is = some_kind kind s f k is
or_kind kind None later f k next is = next is

none_there : (f : Fault) → None ≡ Some f → IsOfTests f.kind
none_there f is = absurd (cc)

refusal_kind : (texts : List (List ℕ)) (known : ℕ → Bool) (end : Span) (solves : List Span) (os : List Occurrence) (f : Fault) → refusal texts known end solves os ≡ Some f → IsOfTests f.kind
refusal_kind texts known end solves os f is =
    or_kind ReservedName (first (is_reserved texts) os) _ f tt
    (or_kind DuplicateName (first_after is_repeated [] os) _ f tt
    (or_kind SolveItems (solve_fault end solves) _ f tt
    (or_kind UnknownName (first_unknown_of known os) _ f tt
    (or_kind DataForm (first is_misfit os) _ f tt
    (or_kind MissingData (first_missing_of os) None f tt (none_there f)))))) is

cyclic_kind : (is : List ItemTree) (f : Fault) → IsCyclic is f → IsOfTests f.kind
cyclic_kind is _ (at_decl d stuck) = tt
cyclic_kind is _ (at_function k back) = tt

pub ill_kind : (table : List (List ℕ)) (files : List File) (items : List Given) (f : Fault) → IsIllNamed table files items f → IsOfTests f.kind
ill_kind table files items f (by_a_test found) = refusal_kind table (known_in table) (end_of files) (flat_map solve_in (items_of files)) (occurrences (items_of files) items) f found
ill_kind table files items f (by_a_cycle none cyclic) = cyclic_kind (items_of files) f cyclic
