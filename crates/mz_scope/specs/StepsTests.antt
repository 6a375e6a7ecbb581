-- Mirror of src/repeated.rt; private clauses only.
use Rattle.std.specs.Prelude.{◌≡◌, ℕ, List, Bool, false}
use Rattle.mz_scope_names.specs.declared.occurrence.Occurrence.{Occurrence}
use Rattle.mz_scope_names.specs.declared.occurrence.Role.{Role}
use Rattle.mz_scope_names.specs.declared.occurrence.Role.TheVariants.{Declared, Valued}
use Rattle.mz_scope_names.specs.Sets.{holds, with_name}
use Rattle.mz_scope.specs.Spaces.{declares, gives, names_with}

-- the names that were declared, and those that were given a value, before a place
pub record Tracks (before : List Occurrence) (ds vs : List ℕ) : Type 0 where
  pub declared : (n : ℕ) → holds n ds ≡ holds n (names_with declares before)
  pub valued : (n : ℕ) → holds n vs ≡ holds n (names_with gives before)

abbrev pub repeated_in : Role → List ℕ → List ℕ → ℕ → Bool
repeated_in Declared ds vs n = holds n ds
repeated_in Valued ds vs n = holds n vs
repeated_in r ds vs n = false

abbrev pub declared_after : Role → List ℕ → ℕ → List ℕ
declared_after Declared ds n = with_name ds n
declared_after r ds n = ds

abbrev pub valued_after : Role → List ℕ → ℕ → List ℕ
valued_after Valued vs n = with_name vs n
valued_after r vs n = vs
