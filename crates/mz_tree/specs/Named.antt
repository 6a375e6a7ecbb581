-- The names in data, and data whose names are of a table.
use Rattle.std.specs.Prelude.{◌≡◌, ℕ, ◌<◌, List, [], ◌∷◌, ◌++◌, All, length, refl}
use Rattle.mz_base.specs.Names.{Grows}
use Rattle.mz_tree.specs.Tree.{Name}
use Rattle.mz_tree.specs.Data as pure
use Rattle.mz_tree.specs.Data.{Value, Values, Lines, Given}

-- the identifiers of a value
unfoldable mutual
  pub names_in : Value → List Name
  names_in (pure.bool b) = []
  names_in (pure.int z) = []
  names_in (pure.ident n) = n ∷ []
  names_in pure.absent = []
  names_in (pure.range v w) = names_in v ++ names_in w
  names_in (pure.set vs) = names_in_all vs
  names_in (pure.array vs) = names_in_all vs
  names_in (pure.rows ls) = names_in_lines ls
  names_in (pure.array_nd ss vs) = names_in_all ss ++ names_in_all vs

  pub names_in_all : Values → List Name
  names_in_all pure.no_values = []
  names_in_all (pure.a_value v vs) = names_in v ++ names_in_all vs

  pub names_in_lines : Lines → List Name
  names_in_lines pure.no_lines = []
  names_in_lines (pure.a_line vs ls) = names_in_all vs ++ names_in_lines ls

-- the names of an item of the data are of a table of this many texts
pub record IsGivenWithin (count : ℕ) (d : Given) : Type 0 where
  pub name : d.name < count
  pub names : All (λ n. n < count) (names_in d.value)

-- a table that grew has them too
abbrev pub AreNamedLater : Type 0
AreNamedLater = (before after : List (List ℕ)) (d : Given) → Grows before after → IsGivenWithin (length before) d → IsGivenWithin (length after) d

-- `{A, 1..B}`
pub of_a_set : names_in (pure.set (pure.values (pure.ident 3 ∷ pure.range pure.absent (pure.ident 4) ∷ []))) ≡ 3 ∷ 4 ∷ []
unfolding names_in
of_a_set = refl

-- `array2d({A}, B, [C])`: the names in the index sets come first
pub of_an_array : names_in (pure.array_nd (pure.values (pure.set (pure.values (pure.ident 3 ∷ [])) ∷ pure.ident 4 ∷ [])) (pure.values (pure.ident 5 ∷ []))) ≡ 3 ∷ 4 ∷ 5 ∷ []
unfolding names_in
of_an_array = refl

-- `[| A, 1 | B |]`
pub of_rows : names_in (pure.rows (pure.lines ((pure.ident 3 ∷ pure.absent ∷ []) ∷ (pure.ident 4 ∷ []) ∷ []))) ≡ 3 ∷ 4 ∷ []
unfolding names_in
of_rows = refl
