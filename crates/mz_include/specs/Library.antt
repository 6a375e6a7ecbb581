-- The files of the built-in library.
use Rattle.std.specs.Prelude.{◌≡◌, ℕ, List, [], ◌∷◌, ◌++◌, Bool, true, false, codes, map, refl}
use Rattle.std.specs.List.{list_any}
use Rattle.std.specs.Str.{bytes_eq}

-- the names of the global constraints
abbrev pub global_names : List (List ℕ)
global_names =
    codes "all_different" ∷ codes "alldifferent" ∷ codes "alldifferent_except_0" ∷ codes "all_equal" ∷ codes "increasing" ∷ codes "decreasing"
    ∷ codes "strictly_increasing" ∷ codes "strictly_decreasing" ∷ codes "lex_less" ∷ codes "lex_lesseq" ∷ codes "sort" ∷ codes "value_precede"
    ∷ codes "maximum" ∷ codes "minimum" ∷ codes "member" ∷ codes "count" ∷ codes "at_least" ∷ codes "at_most" ∷ codes "exactly" ∷ codes "among"
    ∷ codes "nvalue" ∷ codes "global_cardinality" ∷ codes "sliding_sum" ∷ codes "int_set_channel" ∷ codes "link_set_to_booleans"
    ∷ codes "all_disjoint" ∷ codes "partition_set" ∷ codes "cumulative" ∷ codes "disjunctive" ∷ codes "disjunctive_strict" ∷ codes "diffn"
    ∷ codes "bin_packing" ∷ codes "bin_packing_load" ∷ codes "element" ∷ codes "table" ∷ codes "regular" ∷ codes "inverse" ∷ codes "circuit" ∷ []

-- the whole library, and a file for each global constraint
abbrev pub library : List (List ℕ)
library = map (λ name. name ++ codes ".mzn") (codes "globals" ∷ global_names)

-- the name, as it stands in an include item, is that of a file of the library
unfoldable pub is_library : List ℕ → Bool
is_library written = list_any (λ name. bytes_eq name written) library

-- a name is compared as it is written, with no folder before it
pub the_whole_library : is_library (codes "globals.mzn") ≡ true
unfolding is_library
the_whole_library = refl

pub one_global : is_library (codes "bin_packing_load.mzn") ≡ true
unfolding is_library
one_global = refl

pub no_global : is_library (codes "lib/globals.mzn") ≡ false
unfolding is_library
no_global = refl

pub without_its_ending : is_library (codes "circuit") ≡ false
unfolding is_library
without_its_ending = refl
