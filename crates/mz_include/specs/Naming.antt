-- The files of a model by name, in the order in which they were first named.
use Rattle.std.specs.Prelude.{◌≡◌, ℕ, List, [], ◌∷◌, ◌++◌, length, map, fold, slice_get, Option, if◌then◌else◌, codes, refl}
use Rattle.std.specs.List.{list_any, flat_map}
use Rattle.std.specs.Str.{bytes_eq}
use Rattle.mz_base.specs.declared.fault.Span.{Span}
use Rattle.mz_base.specs.Names.{text_of}
use Rattle.mz_base.specs.Faults.{start_of}
use Rattle.mz_tree.specs.Items.{ItemTree, include}
use Rattle.mz_include.specs.Joining.{folder, joined}
use Rattle.mz_include.specs.Library.{is_library}

-- that a file is named: the name under which it is fetched, where it is named, and the name of the file that stands there
pub record Mention : Type 0 where
  pub name : List ℕ
  pub span : Span
  pub owner : List ℕ

-- a file that was read: its name as it was fetched, its items, and the place of its end
pub record File : Type 0 where
  pub name : List ℕ
  pub items : List ItemTree
  pub end : Span

-- the model itself is named from outside, which has the place of its first byte
abbrev pub the_model : List ℕ → Mention
the_model first = record { name = first; span = start_of 0; owner = first }

-- the file that an item of the file `owner` includes, unless it is of the built-in library
abbrev pub included_by : List (List ℕ) → List ℕ → ItemTree → List Mention
included_by names owner (include n s) = if is_library (text_of names n) then [] else record { name = joined owner (text_of names n); span = s; owner = owner } ∷ []
included_by names owner _ = []

-- the files that a file includes, in the order of its items
unfoldable pub included : List (List ℕ) → File → List Mention
included names file = flat_map (included_by names file.name) file.items

-- one more mention, where the name is new
unfoldable pub with_mention : List Mention → Mention → List Mention
with_mention seen m = if list_any (λ s. bytes_eq m.name s.name) seen then seen else seen ++ m ∷ []

-- the first mention of each name, in order
unfoldable pub first_mentions : List Mention → List Mention
first_mentions ms = fold with_mention [] ms

-- the model, then each name that these files include, in the order in which it was first named, each once
unfoldable pub named : List (List ℕ) → List ℕ → List File → List Mention
named names first files = first_mentions (the_model first ∷ flat_map (included names) files)

-- the file whose turn it is when these were read
abbrev pub next : List (List ℕ) → List ℕ → List File → Option Mention
next names first files = slice_get (named names first files) (length files)

abbrev place : ℕ → Span
place col = record { file = 0; line = 1; col = col; byte = 0 }

-- A model that includes one file twice, the built-in library, and itself
pub each_name_once :
    map (λ m. m.name) (named (codes "a.mzn" ∷ codes "globals.mzn" ∷ codes "m.mzn" ∷ []) (codes "m.mzn")
    (record { name = codes "m.mzn"; items = include 0 (place 9) ∷ include 0 (place 26) ∷ include 1 (place 43) ∷ include 2 (place 66) ∷ []; end = place 74 } ∷ []))
    ≡ codes "m.mzn" ∷ codes "a.mzn" ∷ []
unfolding named first_mentions with_mention included folder is_library
each_name_once = refl

-- What the model names comes before what its files name, each in its folder
pub names_in_order :
    map (λ m. m.name) (named (codes "lib/a.mzn" ∷ codes "b.mzn" ∷ []) (codes "m.mzn")
    (record { name = codes "m.mzn"; items = include 0 (place 9) ∷ include 1 (place 30) ∷ []; end = place 38 }
    ∷ record { name = codes "lib/a.mzn"; items = include 1 (place 9) ∷ []; end = place 17 } ∷ []))
    ≡ codes "m.mzn" ∷ codes "lib/a.mzn" ∷ codes "b.mzn" ∷ codes "lib/b.mzn" ∷ []
unfolding named first_mentions with_mention included folder is_library
names_in_order = refl
