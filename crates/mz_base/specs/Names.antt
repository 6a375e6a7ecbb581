-- Tables of names: lists of texts, each once.
use Rattle.std.specs.Prelude.{◌≡◌, ℕ, ◌<◌, List, [], ◌∷◌, ◌++◌, length, slice_index_or, if◌then◌else◌}
use Rattle.std.specs.List.{list_any}
use Rattle.std.specs.Str.{bytes_eq}

-- the text of a name
abbrev pub text_of : List (List ℕ) → ℕ → List ℕ
text_of texts n = slice_index_or texts n []

-- a text of a table stands at one place of it
abbrev pub AreDistinct : List (List ℕ) → Type 0
AreDistinct texts = (i j : ℕ) → i < length texts → j < length texts → text_of texts i ≡ text_of texts j → i ≡ j

-- the table in which a text has its place: the last one where it is new
abbrev pub with_text : List (List ℕ) → List ℕ → List (List ℕ)
with_text texts text = if list_any (bytes_eq text) texts then texts else texts ++ text ∷ []

-- every name of a table is one of the later table, and keeps its text there
abbrev pub Grows : List (List ℕ) → List (List ℕ) → Type 0
Grows before after = (n : ℕ) → n < length before → (n < length after) × (text_of after n ≡ text_of before n)
