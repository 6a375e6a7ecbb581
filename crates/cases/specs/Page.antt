-- What is added to a page: None is a page that is cut, or bytes that aren't told.
use Rattle.std.specs.Prelude.{◌≡◌, ◌++◌, ℕ, List, Option, Some, None, codes}

-- a page that isn't cut wasn't cut before, and has these bytes more
abbrev pub Adds : Option (List ℕ) → Option (List ℕ) → Option (List ℕ) → Type 0
Adds told old None = Unit {0}
Adds told None (Some new) = ⊥
Adds None (Some old) (Some new) = Unit {0}
Adds (Some bytes) (Some old) (Some new) = new ≡ old ++ bytes

-- the same with the end of the line
abbrev pub AddsLine : Option (List ℕ) → Option (List ℕ) → Option (List ℕ) → Type 0
AddsLine told old None = Unit {0}
AddsLine told None (Some new) = ⊥
AddsLine None (Some old) (Some new) = Unit {0}
AddsLine (Some bytes) (Some old) (Some new) = new ≡ (old ++ bytes) ++ codes "\n"

-- the same with a call before them, and the end of the line
abbrev pub AddsCase : List ℕ → Option (List ℕ) → Option (List ℕ) → Option (List ℕ) → Type 0
AddsCase call told old None = Unit {0}
AddsCase call told None (Some new) = ⊥
AddsCase call None (Some old) (Some new) = Unit {0}
AddsCase call (Some bytes) (Some old) (Some new) = new ≡ (((old ++ call) ++ codes ": ") ++ bytes) ++ codes "\n"
