-- Every name in an item is of a table, and every place in it is in one file; the names that declarations give are identifiers.
use Rattle.std.specs.Prelude.{◌≡◌, ℕ, ◌<◌, List, length, true, refl}
use Rattle.mz_base.specs.declared.fault.Span.{Span}
use Rattle.mz_base.specs.Names.{text_of}
use Rattle.mz_base.specs.Words.{is_identifier}
use Rattle.mz_tree.specs.Tree.{declaration}
use Rattle.mz_tree.specs.Items.{ItemTree, include, declare}
use Rattle.mz_tree.specs.Kinds.{OfItem}

-- every name in the item is one of this table, and every place in it is in the file of this number
abbrev pub IsItemOf : List (List ℕ) → ℕ → ItemTree → Type 0
IsItemOf names turn i = OfItem (λ n. n < length names) (λ s. s.file ≡ turn) i

-- the name that an include item gives is one of this table
abbrev pub IsIncludeKnown : List (List ℕ) → ItemTree → Type 0
IsIncludeKnown names (include n s) = n < length names
IsIncludeKnown names _ = Unit {0}

-- the name that a declaration gives is an identifier
abbrev pub DeclaresSpelled : List (List ℕ) → ItemTree → Type 0
DeclaresSpelled names (declare (declaration t n s e)) = is_identifier (text_of names n) ≡ true
DeclaresSpelled names _ = Unit {0}

-- What is said of an include item of the third file
pub of_an_include : (names : List (List ℕ)) (s : Span) → IsItemOf names 2 (include 0 s) ≡ ((0 < length names) × (s.file ≡ 2))
of_an_include names s = refl
