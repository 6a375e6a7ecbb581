-- The items of a model's files in their order, taken as long as a test takes them: where it refuses one, that is the
-- first item in source order that it refuses.
use Rattle.std.specs.Prelude.{◌≡◌, refl, ℕ, List, [], ◌∷◌, Option, Some, None, Result, Ok, Err, codes}
use Rattle.mz_base.specs.declared.fault.Span.{Span}
use Rattle.mz_base.specs.Faults.{start_of}
use Rattle.mz_tree.specs.Tree.{node, absent}
use Rattle.mz_tree.specs.Items.{ItemTree, constraint, annotation}
use Rattle.mz_include.specs.Naming.{File}

infixl 10 ◌>>=◌
abbrev pub ◌>>=◌ : {A B E : Type 0} → Result A E → (A → Result B E) → Result B E
(Ok x) >>= f = f x
(Err e) >>= f = Err e

-- a place, and the name of the file that it lies in
abbrev pub Where : Type 0
Where = Span × List ℕ

abbrev pub located : {A : Type 0} → List ℕ → Result A Span → Result A Where
located file (Ok x) = Ok x
located file (Err s) = Err (s, file)

-- what the items taken so far make, or the place of the first one that isn't taken after them
module _ {S : Type 0} (take : S → ItemTree → Result S Span) where
  unfoldable pub walk_items : S → List ItemTree → Result S Span
  walk_items before [] = Ok before
  walk_items before (t ∷ ts) = do
    so_far ← take before t
    walk_items so_far ts

  unfoldable pub walk_files : S → List File → Result S Where
  walk_files before [] = Ok before
  walk_files before (f ∷ fs) = do
    so_far ← located f.name (walk_items before f.items)
    walk_files so_far fs

abbrev pub stop_at : Option Span → Result (Unit {0}) Span
stop_at None = Ok tt
stop_at (Some s) = Err s

-- an item is refused, or not, whatever stands before it
abbrev pub unless_refused : (ItemTree → Option Span) → Unit {0} → ItemTree → Result (Unit {0}) Span
unless_refused refused u t = stop_at (refused t)

-- of two files, each with an item that is refused, the first one's is the place
abbrev pub a_constraint : ItemTree → Option Span
a_constraint (constraint (node s f)) = Some s
a_constraint _ = None

pub first_of_two : walk_files (unless_refused a_constraint) tt
    (record { name = codes "m"; items = annotation 0 ∷ constraint (node (start_of 0) absent) ∷ []; end = start_of 0 } ∷ record { name = codes "a"; items = constraint (node (start_of 1) absent) ∷ []; end = start_of 1 } ∷ [])
    ≡ Err (start_of 0, codes "m")
unfolding walk_items walk_files
first_of_two = refl
