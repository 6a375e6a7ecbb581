-- The items of the code's files: they are those of the files by name, and their names and places are known.
use Rattle.std.proofs.Common.{◌≡◌, ℕ, ◌<◌, List, [], ◌∷◌, ◌++◌, length, map, get_or, refl, ap, ◌∙◌, ◌≤◌, arith}
use Rattle.std.specs.Prelude.{All}
use Rattle.std.specs.List.{flat_map}
use Rattle.std.proofs.lemmas.List.Elements.{All-nil, All-cons, All-head, All-tail, All-weaker}
use Rattle.std.proofs.lemmas.Option.{slice_get-get_or}
use Rattle.mz_tree.specs.declared.source.SourceFile.{SourceFile}
use Rattle.mz_tree.specs.declared.data.DataItem.{DataItem}
use Rattle.mz_tree.specs.Data.{Given, given}
use Rattle.mz_tree.specs.Items.{ItemTree, item}
use Rattle.mz_tree.specs.Kinds.{OfItem}
use Rattle.mz_tree.proofs.Later.{item_later}
use Rattle.mz_tree.proofs.Collected.{all_flat}
use Rattle.mz_scope_names.specs.Given.{occurrences}
use Rattle.mz_scope_names.specs.Occurrences.{in_item}
use Rattle.mz_scope_names.specs.StepsWalk as code
use Rattle.mz_scope_names.proofs.Spots.{item_named}
use Rattle.mz_tree.specs.Named.{IsGivenWithin}
use Rattle.mz_scope.specs.Tests as tests
use Rattle.mz_scope.specs.Tests.{AreNamed, known_in, solve_in, refusal, refusal_of}
use Rattle.mz_scope.proofs.Naming.{all_named}
use Rattle.mz_include.specs.Trees.{IsItemOf}
use Rattle.mz_include.specs.Views.{file, IsFileOf, AreKnown}
use Rattle.mz_include.specs.WithData.{IsGivenKnown}
use Rattle.mz_analysis.specs.Analysis.{items_of, end_of, name_fault}

pub items_are : (table : List (List ℕ)) (fs : List SourceFile) → code.items_of fs ≡ items_of (map (file table) fs)
items_are table [] = refl
items_are table (f ∷ fs) = ap (λ z. map item f.items.items ++ z) (items_are table fs)

end_is : (table : List (List ℕ)) (fs : List SourceFile) → tests.end_of fs ≡ end_of (map (file table) fs)
end_is table [] = refl
end_is table (f ∷ fs) = refl

pub fault_is : (table : List (List ℕ)) (fs : List SourceFile) (ds : List DataItem) → refusal_of table fs ds ≡ name_fault table (map (file table) fs) (map given ds)
fault_is table fs ds =
    ap (λ z. refusal table (known_in table) (tests.end_of fs) (flat_map solve_in z) (occurrences z (map given ds))) (items_are table fs)
    ∙ ap (λ e. refusal table (known_in table) e (flat_map solve_in (items_of (map (file table) fs))) (occurrences (items_of (map (file table) fs)) (map given ds))) (end_is table fs)

-- a file of the table, one of this many
record IsFileAmong (table : List (List ℕ)) (count : ℕ) (f : SourceFile) : Type 0 where
  turn : ℕ
  below : turn < count
  is : IsFileOf table turn f

among : (table : List (List ℕ)) (fs : List SourceFile) → AreKnown table fs → All (IsFileAmong table (length fs)) fs
among table fs known = λ k d below. record { turn = k; below = below; is = known k (get_or fs k d) (slice_get-get_or fs k d below) }

pub all_mapped : {A B : Type 0} (P : B → Type 0) (f : A → B) (xs : List A) → All (λ x. P (f x)) xs → All P (map f xs)
all_mapped P f [] h = All-nil P
all_mapped P f (x ∷ xs) h = All-cons P (f x) (map f xs) (All-head (λ y. P (f y)) x xs h) (all_mapped P f xs (All-tail (λ y. P (f y)) x xs h))

module _ (table : List (List ℕ)) (count : ℕ) where
  -- an item whose names are of the table, and whose places are in this many files
  abbrev pub IsKnown : ItemTree → Type 0
  IsKnown i = OfItem (λ n. n < length table) (λ s. s.file < count) i

  item_known : (turn : ℕ) → turn < count → (i : ItemTree) → IsItemOf table turn i → IsKnown i
  item_known turn below i h = item_later (λ n. n < length table) (λ n. n < length table) (λ s. s.file ≡ turn) (λ s. s.file < count) (λ n k. k) (λ s is. rw is below) i h

  in_file : (f : SourceFile) → IsFileAmong table count f → All IsKnown (map item f.items.items)
  in_file f k = all_mapped IsKnown item f.items.items (All-weaker (λ i. IsItemOf table k.turn (item i)) (λ i. IsKnown (item i)) (λ i. item_known k.turn k.below (item i)) f.items.items k.is.items)

pub all_known : (table : List (List ℕ)) (fs : List SourceFile) → AreKnown table fs → All (IsKnown table (length fs)) (code.items_of fs)
all_known table fs known = all_flat (IsKnown table (length fs)) (IsFileAmong table (length fs)) (λ f. map item f.items.items) (in_file table (length fs)) fs (among table fs known)

-- the places are in more files too
pub all_among : (table : List (List ℕ)) (fs : List SourceFile) (count : ℕ) → length fs ≤ count → AreKnown table fs → All (IsKnown table count) (code.items_of fs)
all_among table fs count fewer known =
    All-weaker (IsKnown table (length fs)) (IsKnown table count)
    (λ i h. item_later (λ n. n < length table) (λ n. n < length table) (λ s. s.file < length fs) (λ s. s.file < count) (λ n k. k) (λ s below. omega (arith, below, fewer)) i h)
    (code.items_of fs) (all_known table fs known)

-- the names of all occurrences are of the table
pub names_known : (table : List (List ℕ)) (fs : List SourceFile) (count : ℕ) (gs : List Given) → AreKnown table fs → All (IsGivenKnown (length table) count) gs → AreNamed table (occurrences (code.items_of fs) gs)
names_known table fs count gs known items =
    all_named (length table) (code.items_of fs) gs
    (All-weaker (IsKnown table (length fs)) (λ i. All (λ o. o.name < length table) (in_item i)) (λ i h. item_named (λ n. n < length table) (λ s. s.file < length fs) i h) (code.items_of fs) (all_known table fs known))
    (All-weaker (IsGivenKnown (length table) count) (IsGivenWithin (length table)) (λ g k. k.within) gs items)
