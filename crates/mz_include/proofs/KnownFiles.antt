-- Files whose names and places are known, when the table has grown, and one file more.
use Rattle.std.proofs.Common.{◌≡◌, ◌<◌, ℕ, zero, suc, List, [], ◌∷◌, ◌++◌, length, map, slice_get, refl, sym, ap, subst, ◌∙◌, inl, inr, arith, get_or}
use Rattle.std.specs.Prelude.{Some, All, ◌⊎◌}
use Rattle.std.proofs.lemmas.List.Elements.{All-nil, All-cons, All-head, All-tail, All-weaker}
use Rattle.std.proofs.lemmas.Option.{slice_get_within, slice_get-get_or}
use Rattle.mz_base.specs.declared.fault.Span.{Span}
use Rattle.mz_base.specs.Names.{Grows}
use Rattle.mz_base.specs.Faults.{start_of}
use Rattle.mz_lexer.specs.Lexemes.{after}
use Rattle.mz_tree.specs.declared.item.Item.{Item}
use Rattle.mz_tree.specs.declared.source.SourceFile.{SourceFile}
use Rattle.mz_tree.specs.Items.{ItemTree, item}
use Rattle.mz_include.specs.Trees.{IsItemOf, IsIncludeKnown}
use Rattle.mz_include.specs.Views.{IsFileOf, AreKnown}
use Rattle.mz_include.proofs.Places.{after_file}
use Rattle.mz_tree.proofs.Later.{item_later}
use Rattle.mz_include.proofs.KnownItems.{item_known}

-- where the table has grown from old to new
module _ (old new : List (List ℕ)) (grows : Grows old new) where
  item_of_later : (turn : ℕ) (i : ItemTree) → IsItemOf old turn i → IsItemOf new turn i
  item_of_later turn i h = item_later (λ n. n < length old) (λ n. n < length new) (λ s. s.file ≡ turn) (λ s. s.file ≡ turn) (λ n below. (grows n below).0) (λ s at. at) i h

  pub file_of_later : (turn : ℕ) (f : SourceFile) → IsFileOf old turn f → IsFileOf new turn f
  file_of_later turn f h = record {
    name = (grows f.name h.name).0;
    items = All-weaker (λ i. IsItemOf old turn (item i)) (λ i. IsItemOf new turn (item i)) (λ i. item_of_later turn (item i)) f.items.items h.items;
    end = h.end;
  }

  pub files_known_later : (fs : List SourceFile) → AreKnown old fs → AreKnown new fs
  files_known_later fs all turn f is = file_of_later turn f (all turn f is)

pub no_files : (names : List (List ℕ)) → AreKnown names []
no_files names turn f is = let below = slice_get_within [] turn f is in absurd (omega arith)

-- the element at a place of a list with one more
pub last_or_before : {X : Type 0} (xs : List X) (x y : X) (i : ℕ) → slice_get (xs ++ x ∷ []) i ≡ Some y → (slice_get xs i ≡ Some y) ⊎ ((i ≡ length xs) × (y ≡ x))
last_or_before [] x y zero e = inr (refl, cc)
last_or_before [] x y (suc i) e = cc
last_or_before (z ∷ xs) x y zero e = inl e
last_or_before (z ∷ xs) x y (suc i) e = elim (last_or_before xs x y i e) [ inl h ↦ inl h | inr h ↦ inr (ap suc h.0, h.1) ]

pub files_known_push : (names : List (List ℕ)) (fs : List SourceFile) (f : SourceFile) → AreKnown names fs → IsFileOf names (length fs) f → AreKnown names (fs ++ f ∷ [])
files_known_push names fs f all last turn g is = elim (last_or_before fs f g turn is) [
  | inl h ↦ all turn g h
  | inr h ↦ subst (λ k. IsFileOf names k g) (sym h.0) (subst (IsFileOf names (length fs)) (sym h.1) last)
]

pub each_named : (names : List (List ℕ)) (fs : List SourceFile) → AreKnown names fs → All (λ f. f.name < length names) fs
each_named names fs all k d below = (all k (get_or fs k d) (slice_get-get_or fs k d below)).name

-- the items of the code
pub each_item : (names : List (List ℕ)) (turn : ℕ) (is : List Item) → All (IsItemOf names turn) (map item is) → All (λ i. IsItemOf names turn (item i)) is
each_item names turn [] all = All-nil (λ i. IsItemOf names turn (item i))
each_item names turn (i ∷ is) all =
    All-cons (λ i. IsItemOf names turn (item i)) i is (All-head (IsItemOf names turn) (item i) (map item is) all) (each_item names turn is (All-tail (IsItemOf names turn) (item i) (map item is) all))

pub each_included : (names : List (List ℕ)) (turn : ℕ) (is : List Item) → All (λ i. IsItemOf names turn (item i)) is → All (λ i. IsIncludeKnown names (item i)) is
each_included names turn is all = All-weaker (λ i. IsItemOf names turn (item i)) (λ i. IsIncludeKnown names (item i)) (λ i. item_known names turn (item i)) is all

-- where a text ends
pub end_in : (turn : ℕ) (text : List ℕ) (start end : Span) → start ≡ start_of turn → end ≡ after start text → end.file ≡ turn
end_in turn text start end first last = ap (λ (s : Span). s.file) last ∙ after_file start text ∙ ap (λ (s : Span). s.file) first
