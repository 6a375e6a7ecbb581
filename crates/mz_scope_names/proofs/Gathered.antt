-- All occurrences of a model with its data.
use Rattle.std.proofs.Common.{◌≡◌, ℕ, List, [], ◌∷◌, ◌++◌, refl, ap, sym, ◌∙◌, map}
use Rattle.std.specs.List.{flat_map}
use Rattle.mz_tree.specs.declared.source.SourceFile.{SourceFile}
use Rattle.mz_tree.specs.declared.data.DataItem.{DataItem}
use Rattle.mz_tree.specs.Items.{ItemTree, item}
use Rattle.mz_tree.specs.Data.{given}
use Rattle.mz_scope_names.specs.declared.occurrence.Occurrence.{Occurrence}
use Rattle.mz_scope_names.specs.Occurrences.{in_item}
use Rattle.mz_scope_names.specs.Given.{enum_of, in_given, occurrences}
use Rattle.mz_scope_names.specs.Sets.{holds}
use Rattle.mz_scope_names.specs.StepsWalk.{items_of}
use Rattle.mz_scope_names.proofs.Lists.{flat_of_both, flat_mapped}

pub files_flat : {Y : Type 0} (f : ItemTree → List Y) (fs : List SourceFile) → flat_map f (items_of fs) ≡ flat_map (λ s. flat_map (λ i. f (item i)) s.items.items) fs
files_flat f [] = refl
files_flat f (s ∷ fs) =
    flat_of_both f (map item s.items.items) (items_of fs)
    ∙ ap (λ z. z ++ flat_map f (items_of fs)) (flat_mapped f item s.items.items)
    ∙ ap (λ z. flat_map (λ i. f (item i)) s.items.items ++ z) (files_flat f fs)

same_data : (a b : List ℕ) → ((n : ℕ) → holds n a ≡ holds n b) → (ds : List DataItem) → flat_map (λ d. in_given (holds d.name a) (given d)) ds ≡ flat_map (λ d. in_given (holds d.name b) (given d)) ds
same_data a b e [] = refl
same_data a b e (d ∷ ds) =
    ap (λ z. in_given z (given d) ++ flat_map (λ x. in_given (holds x.name a) (given x)) ds) (e d.name)
    ∙ ap (λ z. in_given (holds d.name b) (given d) ++ z) (same_data a b e ds)

pub gathered : (fs : List SourceFile) (ds : List DataItem) (out all : List Occurrence) (enums names : List ℕ) → out ≡ flat_map (λ f. flat_map (λ i. in_item (item i)) f.items.items) fs → all ≡ out ++ flat_map (λ d. in_given (holds d.name enums) (given d)) ds → ((n : ℕ) → holds n enums ≡ holds n names) → names ≡ flat_map (λ f. flat_map (λ i. enum_of (item i)) f.items.items) fs → all ≡ occurrences (items_of fs) (map given ds)
gathered fs ds out all enums names p q e r =
    q ∙ ap (λ z. z ++ flat_map (λ d. in_given (holds d.name enums) (given d)) ds) (p ∙ sym (files_flat in_item fs))
    ∙ ap (λ z. flat_map in_item (items_of fs) ++ z)
    (same_data enums (flat_map enum_of (items_of fs)) (λ n. e n ∙ ap (λ z. holds n z) (r ∙ sym (files_flat enum_of fs))) ds
    ∙ sym (flat_mapped (λ d. in_given (holds d.name (flat_map enum_of (items_of fs))) d) given ds))

-- the same, of what the code has in hand
pub gathered_by : (fs : List SourceFile) (ds : List DataItem) (none out all : List Occurrence) (enums read names : List ℕ) (fs1 fs3 : List SourceFile) (ds4 : List DataItem)
    → fs1 ≡ fs → read ≡ names → fs3 ≡ fs → ds4 ≡ ds → none ≡ [] → out ≡ none ++ flat_map (λ f. flat_map (λ i. in_item (item i)) f.items.items) fs3
    → all ≡ out ++ flat_map (λ d. in_given (holds d.name enums) (given d)) ds4 → ((n : ℕ) → holds n enums ≡ holds n read)
    → names ≡ flat_map (λ f. flat_map (λ i. enum_of (item i)) f.items.items) fs1 → all ≡ occurrences (items_of fs) (map given ds)
gathered_by fs ds none out all enums read names fs1 fs3 ds4 a b c d n p q e r =
    gathered fs ds out all enums names
    (p ∙ ap (λ z. z ++ flat_map (λ f. flat_map (λ i. in_item (item i)) f.items.items) fs3) n ∙ ap (λ z. flat_map (λ f. flat_map (λ i. in_item (item i)) f.items.items) z) c)
    (q ∙ ap (λ z. out ++ flat_map (λ d. in_given (holds d.name enums) (given d)) z) d)
    (λ m. e m ∙ ap (λ z. holds m z) b)
    (r ∙ ap (λ z. flat_map (λ f. flat_map (λ i. enum_of (item i)) f.items.items) z) a)
