-- The names of a model that was gathered, and of its data, are names of the table.
use Rattle.std.proofs.Common.{◌≡◌, ◌<◌, ℕ, List, ◌++◌, length, map, sym, subst}
use Rattle.std.specs.Prelude.{All}
use Rattle.std.proofs.lemmas.List.{map-append}
use Rattle.std.proofs.lemmas.List.Elements.{All-weaker, All-append}
use Rattle.mz_base.specs.Names.{Grows}
use Rattle.mz_tree.specs.declared.source.SourceFile.{SourceFile}
use Rattle.mz_tree.specs.declared.data.DataItem.{DataItem}
use Rattle.mz_tree.specs.Data.{Given, given}
use Rattle.mz_scope_names.specs.Given.{occurrences}
use Rattle.mz_scope_names.specs.Occurrences.{in_item}
use Rattle.mz_scope_names.specs.StepsWalk.{items_of}
use Rattle.mz_scope_names.proofs.Spots.{item_named}
use Rattle.mz_include.specs.Views.{AreKnown}
use Rattle.mz_tree.specs.Named.{IsGivenWithin}
use Rattle.mz_tree.proofs.Staying.{stays}
use Rattle.mz_scope.specs.Tests.{AreNamed}
use Rattle.mz_scope.proofs.Naming.{all_named}
use Rattle.mz_analysis.proofs.Items.{IsKnown, all_known}

pub occurring : (names : List (List ℕ)) (fs : List SourceFile) (ds : List Given) → AreKnown names fs → All (IsGivenWithin (length names)) ds → AreNamed names (occurrences (items_of fs) ds)
occurring names fs ds known within =
    all_named (length names) (items_of fs) ds
    (All-weaker (IsKnown names (length fs)) (λ i. All (λ o. o.name < length names) (in_item i)) (λ i h. item_named (λ n. n < length names) (λ s. s.file < length fs) i h) (items_of fs) (all_known names fs known))
    within

-- the data of two files, the second read after the first
pub both_within : (old new : List (List ℕ)) (xs ys zs : List DataItem) → Grows old new → All (IsGivenWithin (length old)) (map given xs) → All (IsGivenWithin (length new)) (map given ys) → zs ≡ xs ++ ys → All (IsGivenWithin (length new)) (map given zs)
both_within old new xs ys zs grows first second is =
    let Q = IsGivenWithin (length new) in
    let both = All-append Q (map given xs) (map given ys) (All-weaker (IsGivenWithin (length old)) Q (λ d h. stays old new d grows h) (map given xs) first) second in
    subst (λ (ws : List DataItem). All Q (map given ws)) (sym is) (subst (λ (gs : List Given). All Q gs) (sym (map-append given xs ys)) both)
