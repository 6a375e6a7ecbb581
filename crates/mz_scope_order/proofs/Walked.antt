-- The goal of the first solve item, item by item and file by file.
use Rattle.std.proofs.lemmas.List.{drop_all}
use Rattle.std.proofs.Common.{◌≡◌, ℕ, ◌+◌, ◌<◌, ◌≤◌, List, Option, Some, None, sym, ap, ◌∙◌, map, drop, length, get_or}
use Rattle.mz_tree.specs.declared.item.Item.{Item}
use Rattle.mz_tree.specs.declared.source.SourceFile.{SourceFile}
use Rattle.mz_tree.specs.Items.{GoalTree, item, satisfy}
use Rattle.mz_scope_names.specs.StepsWalk.{items_of}
use Rattle.mz_scope_order.specs.Parts.{goal_of}
use Rattle.mz_scope_order.specs.StepsParts.{goal_asked, first_goal}
use Rattle.mz_scope_order.specs.StepsTables.{or_next}
use Rattle.mz_scope_order.proofs.GatheringItems.{goal_both, goal_from}
use Rattle.mz_scope_order.proofs.NameTables.{dropped}

-- an item that asks for a goal, and one that doesn't
pub goal_here : (is : List Item) (i : ℕ) (it : Item) (whole : Option GoalTree) (g : GoalTree) → i < length is → it ≡ get_or is i it → Some g ≡ goal_asked (item it)
    → first_goal (map item (drop i is)) ≡ whole → Some g ≡ whole
unfolding first_goal
goal_here is i it whole g h e here so_far =
    sym (ap (λ z. first_goal (map item z)) (dropped is i it it h e) ∙ ap (λ z. or_next z (first_goal (map item (drop (i + 1) is)))) (sym here)) ∙ so_far

pub goal_later : (is : List Item) (i : ℕ) (it : Item) (whole : Option GoalTree) → i < length is → it ≡ get_or is i it → None ≡ goal_asked (item it)
    → first_goal (map item (drop i is)) ≡ whole → first_goal (map item (drop (i + 1) is)) ≡ whole
unfolding first_goal
goal_later is i it whole h e none so_far =
    sym (ap (λ z. first_goal (map item z)) (dropped is i it it h e) ∙ ap (λ z. or_next z (first_goal (map item (drop (i + 1) is)))) (sym none)) ∙ so_far

pub goal_nowhere : (is : List Item) (i : ℕ) (whole : Option GoalTree) → length is ≤ i → first_goal (map item (drop i is)) ≡ whole → None ≡ whole
unfolding first_goal
goal_nowhere is i whole h so_far = sym (ap (λ z. first_goal (map item z)) (drop_all i is h)) ∙ so_far

pub file_goal : (fs : List SourceFile) (i : ℕ) (f : SourceFile) (is : List Item) (found : Option GoalTree) (whole : GoalTree) → i < length fs → f ≡ get_or fs i f → is ≡ f.items.items → found ≡ first_goal (map item is)
    → goal_of (items_of (drop i fs)) ≡ whole → goal_from found (goal_of (items_of (drop (i + 1) fs))) ≡ whole
file_goal fs i f is found whole h e same first so_far =
    ap (λ z. goal_from z (goal_of (items_of (drop (i + 1) fs)))) (first ∙ ap (λ z. first_goal (map item z)) same)
    ∙ sym (goal_both (map item f.items.items) (items_of (drop (i + 1) fs)))
    ∙ sym (ap (λ z. goal_of (items_of z)) (dropped fs i f f h e))
    ∙ so_far

-- no file has a solve item
pub goal_none : (fs : List SourceFile) (i : ℕ) (whole : GoalTree) → length fs ≤ i → goal_of (items_of (drop i fs)) ≡ whole → satisfy ≡ whole
unfolding goal_of
goal_none fs i whole h so_far = sym (ap (λ z. goal_of (items_of z)) (drop_all i fs h)) ∙ so_far
