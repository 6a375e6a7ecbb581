-- One step of a fold of ends, inside the limit and outside.
use Rattle.std.proofs.Common.{◌≡◌, List, refl, sym, ap, ◌∙◌}
use Rattle.std.specs.Prelude.{Bool, true, false, ◌&&◌, Some, None, [], ◌∷◌, if◌then◌else◌}
use Rattle.mz_interval.specs.Ends.{Ends, is_number, if_in_limit}
use Rattle.mz_operations.specs.declared.row.Fold.{Fold}
use Rattle.mz_operations.specs.declared.row.Fold.TheVariants.{Sum, SumOfOptions, Product}
use Rattle.mz_operations.specs.Bounds.{fold_ends, folded_ends, within_ends}
use Rattle.mz_operations_bounds.specs.StepsLists.{taken_in}

within_limit : (op : Fold) (acc e : Ends) → fold_ends op acc e ≡ within_ends acc (taken_in op acc e)
unfolding fold_ends
within_limit Sum acc e = refl
within_limit SumOfOptions acc e = refl
within_limit Product acc e = refl

chosen_inside : (b : Bool) (acc a next : Ends) → (if b then Some acc else None) ≡ Some a → (acc ≡ a) × ((if b then next else acc) ≡ next)
chosen_inside true acc a next h = (cc, refl)
chosen_inside false acc a next h = absurd (cc)

chosen_outside : (b : Bool) (acc next : Ends) → (if b then Some acc else None) ≡ None → (if b then next else acc) ≡ acc
chosen_outside true acc next h = absurd (cc)
chosen_outside false acc next h = refl

pub step_inside : (op : Fold) (acc a e r : Ends) → Some a ≡ if_in_limit acc → r ≡ taken_in op a e → r ≡ fold_ends op acc e
step_inside op acc a e r h t =
    let p = chosen_inside (is_number acc.0 && is_number acc.1) acc a (taken_in op acc e) (sym h) in
    t ∙ ap (λ b. taken_in op b e) (sym p.0) ∙ sym (within_limit op acc e ∙ p.1)

pub step_outside : (op : Fold) (acc e : Ends) → None ≡ if_in_limit acc → acc ≡ fold_ends op acc e
step_outside op acc e h = sym (within_limit op acc e ∙ chosen_outside (is_number acc.0 && is_number acc.1) acc (taken_in op acc e) (sym h))

pub none_folded : (op : Fold) (acc : Ends) → folded_ends op acc [] ≡ acc
unfolding folded_ends
none_folded op acc = refl

pub one_folded : (op : Fold) (acc e : Ends) (es : List Ends) → folded_ends op acc (e ∷ es) ≡ folded_ends op (fold_ends op acc e) es
unfolding folded_ends
one_folded op acc e es = refl
