-- Declarations with the values that assignment items give them.
use Rattle.std.proofs.Common.{◌≡◌, List, [], ◌∷◌, refl, ap, ◌∙◌, map}
use Rattle.std.specs.List.{flat_map}
use Rattle.mz_tree.specs.Tree as pure
use Rattle.mz_tree.specs.Tree.{Name, Maybe, Declaration}
use Rattle.mz_tree.specs.Items.{ItemTree, include, declare, assign, constraint, solve, output, function, enum, annotation}
use Rattle.mz_scope_order.specs.Parts.{assigned, or_assigned, filled, declared_in}
use Rattle.mz_scope_order.specs.StepsParts.{filled_by, filled_in}

filled_same : (f : Name → Maybe) (all : List ItemTree) → ((n : Name) → f n ≡ assigned n all) → (d : Declaration) → filled_by f d ≡ filled all d
filled_same f all e (pure.declaration t n s v) = ap (λ z. pure.declaration t n s (or_assigned v z)) (e n)

pub fills : (f : Name → Maybe) (all : List ItemTree) → ((n : Name) → f n ≡ assigned n all) → (is : List ItemTree) → flat_map (filled_in f) is ≡ map (filled all) (flat_map declared_in is)
fills f all e [] = refl
fills f all e (declare d ∷ is) = ap (λ z. z ∷ flat_map (filled_in f) is) (filled_same f all e d) ∙ ap (λ z. filled all d ∷ z) (fills f all e is)
fills f all e (assign m s x ∷ is) = fills f all e is
fills f all e (include m s ∷ is) = fills f all e is
fills f all e (constraint x ∷ is) = fills f all e is
fills f all e (solve s g ∷ is) = fills f all e is
fills f all e (output x ∷ is) = fills f all e is
fills f all e (function h ∷ is) = fills f all e is
fills f all e (enum m s cs ∷ is) = fills f all e is
fills f all e (annotation m ∷ is) = fills f all e is
