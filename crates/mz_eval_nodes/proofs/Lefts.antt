-- The left operands of `++`, the last one first.
use Rattle.std.proofs.Common.{◌≡◌, List, [], ◌∷◌, ◌++◌, map, refl}
use Rattle.mz_symbol.specs.Readings.{Reading}
use Rattle.mz_eval_cells.specs.declared.types.Known.{Known}
use Rattle.mz_eval_chains.specs.declared.types.Operator.{Operator}
use Rattle.mz_eval_nodes.specs.Operators.{reversed_onto, left_seen, lefts_seen}

reversed_push : {A B : Type 0} (f : A → B) (acc : List B) (xs : List A) (x : A) → reversed_onto acc (map f (xs ++ x ∷ [])) ≡ f x ∷ reversed_onto acc (map f xs)
reversed_push f acc [] x = refl
reversed_push f acc (y ∷ xs) x = reversed_push f (f y ∷ acc) xs x

pub lefts_push : (r : Reading) (ps : List (Operator × Known)) (p : Operator × Known) → lefts_seen r (ps ++ p ∷ []) ≡ left_seen r p ∷ lefts_seen r ps
lefts_push r ps p = reversed_push (left_seen r) [] ps p
