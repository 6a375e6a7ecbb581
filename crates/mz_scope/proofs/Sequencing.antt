-- The order of evaluation of what stands in memory is that of the parts.
use Rattle.std.proofs.Common.{◌≡◌, List, ap, ◌∙◌, map, subst}
use Rattle.mz_scope_names.specs.declared.sketch.Sketch.{Sketch as CodeSketch}
use Rattle.mz_scope_names.specs.Sketches.{Sketch, sketch}
use Rattle.mz_scope_order.specs.declared.sequence.Sequence.{Sequence}
use Rattle.mz_scope_order.specs.Answer.{IsAnswer}

pub sketched : {X T : Type 0} (view : X → T) (f : T → Sketch) (read sketches : List CodeSketch) (seen xs : List X) → read ≡ sketches → map sketch sketches ≡ map f (map view seen) → seen ≡ xs → map sketch read ≡ map f (map view xs)
sketched view f read sketches seen xs p q r = ap (λ z. map sketch z) p ∙ q ∙ ap (λ z. map f (map view z)) r

pub answered : (a b x y : List Sketch) (s : Sequence) → IsAnswer a b s → a ≡ x → b ≡ y → IsAnswer x y s
answered a b x y s k p q = subst (λ z. IsAnswer x z s) q (subst (λ z. IsAnswer z b s) p k)
