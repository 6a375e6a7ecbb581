-- The first of several places, list by list.
use Rattle.std.proofs.Common.{◌≡◌, ◌∙◌, Bool, true, false, List, [], ◌∷◌, ◌++◌, Option, Some, None, refl, ap, if◌then◌else◌}
use Rattle.mz_base.specs.declared.fault.Span.{Span}
use Rattle.mz_meaning.specs.Unbounded.{stands_before, first_from, first_of}
use Rattle.mz_model_unbounded.specs.Firsts.{earlier, first_place}

pub first_of_none : (best : Option Span) → first_place best [] ≡ best
unfolding first_place
first_of_none best = refl

pub first_of_one : (best : Option Span) (p : Span) → first_place best (p ∷ []) ≡ earlier best p
unfolding first_place
first_of_one best p = refl

-- of two lists, one after the other
pub first_append : (best : Option Span) (xs ys : List Span) → first_place best (xs ++ ys) ≡ first_place (first_place best xs) ys
unfolding first_place
first_append best [] ys = refl
first_append best (x ∷ xs) ys = first_append (earlier best x) xs ys

-- ---- the first of a list

one_of : (b : Bool) (x y : Span) → (if b then Some x else Some y) ≡ Some (if b then x else y)
one_of true x y = refl
one_of false x y = refl

first_after : (a : Span) (ps : List Span) → first_place (Some a) ps ≡ Some (first_from a ps)
unfolding first_place
first_after a [] = refl
first_after a (p ∷ ps) = ap (λ o. first_place o ps) (one_of (stands_before p a) p a) ∙ first_after (if stands_before p a then p else a) ps

pub first_of_all : (ps : List Span) → first_place None ps ≡ first_of ps
unfolding first_place
first_of_all [] = refl
first_of_all (p ∷ ps) = first_after p ps
