-- Steps of runs.
use Rattle.std.proofs.Common.{◌≡◌, ◌∙◌, ℕ, ◌+◌, ◌<◌, List, [], ◌∷◌, ◌++◌, map, drop, length, get_or, Result, Err, refl, sym, ap, subst}
use Rattle.std.proofs.lemmas.List.{at_drop_more}
use Rattle.mz_base.specs.declared.fault.Span.{Span}
use Rattle.mz_base.specs.declared.stop.Stop.{Stop}
use Rattle.mz_base.specs.declared.stop.Stop.TheVariants.{Refused, Memory}
use Rattle.mz_core.specs.Types.{PlainType}
use Rattle.mz_core.specs.Coercions.{PathLink}
use Rattle.mz_meaning.specs.Runs.{State, Answer, Out, Stopped, Run, then_do, loop, give}
use Rattle.mz_meaning.specs.Cells.{Cell}
use Rattle.mz_meaning.specs.Coerced.{coerced_type}
use Rattle.mz_meaning.specs.Forms.{World, coerced_once, coerced_by}
use Rattle.mz_symbol.specs.Makes.{MeetsAt}
use Rattle.mz_eval_scopes.specs.Runs.{Meets}

pub then_again : {A B C : Type 0} (a : Answer A) (f : A → State → Answer B) (g : B → State → Answer C) → then_do (then_do a f) g ≡ then_do a (λ x s. then_do (f x s) g)
then_again (Out x s) f g = refl
then_again (Stopped e) f g = refl

-- what follows, written otherwise
pub then_same : {A B : Type 0} (a : Answer A) (f g : A → State → Answer B) → ((x : A) (s : State) → f x s ≡ g x s) → then_do a f ≡ then_do a g
then_same (Out x s) f g h = h x s
then_same (Stopped e) f g h = refl

-- a loop over two lists, one after the other
pub loop_more : {A S : Type 0} (step : S → A → Run S) (acc : S) (xs ys : List A) (s : State) → loop step acc (xs ++ ys) s ≡ then_do (loop step acc xs s) (λ next. loop step next ys)
loop_more step acc [] ys s = refl
loop_more step acc (x ∷ xs) ys s =
    then_same (step acc x s) (λ next. loop step next (xs ++ ys)) (λ next t. then_do (loop step next xs t) (λ last. loop step last ys)) (λ next t. loop_more step next xs ys t)
    ∙ sym (then_again (step acc x s) (λ next. loop step next xs) (λ last. loop step last ys))

pub out_again : {A : Type 0} (a : Answer A) → then_do a give ≡ a
out_again (Out x s) = refl
out_again (Stopped f) = refl

pub loop_last : {A S : Type 0} (step : S → A → Run S) (acc : S) (xs : List A) (y : A) (s : State) → loop step acc (xs ++ y ∷ []) s ≡ then_do (loop step acc xs s) (λ next. step next y)
loop_last step acc xs y s = loop_more step acc xs (y ∷ []) s ∙ then_same (loop step acc xs s) (λ next. loop step next (y ∷ [])) (λ next. step next y) (λ next t. out_again (step next y t))

-- one step more of a loop over a list that is seen by a function
pub loop_goes : {A B S : Type 0} (see : A → B) (step : S → B → Run S) (xs : List A) (i : ℕ) (x : A) (acc next : S) (s t : State) (whole : Answer S) → i < length xs → x ≡ get_or xs i x → step acc (see x) s ≡ Out next t → whole ≡ loop step acc (map see (drop i xs)) s → whole ≡ loop step next (map see (drop (i + 1) xs)) t
loop_goes see step xs i x acc next s t whole l e h w =
    w
    ∙ at_drop_more (λ ys. loop step acc (map see ys) s) xs i x l
    ∙ ap (λ y. loop step acc (map see (y ∷ drop (i + 1) xs)) s) (sym e)
    ∙ ap (λ a. then_do a (λ n. loop step n (map see (drop (i + 1) xs)))) h

pub coerced_last : (w : World) (at : Span) (ls : List PathLink) (l : PathLink) (c : Cell) (s : State) → coerced_by w at (ls ++ l ∷ []) c s ≡ then_do (coerced_by w at ls c s) (λ next. coerced_once w at next l)
coerced_last w at ls l c s = loop_last (coerced_once w at) c ls l s

pub coerced_more : (w : World) (at : Span) (ls ms : List PathLink) (c : Cell) (s : State) → coerced_by w at (ls ++ ms) c s ≡ then_do (coerced_by w at ls c s) (λ next. coerced_by w at ms next)
coerced_more w at ls ms c s = loop_more (coerced_once w at) c ls ms s

pub coerced_type_last : (t : PlainType) (ls : List PathLink) (l : PathLink) → coerced_type t (ls ++ l ∷ []) ≡ l.1
coerced_type_last t [] l = refl
coerced_type_last t (k ∷ ls) l = coerced_type_last k.1 ls l

-- several steps, and then what follows
regroup_two : {B C D E : Type 0} (b : Answer B) (g : B → Run C) (h : B → C → Run D) (k : D → Run E) → then_do b (λ y t. then_do (g y t) (λ z u. then_do (h y z u) k)) ≡ then_do (then_do b (λ y t. then_do (g y t) (h y))) k
regroup_two (Out y t) g h k = sym (then_again (g y t) (h y) k)
regroup_two (Stopped e) g h k = refl

pub regroup : {A B C D E : Type 0} (a : Answer A) (f : A → Run B) (g : A → B → Run C) (h : A → B → C → Run D) (k : D → Run E) → then_do a (λ x s. then_do (f x s) (λ y t. then_do (g x y t) (λ z u. then_do (h x y z u) k))) ≡ then_do (then_do a (λ x s. then_do (f x s) (λ y t. then_do (g x y t) (h x y)))) k
regroup (Out x s) f g h k = regroup_two (f x s) (g x) (h x) k
regroup (Stopped e) f g h k = refl

pub meets_is : {A B : Type 0} (see : A → B) (r : Result A Stop) (n : ℕ) (a b : Answer B) → b ≡ a → Meets see r n a → Meets see r n b
meets_is see r n a b e h = subst (λ x. Meets see r n x) (sym e) h

-- a part that stops stops the whole
pub meets_err : {A B C D : Type 0} (see : A → B) (other : C → D) (e : Stop) (n m : ℕ) (a : Answer B) (go : B → State → Answer D) → Meets see (Err e) n a → Meets other (Err e) m (then_do a go)
meets_err see other (Refused f) n m a go h = ap (λ x. then_do x go) h
meets_err see other Memory n m a go h = tt

-- the same under a reading
pub meets_at_is : {A B : Type 0} (see : A → B) (x : Result A Stop) (s : State) (a b : Answer B) → b ≡ a → MeetsAt see x s a → MeetsAt see x s b
meets_at_is see x s a b e h = subst (λ y. MeetsAt see x s y) (sym e) h

pub meets_at_err : {A B C D : Type 0} (see : A → B) (other : C → D) (e : Stop) (s t : State) (a : Answer B) (go : B → State → Answer D) → MeetsAt see (Err e) s a → MeetsAt other (Err e) t (then_do a go)
meets_at_err see other (Refused f) s t a go h = ap (λ x. then_do x go) h
meets_at_err see other Memory s t a go h = tt
