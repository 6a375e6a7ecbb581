-- The extreme of the arguments from some place on, as those before it join them from the last to the first.
use Rattle.std.proofs.Common.{◌≡◌, ℕ, zero, suc, ℤ, List, [], ◌∷◌, ◌++◌, length, take, Some, refl, sym, ap, ap₂, subst, ◌∙◌, arith}
use Rattle.mz_interval.specs.Ends.{Ends}
use Rattle.mz_operations.specs.declared.row.Side.{Side}
use Rattle.mz_operations.specs.Bounds.{extreme_from, extreme_ends}
use Rattle.mz_arena.specs.Values as terms
use Rattle.mz_arena.specs.Values.{extreme_term, cons_term}
use Rattle.mz_arena.specs.Extents.{whole}
use Rattle.fz_program.specs.declared.row_name.Kind.TheVariants.{Int}
use Rattle.fz_program.specs.declared.program.Arg.{Arg}
use Rattle.fz_program.specs.Arguments.{Plain, one, plain, plains, argument}
use Rattle.fz_program.specs.Values.{Values}
use Rattle.fz_program.specs.Flat.{Variable, Program, FlatSolves}
use Rattle.fz_build.specs.Growth.{Grows}
use Rattle.fz_build.proofs.Values.{domains_length}
use Rattle.fz_build.proofs.Copies.{pushed_plains}
use Rattle.flat_reif_rows.specs.Standing.{seen, LiesWithin}
use Rattle.flat_reif_rows.specs.Making.{MayGive, Gives}
use Rattle.flat_reif_rows.specs.Elements.{AllWhole}
use Rattle.flat_reif_rows.specs.Extremes.{side_row, Ever, IsExtreme, AreCompared}
use Rattle.flat_reif_rows.proofs.Sorts.{of_integer, sort_value}
use Rattle.flat_reif_rows.proofs.Operands.{single}
use Rattle.flat_reif_rows.proofs.Chains.{all_in_turn, plain_over}
use Rattle.flat_reif_rows.proofs.ExtremeRows.{step_may, step_extreme}

pub record SoFar (old new : Program) (side : Side) (all : List Plain) (rest : List Arg) (out : Plain) : Type 0 where
  pub first : Plain
  pub more : List Plain
  pub is : all ≡ plains rest ++ first ∷ more
  pub extreme : IsExtreme old new side (first ∷ more) out

-- ---- one integer

take_all : {A : Type 0} (xs : List A) (n : ℕ) → length xs ≡ n → take n xs ≡ xs
take_all [] zero e = refl
take_all [] (suc n) e = refl
take_all (x ∷ xs) zero e = absurd (omega (arith, e))
take_all (x ∷ xs) (suc n) e = ap (λ ys. x ∷ ys) (take_all xs n (omega (arith, e)))

with_nothing : {A : Type 0} (xs : List A) → xs ++ [] ≡ xs
with_nothing [] = refl
with_nothing (x ∷ xs) = ap (λ ys. x ∷ ys) (with_nothing xs)

pub grows_not : (p : Program) → Grows p p Ever
grows_not p =
    let same : (f : Values) → FlatSolves p f → take (length p.vars) f ≡ f = λ f s. take_all f (length p.vars) (domains_length p.vars f s.domains) in
    record {
      longer = omega arith;
      kept = λ k v h. h;
      down = λ f s. subst (FlatSolves p) (sym (same f s)) s;
      up = λ f s can. record { rest = []; solves = subst (FlatSolves p) (sym (with_nothing f)) s };
      one = λ f g s t e. sym (same f s) ∙ e ∙ same g t;
    }

one_extreme : (p : Program) (side : Side) (x : Plain) (e : Ends) → LiesWithin Int p.vars x e → IsExtreme p p side (x ∷ []) x
unfolding extreme_from extreme_term cons_term
one_extreme p side x e l = record {
  grows = grows_not p;
  place = plain_over p.vars Int x l.sort;
  suits = suits;
  value = λ f s.
      let m = sort_value of_integer p.vars f x s.domains l.sort in
      ap (λ z. extreme_term side (cons_term (Some (seen z)) (Some terms.empty))) m.is ∙ alone m.raw ∙ ap (λ z. Some (seen z)) (sym m.is);
  made = λ front n m. m;
}
  where
    suits : (es : List Ends) → AllWhole p.vars (x ∷ []) es → LiesWithin Int p.vars x (extreme_ends side es)
    suits [] h = absurd h
    suits (d ∷ []) h = h.0
    suits (d ∷ k ∷ ks) h = absurd (h.1)

    alone : (n : ℤ) → extreme_term side (cons_term (Some (terms.number n)) (Some terms.empty)) ≡ Some (terms.number n)
    alone n = refl

-- ---- the arguments at a place of the list

record HasFirst (vs : List Variable) (x : Plain) : Type 0 where
  ends : Ends
  inside : LiesWithin Int vs x ends

last_of : (vs : List Variable) (before : List Plain) (x : Plain) (es : List Ends) → AllWhole vs (before ++ x ∷ []) es → HasFirst vs x
last_of vs [] x [] h = absurd h
last_of vs [] x (e ∷ es) h = record { ends = e; inside = h.0 }
last_of vs (b ∷ before) x [] h = absurd h
last_of vs (b ∷ before) x (e ∷ es) h = last_of vs before x es h.1

record HasParts (vs : List Variable) (x q : Plain) (qs : List Plain) : Type 0 where
  first : Ends
  second : Ends
  others : List Ends
  inside : LiesWithin Int vs x first
  more : AllWhole vs (q ∷ qs) (second ∷ others)

parts_of : (vs : List Variable) (before : List Plain) (x q : Plain) (qs : List Plain) (es : List Ends) → AllWhole vs (before ++ x ∷ q ∷ qs) es → HasParts vs x q qs
parts_of vs [] x q qs [] h = absurd h
parts_of vs [] x q qs (e ∷ []) h = absurd (h.1)
parts_of vs [] x q qs (e ∷ g ∷ gs) h = record { first = e; second = g; others = gs; inside = h.0; more = h.1 }
parts_of vs (b ∷ before) x q qs [] h = absurd h
parts_of vs (b ∷ before) x q qs (e ∷ es) h = parts_of vs before x q qs es h.1

popped : (xs new : List Arg) (x : Arg) → xs ≡ new ++ x ∷ [] → plains xs ≡ plains new ++ plain x ∷ []
popped xs new x e = pushed_plains new xs new x e refl

-- ---- the loop

pub first_step : (p : Program) (side : Side) (items rest : List Arg) (x : Arg) → items ≡ rest ++ x ∷ [] → AreCompared p (plains items) → SoFar p p side (plains items) rest (plain x)
first_step p side items rest x e a =
    let is = popped items rest x e in
    let h = last_of p.vars (plains rest) (plain x) a.bounds (subst (λ ps. AllWhole p.vars ps a.bounds) is a.elements) in
    record { first = plain x; more = []; is = is; extreme = one_extreme p side (plain x) h.ends h.inside }

module _ (old mid : Program) (side : Side) (all : List Plain) (now rest : List Arg) (x out : Arg) (e : now ≡ rest ++ x ∷ []) (a : AreCompared old all) (s : SoFar old mid side all now (plain out)) where
  all_is : all ≡ plains rest ++ plain x ∷ s.first ∷ s.more
  all_is = s.is ∙ ap (λ ps. ps ++ s.first ∷ s.more) (popped now rest x e) ∙ all_in_turn (plains rest) (plain x ∷ []) (s.first ∷ s.more)

  parts : HasParts old.vars (plain x) s.first s.more
  parts = parts_of old.vars (plains rest) (plain x) s.first s.more a.bounds (subst (λ ps. AllWhole old.vars ps a.bounds) all_is a.elements)

  x_alone : argument x ≡ one (plain x)
  x_alone = single old.vars (argument x) (Some (whole parts.first)) parts.inside

  out_alone : argument out ≡ one (plain out)
  out_alone = single mid.vars (argument out) (Some (whole (extreme_ends side (parts.second ∷ parts.others)))) (s.extreme.suits (parts.second ∷ parts.others) parts.more)

  pub next_may : MayGive mid (side_row side) (argument x ∷ argument out ∷ [])
  next_may = subst (MayGive mid (side_row side)) (sym (ap₂ (λ i j. i ∷ j ∷ []) x_alone out_alone))
      (step_may old mid side (plain x) (plain out) s.first s.more parts.first parts.second parts.others parts.inside parts.more s.extreme)

  pub next_step : (new : Program) (found : Arg) → Gives mid new (side_row side) (argument x ∷ argument out ∷ []) (plain found) → SoFar old new side all rest (plain found)
  next_step new found g = record {
    first = plain x;
    more = s.first ∷ s.more;
    is = all_is;
    extreme = step_extreme old mid side (plain x) (plain out) s.first s.more parts.first parts.second parts.others parts.inside parts.more s.extreme new (plain found)
        (subst (λ is. Gives mid new (side_row side) is (plain found)) (ap₂ (λ i j. i ∷ j ∷ []) x_alone out_alone) g);
  }

pub all_done : (old new : Program) (side : Side) (all : List Plain) (rest : List Arg) (out : Plain) → rest ≡ [] → SoFar old new side all rest out → IsExtreme old new side all out
all_done old new side all rest out e s = subst (λ ps. IsExtreme old new side ps out) (sym (s.is ∙ ap (λ xs. plains xs ++ s.first ∷ s.more) e)) s.extreme
