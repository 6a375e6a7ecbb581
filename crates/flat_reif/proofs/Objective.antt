-- A variable for an integer node.
use Rattle.std.proofs.Common.{◌≡◌, ℕ, ℤ, pos, ◌+ℤ◌, true, List, [], ◌∷◌, length, take, Some, None, IsSome, option_map, refl, sym, ap, ap₂, subst, ◌∙◌, arith}
use Rattle.std.proofs.lemmas.Int.{ints}
use Rattle.mz_interval.specs.Ends.{Ends, if_in_limit}
use Rattle.mz_operations.specs.declared.row.Arith.TheVariants.{Add}
use Rattle.mz_operations.specs.Numbers.{computed}
use Rattle.mz_operations.specs.Bounds.{arith_ends}
use Rattle.mz_arena.specs.declared.node.NodeKind.TheVariants as kinds
use Rattle.mz_arena.specs.Entries.{at}
use Rattle.mz_arena.specs.Values as terms
use Rattle.mz_arena.specs.Values.{arith_term}
use Rattle.mz_arena.specs.Extents.{Known, whole, extent}
use Rattle.mz_arena.specs.InBounds.{AreInDomains}
use Rattle.fz_program.specs.declared.row_name.Kind.TheVariants.{Int}
use Rattle.fz_program.specs.declared.row_name.RowName.TheVariants.{IntLinEq}
use Rattle.fz_program.specs.Arguments.{Plain, int, set, bool, var, nested, Argument, one, plain_of}
use Rattle.fz_program.specs.Values.{Value, Values}
use Rattle.fz_program.specs.Flat.{Variable, Program, FlatSolves, is_plain, plain_value}
use Rattle.fz_build.specs.Growth.{Grows}
use Rattle.fz_build.proofs.Values.{domains_length}
use Rattle.fz_build.specs.Bounds.{ends_of}
use Rattle.flat_reif_rows.specs.Standing.{seen, LiesWithin, Suits, AllSuit, extent_over, term_over}
use Rattle.flat_reif_rows.specs.NodeRows.{sum_inputs}
use Rattle.flat_reif_rows.specs.Making.{AreOperands, Gives, GoesOnMade, HasValue, Makes, MayGive}
use Rattle.flat_reif_rows.proofs.Chains.{plain_taken, over_more}
use Rattle.flat_reif_rows.proofs.Keeping.{suits_kept}
use Rattle.flat_reif_rows.proofs.Sorts.{of_integer, whole_of, sort_value}
use Rattle.flat_reif_rows.proofs.SumRows.{interval_limit}
use Rattle.flat_reif_rows.proofs.SumOperands.{sum_may, sum_makes}
use Rattle.flat_reif.specs.States.{State, given_choices, Meets, IsState, MeetsOn, Flattened}
use Rattle.flat_reif.specs.NodeKinds.{place_of}
use Rattle.flat_reif.specs.Roots.{IsWholeNode, IsVariableFor, with_prog}
use Rattle.flat_reif.proofs.Longer.{plain_before}
use Rattle.flat_reif.proofs.Steps.{flattened_same}
use Rattle.flat_reif.proofs.Lacking.{number_suits}

-- ---- a program that grew, and no argument more

module _ (s : State) (q : Program) (g : IsState s) (Can : terms.Values → Values → Type 0) (grows : (v : terms.Values) → Grows s.prog q (Can v)) (can : (v : terms.Values) (f : Values) → AreInDomains s.es v → Meets s v f → Can v f) (made : GoesOnMade s.prog q) where
  abbrev n : ℕ
  n = length s.prog.vars

  abbrev t : State
  t = with_prog s q

  no_values : terms.Values
  no_values = record { number = λ i. pos 0; set = λ i. [] }

  before : (v : terms.Values) (f : Values) → Meets t v f → Meets s v (take n f)
  before v f m = record {
    solves = (grows v).down f m.solves;
    linked = λ j d p k free l. m.linked j d p k free l ∙ sym (plain_taken n f p (g.places j p l));
  }

  after : (v : terms.Values) (f : Values) → AreInDomains s.es v → Meets s v f → MeetsOn t v f
  after v f d m =
      let x = (grows v).up f m.solves (can v f d m) in
      record {
        rest = x.rest;
        meets = record {
          solves = x.solves;
          linked = λ j e p k free l. m.linked j e p k free l ∙ sym (plain_before f x.rest n (domains_length s.prog.vars f m.solves.domains) p (g.places j p l));
        };
      }

  pub grown_step : Flattened s t
  grown_step = record {
    spreads = record {
      same = refl;
      longer = (grows no_values).longer;
      keeps = λ j p k. k;
      down = before;
      holds = λ v f d m. tt;
      up = λ v f d c m. after v f d m;
      one = λ v f k m w e. (grows v).one f k m.solves w.solves e;
      made = λ front h. made front (given_choices s.es s.args) h;
    };
    state = record {
      arena = g.arena;
      places = λ j p l. over_more n (length q.vars) p (grows no_values).longer (g.places j p l);
      suits = λ j p l. suits_kept s.prog.vars q.vars (grows no_values).kept p (extent s.es j) (g.suits j p l);
      ranged = λ v f m j e d p k free a l. g.ranged v (take n f) (before v f m) j e d p k free a l;
      right = λ v f d m j p l. g.right v (take n f) d (before v f m) j p l ∙ ap (λ x. Some (seen x)) (plain_taken n f p (g.places j p l));
    };
  }

-- ---- an integer and nothing more

abbrev Nothing : Ends
Nothing = (pos 0, pos 0)

with_nothing_ends : (e : Ends) → arith_ends Add e Nothing ≡ e
unfolding arith_ends
with_nothing_ends e =
    let lo : e.0 +ℤ pos 0 ≡ e.0 = omega (arith, ints) in
    let hi : e.1 +ℤ pos 0 ≡ e.1 = omega (arith, ints) in
    λ i. (lo i, hi i)

known_sum : (e : Ends) → if_in_limit e ≡ Some e → IsSome (option_map whole (if_in_limit (arith_ends Add e Nothing)))
known_sum e h = subst (λ (g : Ends). IsSome (option_map whole (if_in_limit g))) (sym (with_nothing_ends e)) (subst (λ o. IsSome (option_map whole o)) (sym h) refl)

sum_value : (m : ℤ) → arith_term Add (Some (terms.number m)) (Some (terms.number (pos 0))) ≡ Some (terms.number m)
unfolding arith_term computed
sum_value m = let same : m +ℤ pos 0 ≡ m = omega (arith, ints) in ap (λ k. Some (terms.number k)) same

module _ (s : State) (g : IsState s) (id : ℕ) (p : Plain) (arg : at s.args id ≡ Some p) (is_whole : IsWholeNode s.es id) where
  abbrev vs : List Variable
  vs = s.prog.vars

  lies : LiesWithin Int vs p (whole_of (extent s.es id) is_whole).ends
  lies = subst (Suits vs p) (whole_of (extent s.es id) is_whole).is (g.suits id p arg)

  own_lies : LiesWithin Int vs p (ends_of vs p)
  own_lies = record { sort = lies.sort; interval = lies.interval; from = omega (arith, ints); to = omega (arith, ints) }

  nothing_lies : LiesWithin Int vs (int (pos 0)) Nothing
  nothing_lies = number_suits vs (pos 0) Nothing refl (omega (arith, ints)) (omega (arith, ints))

  abbrev both : List Plain
  both = p ∷ int (pos 0) ∷ []

  abbrev bounds : List Known
  bounds = Some (whole (ends_of vs p)) ∷ Some (whole Nothing) ∷ []

  fits : AllSuit vs both bounds
  fits = (own_lies, (nothing_lies, tt))

  known : IsSome (extent_over kinds.Add bounds)
  known = known_sum (ends_of vs p) (interval_limit (ends_of vs p) lies.interval)

  pub nothing_operands : AreOperands vs kinds.Add both
  nothing_operands = record { bounds = bounds; suit = fits; known = known }

  value_here : (f : Values) → FlatSolves s.prog f → (v : terms.Values) → term_over v kinds.Add both f ≡ Some (seen (plain_value f p))
  value_here f solves v =
      let m = sort_value of_integer vs f p solves.domains lies.sort in
      ap (λ (x : Value). arith_term Add (Some (seen x)) (Some (terms.number (pos 0)))) m.is ∙ sum_value m.raw ∙ ap (λ (x : Value). Some (seen x)) (sym m.is)

  sum_extent : extent_over kinds.Add bounds ≡ Some (whole (ends_of vs p))
  sum_extent = ap (λ (e : Ends). option_map whole (if_in_limit e)) (with_nothing_ends (ends_of vs p)) ∙ ap (option_map whole) (interval_limit (ends_of vs p) lies.interval)

  pub argument_for : (k : ℕ) → p ≡ var k → IsVariableFor s s id k
  argument_for k is = record {
    flattened = flattened_same s g;
    sort = subst (λ q. is_plain vs Int q ≡ true) is lies.sort;
    value = λ v f d m. g.right v f d m id p arg ∙ ap (λ q. Some (seen (plain_value f q))) is;
  }

  pub fresh_for : (q : Program) (out : Plain) (k : ℕ) → Makes s.prog q kinds.Add both out → out ≡ var k → IsVariableFor s (with_prog s q) id k
  fresh_for q out k makes is =
      let step = grown_step s q g (λ v. HasValue v kinds.Add both) makes.grows (λ v f d m. record { result = seen (plain_value f p); is = value_here f m.solves v }) makes.made in
      record {
        flattened = step;
        sort = subst (λ r. is_plain q.vars Int r ≡ true) is (out_sort q out (makes.suits bounds fits known));
        value = λ v f d m.
            g.right v (take (length vs) f) d (before s q g (λ v. HasValue v kinds.Add both) makes.grows (λ v f d m. record { result = seen (plain_value f p); is = value_here f m.solves v }) makes.made v f m) id p arg
            ∙ sym (value_here (take (length vs) f) ((makes.grows v).down f m.solves) v)
            ∙ ap₂ (λ x y. arith_term Add x y) (ap (λ x. Some (seen x)) (plain_taken (length vs) f p (g.places id p arg))) refl
            ∙ makes.value v f m.solves
            ∙ ap (λ r. Some (seen (plain_value f r))) is;
      }
    where
      out_sort : (q : Program) (out : Plain) → Suits q.vars out (extent_over kinds.Add bounds) → is_plain q.vars Int out ≡ true
      out_sort q out h = (subst (λ (x : Known). Suits q.vars out x) sum_extent h).sort

-- ---- in the code's words

pub place_is : (p : Plain) (k : ℕ) → place_of p ≡ Some k → p ≡ var k
place_is (var j) k h = let same : j ≡ k = cc in ap var same
place_is (bool b) k h = absurd (cc)
place_is (int n) k h = absurd (cc)
place_is (set u) k h = absurd (cc)
place_is nested k h = absurd (cc)

pub no_place : (p : Plain) (j : ℕ) → p ≡ var j → place_of p ≡ None → ⊥
no_place p j h k = let some : place_of p ≡ Some j = ap place_of h in cc

pub may_add_nothing : (s : State) (g : IsState s) (id : ℕ) (a : Argument) → at s.args id ≡ Some (plain_of a) → IsWholeNode s.es id → MayGive s.prog IntLinEq (sum_inputs a (one (int (pos 0))))
may_add_nothing s g id a h w = sum_may a (one (int (pos 0))) s.prog (nothing_operands s g id (plain_of a) h w)

pub fresh_given : (s : State) (g : IsState s) (id : ℕ) (a : Argument) (q : Program) (out : Argument) (k : ℕ) → at s.args id ≡ Some (plain_of a) → IsWholeNode s.es id → Gives s.prog q IntLinEq (sum_inputs a (one (int (pos 0)))) (plain_of out) → place_of (plain_of out) ≡ Some k → IsVariableFor s (with_prog s q) id k
fresh_given s g id a q out k h w gives is =
    fresh_for s g id (plain_of a) h w q (plain_of out) k (sum_makes a (one (int (pos 0))) s.prog q out (nothing_operands s g id (plain_of a) h w) gives) (place_is (plain_of out) k is)
