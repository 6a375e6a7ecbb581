-- One more integer before those whose extreme a variable is.
use Rattle.std.proofs.Common.{◌≡◌, ℤ, true, false, List, [], ◌∷◌, length, take, map, Some, refl, sym, ap, ap₂, subst, ◌∙◌, arith}
use Rattle.std.proofs.lemmas.Int.{ints, clamps}
use Rattle.mz_value.specs.Ranges.{range_of}
use Rattle.mz_interval.specs.Ends.{Ends, limit as every_number, if_interval}
use Rattle.mz_operations.specs.declared.row.Arith.{Arith}
use Rattle.mz_operations.specs.declared.row.Arith.TheVariants.{Div, Min, Max}
use Rattle.mz_operations.specs.declared.row.Side.{Side}
use Rattle.mz_operations.specs.declared.row.Side.TheVariants.{Least, Greatest}
use Rattle.mz_operations.specs.Numbers.{toward, computed}
use Rattle.mz_operations.specs.Bounds.{arith_ends, toward_ends, extreme_from, extreme_ends}
use Rattle.mz_operations.specs.Monotone.{IsWithin, MayDivide}
use Rattle.mz_operations.proofs.Numbers.{arith_is_monotone}
use Rattle.mz_arena.specs.Values as terms
use Rattle.mz_arena.specs.Extents.{whole}
use Rattle.mz_arena.specs.Values.{extreme_number, extreme_value, extreme_term, cons_term}
use Rattle.fz_program.specs.declared.program.Domain.TheVariants.{Ints as Integers}
use Rattle.fz_program.specs.declared.row_name.Kind.TheVariants.{Int}
use Rattle.fz_program.specs.Arguments.{Plain, Argument, one}
use Rattle.fz_program.specs.Values as values
use Rattle.fz_program.specs.Values.{Value, Values, number_in}
use Rattle.fz_program.specs.Table.{line}
use Rattle.fz_program.specs.Flat.{Variable, Program, FlatSolves, plain_value, argument_value, is_plain, is_argument}
use Rattle.fz_build.specs.Growth.{AreKept, Grows}
use Rattle.fz_build.specs.Asked.{is_linear_row}
use Rattle.fz_build.specs.Inputs.{is_sum}
use Rattle.fz_build.specs.Results.{result_given}
use Rattle.fz_build.specs.Bounds.{AreInputs, result_domain, form_of, domain_by, ends_of, arith_by}
use Rattle.fz_build.specs.Bounds as domains
use Rattle.flat_reif_rows.specs.Standing.{seen, LiesWithin}
use Rattle.flat_reif_rows.specs.Making.{MayGive, GivesSome, Gives}
use Rattle.flat_reif_rows.specs.Elements.{AllWhole, list_term}
use Rattle.flat_reif_rows.specs.Extremes.{side_row, Ever, IsExtreme}
use Rattle.flat_reif_rows.proofs.Keeping.{suits_kept}
use Rattle.flat_reif_rows.proofs.TruthRows.{not_linear, two_inputs}
use Rattle.flat_reif_rows.proofs.NumberRows.{ordered, limit_inside, ends_within, Divides, arith_ordered, IsNarrow, number_out}
use Rattle.flat_reif_rows.proofs.SumRows.{interval_limit}
use Rattle.flat_reif_rows.proofs.ElementValues.{AreNumbers, Numbers, number_list}
use Rattle.flat_reif_rows.proofs.AccessRows.{limited, whole_values}
use Rattle.flat_reif_rows.proofs.Chains.{made_twice, grows_twice, plain_taken, plain_over, over_more}
use Rattle.flat_reif_rows.proofs.BranchRows.{is_number}

-- ---- the first of a list may come last

toward_in_turn : (side : Side) (a b c : ℤ) → toward side (toward side a b) c ≡ toward side a (toward side b c)
unfolding toward
toward_in_turn Least a b c = omega (arith, ints, clamps)
toward_in_turn Greatest a b c = omega (arith, ints, clamps)

first_last : (side : Side) (a b : ℤ) (ns : List ℤ) → extreme_number side (toward side a b) ns ≡ toward side a (extreme_number side b ns)
first_last side a b [] = refl
first_last side a b (n ∷ ns) = ap (λ x. extreme_number side x ns) (toward_in_turn side a b n) ∙ first_last side a (toward side b n) ns

ends_in_turn : (side : Side) (e f g : Ends) → toward_ends side (toward_ends side e f) g ≡ toward_ends side e (toward_ends side f g)
unfolding toward_ends
ends_in_turn side e f g = let lo = toward_in_turn side e.0 f.0 g.0 in let hi = toward_in_turn side e.1 f.1 g.1 in λ i. (lo i, hi i)

ends_first_last : (side : Side) (e f : Ends) (es : List Ends) → extreme_from side (toward_ends side e f) es ≡ toward_ends side e (extreme_from side f es)
unfolding extreme_from
ends_first_last side e f [] = refl
ends_first_last side e f (g ∷ es) = ap (λ (x : Ends). extreme_from side x es) (ends_in_turn side e f g) ∙ ends_first_last side e (toward_ends side f g) es

extreme_before : (side : Side) (e f : Ends) (es : List Ends) → extreme_ends side (e ∷ f ∷ es) ≡ toward_ends side e (extreme_ends side (f ∷ es))
unfolding extreme_from
extreme_before side e f es = ends_first_last side e f es

-- ---- the rows

record SideRow (side : Side) : Type 0 where
  op : Arith
  free : (f : Ends) → Divides op f
  ends : (e f : Ends) → arith_ends op e f ≡ toward_ends side e f
  widest : arith_ends op every_number every_number ≡ every_number
  are : (vs : List Variable) (a b : Plain) → is_plain vs Int a ≡ true → is_plain vs Int b ≡ true → AreInputs vs (side_row side) (one a ∷ one b ∷ [])
  domain : (vs : List Variable) (a b : Plain) → result_domain vs (side_row side) (one a ∷ one b ∷ []) ≡ domains.whole (arith_by op (if_interval (ends_of vs a)) (if_interval (ends_of vs b)))
  other : is_linear_row (side_row side) ≡ false
  given : (f : Values) (a b : Plain) → result_given (side_row side) (map (argument_value f) (one a ∷ one b ∷ [])) ≡ Some (values.number (toward side (number_in (plain_value f a)) (number_in (plain_value f b))))

side_is : (side : Side) → SideRow side
unfolding line is_sum form_of domain_by is_argument arith_ends toward_ends toward computed
side_is Least = record { op = Min; free = λ f. tt; ends = λ e f. refl; widest = refl; are = λ vs a b h l. two_inputs vs Int Int a b h l; domain = λ vs a b. refl; other = refl; given = λ f a b. refl }
side_is Greatest = record { op = Max; free = λ f. tt; ends = λ e f. refl; widest = refl; are = λ vs a b h l. two_inputs vs Int Int a b h l; domain = λ vs a b. refl; other = refl; given = λ f a b. refl }

module _ (side : Side) (vs : List Variable) (a b : Plain) (e f : Ends) (l : LiesWithin Int vs a e) (m : LiesWithin Int vs b f) where
  abbrev Row : SideRow side
  Row = side_is side

  step_narrow : IsNarrow vs (side_row side) (one a ∷ one b ∷ []) (toward_ends side e f)
  step_narrow =
      let op = Row.op in
      let i = ends_of vs a in
      let j = ends_of vs b in
      let p = ordered i l.interval in
      let q = ordered j m.interval in
      let div : op ≡ Div → MayDivide j = λ h. subst (λ (z : Arith). Divides z j) h (Row.free j) in
      let within : IsWithin (arith_ends op i j) (toward_ends side e f) = subst (λ (z : Ends). IsWithin (arith_ends op i j) z) (Row.ends e f) (arith_is_monotone op i j e f p q (ends_within vs a e l) (ends_within vs b f m) div) in
      let below : IsWithin (arith_ends op i j) every_number = subst (λ (z : Ends). IsWithin (arith_ends op i j) z) Row.widest
      (arith_is_monotone op i j every_number every_number p q (limited i (interval_limit i l.interval)) (limited j (interval_limit j m.interval)) div) in
      let limit_is = limit_inside (arith_ends op i j) every_number refl below (arith_ordered op i j p q (Row.free j)) in
      record {
        ends = arith_ends op i j;
        is = Row.domain vs a b ∙ ap₂ (λ x y. domains.whole (arith_by op x y)) l.interval m.interval ∙ ap domains.whole limit_is;
        limit = limit_is;
        within = within;
      }

  step_are : AreInputs vs (side_row side) (one a ∷ one b ∷ [])
  step_are = Row.are vs a b l.sort m.sort

-- ---- a step

list_taken : (vs : List Variable) (n : Values → Values) (f : Values) (ps : List Plain) (es : List Ends) → ((p : Plain) → is_plain vs Int p ≡ true → plain_value (n f) p ≡ plain_value f p) → AllWhole vs ps es → list_term (n f) ps ≡ list_term f ps
list_taken vs n f [] [] same h = refl
list_taken vs n f [] (e ∷ es) same h = absurd h
list_taken vs n f (p ∷ ps) [] same h = absurd h
list_taken vs n f (p ∷ ps) (e ∷ es) same h = ap₂ (λ x y. cons_term (Some (seen x)) y) (same p h.0.sort) (list_taken vs n f ps es same h.1)

extreme_list : (side : Side) (f : Values) (ps : List Plain) → AreNumbers f ps → extreme_term side (list_term f ps) ≡ extreme_value side (Numbers f ps)
unfolding extreme_term
extreme_list side f [] h = refl
extreme_list side f (p ∷ ps) h = ap (extreme_term side) (number_list f (p ∷ ps) h)

module _ (old mid : Program) (side : Side) (x m q : Plain) (qs : List Plain) (e g : Ends) (gs : List Ends) (l : LiesWithin Int old.vars x e) (all : AllWhole old.vars (q ∷ qs) (g ∷ gs)) (is : IsExtreme old mid side (q ∷ qs) m) where
  abbrev Given : List Argument
  Given = one x ∷ one m ∷ []

  x_kept : (h : Ends) → LiesWithin Int old.vars x h → LiesWithin Int mid.vars x h
  x_kept h k = suits_kept old.vars mid.vars is.grows.kept x (Some (whole h)) k

  pub step_may : MayGive mid (side_row side) Given
  step_may =
      let n = step_narrow side mid.vars x m e (extreme_ends side (g ∷ gs)) (x_kept e l) (is.suits (g ∷ gs) all) in
      record {
        are = step_are side mid.vars x m e (extreme_ends side (g ∷ gs)) (x_kept e l) (is.suits (g ∷ gs) all);
        domain = Integers (range_of n.ends.0 n.ends.1);
        is = n.is;
        within = not_linear (side_row side) (side_is side).other;
      }

  module _ (new : Program) (out : Plain) (gives : Gives mid new (side_row side) Given out) where
    step_suits : (es : List Ends) → AllWhole old.vars (x ∷ q ∷ qs) es → LiesWithin Int new.vars out (extreme_ends side es)
    step_suits [] h = absurd h
    step_suits (d ∷ []) h = absurd (h.1)
    step_suits (d ∷ k ∷ ks) h =
        subst (λ (z : Ends). LiesWithin Int new.vars out z) (sym (extreme_before side d k ks))
        (number_out mid.vars new.vars (side_row side) Given (toward_ends side d (extreme_ends side (k ∷ ks))) (step_narrow side mid.vars x m d (extreme_ends side (k ∷ ks)) (x_kept d h.0) (is.suits (k ∷ ks) h.1)) gives.domain out gives.is gives.some gives.typed)

    step_value : (f : Values) → FlatSolves new f → extreme_term side (list_term f (x ∷ q ∷ qs)) ≡ Some (seen (plain_value f out))
    unfolding extreme_term
    step_value f s =
        let n = length mid.vars in
        let taken : (p : Plain) → is_plain old.vars Int p ≡ true → plain_value (take n f) p ≡ plain_value f p = λ p h. plain_taken n f p (over_more (length old.vars) n p is.grows.longer (plain_over old.vars Int p h)) in
        let below = gives.grows.down f s in
        let kept : AreKept old.vars new.vars = λ k v h. gives.grows.kept k v (is.grows.kept k v h) in
        let numbers = whole_values old.vars new.vars kept f s.domains (x ∷ q ∷ qs) (e ∷ g ∷ gs) (l, all) in
        let rest : extreme_value side (Numbers f (q ∷ qs)) ≡ Some (seen (plain_value f m)) =
        sym (extreme_list side f (q ∷ qs) numbers.1)
        ∙ ap (extreme_term side) (sym (list_taken old.vars (take n) f (q ∷ qs) (g ∷ gs) taken all))
        ∙ is.value (take n f) below
        ∙ ap (λ z. Some (seen z)) (plain_taken n f m is.place) in
        let far = extreme_number side (number_in (plain_value f q)) (Numbers f qs) in
        let m_is : plain_value f m ≡ values.number far = is_number (plain_value f m) far (sym rest) in
        let near = number_in (plain_value f x) in
        let both : Some (values.number (toward side near far)) ≡ Some (plain_value f out) =
        ap (λ z. Some (values.number (toward side near (number_in z)))) (sym m_is) ∙ sym ((side_is side).given f x m) ∙ gives.value f s in
        extreme_list side f (x ∷ q ∷ qs) numbers
        ∙ ap (λ z. Some (terms.number z)) (first_last side near (number_in (plain_value f q)) (Numbers f qs))
        ∙ ap_seen (values.number (toward side near far)) (plain_value f out) both
      where
        ap_seen : (u w : Value) → Some u ≡ Some w → Some (seen u) ≡ Some (seen w)
        ap_seen u w h = let same : u ≡ w = cc in ap (λ z. Some (seen z)) same

    step_grows : Grows old new Ever
    step_grows = grows_twice old mid new Ever (GivesSome (side_row side) Given) Ever is.grows gives.grows (λ f s h. tt) (λ f s. record { result = values.number (toward side (number_in (plain_value f x)) (number_in (plain_value f m))); is = (side_is side).given f x m })

    pub step_extreme : IsExtreme old new side (x ∷ q ∷ qs) out
    step_extreme = record { grows = step_grows; place = gives.place; suits = step_suits; value = step_value; made = made_twice old mid new is.made gives.made }
