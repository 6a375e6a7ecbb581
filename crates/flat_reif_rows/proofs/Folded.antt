-- Nodes that are told by their children's arguments.
use Rattle.std.proofs.Common.{◌≡◌, ℤ, Bool, true, false, not, List, [], ◌∷◌, Option, Some, None, IsSome, refl, sym, ap, ap₂, subst, ◌∙◌}
use Rattle.std.specs.Prelude.{IfSome}
use Rattle.mz_interval.specs.Ends.{Ends, Encloses}
use Rattle.mz_operations.specs.Views.{number_of_bool}
use Rattle.mz_arena.specs.declared.node.NodeKind.{NodeKind}
use Rattle.mz_arena.specs.declared.node.NodeKind.TheVariants as kinds
use Rattle.mz_arena.specs.Values as terms
use Rattle.mz_arena.specs.Values.{Term, comparison_term, and_term, or_term, iff_term}
use Rattle.mz_arena.specs.Terms.{kind_term}
use Rattle.mz_arena.specs.Entries.{of_two}
use Rattle.mz_arena.specs.Extents.{Known, as_whole, as_truth, open_truth, comparison_extent, connective_extent}
use Rattle.fz_program.specs.declared.row_name.Kind.TheVariants.{Int, Bool as Truth}
use Rattle.fz_program.specs.declared.program.Arg.{Arg}
use Rattle.fz_program.specs.Arguments.{Plain, plain, bool, int, set, var, nested}
use Rattle.fz_program.specs.Values.{Value, Values, number_in}
use Rattle.fz_program.specs.Flat.{Variable, AreInDomains, is_plain, number_of_truth, plain_value}
use Rattle.fz_build.specs.Growth.{EndsEnclose}
use Rattle.fz_build.specs.Bounds.{ends_of}
use Rattle.flat_reif_rows.specs.Standing.{seen, AllSuit, of_kind, extent_over}
use Rattle.flat_reif_rows.specs.Making.{AreOperands}
use Rattle.flat_reif_rows.proofs.Sorts.{of_integer, of_truth, open_both, suit_sort, sort_value}
use Rattle.flat_reif_rows.proofs.NumberRows.{on_two}
use Rattle.flat_reif_rows.proofs.TruthRows.{integers_of, truths_of}
use Rattle.flat_reif_rows.proofs.Tested.{truth_constant}
use Rattle.flat_reif_rows.specs.declared.fold.Fold.{Fold}
use Rattle.flat_reif_rows.specs.declared.fold.Fold.TheVariants.{Truth as Constant}
use Rattle.flat_reif_rows.specs.Folds.{comparison, is_comparison, IsCompared, truth_in, conjoined, disjoined, equated, fold_of_answer, IsSame, IsFold, IsNegated, IsCounted, IsFoldOfOne}

-- ---- comparisons

bit_number : (b : Bool) → number_of_bool b ≡ number_of_truth b
bit_number true = refl
bit_number false = refl

compares_term : (v : terms.Values) (k : NodeKind) (i j : ℤ) → is_comparison k ≡ true → kind_term v (of_kind k) k (Some (terms.number i) ∷ Some (terms.number j) ∷ []) ≡ Some (terms.number (number_of_bool (comparison k i j)))
unfolding comparison_term
compares_term v kinds.Eq i j h = refl
compares_term v kinds.Ne i j h = refl
compares_term v kinds.Le i j h = refl
compares_term v kinds.Lt i j h = refl
compares_term v _ i j h = absurd (cc)

compares_integers : (k : NodeKind) (x y : Known) → is_comparison k ≡ true → IsSome (extent_over k (x ∷ y ∷ [])) → IsSome (comparison_extent x y)
compares_integers kinds.Eq x y h s = s
compares_integers kinds.Ne x y h s = s
compares_integers kinds.Le x y h s = s
compares_integers kinds.Lt x y h s = s
compares_integers _ x y h s = absurd (cc)

comparison_opens : (x y : Known) → IsSome (comparison_extent x y) → comparison_extent x y ≡ open_truth
unfolding comparison_extent
comparison_opens x y h = open_both (as_whole x) (as_whole y) h

compares_open : (k : NodeKind) → is_comparison k ≡ true → (x y : Known) → IsSome (extent_over k (x ∷ y ∷ [])) → extent_over k (x ∷ y ∷ []) ≡ open_truth
compares_open kinds.Eq h x y s = comparison_opens x y s
compares_open kinds.Ne h x y s = comparison_opens x y s
compares_open kinds.Le h x y s = comparison_opens x y s
compares_open kinds.Lt h x y s = comparison_opens x y s
compares_open _ h x y s = absurd (cc)

module _ (vs : List Variable) (k : NodeKind) (p q : Plain) (o : AreOperands vs k (p ∷ q ∷ [])) where
  integer_sorts : is_comparison k ≡ true → (is_plain vs Int p ≡ true) × (is_plain vs Int q ≡ true)
  integer_sorts h =
      on_two vs p q (λ xs. IsSome (extent_over k xs) → (is_plain vs Int p ≡ true) × (is_plain vs Int q ≡ true))
      (λ x y u w s. (let i = integers_of x y (compares_integers k x y h s) in (suit_sort of_integer vs p x i.0 u, suit_sort of_integer vs q y i.1 w)))
      o.bounds o.suit o.known

  compared_same : EndsEnclose vs p → EndsEnclose vs q → (b : Bool) → IsCompared k (ends_of vs p) (ends_of vs q) b → IsSame vs k p q (bool b)
  compared_same ep eq b c = record {
    opens = compares_open k c.compares;
    sort = truth_constant vs b;
    value = λ v f d.
        let s = integer_sorts c.compares in
        let m = sort_value of_integer vs f p d s.0 in
        let n = sort_value of_integer vs f q d s.1 in
        let em : Encloses (ends_of vs p) m.raw = subst (λ (x : Value). Encloses (ends_of vs p) (number_in x)) m.is (ep f d) in
        let en : Encloses (ends_of vs q) n.raw = subst (λ (x : Value). Encloses (ends_of vs q) (number_in x)) n.is (eq f d) in
        ap₂ (λ (i j : Value). kind_term v (of_kind k) k (Some (seen i) ∷ Some (seen j) ∷ [])) m.is n.is
        ∙ compares_term v k m.raw n.raw c.compares
        ∙ ap (λ z. Some (terms.number (number_of_bool z))) (c.is m.raw n.raw em en)
        ∙ ap (λ z. Some (terms.number z)) (bit_number b);
  }

  pub comparison_fold : EndsEnclose vs p → EndsEnclose vs q → (a : Option Bool) → IfSome a (IsCompared k (ends_of vs p) (ends_of vs q)) → IsFold vs k p q (fold_of_answer a)
  comparison_fold ep eq None c = tt
  comparison_fold ep eq (Some b) c = compared_same ep eq b c

-- ---- connectives

connective_opens : (x y : Known) → IsSome (connective_extent x y) → connective_extent x y ≡ open_truth
unfolding connective_extent
connective_opens x y h = open_both (as_truth x) (as_truth y) h

abbrev truth_term : Bool → Term
truth_term b = Some (terms.number (number_of_truth b))

and_left : (y : Term) → and_term (Some (terms.number (number_of_truth false))) y ≡ Some (terms.number (number_of_truth false))
unfolding and_term
and_left y = refl

and_right : (c : Bool) → and_term (Some (terms.number (number_of_truth c))) (Some (terms.number (number_of_truth false))) ≡ Some (terms.number (number_of_truth false))
unfolding and_term
and_right true = refl
and_right false = refl

and_true : (c : Bool) → and_term (Some (terms.number (number_of_truth true))) (Some (terms.number (number_of_truth c))) ≡ Some (terms.number (number_of_truth c))
unfolding and_term
and_true true = refl
and_true false = refl

and_with : (c : Bool) → and_term (Some (terms.number (number_of_truth c))) (Some (terms.number (number_of_truth true))) ≡ Some (terms.number (number_of_truth c))
unfolding and_term
and_with true = refl
and_with false = refl

or_left : (y : Term) → or_term (Some (terms.number (number_of_truth true))) y ≡ Some (terms.number (number_of_truth true))
unfolding or_term
or_left y = refl

or_right : (c : Bool) → or_term (Some (terms.number (number_of_truth c))) (Some (terms.number (number_of_truth true))) ≡ Some (terms.number (number_of_truth true))
unfolding or_term
or_right true = refl
or_right false = refl

or_false : (c : Bool) → or_term (Some (terms.number (number_of_truth false))) (Some (terms.number (number_of_truth c))) ≡ Some (terms.number (number_of_truth c))
unfolding or_term
or_false true = refl
or_false false = refl

or_with : (c : Bool) → or_term (Some (terms.number (number_of_truth c))) (Some (terms.number (number_of_truth false))) ≡ Some (terms.number (number_of_truth c))
unfolding or_term
or_with true = refl
or_with false = refl

iff_true : (c : Bool) → iff_term (Some (terms.number (number_of_truth true))) (Some (terms.number (number_of_truth c))) ≡ Some (terms.number (number_of_truth c))
unfolding iff_term
iff_true true = refl
iff_true false = refl

iff_with : (c : Bool) → iff_term (Some (terms.number (number_of_truth c))) (Some (terms.number (number_of_truth true))) ≡ Some (terms.number (number_of_truth c))
unfolding iff_term
iff_with true = refl
iff_with false = refl

iff_false : (c : Bool) → iff_term (Some (terms.number (number_of_truth false))) (Some (terms.number (number_of_truth c))) ≡ Some (terms.number (number_of_truth (not c)))
unfolding iff_term
iff_false true = refl
iff_false false = refl

-- the value of an argument that is a truth value
record IsBit (f : Values) (p : Plain) : Type 0 where
  bit : Bool
  is : Some (seen (plain_value f p)) ≡ truth_term bit

bit_of : (vs : List Variable) (f : Values) (p : Plain) → AreInDomains vs f → is_plain vs Truth p ≡ true → IsBit f p
bit_of vs f p d s = let b = sort_value of_truth vs f p d s in record { bit = b.raw; is = ap (λ (x : Value). Some (seen x)) b.is }

const_is : (f : Values) (p : Plain) (b : Bool) → p ≡ bool b → Some (seen (plain_value f p)) ≡ truth_term b
const_is f p b h = ap (λ q. Some (seen (plain_value f q))) h

-- the constant that an argument is, where it is one
abbrev Tells : Plain → Option Bool → Type 0
Tells p (Some b) = p ≡ bool b
Tells p None = Unit {0}

tells : (p : Plain) → Tells p (truth_in p)
tells (bool b) = refl
tells (int n) = tt
tells (set s) = tt
tells (var k) = tt
tells nested = tt

module _ (vs : List Variable) (p q : Plain) where
  abbrev AreTruths : Type 0
  AreTruths = (is_plain vs Truth p ≡ true) × (is_plain vs Truth q ≡ true)

  truth_sorts : (xs : List Known) → AllSuit vs (p ∷ q ∷ []) xs → IsSome (of_two xs connective_extent) → AreTruths
  truth_sorts xs u s =
      on_two vs p q (λ ys. IsSome (of_two ys connective_extent) → AreTruths)
      (λ x y a b h. (let i = truths_of x y h in (suit_sort of_truth vs p x i.0 a, suit_sort of_truth vs q y i.1 b)))
      xs u s

  module _ (sp : is_plain vs Truth p ≡ true) (sq : is_plain vs Truth q ≡ true) where
    and_by : (a b : Option Bool) → Tells p a → Tells q b → IsFold vs kinds.And p q (conjoined a b)
    and_by (Some true) b hp hq = record { opens = connective_opens; sort = sq; value = λ v f d. (let c = bit_of vs f q d sq in ap₂ and_term (const_is f p true hp) c.is ∙ and_true c.bit ∙ sym c.is) }
    and_by (Some false) b hp hq = record { opens = connective_opens; sort = truth_constant vs false; value = λ v f d. ap (λ x. and_term x (Some (seen (plain_value f q)))) (const_is f p false hp) ∙ and_left (Some (seen (plain_value f q))) }
    and_by None (Some true) hp hq = record { opens = connective_opens; sort = sp; value = λ v f d. (let c = bit_of vs f p d sp in ap₂ and_term c.is (const_is f q true hq) ∙ and_with c.bit ∙ sym c.is) }
    and_by None (Some false) hp hq = record { opens = connective_opens; sort = truth_constant vs false; value = λ v f d. (let c = bit_of vs f p d sp in ap₂ and_term c.is (const_is f q false hq) ∙ and_right c.bit) }
    and_by None None hp hq = tt

    or_by : (a b : Option Bool) → Tells p a → Tells q b → IsFold vs kinds.Or p q (disjoined a b)
    or_by (Some true) b hp hq = record { opens = connective_opens; sort = truth_constant vs true; value = λ v f d. ap (λ x. or_term x (Some (seen (plain_value f q)))) (const_is f p true hp) ∙ or_left (Some (seen (plain_value f q))) }
    or_by (Some false) b hp hq = record { opens = connective_opens; sort = sq; value = λ v f d. (let c = bit_of vs f q d sq in ap₂ or_term (const_is f p false hp) c.is ∙ or_false c.bit ∙ sym c.is) }
    or_by None (Some true) hp hq = record { opens = connective_opens; sort = truth_constant vs true; value = λ v f d. (let c = bit_of vs f p d sp in ap₂ or_term c.is (const_is f q true hq) ∙ or_right c.bit) }
    or_by None (Some false) hp hq = record { opens = connective_opens; sort = sp; value = λ v f d. (let c = bit_of vs f p d sp in ap₂ or_term c.is (const_is f q false hq) ∙ or_with c.bit ∙ sym c.is) }
    or_by None None hp hq = tt

    iff_by : (a b : Option Bool) → Tells p a → Tells q b → IsFold vs kinds.Iff p q (equated a b)
    iff_by (Some true) b hp hq = record { opens = connective_opens; sort = sq; value = λ v f d. (let c = bit_of vs f q d sq in ap₂ iff_term (const_is f p true hp) c.is ∙ iff_true c.bit ∙ sym c.is) }
    iff_by (Some false) (Some b) hp hq = record { opens = connective_opens; sort = truth_constant vs (not b); value = λ v f d. ap₂ iff_term (const_is f p false hp) (const_is f q b hq) ∙ iff_false b }
    iff_by (Some false) None hp hq = tt
    iff_by None (Some true) hp hq = record { opens = connective_opens; sort = sp; value = λ v f d. (let c = bit_of vs f p d sp in ap₂ iff_term c.is (const_is f q true hq) ∙ iff_with c.bit ∙ sym c.is) }
    iff_by None (Some false) hp hq = tt
    iff_by None None hp hq = tt

  -- in the code's words

  module _ (k : NodeKind) (o : AreOperands vs k (p ∷ q ∷ [])) (a b : Option Bool) (ha : a ≡ truth_in p) (hb : b ≡ truth_in q) (fold : Fold) where
    tells_first : Tells p a
    tells_first = subst (Tells p) (sym ha) (tells p)

    tells_second : Tells q b
    tells_second = subst (Tells q) (sym hb) (tells q)

    known_as : (j : NodeKind) → k ≡ j → IsSome (extent_over j o.bounds)
    known_as j h = subst (λ i. IsSome (extent_over i o.bounds)) h o.known

    pub and_given : k ≡ kinds.And → fold ≡ conjoined a b → IsFold vs k p q fold
    and_given h is = (let s = truth_sorts o.bounds o.suit (known_as kinds.And h) in subst (λ j. IsFold vs j p q fold) (sym h) (subst (IsFold vs kinds.And p q) (sym is) (and_by s.0 s.1 a b tells_first tells_second)))

    pub or_given : k ≡ kinds.Or → fold ≡ disjoined a b → IsFold vs k p q fold
    or_given h is = (let s = truth_sorts o.bounds o.suit (known_as kinds.Or h) in subst (λ j. IsFold vs j p q fold) (sym h) (subst (IsFold vs kinds.Or p q) (sym is) (or_by s.0 s.1 a b tells_first tells_second)))

    pub iff_given : k ≡ kinds.Iff → fold ≡ equated a b → IsFold vs k p q fold
    iff_given h is = (let s = truth_sorts o.bounds o.suit (known_as kinds.Iff h) in subst (λ j. IsFold vs j p q fold) (sym h) (subst (IsFold vs kinds.Iff p q) (sym is) (iff_by s.0 s.1 a b tells_first tells_second)))

pub comparison_given : (vs : List Variable) (k : NodeKind) (p q : Plain) (o : AreOperands vs k (p ∷ q ∷ [])) (a : Option Bool) (e f : Ends) (fold : Fold) → e ≡ ends_of vs p → f ≡ ends_of vs q → EndsEnclose vs p → EndsEnclose vs q → IfSome a (IsCompared k e f) → fold ≡ fold_of_answer a → IsFold vs k p q fold
comparison_given vs k p q o a e f fold he hf ep eq c is =
    subst (IsFold vs k p q) (sym is) (comparison_fold vs k p q o ep eq a (subst (λ j. IfSome a (IsCompared k (ends_of vs p) j)) hf (subst (λ i. IfSome a (IsCompared k i f)) he c)))

-- ---- of one child

pub not_given : (k : NodeKind) (p : Plain) (b : Option Bool) (r : Option Arg) → k ≡ kinds.Not → b ≡ truth_in p → IfSome r (λ out. IsNegated b (plain out)) → IfSome r (λ out. IsFoldOfOne k p (plain out))
not_given k p b None h is n = tt
not_given k p b (Some a) h is n = subst (λ j. IsFoldOfOne j p (plain a)) (sym h) (subst (λ z. IsNegated z (plain a)) is n)

pub counted_given : (k : NodeKind) (p : Plain) (b : Option Bool) (r : Option Arg) → k ≡ kinds.ToInt → b ≡ truth_in p → IfSome r (λ out. IsCounted b (plain out)) → IfSome r (λ out. IsFoldOfOne k p (plain out))
counted_given k p b None h is n = tt
counted_given k p b (Some a) h is n = subst (λ j. IsFoldOfOne j p (plain a)) (sym h) (subst (λ z. IsCounted z (plain a)) is n)
