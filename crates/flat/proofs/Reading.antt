-- The values of an instance's nodes that a solution gives, and the front's values that they give again.
use Rattle.std.proofs.Common.{◌≡◌, ℕ, zero, suc, ◌+◌, ◌<◌, ◌≤◌, ℤ, pos, List, [], ◌∷◌, ◌++◌, length, take, drop, slice_get, slice_index_or, Bool, true, false, Option, Some, None, refl, sym, ap, ap₂, subst, ◌∙◌, arith, map, cond, option_map, ◌&&◌}
use Rattle.std.specs.Ordering.{int_eq}
use Rattle.mz_value.specs.Ranges.{Range}
use Rattle.mz_interval.specs.Ends.{Ends, if_in_limit}
use Rattle.mz_operations.specs.Views.{◌>>=◌}
use Rattle.mz_operations.specs.Bounds.{hull_of_set}
use Rattle.mz_arena.specs.declared.node.Node.{Node}
use Rattle.mz_arena.specs.declared.node.NodeKind.{NodeKind}
use Rattle.mz_arena.specs.declared.node.NodeKind.TheVariants as kinds
use Rattle.mz_arena.specs.Entries.{Entry, at, arity, is_free}
use Rattle.mz_arena.specs.Extents.{Known, whole, truth, subset, extent, kind_extent, variable_extent, marked, in_limit, both_truths, set_variable_extent, as_subset}
use Rattle.mz_arena.specs.Arenas.{IsArena}
use Rattle.mz_arena.specs.FreeNodes.{is_set_kind}
use Rattle.mz_arena.specs.Terms.{own_id}
use Rattle.mz_arena.specs.Values as terms
use Rattle.mz_instance.specs.Parts.{Sort, Whole, Truth, Subset, Part, is_subset_sort, IsNode, AreNodes}
use Rattle.fz_program.specs.declared.row_name.Kind.TheVariants.{Int, Bool as TruthKind, Set}
use Rattle.fz_program.specs.Arguments.{Plain, var}
use Rattle.fz_program.specs.Values as values
use Rattle.fz_program.specs.Values.{Value, Values, number_in, set_in}
use Rattle.fz_program.specs.Flat.{Variable, FlatSolves, AreInDomains, is_plain, plain_value}
use Rattle.flat_reif_rows.specs.Standing.{Suits}
use Rattle.flat_reif_rows.proofs.Sorts.{of_integer, of_truth, of_set, sort_value}
use Rattle.flat_reif.specs.States.{State, IsState, Meets, own_value}
use Rattle.flat_reif.proofs.Nodes.{extent_here}
use Rattle.flat_meaning.specs.Faithful.{value_by, front_values}

-- ---- the values that are read off

abbrev value_of : Values → Option Plain → Value
value_of f None = values.number (pos 0)
value_of f (Some p) = plain_value f p

abbrev pub read_values : State → Values → terms.Values
read_values t f = record { number = λ id. number_in (value_of f (at t.args id)); set = λ id. set_in (value_of f (at t.args id)) }

-- an argument within bounds is a number, or a set
abbrev IsOfKind : Bool → Value → Type 0
IsOfKind true x = x ≡ values.set (set_in x)
IsOfKind false x = x ≡ values.number (number_in x)

module _ (vs : List Variable) (f : Values) (d : AreInDomains vs f) (p : Plain) where
  integer_is : is_plain vs Int p ≡ true → IsOfKind false (plain_value f p)
  integer_is h = let m = sort_value of_integer vs f p d h in m.is ∙ ap (λ x. values.number (number_in x)) (sym m.is)

  truth_is : is_plain vs TruthKind p ≡ true → IsOfKind false (plain_value f p)
  truth_is h = let m = sort_value of_truth vs f p d h in m.is ∙ ap (λ x. values.number (number_in x)) (sym m.is)

  set_is : is_plain vs Set p ≡ true → IsOfKind true (plain_value f p)
  set_is h = let m = sort_value of_set vs f p d h in m.is ∙ ap (λ x. values.set (set_in x)) (sym m.is)

  limit_case : (o : Option Ends) → Suits vs p (option_map whole o) → IsOfKind false (plain_value f p)
  limit_case None h = absurd h
  limit_case (Some e) h = integer_is h.sort

  truth_case : (b : Bool) (e : Ends) → Suits vs p (cond b (Some (truth e)) None) → IsOfKind false (plain_value f p)
  truth_case true e h = truth_is h.sort
  truth_case false e h = absurd h

  marked_case : (c : ℕ) (e : Ends) → Suits vs p (marked c e) → IsOfKind false (plain_value f p)
  marked_case zero e h = limit_case (if_in_limit e) h
  marked_case (suc zero) e h = truth_case (int_eq e.0 (pos 0) && int_eq e.1 (pos 1)) e h
  marked_case (suc (suc c)) e h = absurd h

  variable_case : (c : ℕ) (x : Known) → Suits vs p (variable_extent c x) → IsOfKind false (plain_value f p)
  unfolding variable_extent
  variable_case c x h = by (as_subset x) h
    where
      by : (o : Option (List Range)) → Suits vs p (o >>= λ u. marked c (hull_of_set u)) → IsOfKind false (plain_value f p)
      by None h = absurd h
      by (Some u) h = marked_case c (hull_of_set u) h

  set_case : (x : Known) → Suits vs p (set_variable_extent x) → IsOfKind true (plain_value f p)
  unfolding set_variable_extent
  set_case x h = by (as_subset x) h
    where
      by : (o : Option (List Range)) → Suits vs p (o >>= λ u. Some (subset u)) → IsOfKind true (plain_value f p)
      by None h = absurd h
      by (Some u) h = set_is h.sort

  free_case : (e : Entry) (k : NodeKind) (g : ℕ → Known) → is_free k ≡ true → Suits vs p (kind_extent e k (map g (take (arity k) (e.node.a ∷ e.node.b ∷ e.node.c ∷ [])))) → IsOfKind (is_set_kind k) (plain_value f p)
  free_case e kinds.Var g free h = variable_case e.node.c (g e.node.a) h
  free_case e kinds.Local g free h = variable_case e.node.c (g e.node.a) h
  free_case e kinds.SetVar g free h = set_case (g e.node.a) h
  free_case e kinds.SetLocal g free h = set_case (g e.node.a) h
  free_case e _ g free h = absurd (cc)

own_read : (t : State) (f : Values) (n : Node) (k : NodeKind) (id : ℕ) (p : Plain) → is_free k ≡ true → own_id n ≡ id → at t.args id ≡ Some p → IsOfKind (is_set_kind k) (plain_value f p) → own_value (read_values t f) n k ≡ plain_value f p
own_read t f n kinds.Var id p free own h is = ap (λ i. values.number (number_in (value_of f (at t.args i)))) own ∙ ap (λ o. values.number (number_in (value_of f o))) h ∙ sym is
own_read t f n kinds.Local id p free own h is = ap (λ i. values.number (number_in (value_of f (at t.args i)))) own ∙ ap (λ o. values.number (number_in (value_of f o))) h ∙ sym is
own_read t f n kinds.SetVar id p free own h is = ap (λ i. values.set (set_in (value_of f (at t.args i)))) own ∙ ap (λ o. values.set (set_in (value_of f o))) h ∙ sym is
own_read t f n kinds.SetLocal id p free own h is = ap (λ i. values.set (set_in (value_of f (at t.args i)))) own ∙ ap (λ o. values.set (set_in (value_of f o))) h ∙ sym is
own_read t f n _ id p free own h is = absurd (cc)

-- THE VALUES that are read off meet the state
pub meets_read : (t : State) → IsState t → (f : Values) → FlatSolves t.prog f → Meets t (read_values t f) f
meets_read t g f solves = record {
  solves = solves;
  linked = λ id e p is free h. own_read t f e.node e.node.kind id p free (g.arena.own id e is free) h
      (free_case t.prog.vars f solves.domains p e e.node.kind (extent t.es) free (subst (Suits t.prog.vars p) (extent_here t id e g is) (g.suits id p h)));
}

-- ---- the front's values

pub own_by : (sort : Sort) (k : NodeKind) (v : terms.Values) (n : Node) (i : ℕ) → is_free k ≡ true → is_set_kind k ≡ is_subset_sort sort → own_id n ≡ i → value_by sort (v.number i) (v.set i) ≡ own_value v n k
own_by Whole kinds.Var v n i free s own = ap (λ j. values.number (v.number j)) (sym own)
own_by Whole kinds.Local v n i free s own = ap (λ j. values.number (v.number j)) (sym own)
own_by Whole kinds.SetVar v n i free s own = absurd (cc)
own_by Whole kinds.SetLocal v n i free s own = absurd (cc)
own_by Truth kinds.Var v n i free s own = ap (λ j. values.number (v.number j)) (sym own)
own_by Truth kinds.Local v n i free s own = ap (λ j. values.number (v.number j)) (sym own)
own_by Truth kinds.SetVar v n i free s own = absurd (cc)
own_by Truth kinds.SetLocal v n i free s own = absurd (cc)
own_by Subset kinds.Var v n i free s own = absurd (cc)
own_by Subset kinds.Local v n i free s own = absurd (cc)
own_by Subset kinds.SetVar v n i free s own = ap (λ j. values.set (v.set j)) (sym own)
own_by Subset kinds.SetLocal v n i free s own = ap (λ j. values.set (v.set j)) (sym own)
own_by _ _ v n i free s own = absurd (cc)

abbrev pub at_place : Values → ℕ → Value
at_place f k = slice_index_or f k (values.number (pos 0))

-- the values stand in a solution from a place on
abbrev pub StandFrom : Values → ℕ → Values → Type 0
StandFrom f k [] = Unit {0}
StandFrom f k (x ∷ xs) = (x ≡ at_place f k) × StandFrom f (suc k) xs

pub front_stands : (es : List Entry) (v : terms.Values) (f : Values) (k : ℕ) (is : List ℕ) (ps : List Part) → AreNodes es false k is ps → ((n i : ℕ) (p : Part) → slice_get is n ≡ Some i → IsNode es false (k + n) p i → value_by p.sort (v.number i) (v.set i) ≡ at_place f (k + n)) → StandFrom f k (front_values ps is v)
front_stands es v f k [] [] n h = tt
front_stands es v f k [] (p ∷ ps) n h = absurd n
front_stands es v f k (i ∷ is) [] n h = absurd n
front_stands es v f k (i ∷ is) (p ∷ ps) n h =
    let zero_more : k + 0 ≡ k = omega arith in (
      h 0 i p refl (subst (λ m. IsNode es false m p i) (sym zero_more) n.0) ∙ ap (at_place f) zero_more,
      front_stands es v f (suc k) is ps n.1 (λ m j q g o. let more : suc k + m ≡ k + suc m = omega arith in h (suc m) j q g (subst (λ l. IsNode es false l q j) more o) ∙ ap (at_place f) (sym more)),
    )

shifted : (y : Value) (f : Values) (k : ℕ) (xs : Values) → StandFrom (y ∷ f) (suc k) xs → StandFrom f k xs
shifted y f k [] h = tt
shifted y f k (x ∷ xs) h = (h.0, shifted y f (suc k) xs h.1)

pub prefix_is : (xs f : Values) → StandFrom f 0 xs → length xs ≤ length f → f ≡ xs ++ drop (length xs) f
prefix_is [] f h l = refl
prefix_is (x ∷ xs) [] h l = absurd (omega (arith, l))
prefix_is (x ∷ xs) (y ∷ f) h l = ap₂ (λ z zs. z ∷ zs) (sym h.0) (prefix_is xs f (shifted y f 0 xs h.1) (omega (arith, l)))

pub stands_own : (xs more : Values) → StandFrom (xs ++ more) 0 xs
stands_own xs more = by xs xs 0 (λ j. (let none : 0 + j ≡ j = omega arith in ap (at_place (xs ++ more)) none))
  where
    by : (all xs : Values) (k : ℕ) → ((j : ℕ) → at_place (all ++ more) (k + j) ≡ at_place (xs ++ more) j) → StandFrom (all ++ more) k xs
    by all [] k h = tt
    by all (x ∷ xs) k h =
        let none : k ≡ k + 0 = omega arith in
        (sym (ap (at_place (all ++ more)) none ∙ h 0), by all xs (suc k) (λ j. (let next : suc k + j ≡ k + suc j = omega arith in ap (at_place (all ++ more)) next ∙ h (suc j))))
