-- The lists of parameters that are made from the arguments' types are those that accept.
use Rattle.std.proofs.Common.{◌≡◌, if◌then◌else◌, ℕ, zero, suc, Bool, true, false, ◌&&◌, ◌||◌, List, [], ◌∷◌, inl, inr, refl, ap, sym, ◌∙◌, subst, map, filter, length, nat_eq, arith}
use Rattle.std.specs.Prelude.{Result, IfOk}
use Rattle.std.proofs.lemmas.Result.{IfOk-weaker}
use Rattle.std.proofs.lemmas.Bool.{eqb-true, eqb-false}
use Rattle.std.proofs.lemmas.Bool.Decides.{nat_tests}
use Rattle.mz_core.specs.declared.types.Ix.{Ix}
use Rattle.mz_core.specs.declared.types.Ix.TheVariants as ix
use Rattle.mz_core.specs.Types.{PlainType}
use Rattle.mz_core.specs.Order.{below, dims_below, index_below, no_dims, is_list}
use Rattle.mz_core.proofs.Tests.{or_left, or_right, dims_below_refl}
use Rattle.mz_core.proofs.OrderLaws.{fits_below, below_refl, below_cases, shape_cases, shape_plain}
use Rattle.mz_overload.specs.Best.{all_below}
use Rattle.mz_builtin.specs.declared.entry.Of.{Of}
use Rattle.mz_builtin.specs.declared.entry.Param.{Param}
use Rattle.mz_builtin.specs.declared.entry.Param.TheVariants as param
use Rattle.mz_builtin.specs.Entries.{PlainEntry}
use Rattle.mz_builtin.specs.Table.{table}
use Rattle.mz_builtin.specs.Readings.{Choices, Meaning, Numbered, type_of, types_with, types_of_rank, array_types, joined, products, index_lists, param_types, all_params, numbered, with_mark, with_meaning, of_entry, readings_of, meanings, choices}
use Rattle.mz_builtin.specs.Signatures.{has_name, of_named, made, signatures, accepts_all, fitting}
use Rattle.mz_builtin.specs.StepsFits.{indices_above, lists_above, near_lists, near_of_rank, near_arrays, near_types, element, element_fits, may_fit, types_above, accepting, accepting_params}
use Rattle.mz_builtin.proofs.Filters.{bool_case, filter_flat_map, flat_map_agree, filter_map_is, filter_joined, filter_joined_none}

-- index types that an array with these may have to be above an argument with those
abbrev may : List Ix → List Ix → Bool
may [] ds = no_dims ds || is_list ds
may (d ∷ dims) ds = dims_below (d ∷ dims) ds

may_plain : (dims ds : List Ix) → dims_below dims ds ≡ true → may dims ds ≡ true
unfolding dims_below
may_plain [] ds h = or_left (is_list ds) h
may_plain (d ∷ dims) ds h = h

may_array : (dims ds : List Ix) → no_dims dims ≡ true → is_list ds ≡ true → may dims ds ≡ true
may_array [] ds e h = or_right (no_dims ds) h
may_array (d ∷ dims) ds e h = absurd cc

pub below_may : (a t : PlainType) → below a t ≡ true → may a.dims t.dims ≡ true
below_may a t h = elim (below_cases a t h) [
  | inl e ↦ subst (λ u. may a.dims u.dims ≡ true) e (may_plain a.dims a.dims (dims_below_refl a.dims))
  | inr f ↦ shape_cases a t f.shape (λ b d. may_plain a.dims t.dims d) (λ b. may_array a.dims t.dims b.scalar b.list)
]

same_rank : (indices dims : List Ix) → filter (dims_below dims) (index_lists indices (length dims)) ≡ lists_above indices dims
unfolding dims_below index_lists lists_above indices_above
same_rank indices [] = refl
same_rank indices (d ∷ dims) = filter_joined (dims_below (d ∷ dims)) (index_below d) (dims_below dims) (λ x tail. refl) indices (index_lists indices (length dims)) ∙ ap (joined (filter (index_below d) indices)) (same_rank indices dims)

joined_none : (xs : List Ix) → joined xs [] ≡ []
unfolding joined
joined_none [] = refl
joined_none (x ∷ xs) = joined_none xs

other_rank : (indices dims : List Ix) (n : ℕ) → (n ≡ length dims → ⊥) → filter (dims_below dims) (index_lists indices n) ≡ []
unfolding dims_below index_lists
other_rank indices [] zero h = absurd (h refl)
other_rank indices [] (suc n) h = filter_joined_none (dims_below []) (λ x tail. refl) indices (index_lists indices n)
other_rank indices (d ∷ dims) zero h = refl
other_rank indices (d ∷ dims) (suc n) h =
    filter_joined (dims_below (d ∷ dims)) (index_below d) (dims_below dims) (λ x tail. refl) indices (index_lists indices n)
    ∙ (ap (joined (filter (index_below d) indices)) (other_rank indices dims n (λ e. h (ap suc e))) ∙ joined_none (filter (index_below d) indices))

-- the lists with this number of dimensions that may be above are those that are made
list_is : (x : Ix) (tail : List Ix) → may [] (x ∷ tail) ≡ index_below ix.Int x && no_dims tail
list_is ix.Int [] = refl
list_is ix.Int (d ∷ tail) = refl
list_is (ix.Enum e) tail = refl

none_longer : (indices : List Ix) (n : ℕ) → filter no_dims (index_lists indices (suc n)) ≡ []
unfolding index_lists
none_longer indices n = filter_joined_none no_dims (λ x tail. refl) indices (index_lists indices n)

not_zero : (n : ℕ) → nat_eq (suc (suc n)) 0 ≡ false
not_zero n = grind (arith, nat_tests)

not_one : (n : ℕ) → nat_eq (suc (suc n)) 1 ≡ false
not_one n = grind (arith, nat_tests)

near_more : (indices : List Ix) (n : ℕ) → near_lists indices [] (suc (suc n)) ≡ []
unfolding near_lists
near_more indices n = rw (not_zero n, not_one n) refl

near_scalar : (indices : List Ix) (n : ℕ) → filter (may []) (index_lists indices n) ≡ near_lists indices [] n
unfolding index_lists near_lists lists_above indices_above
near_scalar indices zero = refl
near_scalar indices (suc zero) = filter_joined (may []) (index_below ix.Int) no_dims list_is indices (index_lists indices zero)
near_scalar indices (suc (suc n)) =
    filter_joined (may []) (index_below ix.Int) no_dims list_is indices (index_lists indices (suc n))
    ∙ (ap (joined (filter (index_below ix.Int) indices)) (none_longer indices n) ∙ (joined_none (filter (index_below ix.Int) indices) ∙ sym (near_more indices n)))

near_array : (indices : List Ix) (d : Ix) (dims : List Ix) (n : ℕ) → filter (dims_below (d ∷ dims)) (index_lists indices n) ≡ near_lists indices (d ∷ dims) n
unfolding near_lists
near_array indices d dims n = elim (bool_case (nat_eq n (length (d ∷ dims)))) [
  | inl e ↦ let q = eqb-true n (length (d ∷ dims)) e in rw e (subst (λ k. filter (dims_below (d ∷ dims)) (index_lists indices k) ≡ lists_above indices (d ∷ dims)) (sym q) (same_rank indices (d ∷ dims)))
  | inr e ↦ rw e (other_rank indices (d ∷ dims) n (eqb-false n (length (d ∷ dims)) e))
]

near_is : (indices dims : List Ix) (n : ℕ) → filter (may dims) (index_lists indices n) ≡ near_lists indices dims n
near_is indices [] n = near_scalar indices n
near_is indices (d ∷ dims) n = near_array indices d dims n

-- what can't be above the argument may be left out
kept_types : (a : PlainType) (m : Meaning) (var : Bool) (o : Of) (lists : List (List Ix)) → filter (below a) (types_with m var o (filter (may a.dims) lists)) ≡ filter (below a) (types_with m var o lists)
unfolding types_with type_of
kept_types a m var o [] = refl
kept_types a m var o (ds ∷ lists) = elim (bool_case (may a.dims ds)) [
  | inl e ↦ rw (e, kept_types a m var o lists) refl
  | inr e ↦ elim (bool_case (below a (type_of m var o ds))) [
    | inl b ↦ let f = below_may a (type_of m var o ds) b in absurd (cc)
    | inr b ↦ rw (e, b) (kept_types a m var o lists)
  ]
]

kept_rank : (a : PlainType) (m : Meaning) (var : Bool) (o : Of) (indices : List Ix) (n : ℕ) → filter (below a) (near_of_rank m var o indices a.dims n) ≡ filter (below a) (types_of_rank m var o indices n)
unfolding near_of_rank types_of_rank
kept_rank a m var o indices n = rw (← near_is indices a.dims n) (kept_types a m var o (index_lists indices n))

kept_arrays : (a : PlainType) (m : Meaning) (var : Bool) (o : Of) (indices : List Ix) (ranks : List ℕ) → filter (below a) (near_arrays m var o indices a.dims ranks) ≡ filter (below a) (array_types m var o indices ranks)
unfolding near_arrays array_types
kept_arrays a m var o indices ranks =
    filter_flat_map (below a) (near_of_rank m var o indices a.dims) ranks
    ∙ (flat_map_agree (λ n. filter (below a) (near_of_rank m var o indices a.dims n)) (λ n. filter (below a) (types_of_rank m var o indices n)) (kept_rank a m var o indices) ranks
    ∙ sym (filter_flat_map (below a) (types_of_rank m var o indices) ranks))

-- an array's elements are below those of each array that is above it
element_below : (a : PlainType) (m : Meaning) (var : Bool) (o : Of) (ds : List Ix) → below a (type_of m var o ds) ≡ true → element_fits m var o a ≡ true
unfolding element_fits type_of dims_below
element_below a m var o ds h = elim (bool_case (no_dims a.dims)) [
  | inl e ↦ or_left (below (element a) (type_of m var o [])) e
  | inr e ↦ or_right (no_dims a.dims) (elim (below_cases a (type_of m var o ds) h) [
    | inl q ↦ subst (λ t. below (element a) (element t) ≡ true) q (below_refl (element a))
    | inr f ↦ fits_below (element a) (type_of m var o []) (record {
      allowed = f.allowed;
      var = f.var;
      opt = f.opt;
      shape = shape_cases a (type_of m var o ds) f.shape
          (λ p d. shape_plain (element a) (type_of m var o []) p refl)
          (λ b. absurd (let q = b.scalar in cc));
    })
  ])
]

none_kept : (a : PlainType) (m : Meaning) (var : Bool) (o : Of) (lists : List (List Ix)) → element_fits m var o a ≡ false → filter (below a) (types_with m var o lists) ≡ []
unfolding types_with
none_kept a m var o [] h = refl
none_kept a m var o (ds ∷ lists) h = elim (bool_case (below a (type_of m var o ds))) [
  | inl b ↦ let f = element_below a m var o ds b in absurd (cc)
  | inr b ↦ rw b (none_kept a m var o lists h)
]

none_of_ranks : (a : PlainType) (m : Meaning) (var : Bool) (o : Of) (indices : List Ix) (ranks : List ℕ) → element_fits m var o a ≡ false → filter (below a) (array_types m var o indices ranks) ≡ []
unfolding array_types types_of_rank
none_of_ranks a m var o indices [] h = refl
none_of_ranks a m var o indices (n ∷ ranks) h =
    filter_flat_map (below a) (types_of_rank m var o indices) (n ∷ ranks)
    ∙ rw (none_kept a m var o (index_lists indices n) h) (sym (filter_flat_map (below a) (types_of_rank m var o indices) ranks) ∙ none_of_ranks a m var o indices ranks h)

arrays_are : (a : PlainType) (m : Meaning) (var : Bool) (o : Of) (indices : List Ix) (ranks : List ℕ) → (if element_fits m var o a then filter (below a) (near_arrays m var o indices a.dims ranks) else []) ≡ filter (below a) (array_types m var o indices ranks)
arrays_are a m var o indices ranks = elim (bool_case (element_fits m var o a)) [
  | inl e ↦ rw e (kept_arrays a m var o indices ranks)
  | inr e ↦ rw e (sym (none_of_ranks a m var o indices ranks e))
]

above_is : (c : Choices) (m : Meaning) (var : Bool) (a : PlainType) (p : Param) → types_above c m var a p ≡ filter (below a) (param_types c m var p)
unfolding types_above may_fit near_types param_types
above_is c m var a (param.One o) = refl
above_is c m var a (param.Par o) = refl
above_is c m var a (param.Array o) = arrays_are a m var o c.indices c.ranks
above_is c m var a (param.Sized n o) = arrays_are a m var o c.indices (n ∷ [])
above_is c m var a (param.ParSized n o) = arrays_are a m false o c.indices (n ∷ [])
above_is c m var a param.IndexSet = refl

accepting_is : (c : Choices) (m : Meaning) (var : Bool) (args : List PlainType) (ps : List Param) → filter (all_below args) (products (map (param_types c m var) ps)) ≡ accepting c m var args ps
unfolding accepting products all_below
accepting_is c m var [] [] = refl
accepting_is c m var [] (p ∷ ps) = filter_joined_none (all_below []) (λ x tail. refl) (param_types c m var p) (products (map (param_types c m var) ps))
accepting_is c m var (a ∷ args) [] = refl
accepting_is c m var (a ∷ args) (p ∷ ps) =
    filter_joined (all_below (a ∷ args)) (below a) (all_below args) (λ x tail. refl) (param_types c m var p) (products (map (param_types c m var) ps))
    ∙ rw (above_is c m var a p, accepting_is c m var args ps) refl

mark_is : (c : Choices) (args : List PlainType) (e : PlainEntry) (m : Meaning) (var : Bool) → filter (accepts_all args) (with_mark (all_params c) e m var) ≡ with_mark (accepting_params c args) e m var
unfolding with_mark numbered all_params accepting_params
mark_is c args e m var = filter_map_is (accepts_all args) (numbered e m var) (all_params c m var e.line.params) ∙ ap (map (numbered e m var)) (accepting_is c m var args e.line.params)

meaning_is : (c : Choices) (args : List PlainType) (e : PlainEntry) (m : Meaning) → filter (accepts_all args) (with_meaning (all_params c) e m) ≡ with_meaning (accepting_params c args) e m
unfolding with_meaning
meaning_is c args e m =
    filter_flat_map (accepts_all args) (with_mark (all_params c) e m) (readings_of e.line.mark)
    ∙ flat_map_agree (λ v. filter (accepts_all args) (with_mark (all_params c) e m v)) (with_mark (accepting_params c args) e m) (mark_is c args e m) (readings_of e.line.mark)

entry_is : (c : Choices) (args : List PlainType) (enums : List ℕ) (e : PlainEntry) → filter (accepts_all args) (of_entry (all_params c) enums e) ≡ of_entry (accepting_params c args) enums e
unfolding of_entry
entry_is c args enums e =
    filter_flat_map (accepts_all args) (with_meaning (all_params c) e) (meanings enums e.line.letter)
    ∙ flat_map_agree (λ m. filter (accepts_all args) (with_meaning (all_params c) e m)) (with_meaning (accepting_params c args) e) (meaning_is c args e) (meanings enums e.line.letter)

named_is : (c : Choices) (args : List PlainType) (enums name : List ℕ) (e : PlainEntry) → filter (accepts_all args) (of_named (all_params c) enums name e) ≡ of_named (accepting_params c args) enums name e
unfolding of_named
named_is c args enums name e = elim (bool_case (has_name name e.line)) [
  | inl h ↦ rw h (entry_is c args enums e)
  | inr h ↦ rw h refl
]

made_is : (c : Choices) (args : List PlainType) (enums name : List ℕ) → filter (accepts_all args) (made (all_params c) enums name) ≡ made (accepting_params c args) enums name
unfolding made
made_is c args enums name =
    filter_flat_map (accepts_all args) (of_named (all_params c) enums name) table
    ∙ flat_map_agree (λ e. filter (accepts_all args) (of_named (all_params c) enums name e)) (of_named (accepting_params c args) enums name) (named_is c args enums name) table

-- what is made from the arguments' types is what accepts
pub fitting_is : (name : List ℕ) (args : List PlainType) → made (accepting_params (choices args) args) (choices args).enums name ≡ fitting name args
unfolding fitting signatures
fitting_is name args = sym (made_is (choices args) args (choices args).enums name)

pub from_made : {X E : Type 0} (r : Result X E) (see : X → List Numbered) (c : Choices) (name : List ℕ) (args : List PlainType) → c ≡ choices args → IfOk r (λ v. see v ≡ made (accepting_params c args) c.enums name) → IfOk r (λ v. see v ≡ fitting name args)
from_made r see c name args e h =
    IfOk-weaker r (λ v. see v ≡ made (accepting_params c args) c.enums name) (λ v. see v ≡ fitting name args)
    (λ v q. q ∙ (ap (λ d. made (accepting_params d args) d.enums name) e ∙ fitting_is name args)) h
