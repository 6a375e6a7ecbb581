-- Symbols of constants.
use Rattle.std.proofs.Common.{◌≡◌, ◌∙◌, ℕ, zero, suc, ℤ, Bool, true, false, List, [], ◌∷◌, ◌++◌, map, Option, Some, None, IsSome, slice_get, refl, sym, ap, subst, if◌then◌else◌}
use Rattle.mz_value.specs.declared.value.Value.{Value}
use Rattle.mz_value.specs.Contents.{Content, content}
use Rattle.mz_value.specs.Contents as values
use Rattle.mz_value.specs.Ranges.{Range}
use Rattle.mz_core.specs.declared.types.Base.{Base}
use Rattle.mz_core.specs.declared.types.Base.TheVariants as base
use Rattle.mz_arena.specs.Values.{Term, as_number, bit, is_true, number, set}
use Rattle.mz_meaning.specs.Runs.{Out}
use Rattle.mz_meaning.specs.Cells.{Mode, Blank, Given, held}
use Rattle.mz_meaning.specs.Coerced.{recast_all}
use Rattle.mz_eval_cells.specs.declared.types.Item.{Item}
use Rattle.mz_eval_cells.specs.Views.{cast_by, item_content}
use Rattle.mz_eval_cells.proofs.Items.{recast_item}
use Rattle.mz_symbol.specs.declared.types.Symbol.{Symbol}
use Rattle.mz_symbol.specs.Symbols.{value_by, value_at, symbol_value}
use Rattle.mz_symbol.specs.Runs.{Run}
use Rattle.mz_symbol.specs.Readings.{Reading, state_of, symbol_seen}
use Rattle.mz_symbol.proofs.ConstantLaws.{out_value, out_state}
use Rattle.mz_symbol.specs.Arguments.{as_argument}
use Rattle.mz_symbol_rows.specs.RowValues.{argument, is_single}
use Rattle.mz_symbol_rows.proofs.RowLaws.{argument_kept, truth_by}
use Rattle.mz_eval_symbols.specs.Steps.{IsConstant, OneConstant, Stands, item_cast, set_base}

-- ---- elements

some_bit : (b : Bool) → IsSome (value_by base.Bool (bit b))
some_bit true = refl
some_bit false = refl

pub truth_told : (r : Reading) (old new : Run) (b : Bool) (id : ℕ) → Out (bit b) (state_of r old) ≡ Out (r.term id) (state_of r new) → IsConstant r old new (values.bool b) (record { base = base.Bool; occurs = None; term = id })
truth_told r old new b id h = record {
  same = out_state h;
  stands = record {
    value = ap (value_by base.Bool) (sym (out_value h)) ∙ truth_by b;
    item = record { value = subst (λ t. IsSome (value_by base.Bool t)) (out_value h) (some_bit b); occurs = tt };
  };
}

pub integer_told : (r : Reading) (old new : Run) (n m : ℤ) (id : ℕ) → m ≡ n → Out (Some (number m)) (state_of r old) ≡ Out (r.term id) (state_of r new) → IsConstant r old new (values.int n) (record { base = base.Int; occurs = None; term = id })
integer_told r old new n m id e h = record {
  same = out_state h;
  stands = record {
    value = ap (value_by base.Int) (sym (out_value h)) ∙ ap (λ k. Some (values.int k)) e;
    item = record { value = subst (λ t. IsSome (value_by base.Int t)) (out_value h) refl; occurs = tt };
  };
}

pub case_told : (r : Reading) (old new : Run) (e : ℕ) (n m : ℤ) (id : ℕ) → m ≡ n → Out (Some (number m)) (state_of r old) ≡ Out (r.term id) (state_of r new) → IsConstant r old new (values.case e n) (record { base = base.Enum e; occurs = None; term = id })
case_told r old new e n m id q h = record {
  same = out_state h;
  stands = record {
    value = ap (value_by (base.Enum e)) (sym (out_value h)) ∙ ap (λ k. Some (values.case e k)) q;
    item = record { value = subst (λ t. IsSome (value_by (base.Enum e) t)) (out_value h) refl; occurs = tt };
  };
}

set_value : (of : Option ℕ) (s : List Range) → value_by (set_base of) (Some (set s)) ≡ Some (values.set of s)
set_value None s = refl
set_value (Some e) s = refl

some_set : (of : Option ℕ) (s : List Range) → IsSome (value_by (set_base of) (Some (set s)))
some_set None s = refl
some_set (Some e) s = refl

pub set_told : (r : Reading) (old new : Run) (of : Option ℕ) (s : List Range) (b : Base) (id : ℕ) → b ≡ set_base of → Out (Some (set s)) (state_of r old) ≡ Out (r.term id) (state_of r new) → IsConstant r old new (values.set of s) (record { base = b; occurs = None; term = id })
set_told r old new of s b id e h = record {
  same = out_state h;
  stands = record {
    value = ap (λ d. value_by d (r.term id)) e ∙ ap (value_by (set_base of)) (sym (out_value h)) ∙ set_value of s;
    item = record { value = subst (λ d. IsSome (value_by d (r.term id))) (sym e) (subst (λ t. IsSome (value_by (set_base of) t)) (out_value h) (some_set of s)); occurs = tt };
  };
}

some_single : (b : Base) (n : ℤ) → is_single b ≡ true → IsSome (value_by b (Some (number n)))
some_single base.Bool n h = refl
some_single base.Int n h = refl
some_single (base.Enum e) n h = refl
some_single b n h = absurd (cc)

pub there_told : (r : Reading) (old mid new : Run) (b : Bool) (id o : ℕ) → Out (bit b) (state_of r old) ≡ Out (r.term id) (state_of r mid) → Out (bit true) (state_of r mid) ≡ Out (r.term o) (state_of r new)
    → IsConstant r old new (values.bool b) (record { base = base.Bool; occurs = Some o; term = id })
there_told r old mid new b id o h g = record {
  same = out_state h ∙ out_state g;
  stands = record {
    value =
        ap (λ u. if is_true u then value_by base.Bool (r.term id) else Some values.absent) (sym (out_value g))
        ∙ ap (value_by base.Bool) (sym (out_value h))
        ∙ truth_by b;
    item = record { value = subst (λ t. IsSome (value_by base.Bool t)) (out_value h) (some_bit b); occurs = subst (λ t. IsSome (as_number t)) (out_value g) refl };
  };
}

pub absent_told : (r : Reading) (old mid new : Run) (b : Base) (n : ℤ) (id o : ℕ) → is_single b ≡ true → Out (Some (number n)) (state_of r old) ≡ Out (r.term id) (state_of r mid) → Out (bit false) (state_of r mid) ≡ Out (r.term o) (state_of r new)
    → IsConstant r old new values.absent (record { base = b; occurs = Some o; term = id })
absent_told r old mid new b n id o s h g = record {
  same = out_state h ∙ out_state g;
  stands = record {
    value = ap (λ u. if is_true u then value_by b (r.term id) else Some values.absent) (sym (out_value g));
    item = record { value = subst (λ t. IsSome (value_by b t)) (out_value h) (some_single b n s); occurs = subst (λ t. IsSome (as_number t)) (out_value g) refl };
  };
}

get_mapped : {A B : Type 0} (f : A → B) (xs : List A) (i : ℕ) (x : A) → slice_get xs i ≡ Some x → slice_get (map f xs) i ≡ Some (f x)
get_mapped f [] zero x e = absurd (cc)
get_mapped f [] (suc i) x e = absurd (cc)
get_mapped f (y ∷ xs) zero x e = let same : y ≡ x = cc in ap (λ z. Some (f z)) same
get_mapped f (y ∷ xs) (suc i) x e = get_mapped f xs i x e

pub one_constant : (r : Reading) (old new : Run) (c : Option Base) (xs : List Value) (i : ℕ) (x copy v : Value) (ss ts : List Symbol) (s : Symbol)
    → slice_get xs i ≡ Some x → content copy ≡ content x → content v ≡ item_cast c (content copy) → IsConstant r old new (content v) s → ts ≡ ss ++ s ∷ []
    → OneConstant r old new (map (item_cast c) (map content xs)) i ss ts
one_constant r old new c xs i x copy v ss ts s at e f k l = record {
  same = k.same;
  more = record {
    source = item_cast c (content x);
    at = get_mapped (item_cast c) (map content xs) i (content x) (get_mapped content xs i x at);
    symbol = s;
    stands = subst (λ y. Stands r.term y s) (f ∙ ap (item_cast c) e) k.stands;
    list = l;
  };
}

-- ---- scalars

told_by : (m : Mode) (t : ℕ → Term) (s : Symbol) (x : Content) → held m (Some x) ≡ held m (symbol_value t s) → held m (Some x) ≡ held m (as_argument s.base s.occurs (symbol_value t s))
told_by (Blank n) t s x h = refl
told_by (Given f) t s x h = h ∙ sym (argument_kept (record { mode = Given f; term = t; line = λ k. None }) s x (sym h))

-- a symbol that has a value is an argument as it stands
pub argument_told : (r : Reading) (s : Symbol) (x : Content) → held r.mode (Some x) ≡ symbol_seen r s → held r.mode (Some x) ≡ argument r s
argument_told r s x h = told_by r.mode r.term s x h

-- the same of one that is recast
pub cast_argued : (r : Reading) (s : Symbol) (c : Option Base) (x : Content) → held r.mode (cast_by c (Some x)) ≡ symbol_seen r s → held r.mode (cast_by c (Some x)) ≡ argument r s
cast_argued r s None x e = argument_told r s x e
cast_argued r s (Some b) x e = argument_told r s (recast_all b x) e

pub item_told : (c : Option Base) (i : Item) (v w : Content) → v ≡ item_content i → w ≡ item_cast c v → cast_by c (Some (item_content i)) ≡ Some w
item_told None i v w e f = ap (λ x. Some x) (sym (f ∙ e))
item_told (Some b) i v w e f = ap (λ x. Some x) (recast_item b i ∙ sym (f ∙ ap (item_cast (Some b)) e))

option_at : (b : Base) (o : ℕ) (v : Option Content) → as_argument b (Some o) v ≡ v
option_at base.Bool o v = refl
option_at b o v = refl

-- an option is an argument as it stands
pub option_told : (r : Reading) (x : Symbol) (o : ℕ) → x.occurs ≡ Some o → symbol_seen r x ≡ argument r (record { base = x.base; occurs = Some o; term = x.term })
option_told r x o p = ap (λ q. held r.mode (value_at r.term x.base q x.term)) p ∙ ap (held r.mode) (sym (option_at x.base o (value_at r.term x.base (Some o) x.term)))
