-- Symbols as ones of another base.
use Rattle.std.proofs.Common.{◌≡◌, ◌∙◌, inl, inr, ℕ, ℤ, Bool, true, false, List, [], Option, Some, None, IsSome, refl, sym, ap, subst, if◌then◌else◌}
use Rattle.std.specs.Option.{option_map}
use Rattle.mz_value.specs.Ranges.{Range}
use Rattle.mz_value.specs.Contents.{Content}
use Rattle.mz_value.specs.Contents as values
use Rattle.mz_core.specs.declared.types.Base.{Base}
use Rattle.mz_core.specs.declared.types.Base.TheVariants as base
use Rattle.mz_operations.specs.Views.{number_of_bool}
use Rattle.mz_arena.specs.Entries.{Entry}
use Rattle.mz_arena.specs.Values.{Term, as_number, as_set, bit, is_one, is_true, to_int_term}
use Rattle.mz_symbol.specs.Symbols.{content_by, value_by, value_at}
use Rattle.mz_meaning.specs.Coerced.{recast, recast_all}
use Rattle.mz_symbol.specs.declared.types.Symbol.{Symbol}
use Rattle.mz_symbol.specs.Runs.{Run, ReadsNodes}
use Rattle.mz_symbol.specs.Readings.{Reading, state_of}
use Rattle.mz_symbol.specs.Arguments.{as_argument}
use Rattle.mz_symbol_rows.proofs.RowLaws.{truth_is}
use Rattle.mz_eval_symbols.specs.StepsNodes.{Counts}
use Rattle.mz_eval_symbols.specs.Steps.{relabels, is_case, is_int, is_set_sort, IsCounted, IsCountedOption, IsRecast}

-- ---- the same node

-- what holds of a value that the same node stands for
record IsRelabeled (a b : Base) : Type 0 where
  value : (x : Term) → value_by b x ≡ option_map (recast b) (value_by a x)
  whole : (x : Term) → value_by b x ≡ option_map (recast_all b) (value_by a x)
  absent : recast b values.absent ≡ values.absent
  absent_whole : recast_all b values.absent ≡ values.absent
  first : (o : Option ℕ) (v : Option Content) → as_argument a o v ≡ v
  second : (o : Option ℕ) (v : Option Content) → as_argument b o v ≡ v

case_value : (e : ℕ) (o : Option ℤ) → option_map (λ n. values.case e n) o ≡ option_map (recast (base.Enum e)) (option_map (λ n. values.int n) o)
case_value e None = refl
case_value e (Some n) = refl

case_whole : (e : ℕ) (o : Option ℤ) → option_map (λ n. values.case e n) o ≡ option_map (recast_all (base.Enum e)) (option_map (λ n. values.int n) o)
case_whole e None = refl
case_whole e (Some n) = refl

int_value : (e : ℕ) (o : Option ℤ) → option_map (λ n. values.int n) o ≡ option_map (recast base.Int) (option_map (λ n. values.case e n) o)
int_value e None = refl
int_value e (Some n) = refl

int_whole : (e : ℕ) (o : Option ℤ) → option_map (λ n. values.int n) o ≡ option_map (recast_all base.Int) (option_map (λ n. values.case e n) o)
int_whole e None = refl
int_whole e (Some n) = refl

ints_value : (d : Option ℕ) (o : Option (List Range)) → option_map (λ s. values.set None s) o ≡ option_map (recast base.SetInt) (option_map (λ s. values.set d s) o)
ints_value d None = refl
ints_value d (Some s) = refl

ints_whole : (d : Option ℕ) (o : Option (List Range)) → option_map (λ s. values.set None s) o ≡ option_map (recast_all base.SetInt) (option_map (λ s. values.set d s) o)
ints_whole d None = refl
ints_whole d (Some s) = refl

cases_value : (e : ℕ) (d : Option ℕ) (o : Option (List Range)) → option_map (λ s. values.set (Some e) s) o ≡ option_map (recast (base.SetEnum e)) (option_map (λ s. values.set d s) o)
cases_value e d None = refl
cases_value e d (Some s) = refl

cases_whole : (e : ℕ) (d : Option ℕ) (o : Option (List Range)) → option_map (λ s. values.set (Some e) s) o ≡ option_map (recast_all (base.SetEnum e)) (option_map (λ s. values.set d s) o)
cases_whole e d None = refl
cases_whole e d (Some s) = refl

to_case : (b : Base) → is_case b ≡ true → IsRelabeled base.Int b
to_case (base.Enum e) h = record { value = λ x. case_value e (as_number x); whole = λ x. case_whole e (as_number x); absent = refl; absent_whole = refl; first = λ o v. refl; second = λ o v. refl }
to_case b h = absurd (cc)

to_int : (e : ℕ) (b : Base) → is_int b ≡ true → IsRelabeled (base.Enum e) b
to_int e base.Int h = record { value = λ x. int_value e (as_number x); whole = λ x. int_whole e (as_number x); absent = refl; absent_whole = refl; first = λ o v. refl; second = λ o v. refl }
to_int e b h = absurd (cc)

set_to : (b : Base) → is_set_sort b ≡ true → IsRelabeled base.SetInt b
set_to base.SetInt h = record { value = λ x. ints_value None (as_set x); whole = λ x. ints_whole None (as_set x); absent = refl; absent_whole = refl; first = λ o v. refl; second = λ o v. refl }
set_to (base.SetEnum e) h = record { value = λ x. cases_value e None (as_set x); whole = λ x. cases_whole e None (as_set x); absent = refl; absent_whole = refl; first = λ o v. refl; second = λ o v. refl }
set_to b h = absurd (cc)

cases_to : (d : ℕ) (b : Base) → is_set_sort b ≡ true → IsRelabeled (base.SetEnum d) b
cases_to d base.SetInt h = record { value = λ x. ints_value (Some d) (as_set x); whole = λ x. ints_whole (Some d) (as_set x); absent = refl; absent_whole = refl; first = λ o v. refl; second = λ o v. refl }
cases_to d (base.SetEnum e) h = record { value = λ x. cases_value e (Some d) (as_set x); whole = λ x. cases_whole e (Some d) (as_set x); absent = refl; absent_whole = refl; first = λ o v. refl; second = λ o v. refl }
cases_to d b h = absurd (cc)

relabels_told : (a b : Base) → relabels a b ≡ true → IsRelabeled a b
relabels_told base.Int b h = to_case b h
relabels_told (base.Enum e) b h = to_int e b h
relabels_told base.SetInt b h = set_to b h
relabels_told (base.SetEnum e) b h = cases_to e b h
relabels_told a b h = absurd (cc)

map_there : (f : Content → Content) (v : Option Content) → IsSome v → IsSome (option_map f v)
map_there f None h = absurd (cc)
map_there f (Some x) h = refl

option_cast : (f : Content → Content) (p : Bool) (v w : Option Content) → w ≡ option_map f v → f values.absent ≡ values.absent → (if p then w else Some values.absent) ≡ option_map f (if p then v else Some values.absent)
option_cast f true v w e h = e
option_cast f false v w e h = ap (λ x. Some x) (sym h)

at_cast : (t : ℕ → Term) (a b : Base) (f : Content → Content) (o : Option ℕ) (id : ℕ) → value_by b (t id) ≡ option_map f (value_by a (t id)) → f values.absent ≡ values.absent → value_at t b o id ≡ option_map f (value_at t a o id)
at_cast t a b f None id e h = e
at_cast t a b f (Some o) id e h = option_cast f (is_true (t o)) (value_by a (t id)) (value_by b (t id)) e h

relabeled_by : (r : Reading) (s : Run) (a b : Base) (o : Option ℕ) (id : ℕ) → IsRelabeled a b → IsRecast r s s b (record { base = a; occurs = o; term = id }) (record { base = b; occurs = o; term = id })
relabeled_by r s a b o id u = record {
  same = refl;
  argument = u.second o (value_at r.term b o id) ∙ at_cast r.term a b (recast_all b) o id (u.whole (r.term id)) u.absent_whole ∙ ap (option_map (recast_all b)) (sym (u.first o (value_at r.term a o id)));
  cast = record {
    item = λ i. record { value = subst (λ v. IsSome v) (sym (u.value (r.term id))) (map_there (recast b) (value_by a (r.term id)) i.value); occurs = i.occurs };
    value = λ i. at_cast r.term a b (recast b) o id (u.value (r.term id)) u.absent;
  };
}

pub relabeled : (r : Reading) (run : Run) (b : Base) (s : Symbol) → relabels s.base b ≡ true → IsRecast r run run b s (record { base = b; occurs = s.occurs; term = s.term })
relabeled r run b s h = relabeled_by r run s.base b s.occurs s.term (relabels_told s.base b h)

-- ---- truth values that are counted

abbrev truth_value : Term → Option Content
truth_value x = value_by base.Bool x

bit_value : (p : Bool) → value_by base.Int (bit p) ≡ Some (values.int (number_of_bool p))
bit_value p = refl

some_truth : (o : Option ℤ) → IsSome (option_map (λ n. content_by base.Bool n []) o) → option_map (λ n. content_by base.Bool n []) o ≡ Some (values.bool (is_one o))
some_truth None h = absurd (cc)
some_truth (Some n) h = refl

counted_by : (r : Reading) (old new : Run) (id term : ℕ) → state_of r old ≡ state_of r new → bit (is_true (r.term id)) ≡ r.term term
    → IsRecast r old new base.Int (record { base = base.Bool; occurs = None; term = id }) (record { base = base.Int; occurs = None; term = term })
counted_by r old new id term q e = record {
  same = q;
  argument = ap (value_by base.Int) (sym e) ∙ ap (λ p. Some (values.int (number_of_bool p))) (sym (truth_is (r.term id)));
  cast = record {
    item = λ i. record { value = subst (λ u. IsSome (value_by base.Int u)) e refl; occurs = tt };
    value = λ i. ap (value_by base.Int) (sym e) ∙ sym (ap (option_map (recast base.Int)) (some_truth (as_number (r.term id)) i.value));
  };
}

pub counted_is : (r : Reading) (old new : Run) (b : Base) (s : Symbol) (term : ℕ) → IsCounted s b → state_of r old ≡ state_of r new → to_int_term (r.term s.term) ≡ r.term term
    → IsRecast r old new b s (record { base = base.Int; occurs = None; term = term })
unfolding to_int_term
counted_is r old new b s term c q e =
    subst (λ b. IsRecast r old new b s (record { base = base.Int; occurs = None; term = term })) (sym c.to)
    (subst (λ (a : Base). IsRecast r old new base.Int (record { base = a; occurs = s.occurs; term = s.term }) (record { base = base.Int; occurs = None; term = term })) (sym c.truth)
    (subst (λ (o : Option ℕ). IsRecast r old new base.Int (record { base = base.Bool; occurs = o; term = s.term }) (record { base = base.Int; occurs = None; term = term })) (sym c.occurs)
    (counted_by r old new s.term term q e)))

-- ---- options of truth values that are counted

bit_cast : (p : Bool) → value_by base.Int (bit p) ≡ option_map (recast base.Int) (value_by base.Bool (bit p))
bit_cast true = refl
bit_cast false = refl

bit_whole : (p : Bool) → value_by base.Int (bit p) ≡ option_map (recast_all base.Int) (value_by base.Bool (bit p))
bit_whole true = refl
bit_whole false = refl

counted_cast : (x : Term) → Counts x → value_by base.Int x ≡ option_map (recast base.Int) (value_by base.Bool x)
counted_cast x (inl n) = subst (λ y. value_by base.Int y ≡ option_map (recast base.Int) (value_by base.Bool y)) (sym n) refl
counted_cast x (inr b) = subst (λ y. value_by base.Int y ≡ option_map (recast base.Int) (value_by base.Bool y)) (sym b.1) (bit_cast b.0)

counted_whole : (x : Term) → Counts x → value_by base.Int x ≡ option_map (recast_all base.Int) (value_by base.Bool x)
counted_whole x (inl n) = subst (λ y. value_by base.Int y ≡ option_map (recast_all base.Int) (value_by base.Bool y)) (sym n) refl
counted_whole x (inr b) = subst (λ y. value_by base.Int y ≡ option_map (recast_all base.Int) (value_by base.Bool y)) (sym b.1) (bit_whole b.0)

option_counted : (r : Reading) (s : Run) (o id : ℕ) → Counts (r.term id)
    → IsRecast r s s base.Int (record { base = base.Bool; occurs = Some o; term = id }) (record { base = base.Int; occurs = Some o; term = id })
option_counted r s o id c =
    let cast = counted_cast (r.term id) c in
    record {
      same = refl;
      argument = at_cast r.term base.Bool base.Int (recast_all base.Int) (Some o) id (counted_whole (r.term id) c) refl;
      cast = record {
        item = λ i. record { value = subst (λ v. IsSome v) (sym cast) (map_there (recast base.Int) (value_by base.Bool (r.term id)) i.value); occurs = i.occurs };
        value = λ i. at_cast r.term base.Bool base.Int (recast base.Int) (Some o) id cast refl;
      };
    }

occurring : (r : Reading) (s : Run) (o : Option ℕ) (id : ℕ) → IsSome o → Counts (r.term id)
    → IsRecast r s s base.Int (record { base = base.Bool; occurs = o; term = id }) (record { base = base.Int; occurs = o; term = id })
occurring r s None id h c = absurd (cc)
occurring r s (Some o) id h c = option_counted r s o id c

pub counts_itself : (r : Reading) (run : Run) (es : List Entry) (b : Base) (s : Symbol) → IsCountedOption es s b → ReadsNodes r.term es
    → IsRecast r run run b s (record { base = base.Int; occurs = s.occurs; term = s.term })
counts_itself r run es b s c h =
    subst (λ b. IsRecast r run run b s (record { base = base.Int; occurs = s.occurs; term = s.term })) (sym c.to)
    (subst (λ (a : Base). IsRecast r run run base.Int (record { base = a; occurs = s.occurs; term = s.term }) (record { base = base.Int; occurs = s.occurs; term = s.term })) (sym c.truth)
    (occurring r run s.occurs s.term c.occurs (c.count r.term h)))
