-- A walk over the sets of an array, set by set.
use Rattle.std.proofs.Common.{◌≡◌, ◌∙◌, ℕ, suc, ◌+◌, ◌*◌, ◌<◌, ◌≤◌, true, List, ◌∷◌, drop, Option, Some, None, refl, sym, ap, subst, arith}
use Rattle.std.specs.Option.{option_map}
use Rattle.mz_value.specs.Ranges.{Range}
use Rattle.mz_value.specs.Contents.{Content}
use Rattle.mz_value.specs.Contents as values
use Rattle.mz_core.specs.declared.types.Base.{Base}
use Rattle.mz_core.specs.declared.types.Base.TheVariants as base
use Rattle.mz_operations.specs.declared.row.SetOp.{SetOp}
use Rattle.mz_operations.specs.Arrays.{fold_from}
use Rattle.mz_operations.specs.Sets.{combined}
use Rattle.mz_operations.specs.Views.{◌>>=◌}
use Rattle.mz_operations.specs.Views as views
use Rattle.mz_arena.specs.Values.{Term, as_set, set_term}
use Rattle.mz_meaning.specs.Runs.{Out}
use Rattle.mz_symbol.specs.declared.types.Symbol.{Symbol}
use Rattle.mz_symbol.specs.Symbols.{value_by, value_at, symbol_value}
use Rattle.mz_symbol.specs.Runs.{Run}
use Rattle.mz_symbol.specs.Readings.{Reading, Reads, state_of}
use Rattle.mz_symbol.specs.Lines.{IsElement}
use Rattle.mz_symbol.specs.Makes.{GoesOnBy}
use Rattle.mz_symbol.proofs.ConstantLaws.{out_value, out_state}
use Rattle.mz_symbol_rows.proofs.GoingOn.{goes_both, goes_most}
use Rattle.mz_symbol_arrays.proofs.LineLaws.{element_there, drop_at, goes_none}
use Rattle.mz_symbol_arrays.specs.StepsUnions.{is_set, IsSetNode, sets_on, Follows, Advances, HasFolded, HasMade}

-- ---- a set

pub record IsThere (x : Content) (t : Term) : Type 0 where
  pub set : List Range
  pub seen : views.as_set x ≡ Some set
  pub is : as_set t ≡ Some set

pub content_set : (e : Option ℕ) (s : List Range) → views.as_set (values.set e s) ≡ Some s
unfolding views.as_set
content_set e s = refl

set_by : (e : Option ℕ) (o : Option (List Range)) (t : Term) (x : Content) → as_set t ≡ o → option_map (λ s. values.set e s) o ≡ Some x → IsThere x t
set_by e None t x h q = absurd (cc)
set_by e (Some s) t x h q =
    let same : values.set e s ≡ x = cc in
    record { set = s; seen = ap views.as_set (sym same) ∙ content_set e s; is = h }

value_set : (b : Base) (t : Term) (x : Content) → is_set b ≡ true → value_by b t ≡ Some x → IsThere x t
value_set base.SetInt t x h q = set_by None (as_set t) t x refl q
value_set (base.SetEnum e) t x h q = set_by (Some e) (as_set t) t x refl q
value_set b t x h q = absurd (cc)

pub symbol_set : (r : Reading) (s : Symbol) (id : ℕ) (x : Content) → IsSetNode id s → symbol_value r.term s ≡ Some x → IsThere x (r.term id)
symbol_set r s id x w h = value_set s.base (r.term id) x w.set (ap (λ i. value_by s.base (r.term i)) (sym w.term) ∙ ap (λ o. value_at r.term s.base o s.term) (sym w.plain) ∙ h)

joined_set : (op : SetOp) (x y : Term) (s t : List Range) → as_set x ≡ Some s → as_set y ≡ Some t → as_set (set_term op x y) ≡ Some (combined op s t)
unfolding set_term
joined_set op x y s t e f = rw (e, f) refl

pub advances : (r : Reading) (old new : Run) (op : SetOp) (k i acc set id : ℕ) (item : Symbol) → IsElement old k i item → Reads r old → IsSetNode set item → Out (set_term op (r.term acc) (r.term set)) (state_of r old) ≡ Out (r.term id) (state_of r new) → Advances r old new op k i acc id
advances r old new op k i acc set id item e q w h = record {
  same = out_state h;
  next = λ xs l s a.
      let m = element_there r old k i item xs e q l in
      let t = symbol_set r item set m.value w m.is in
      record { element = m.value; at = m.at; set = t.set; seen = t.seen; is = ap as_set (sym (out_value h)) ∙ joined_set op (r.term acc) (r.term set) s t.set a t.is };
}

-- ---- the walk

sets_next : (op : SetOp) (s t : List Range) (x : Content) (xs : List Content) → views.as_set x ≡ Some t → sets_on op s (x ∷ xs) ≡ sets_on op (combined op s t) xs
unfolding fold_from
sets_next op s t x xs e = ap (λ o. o >>= λ a. fold_from views.as_set (combined op) (combined op s a) xs) e

folded_more : (op : SetOp) (xs : List Content) (from i : ℕ) (s : List Range) (v u : Option (List Range)) → (h : HasFolded op xs from i s v) → Follows op xs i h.set u → HasFolded op xs from (suc i) s u
folded_more op xs from i s v u h f = record {
  set = combined op h.set f.set;
  is = f.is;
  rest = h.rest ∙ ap (sets_on op h.set) (drop_at xs i f.element f.at) ∙ sets_next op h.set f.set f.element (drop (suc i) xs) f.seen;
}

pub made_none : (s : Run) (op : SetOp) (k from n first : ℕ) → from ≤ n → HasMade s s op k from n from first first
made_none s op k from n first h = record {
  goes = goes_most 0 (4 * from) s s (omega arith) (goes_none s);
  within = h;
  folds = λ r q. record { same = refl; so_far = λ xs l t a. record { set = t; is = a; rest = refl } };
}

pub made_more : (old mid new : Run) (op : SetOp) (k from n i j first acc id : ℕ) → j ≡ suc i → i < n → HasMade old mid op k from n i first acc → GoesOnBy 4 mid new → ((r : Reading) → Reads r new → Advances r mid new op k i acc id) → HasMade old new op k from n j first id
made_more old mid new op k from n i j first acc id e l h g a = subst (λ m. HasMade old new op k from n m first id) (sym e) (record {
  goes = goes_most (4 * i + 4) (4 * suc i) old new (omega arith) (goes_both (4 * i) 4 old mid new h.goes g);
  within = omega (arith, l);
  folds = λ r q.
      let f = h.folds r (g.back r q) in
      let b = a r q in
      record {
        same = f.same ∙ b.same;
        so_far = λ xs z t y.
            let m = f.so_far xs z t y in
            folded_more op xs from i t (as_set (r.term acc)) (as_set (r.term id)) m (b.next xs z m.set m.is);
      };
})

pub made_err : (i n : ℕ) (old mid new : Run) → i < n → GoesOnBy (4 * i) old mid → GoesOnBy 4 mid new → GoesOnBy (4 * n) old new
made_err i n old mid new h f g = goes_most (4 * i + 4) (4 * n) old new (omega (arith, h)) (goes_both (4 * i) 4 old mid new f g)

pub made_goes : (i n : ℕ) (old new : Run) → i ≤ n → GoesOnBy (4 * i) old new → GoesOnBy (4 * n) old new
made_goes i n old new h f = goes_most (4 * i) (4 * n) old new (omega (arith, h)) f
