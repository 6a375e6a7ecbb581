-- Walks over the elements of a var array.
use Rattle.std.proofs.Common.{◌≡◌, ◌∙◌, ℕ, zero, suc, ◌+◌, ◌*◌, ◌<◌, Bool, true, false, List, [], ◌∷◌, length, map, drop, Option, Some, None, IsSome, slice_get, refl, sym, ap, subst, arith, if◌then◌else◌}
use Rattle.std.specs.Option.{option_map, option_and_then}
use Rattle.mz_value.specs.Contents.{Content}
use Rattle.mz_value.specs.Contents as values
use Rattle.mz_core.specs.declared.types.Base.{Base}
use Rattle.mz_arena.specs.Values.{Term, is_true}
use Rattle.mz_symbol.specs.declared.types.Symbol.{Symbol}
use Rattle.mz_symbol.specs.declared.types.Line.{Line}
use Rattle.mz_symbol.specs.Symbols.{value_by, value_at, symbol_value, all_there, elements_value, AreItems}
use Rattle.mz_symbol.specs.Runs.{Run, IsRun}
use Rattle.mz_symbol.specs.Readings.{Reading, Reads}
use Rattle.mz_symbol.specs.Lines.{IsElement}
use Rattle.mz_symbol.specs.Makes.{GoesOnBy}
use Rattle.mz_symbol_rows.proofs.GoingOn.{goes_both, goes_most}
use Rattle.mz_symbol_arrays.specs.declared.lines.walk.Walk.{Walk}
use Rattle.mz_symbol_arrays.specs.declared.lines.walk.Walk.TheVariants.{Forall, Exists, Xorall, Count}
use Rattle.mz_symbol_arrays.specs.LineValues.{IsLineOf}
use Rattle.mz_symbol_arrays.specs.StepsLines as steps
use Rattle.mz_symbol_arrays.specs.StepsLines.{seen_as, next_of, walk_from, start_of, HasSort, IsSeen, IsJoined, Advances, Follows, Walks, HasWalked}

-- ---- the values of elements

pub record HasElement (xs : List Content) (i : ℕ) (v : Option Content) : Type 0 where
  pub value : Content
  pub at : slice_get xs i ≡ Some value
  pub is : v ≡ Some value

found_by : (x : Content) (vs : List (Option Content)) (xs : List Content) (i : ℕ) (v : Option Content) (o : Option (List Content)) → all_there vs ≡ o → option_map (λ ys. x ∷ ys) o ≡ Some xs → slice_get (Some x ∷ vs) i ≡ Some v → ((ys : List Content) → all_there vs ≡ Some ys → (j : ℕ) → slice_get vs j ≡ Some v → HasElement ys j v) → HasElement xs i v
found_by x vs xs i v None q h e r = absurd (cc)
found_by x vs xs zero v (Some ys) q h e r = let same : x ∷ ys ≡ xs = cc in subst (λ zs. HasElement zs 0 v) same (record { value = x; at = refl; is = cc })
found_by x vs xs (suc j) v (Some ys) q h e r = let same : x ∷ ys ≡ xs = cc in let m = r ys q j e in subst (λ zs. HasElement zs (suc j) v) same (record { value = m.value; at = m.at; is = m.is })

all_at : (vs : List (Option Content)) (xs : List Content) (i : ℕ) (v : Option Content) → all_there vs ≡ Some xs → slice_get vs i ≡ Some v → HasElement xs i v
all_at [] xs zero v h e = absurd (cc)
all_at [] xs (suc i) v h e = absurd (cc)
all_at (None ∷ vs) xs i v h e = absurd (cc)
all_at (Some x ∷ vs) xs i v h e = found_by x vs xs i v (all_there vs) refl h e (λ ys q j k. all_at vs ys j v q k)

longer_by : (x : Content) (vs : List (Option Content)) (xs : List Content) (o : Option (List Content)) → all_there vs ≡ o → option_map (λ ys. x ∷ ys) o ≡ Some xs → ((ys : List Content) → all_there vs ≡ Some ys → length ys ≡ length vs) → length xs ≡ suc (length vs)
longer_by x vs xs None q h r = absurd (cc)
longer_by x vs xs (Some ys) q h r = let same : x ∷ ys ≡ xs = cc in subst (λ zs. length zs ≡ suc (length vs)) same (ap suc (r ys q))

all_length : (vs : List (Option Content)) (xs : List Content) → all_there vs ≡ Some xs → length xs ≡ length vs
all_length [] xs h = let same : xs ≡ [] = cc in ap length same
all_length (None ∷ vs) xs h = absurd (cc)
all_length (Some x ∷ vs) xs h = longer_by x vs xs (all_there vs) refl h (λ ys q. all_length vs ys q)

mapped_length : (t : ℕ → Term) (ss : List Symbol) → length (map (symbol_value t) ss) ≡ length ss
mapped_length t [] = refl
mapped_length t (s ∷ ss) = ap suc (mapped_length t ss)

mapped_at : (t : ℕ → Term) (ss : List Symbol) (i : ℕ) (y : Symbol) → slice_get ss i ≡ Some y → slice_get (map (symbol_value t) ss) i ≡ Some (symbol_value t y)
mapped_at t [] zero y e = absurd (cc)
mapped_at t [] (suc i) y e = absurd (cc)
mapped_at t (x ∷ ss) zero y e = let same : x ≡ y = cc in ap (λ s. Some (symbol_value t s)) same
mapped_at t (x ∷ ss) (suc i) y e = mapped_at t ss i y e

-- a line that has elements is defined
pub record IsDefined (t : ℕ → Term) (d : ℕ) (ss : List Symbol) (xs : List Content) : Type 0 where
  pub holds : is_true (t d) ≡ true
  pub all : all_there (map (symbol_value t) ss) ≡ Some xs

elements_defined : (t : ℕ → Term) (d : ℕ) (ss : List Symbol) (xs : List Content) → elements_value t d ss ≡ Some xs → IsDefined t d ss xs
elements_defined t d ss xs h = by (all_there (map (symbol_value t) ss)) (is_true (t d)) refl refl h
  where
    by : (o : Option (List Content)) (b : Bool) → all_there (map (symbol_value t) ss) ≡ o → is_true (t d) ≡ b → option_and_then (λ xs. if b then Some xs else None) o ≡ Some xs → IsDefined t d ss xs
    by None b p q k = absurd (cc)
    by (Some ys) true p q k = record { holds = q; all = p ∙ k }
    by (Some ys) false p q k = absurd (cc)

pub line_defined : (r : Reading) (s : Run) (k : ℕ) (l : Line) (xs : List Content) → slice_get s.lines k ≡ Some l → Reads r s → r.line k ≡ Some xs → IsDefined r.term l.defined l.items.items xs
line_defined r s k l xs e h q = elements_defined r.term l.defined l.items.items xs (sym (h.lines k l e) ∙ q)

pub element_there : (r : Reading) (s : Run) (k i : ℕ) (y : Symbol) (xs : List Content) → IsElement s k i y → Reads r s → r.line k ≡ Some xs → HasElement xs i (symbol_value r.term y)
element_there r s k i y xs e h q =
    let d = line_defined r s k e.line xs e.stands h q in
    all_at (map (symbol_value r.term) e.line.items.items) xs i (symbol_value r.term y) d.all (mapped_at r.term e.line.items.items i y e.place)

pub line_count : (r : Reading) (s : Run) (k d n : ℕ) (xs : List Content) → IsLineOf s k d n → Reads r s → r.line k ≡ Some xs → length xs ≡ n
line_count r s k d n xs l h q =
    let e = line_defined r s k l.line xs l.stands h q in
    all_length (map (symbol_value r.term) l.line.items.items) xs e.all ∙ mapped_length r.term l.line.items.items ∙ l.count

pub line_holds : (r : Reading) (s : Run) (k d n : ℕ) (xs : List Content) → IsLineOf s k d n → Reads r s → r.line k ≡ Some xs → is_true (r.term d) ≡ true
line_holds r s k d n xs l h q = ap (λ i. is_true (r.term i)) (sym l.defined) ∙ (line_defined r s k l.line xs l.stands h q).holds

either_there : (b : Bool) (v : Option Content) → IsSome v → IsSome (if b then v else Some values.absent)
either_there true v h = h
either_there false v h = refl

item_there : (t : ℕ → Term) (b : Base) (o : Option ℕ) (id : ℕ) → IsSome (value_by b (t id)) → IsSome (value_at t b o id)
item_there t b None id h = h
item_there t b (Some o) id h = either_there (is_true (t o)) (value_by b (t id)) h

more_there : (v : Option Content) (vs : List (Option Content)) → IsSome v → IsSome (all_there vs) → IsSome (all_there (v ∷ vs))
more_there None vs h k = absurd (cc)
more_there (Some x) vs h k = by (all_there vs) k
  where
    by : (o : Option (List Content)) → IsSome o → IsSome (option_map (λ ys. x ∷ ys) o)
    by None q = absurd (cc)
    by (Some ys) q = refl

items_there : (t : ℕ → Term) (ss : List Symbol) → AreItems t ss → IsSome (all_there (map (symbol_value t) ss))
items_there t [] h = refl
items_there t (s ∷ ss) h = more_there (symbol_value t s) (map (symbol_value t) ss) (item_there t s.base s.occurs s.term h.0.value) (items_there t ss h.1)

-- a line that has no elements isn't defined
pub line_fails : (r : Reading) (s : Run) (k d n : ℕ) → IsLineOf s k d n → Reads r s → r.line k ≡ None → is_true (r.term d) ≡ false
line_fails r s k d n l h q = by (is_true (r.term d)) refl
  where
    clash : (o : Option (List Content)) → IsSome o → option_and_then (λ xs. if true then Some xs else None) o ≡ None → true ≡ false
    clash None a b = absurd (cc)
    clash (Some xs) a b = absurd (cc)

    gone : is_true (r.term d) ≡ true → true ≡ false
    gone e = clash (all_there (map (symbol_value r.term) l.line.items.items)) (items_there r.term l.line.items.items (l.whole r.term h.nodes e))
        (ap (λ b. option_and_then (λ xs. if b then Some xs else None) (all_there (map (symbol_value r.term) l.line.items.items))) (sym e ∙ ap (λ i. is_true (r.term i)) (sym l.defined)) ∙ sym (h.lines k l.line l.stands) ∙ q)

    by : (b : Bool) → is_true (r.term d) ≡ b → is_true (r.term d) ≡ false
    by false e = e
    by true e = e ∙ gone e

pub line_of : (s : Run) (k : ℕ) (l : Line) (n : ℕ) → slice_get s.lines k ≡ Some l → length l.items.items ≡ n → IsRun s → IsLineOf s k l.defined n
line_of s k l n e c w = record { line = l; stands = e; defined = refl; count = c; whole = λ t h. (w.lines t h k l e).whole }

-- ---- one element more

pub advances : (r : Reading) (old mid new : Run) (w : Walk) (k i : ℕ) (acc item truth s : Symbol) → IsElement old k i item → Reads r old → IsSeen r old mid (seen_as w) item truth → IsJoined r mid new w acc truth s → Advances r old new w k i acc s
advances r old mid new w k i acc item truth s e h y j = record {
  same = y.same ∙ j.same;
  next = λ g xs l a sort va.
      let m = element_there r old k i item xs e h l in
      let t = y.told g m.value m.is in
      let n = j.told g a t.truth sort va t.is in
      record { element = m.value; at = m.at; value = n.value; next = ap (option_and_then (steps.joined w a)) t.seen ∙ n.joins; sort = n.sort; is = n.is };
}

pub drop_at : (xs : List Content) (i : ℕ) (x : Content) → slice_get xs i ≡ Some x → drop i xs ≡ x ∷ drop (suc i) xs
drop_at [] zero x e = absurd (cc)
drop_at [] (suc i) x e = absurd (cc)
drop_at (y ∷ xs) zero x e = let same : y ≡ x = cc in ap (λ z. z ∷ xs) same
drop_at (y ∷ xs) (suc i) x e = drop_at xs i x e

walk_next : (w : Walk) (a b x : Content) (xs : List Content) → next_of w a x ≡ Some b → walk_from w a (x ∷ xs) ≡ walk_from w b xs
unfolding walk_from
walk_next w a b x xs h = ap (option_and_then (λ c. walk_from w c xs)) h

walked_more : (w : Walk) (xs : List Content) (i : ℕ) (v u : Option Content) → (h : HasWalked w xs i v) → Follows w xs i h.value u → HasWalked w xs (suc i) u
walked_more w xs i v u h f = record {
  value = f.value;
  is = f.is;
  sort = f.sort;
  rest = h.rest ∙ ap (walk_from w h.value) (drop_at xs i f.element f.at) ∙ walk_next w h.value f.value f.element (drop (suc i) xs) f.next;
}

start_sort : (w : Walk) → HasSort w (start_of w)
start_sort Forall = tt
start_sort Exists = tt
start_sort Xorall = tt
start_sort Count = tt

pub walks_none : (r : Reading) (s : Run) (w : Walk) (k : ℕ) (first : Symbol) → Walks r s s w k 0 first first
walks_none r s w k first = record {
  same = refl;
  so_far = λ g xs l v. record { value = start_of w; is = v; sort = start_sort w; rest = refl };
}

pub walks_more : (r : Reading) (old mid new : Run) (w : Walk) (k i j : ℕ) (first acc s : Symbol) → j ≡ suc i → Walks r old mid w k i first acc → Advances r mid new w k i acc s → Walks r old new w k j first s
walks_more r old mid new w k i j first acc s e h a = subst (λ n. Walks r old new w k n first s) (sym e) (record {
  same = h.same ∙ a.same;
  so_far = λ g xs l v.
      let m = h.so_far g xs l v in
      walked_more w xs i (symbol_value r.term acc) (symbol_value r.term s) m (a.next g xs l m.value m.sort m.is);
})

-- what the steps so far cost, with one more
pub goes_more : (i n : ℕ) (old mid new : Run) → i < n → GoesOnBy (58 * i) old mid → GoesOnBy 58 mid new → GoesOnBy (58 * n) old new
goes_more i n old mid new h f g = goes_most (58 * i + 58) (58 * n) old new (omega (arith, h)) (goes_both (58 * i) 58 old mid new f g)

pub goes_same : (i n : ℕ) (old new : Run) → i ≡ n → GoesOnBy (58 * i) old new → GoesOnBy (58 * n) old new
goes_same i n old new h f = subst (λ m. GoesOnBy (58 * m) old new) h f

pub goes_none : (s : Run) → GoesOnBy 0 s s
goes_none s = record { back = λ r h. h; paid = omega arith }

pub drop_all : (xs : List Content) → drop (length xs) xs ≡ []
drop_all [] = refl
drop_all (x ∷ xs) = drop_all xs

-- all elements
pub record IsWhole (w : Walk) (xs : List Content) (v : Option Content) : Type 0 where
  pub value : Content
  pub is : v ≡ Some value
  pub sort : HasSort w value
  pub walks : walk_from w (start_of w) xs ≡ Some value

walk_end : (w : Walk) (a : Content) → walk_from w a [] ≡ Some a
unfolding walk_from
walk_end w a = refl

pub walks_all : (w : Walk) (xs : List Content) (n : ℕ) (v : Option Content) → length xs ≡ n → HasWalked w xs n v → IsWhole w xs v
walks_all w xs n v e h = record {
  value = h.value;
  is = h.is;
  sort = h.sort;
  walks = h.rest ∙ ap (λ m. walk_from w h.value (drop m xs)) (sym e) ∙ ap (walk_from w h.value) (drop_all xs) ∙ walk_end w h.value;
}
