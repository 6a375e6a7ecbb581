-- Operands that have to pass a test, and quotients and remainders: where they have values, and their parts, all in one arena.
use Rattle.std.proofs.Common.{◌≡◌, ℕ, ℤ, pos, int_div, int_rem, List, [], ◌∷◌, Bool, true, false, not, ◌&&◌, cond, Option, Some, None, IsSome, option_map, refl, sym, ap, subst, ◌∙◌, arith}
use Rattle.std.specs.Option.{option_and_then}
use Rattle.std.specs.Ordering.{int_eq}
use Rattle.std.proofs.lemmas.Int.{ints}
use Rattle.mz_interval.specs.Ends.{Ends, Encloses, if_in_limit}
use Rattle.mz_operations.specs.declared.row.Arith.{Arith as ArithRow}
use Rattle.mz_operations.specs.declared.row.Arith.TheVariants as arith_row
use Rattle.mz_operations.specs.Numbers.{computed}
use Rattle.mz_operations.specs.Bounds as bounds
use Rattle.mz_operations.specs.Bounds.{arith_ends, extreme_ends, hull_of_all, union_from, union_of_all}
use Rattle.mz_arena.specs.declared.node.NodeKind.{NodeKind}
use Rattle.mz_arena.specs.declared.node.NodeKind.TheVariants.{Div, Mod}
use Rattle.mz_arena.specs.Entries.{Entry}
use Rattle.mz_arena.specs.Values.{Val, number, set, numbers, sets, empty, Term, Values, arith_term}
use Rattle.mz_arena.specs.Terms.{kind_term, term}
use Rattle.mz_arena.specs.Extents.{Known, whole, arith_extent, kind_extent, extent}
use Rattle.mz_arena.specs.Arenas.{IsArena}
use Rattle.mz_arena.specs.InBounds.{LiesIn, AreInBounds}
use Rattle.mz_partial.specs.declared.part.Part.{Part}
use Rattle.mz_partial.specs.declared.group.Group.TheVariants as group
use Rattle.mz_partial.specs.Groups.{group_of, is_inner}
use Rattle.mz_partial.specs.Told.{IsToldDefined}
use Rattle.mz_partial.specs.Totals.{only, Says, Has, IsItself, IsPart}
use Rattle.mz_partial.specs.Nodes.{IsNode}
use Rattle.mz_partial.specs.Calls.{is_nonzero, IsNever, HasNoValue}
use Rattle.mz_partial.proofs.Standing.{node_means, node_bounds, node_some, node_total, like_bounds}
use Rattle.mz_partial.proofs.ByKind.{Fits, IsNumberVal, number_in, arith_first, arith_some, is_cons}
use Rattle.mz_partial.proofs.Saying.{fits}
use Rattle.mz_partial.proofs.Partwise.{value_or, some_or, total_fits, plain_part, pair_like}

-- ---- an operand that has to pass a test, and is replaced where it doesn't

pub guarded_only : (f : Term → Term → Term) (a b c : Bool) (x y z : Val) → ((w : Term) → f None w ≡ None) → ((w : Term) → f w None ≡ None) → (c ≡ false → f (Some x) (Some y) ≡ None) → (c ≡ true → z ≡ y) → IsSome (f (Some x) (Some z)) → f (only a x) (only b y) ≡ only ((a && b) && c) (value_or (f (Some x) (Some z)))
guarded_only f true true true x y z l r fails same s = ap (λ (w : Val). f (Some x) (Some w)) (sym (same refl)) ∙ some_or (f (Some x) (Some z)) s
guarded_only f true true false x y z l r fails same s = fails refl
guarded_only f true false c x y z l r fails same s = r (Some x)
guarded_only f false b c x y z l r fails same s = l (only b y)

-- ---- quotients and remainders

by_zero : (op : ArithRow) (x : Val) (m : ℤ) → ((i : ℤ) → computed op i m ≡ None) → arith_term op (Some x) (Some (number m)) ≡ None
unfolding arith_term
by_zero op (number i) m h = ap (λ o. option_and_then (λ n. Some (number n)) o) (h i)
by_zero op (set s) m h = refl
by_zero op (numbers ns) m h = refl
by_zero op (sets ss) m h = refl
by_zero op empty m h = refl

not_false : (b : Bool) → not b ≡ false → b ≡ true
not_false true h = refl
not_false false h = absurd (cc)

not_true : (b : Bool) → not b ≡ true → b ≡ false
not_true false h = refl
not_true true h = absurd (cc)

div_zero : (i m : ℤ) → is_nonzero m ≡ false → computed arith_row.Div i m ≡ None
unfolding computed
div_zero i m h = ap (λ b. cond b None (Some (int_div i m))) (not_false (int_eq m (pos 0)) h)

mod_zero : (i m : ℤ) → is_nonzero m ≡ false → computed arith_row.Mod i m ≡ None
unfolding computed
mod_zero i m h = ap (λ b. cond b None (Some (int_rem i m))) (not_false (int_eq m (pos 0)) h)

some_cond : (b : Bool) (n : ℤ) → b ≡ false → IsSome (cond b None (Some n))
some_cond true n h = absurd (cc)
some_cond false n h = refl

div_some : (i m : ℤ) → is_nonzero m ≡ true → IsSome (computed arith_row.Div i m)
unfolding computed
div_some i m h = some_cond (int_eq m (pos 0)) _ (not_true (int_eq m (pos 0)) h)

mod_some : (i m : ℤ) → is_nonzero m ≡ true → IsSome (computed arith_row.Mod i m)
unfolding computed
mod_some i m h = some_cond (int_eq m (pos 0)) _ (not_true (int_eq m (pos 0)) h)

no_left : (op : ArithRow) (y : Term) → arith_term op None y ≡ None
unfolding arith_term
no_left op y = refl

no_right : (op : ArithRow) (x : Term) → arith_term op x None ≡ None
unfolding arith_term
no_right op None = refl
no_right op (Some (number n)) = refl
no_right op (Some (set s)) = refl
no_right op (Some (numbers ns)) = refl
no_right op (Some (sets ss)) = refl
no_right op (Some empty) = refl

-- a kind that divides
pub record Divides (k : NodeKind) (op : ArithRow) : Type 0 where
  pub inner : is_inner k ≡ true
  pub other : is_cons k ≡ false
  pub term : (v : Values) (e : Entry) (x y : Term) → kind_term v e k (x ∷ y ∷ []) ≡ arith_term op x y
  pub ends_are : (e : Entry) (x y : Known) → kind_extent e k (x ∷ y ∷ []) ≡ arith_extent op x y
  pub zero : (i m : ℤ) → is_nonzero m ≡ false → computed op i m ≡ None
  pub some : (i m : ℤ) → is_nonzero m ≡ true → IsSome (computed op i m)
  pub none : (e : Ends) → arith_ends op e bounds.nothing ≡ bounds.nothing

div_none : (e : Ends) → arith_ends arith_row.Div e bounds.nothing ≡ bounds.nothing
unfolding arith_ends
div_none e = refl

mod_none : (e : Ends) → arith_ends arith_row.Mod e bounds.nothing ≡ bounds.nothing
unfolding arith_ends
mod_none e = refl

div_divides : Divides Div arith_row.Div
div_divides = record { inner = refl; other = refl; term = λ v e x y. refl; ends_are = λ e x y. refl; zero = div_zero; some = div_some; none = div_none }

mod_divides : Divides Mod arith_row.Mod
mod_divides = record { inner = refl; other = refl; term = λ v e x y. refl; ends_are = λ e x y. refl; zero = mod_zero; some = mod_some; none = mod_none }

pub record HasDivides (k : NodeKind) : Type 0 where
  pub op : ArithRow
  pub is : Divides k op

pub divides : (k : NodeKind) → group_of k ≡ group.Division → HasDivides k
divides Div g = record { op = arith_row.Div; is = div_divides }
divides Mod g = record { op = arith_row.Mod; is = mod_divides }
divides _ g = absurd (cc)

-- the number that a value is
abbrev pub number_or : Val → ℤ
number_or (number n) = n
number_or _ = pos 0

pub number_same : (w : Val) → IsNumberVal w → w ≡ number (number_or w)
number_same w h = subst (λ (x : Val). x ≡ number (number_or x)) (sym h.is) refl

-- a part of an integer, as a number
pub part_number : (es : List Entry) (i : ℕ) (p : Part) (e : Ends) → IsArena es → (h : IsPart es i p) → extent es i ≡ Some (whole e) → Has es p.term (Some (whole e)) (λ v. number (number_or (h.value v)))
part_number es i p e a h w = record {
  total = h.kept.total;
  bounds = h.kept.bounds ∙ w;
  is = λ v b. h.kept.is v b ∙ ap (λ (x : Val). Some x) (number_same (h.value v) (number_in (extent es i) (h.value v) (record { ends = e; is = w }) (fits es i p v a h b)));
}

pub has_fits : (es : List Entry) (t : ℕ) (x : Known) (w : Values → Val) (v : Values) → IsArena es → (h : Has es t x w) → AreInBounds es v → Fits x (w v)
has_fits es t x w v a h b = subst (λ (z : Val). Fits x z) (ap value_or (h.is v b)) (subst (λ (y : Known). Fits y (value_or (term v es t))) h.bounds (total_fits es t t v a h.total refl b))

pub cond_pass : (c : ℤ → Bool) (m k : ℤ) → c k ≡ true → c (cond (c m) m k) ≡ true
cond_pass c m k h = by (c m) refl
  where
    by : (b : Bool) → c m ≡ b → c (cond b m k) ≡ true
    by true e = e
    by false e = h

pub cond_same : (b : Bool) (m k : ℤ) (w : Val) → w ≡ number m → b ≡ true → number (cond b m k) ≡ w
cond_same true m k w e h = sym e
cond_same false m k w e h = absurd (cc)

number_in_same : (m j : ℤ) → number m ≡ number j → m ≡ j
number_in_same m j h = cc

pub division_part : (es : List Entry) (id a b : ℕ) (k : NodeKind) (p q : Part) (f : Option ℕ) (w t : ℕ) (spare : ℤ) (e : Ends) → IsArena es → group_of k ≡ group.Division → IsNode es id k (a ∷ b ∷ []) → IsNode es t k (p.term ∷ w ∷ []) → (hp : IsPart es a p) (hq : IsPart es b q) → extent es b ≡ Some (whole e) → Has es w (Some (whole e)) (λ v. number (cond (is_nonzero (number_or (hq.value v))) (number_or (hq.value v)) spare)) → is_nonzero spare ≡ true → Says es f (λ v. (hp.holds v && hq.holds v) && is_nonzero (number_or (hq.value v))) → (IsToldDefined es id → IsItself id (record { flag = f; term = t; len = 0 })) → IsPart es id (record { flag = f; term = t; len = 0 })
division_part es id a b k p q f w t spare e ar g n m hp hq whole_b hw pass says own =
    let d = divides k g in
    let op = d.op in
    let M : Values → ℤ = λ v. number_or (hq.value v) in
    let S : Values → ℤ = λ v. cond (is_nonzero (M v)) (M v) spare in
    let some_id = node_some es id k (a ∷ b ∷ []) ar n in
    let arith : IsSome (arith_extent op (extent es a) (extent es b)) = subst (λ (x : Known). IsSome x) (d.is.ends_are n.there (extent es a) (extent es b)) some_id in
    let value : (v : Values) → AreInBounds es v → term v es t ≡ arith_term op (Some (hp.value v)) (Some (number (S v))) = λ v i.
    node_means es t k (p.term ∷ w ∷ []) ar m v ∙ d.is.term v m.there (term v es p.term) (term v es w) ∙ ap (λ x. arith_term op x (term v es w)) (hp.kept.is v i) ∙ ap (arith_term op (Some (hp.value v))) (hw.is v i) in
    let some : (v : Values) → AreInBounds es v → IsSome (arith_term op (Some (hp.value v)) (Some (number (S v)))) = λ v i.
    arith_some op (extent es a) (extent es b) (hp.value v) (number (S v)) (λ x j h. d.is.some x j (ap is_nonzero (sym (number_in_same (S v) j h)) ∙ cond_pass is_nonzero (M v) spare pass)) arith (fits es a p v ar hp i) (subst (λ (y : Known). Fits y (number (S v))) (sym whole_b) (has_fits es w (Some (whole e)) (λ u. number (S u)) v ar hw i)) in
    plain_part es id k (a ∷ b ∷ []) f t (λ v. (hp.holds v && hq.holds v) && is_nonzero (M v)) ar d.is.inner d.is.other n says
    (node_total es t k (p.term ∷ w ∷ []) m (hp.kept.total, (hw.total, tt)) (λ v i. subst (λ (x : Term). IsSome x) (sym (value v i)) (some v i)))
    (like_bounds es id t k (a ∷ b ∷ []) (p.term ∷ w ∷ []) ar d.is.inner n m (pair_like es a b p.term w hp.kept.bounds (hw.bounds ∙ sym whole_b)))
    (λ v i.
    let same = number_same (hq.value v) (number_in (extent es b) (hq.value v) (record { ends = e; is = whole_b }) (fits es b q v ar hq i)) in
    node_means es id k (a ∷ b ∷ []) ar n v ∙ d.is.term v n.there (term v es a) (term v es b) ∙ ap (λ x. arith_term op x (term v es b)) (hp.is v i) ∙ ap (arith_term op (only (hp.holds v) (hp.value v))) (hq.is v i)
    ∙ guarded_only (arith_term op) (hp.holds v) (hq.holds v) (is_nonzero (M v)) (hp.value v) (hq.value v) (number (S v)) (no_left op) (no_right op)
    (λ h. ap (λ (x : Val). arith_term op (Some (hp.value v)) (Some x)) same ∙ by_zero op (hp.value v) (M v) (λ j. d.is.zero j (M v) h))
    (λ h. cond_same (is_nonzero (M v)) (M v) spare (hq.value v) same h)
    (some v i)
    ∙ ap (λ (x : Term). only ((hp.holds v && hq.holds v) && is_nonzero (M v)) (value_or x)) (sym (value v i)))
    own

pub two_none : (f : Term → Term → Term) (a b : Bool) (x y : Val) → ((w : Term) → f None w ≡ None) → ((w : Term) → f w None ≡ None) → f (Some x) (Some y) ≡ None → f (only a x) (only b y) ≡ None
two_none f true true x y l r h = h
two_none f true false x y l r h = r (Some x)
two_none f false b x y l r h = l (only b y)

zero_only : (m : ℤ) → Encloses bounds.nothing m → is_nonzero m ≡ false
zero_only m h = let same : m ≡ pos 0 = omega (arith, ints, h.from, h.to) in ap is_nonzero same

nothing_bounds : (op : ArithRow) (x y : Known) (e : Ends) → ((g : Ends) → arith_ends op g bounds.nothing ≡ bounds.nothing) → x ≡ Some (whole e) → y ≡ Some (whole bounds.nothing) → arith_extent op x y ≡ Some (whole bounds.nothing)
nothing_bounds op x y e none hx hy = ap (λ (o : Known). arith_extent op o y) hx ∙ ap (arith_extent op (Some (whole e))) hy ∙ ap (λ g. option_map whole (if_in_limit g)) (none e)

pub division_no_value : (es : List Entry) (id a b : ℕ) (k : NodeKind) (p q : Part) → IsArena es → group_of k ≡ group.Division → IsNode es id k (a ∷ b ∷ []) → IsPart es a p → IsPart es b q → extent es b ≡ Some (whole bounds.nothing) → HasNoValue es id
division_no_value es id a b k p q ar g n hp hq zero_b =
    let d = divides k g in
    let op = d.op in
    let arith : IsSome (arith_extent op (extent es a) (extent es b)) = subst (λ (x : Known). IsSome x) (d.is.ends_are n.there (extent es a) (extent es b)) (node_some es id k (a ∷ b ∷ []) ar n) in
    let wa = arith_first op (extent es a) (extent es b) arith in
    record {
      bounds = subst (λ (x : Known). IsNever x) (sym (node_bounds es id k (a ∷ b ∷ []) ar n ∙ d.is.ends_are n.there (extent es a) (extent es b) ∙ nothing_bounds op (extent es a) (extent es b) wa.ends d.is.none wa.is zero_b)) refl;
      is = λ v i.
          let fit = fits es b q v ar hq i in
          let w = number_in (extent es b) (hq.value v) (record { ends = bounds.nothing; is = zero_b }) fit in
          let inside : Encloses bounds.nothing w.value = subst (λ (x : Val). LiesIn (whole bounds.nothing) x) w.is (fit.lies (whole bounds.nothing) zero_b) in
          node_means es id k (a ∷ b ∷ []) ar n v ∙ d.is.term v n.there (term v es a) (term v es b) ∙ ap (λ x. arith_term op x (term v es b)) (hp.is v i) ∙ ap (arith_term op (only (hp.holds v) (hp.value v))) (hq.is v i)
          ∙ two_none (arith_term op) (hp.holds v) (hq.holds v) (hp.value v) (hq.value v) (no_left op) (no_right op) (ap (λ (x : Val). arith_term op (Some (hp.value v)) (Some x)) w.is ∙ by_zero op (hp.value v) w.value (λ j. d.is.zero j w.value (zero_only w.value inside)));
    }
