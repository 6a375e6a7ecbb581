-- A symbol whose nodes are chosen by a condition is the chosen symbol.
use Rattle.std.proofs.Common.{◌≡◌, ◌∙◌, ℕ, Bool, true, false, Option, Some, None, IsSome, refl, sym, ap, subst, if◌then◌else◌}
use Rattle.mz_value.specs.Contents as values
use Rattle.mz_core.specs.declared.types.Base.{Base}
use Rattle.mz_arena.specs.Values.{Term, as_number, if_term, is_true}
use Rattle.mz_meaning.specs.Cells.{held}
use Rattle.mz_meaning.specs.Runs.{Out}
use Rattle.mz_symbol.specs.declared.types.Symbol.{Symbol}
use Rattle.mz_symbol.specs.Symbols.{value_by, value_at, symbol_value, occurs_term, IsItem, IsOccurrence}
use Rattle.mz_symbol.specs.Runs.{Run}
use Rattle.mz_symbol.specs.Readings.{Reading, symbol_seen, state_of}
use Rattle.mz_symbol.proofs.ConstantLaws.{out_value, out_state}
use Rattle.mz_symbol_rows.specs.StepsOptions.{symbol_of}
use Rattle.mz_symbol_access.specs.ChosenValues.{chosen_value}
use Rattle.mz_symbol_access.specs.StepsChoose.{AreNone, IsOccurring, Occurs, IsPicked, Picks}

-- ---- what the calls say

pub none_occurs : (r : Reading) (s : Run) (c : ℕ) (p q : Option ℕ) → AreNone p q → Occurs r s s c p q None
none_occurs r s c p q n = record { same = refl; is = n }

pub some_occurs : (r : Reading) (old one two new : Run) (c x y id : ℕ) (p q : Option ℕ) → Out (occurs_term r.term p) (state_of r old) ≡ Out (r.term x) (state_of r one) → Out (occurs_term r.term q) (state_of r one) ≡ Out (r.term y) (state_of r two) → Out (if_term (r.term c) (r.term x) (r.term y)) (state_of r two) ≡ Out (r.term id) (state_of r new) → Occurs r old new c p q (Some id)
some_occurs r old one two new c x y id p q f g h = record {
  same = out_state f ∙ out_state g ∙ out_state h;
  is = ap (λ u. if_term (r.term c) u (occurs_term r.term q)) (out_value f) ∙ ap (λ u. if_term (r.term c) (r.term x) u) (out_value g) ∙ out_value h;
}

pub picks_of : (r : Reading) (old mid new : Run) (c : ℕ) (p q : Symbol) (o : Option ℕ) (id : ℕ) (s : Symbol) → p.base ≡ q.base → Occurs r old mid c p.occurs q.occurs o → Out (if_term (r.term c) (r.term p.term) (r.term q.term)) (state_of r mid) ≡ Out (r.term id) (state_of r new) → s ≡ symbol_of p.base o id → Picks r old new c p q s
picks_of r old mid new c p q o id s b w h e = subst (Picks r old new c p q) (sym e) (record {
  same = w.same ∙ out_state h;
  is = record { first = refl; second = b; occurs = w.is; term = out_value h };
})

-- ---- the same nodes

abbrev AreLike : (ℕ → Term) → Option ℕ → Option ℕ → Type 0
AreLike t None None = Unit {0}
AreLike t None (Some u) = ⊥
AreLike t (Some o) u = t o ≡ occurs_term t u

pub record IsLike (t : ℕ → Term) (s p : Symbol) : Type 0 where
  pub base : s.base ≡ p.base
  pub occurs : AreLike t s.occurs p.occurs
  pub term : t s.term ≡ t p.term

if_first : (x y z : Term) → is_true x ≡ true → if_term x y z ≡ y
unfolding if_term
if_first x y z h = ap (λ b. if b then y else z) h

if_second : (x y z : Term) → is_true x ≡ false → if_term x y z ≡ z
unfolding if_term
if_second x y z h = ap (λ b. if b then y else z) h

first_occurs : (t : ℕ → Term) (c : ℕ) (p q s : Option ℕ) → is_true (t c) ≡ true → IsOccurring t c p q s → AreLike t s p
first_occurs t c None None None h w = tt
first_occurs t c None (Some u) None h w = absurd w
first_occurs t c (Some o) q None h w = absurd w
first_occurs t c p q (Some i) h w = sym w ∙ if_first (t c) (occurs_term t p) (occurs_term t q) h

second_occurs : (t : ℕ → Term) (c : ℕ) (p q s : Option ℕ) → is_true (t c) ≡ false → IsOccurring t c p q s → AreLike t s q
second_occurs t c None None None h w = tt
second_occurs t c None (Some u) None h w = absurd w
second_occurs t c (Some o) q None h w = absurd w
second_occurs t c p q (Some i) h w = sym w ∙ if_second (t c) (occurs_term t p) (occurs_term t q) h

pub picked_first : (t : ℕ → Term) (c : ℕ) (p q s : Symbol) → is_true (t c) ≡ true → IsPicked t c p q s → IsLike t s p
picked_first t c p q s h w = record {
  base = w.first;
  occurs = first_occurs t c p.occurs q.occurs s.occurs h w.occurs;
  term = sym w.term ∙ if_first (t c) (t p.term) (t q.term) h;
}

pub picked_second : (t : ℕ → Term) (c : ℕ) (p q s : Symbol) → is_true (t c) ≡ false → IsPicked t c p q s → IsLike t s q
picked_second t c p q s h w = record {
  base = w.second;
  occurs = second_occurs t c p.occurs q.occurs s.occurs h w.occurs;
  term = sym w.term ∙ if_second (t c) (t p.term) (t q.term) h;
}

like_value : (t : ℕ → Term) (b : Base) (o u : Option ℕ) (x y : ℕ) → AreLike t o u → t x ≡ t y → value_at t b o x ≡ value_at t b u y
like_value t b None None x y w e = ap (value_by b) e
like_value t b (Some o) (Some u) x y w e = ap (λ z. if is_true z then value_by b (t x) else Some values.absent) w ∙ ap (λ z. if is_true (t u) then value_by b z else Some values.absent) e
like_value t b None (Some u) x y w e = absurd w
like_value t b (Some o) None x y w e = ap (λ z. if is_true z then value_by b (t x) else Some values.absent) w ∙ ap (value_by b) e

pub same_value : (t : ℕ → Term) (s p : Symbol) → IsLike t s p → symbol_value t s ≡ symbol_value t p
same_value t s p w = ap (λ b. value_at t b s.occurs s.term) w.base ∙ like_value t p.base s.occurs p.occurs s.term p.term w.occurs w.term

like_occurrence : (t : ℕ → Term) (o u : Option ℕ) → AreLike t o u → IsOccurrence t u → IsOccurrence t o
like_occurrence t None None w h = tt
like_occurrence t (Some o) (Some u) w h = subst (λ x. IsSome (as_number x)) (sym w) h
like_occurrence t None (Some u) w h = absurd w
like_occurrence t (Some o) None w h = subst (λ x. IsSome (as_number x)) (sym w) refl

pub same_item : (t : ℕ → Term) (s p : Symbol) → IsLike t s p → IsItem t p → IsItem t s
same_item t s p w h = record {
  value = subst (λ x. IsSome (value_by s.base x)) (sym w.term) (subst (λ b. IsSome (value_by b (t p.term))) (sym w.base) h.value);
  occurs = like_occurrence t s.occurs p.occurs w.occurs h.occurs;
}

-- ---- the value

picked_value : (t : ℕ → Term) (c : ℕ) (p q s : Symbol) (b : Bool) → is_true (t c) ≡ b → IsPicked t c p q s → (if b then symbol_value t p else symbol_value t q) ≡ symbol_value t s
picked_value t c p q s true h w = sym (same_value t s p (picked_first t c p q s h w))
picked_value t c p q s false h w = sym (same_value t s q (picked_second t c p q s h w))

pub chosen_held : (r : Reading) (old new : Run) (c : ℕ) (p q s : Symbol) → Picks r old new c p q s → held r.mode (chosen_value r c p q) ≡ symbol_seen r s
chosen_held r old new c p q s w = ap (held r.mode) (picked_value r.term c p q s (is_true (r.term c)) refl w.is)
