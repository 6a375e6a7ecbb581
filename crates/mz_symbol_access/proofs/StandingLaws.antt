-- Symbols that stand for others: truth values as options that are there, and the one of two that a condition takes.
use Rattle.std.proofs.Common.{◌≡◌, ◌∙◌, ℕ, true, Option, Some, None, IsSome, refl, sym, ap, subst, if◌then◌else◌}
use Rattle.std.specs.Prelude.{◌*◌}
use Rattle.mz_value.specs.Contents as values
use Rattle.mz_value.specs.Contents.{Content}
use Rattle.mz_core.specs.declared.types.Base.{Base}
use Rattle.mz_core.specs.declared.types.Base.TheVariants as base
use Rattle.mz_arena.specs.Values.{Term, as_number, bit, is_true, to_int_term}
use Rattle.mz_meaning.specs.Runs.{Out}
use Rattle.mz_symbol.specs.declared.types.Symbol.{Symbol}
use Rattle.mz_symbol.specs.Symbols.{value_at, value_by, IsItem}
use Rattle.mz_symbol.specs.Runs.{Run}
use Rattle.mz_symbol.specs.Readings.{Reading, state_of}
use Rattle.mz_symbol.proofs.ConstantLaws.{out_value, out_state}
use Rattle.mz_symbol_rows.proofs.MakingLaws.{whole_kept}
use Rattle.mz_symbol_access.specs.Standing.{StandsFor}
use Rattle.mz_symbol_access.specs.StepsChoose.{IsPicked, Picks, Replaces, IsChosen, Chooses}
use Rattle.mz_symbol_access.proofs.ChooseLaws.{IsLike, picked_first, picked_second, same_value, same_item}

-- ---- a truth value as an option

truth_again : (x : Term) (o : Option Content) → value_by base.Bool x ≡ o → IsSome o → value_by base.Bool (to_int_term x) ≡ value_by base.Bool x
truth_again x (Some c) e h = sym (whole_kept base.Bool x c e)
truth_again x None e h = absurd (cc)

again_by : (b : Base) (x : Term) → b ≡ base.Bool → IsSome (value_by b x) → value_by b (to_int_term x) ≡ value_by b x
again_by b x e h = subst (λ c. value_by c (to_int_term x) ≡ value_by c x) (sym e) (truth_again x (value_by base.Bool x) refl (subst (λ c. IsSome (value_by c x)) e h))

pub replaces_truth : (r : Reading) (old mid new : Run) (p : Symbol) (id there : ℕ) → (p.base ≡ base.Bool) × (p.occurs ≡ None) → Out (to_int_term (r.term p.term)) (state_of r old) ≡ Out (r.term id) (state_of r mid) → Out (bit true) (state_of r mid) ≡ Out (r.term there) (state_of r new)
    → Replaces r old new p (record { base = p.base; occurs = Some there; term = id })
replaces_truth r old mid new p id there h f g =
    let t = r.term in
    let same : IsItem t p → value_by p.base (t id) ≡ value_by p.base (t p.term) = λ i. ap (value_by p.base) (sym (out_value f)) ∙ again_by p.base (t p.term) h.0 i.value in
    record {
      same = out_state f ∙ out_state g;
      is = record {
        value = λ i.
            ap (λ z. if is_true z then value_by p.base (t id) else Some values.absent) (sym (out_value g))
            ∙ same i
            ∙ ap (λ o. value_at t p.base o p.term) (sym h.1);
        item = λ i. record {
          value = subst (λ v. IsSome v) (sym (same i)) i.value;
          occurs = subst (λ z. IsSome (as_number z)) (out_value g) refl;
        };
      };
    }

-- ---- one of two

pub stands_itself : (t : ℕ → Term) (p : Symbol) → StandsFor t p p
stands_itself t p = record { value = λ i. refl; item = λ i. i }

like_stands : (t : ℕ → Term) (p x s : Symbol) → IsLike t s x → StandsFor t p x → StandsFor t p s
like_stands t p x s k w = record { value = λ i. same_value t s x k ∙ w.value i; item = λ i. same_item t s x k (w.item i) }

picked_stands : (t : ℕ → Term) (c : ℕ) (p q x y s : Symbol) → StandsFor t p x → StandsFor t q y → IsPicked t c x y s → IsChosen t c p q s
picked_stands t c p q x y s a b w = record {
  first = λ h. like_stands t p x s (picked_first t c x y s h w) a;
  second = λ h. like_stands t q y s (picked_second t c x y s h w) b;
}

pub replaces_itself : (r : Reading) (s : Run) (p : Symbol) → Replaces r s s p p
replaces_itself r s p = record { same = refl; is = stands_itself r.term p }

pub chooses_itself : (r : Reading) (old new : Run) (c : ℕ) (p q s : Symbol) → Picks r old new c p q s → Chooses r old new c p q s
chooses_itself r old new c p q s w = record {
  same = w.same;
  is = picked_stands r.term c p q p q s (stands_itself r.term p) (stands_itself r.term q) w.is;
}

pub chooses_first : (r : Reading) (old mid new : Run) (c : ℕ) (p q x s : Symbol) → Replaces r old mid p x → Picks r mid new c x q s → Chooses r old new c p q s
chooses_first r old mid new c p q x s a w = record {
  same = a.same ∙ w.same;
  is = picked_stands r.term c p q x q s a.is (stands_itself r.term q) w.is;
}

pub chooses_second : (r : Reading) (old mid new : Run) (c : ℕ) (p q y s : Symbol) → Replaces r old mid q y → Picks r mid new c p y s → Chooses r old new c p q s
chooses_second r old mid new c p q y s b w = record {
  same = b.same ∙ w.same;
  is = picked_stands r.term c p q p y s (stands_itself r.term p) b.is w.is;
}
