-- Variables made of places are variables of an instance.
use Rattle.std.proofs.Common.{◌≡◌, ◌≢◌, ◌∙◌, ℕ, Bool, true, false, ◌&&◌, is_some, List, [], ◌∷◌, length, map, Option, Some, None, sym, ap, subst, refl}
use Rattle.std.proofs.lemmas.Bool.{eqb-true}
use Rattle.std.proofs.lemmas.List.{length-map}
use Rattle.mz_value.specs.Ranges.{Range}
use Rattle.mz_core.specs.declared.types.Base.{Base}
use Rattle.mz_core.specs.declared.types.Base.TheVariants as base
use Rattle.mz_core.specs.Order.{same_base}
use Rattle.mz_operations.specs.Arrays.{place_count}
use Rattle.mz_arena.specs.Instances.{ModelVar, VarCell}
use Rattle.mz_instance.specs.Parts.{is_subset_sort, sort_of}
use Rattle.mz_instance.specs.Instance.{IsCounted, IsIndex, AreIndexRanges, AreOccurring, IsModelVar}
use Rattle.mz_symbol.specs.declared.types.Free.{Free}
use Rattle.mz_symbol.specs.Symbols.{domain_of}
use Rattle.mz_model_state.specs.Hands.{OnePlace, ManyPlaces}
use Rattle.mz_model_state.specs.Variables.{place_cell}
use Rattle.mz_model_state.specs.Vars.{IsVarOver, AreOver, VarsMade, ArraysMade}
use Rattle.mz_model_names.specs.Closed.{IsVarFor}
use Rattle.mz_model_names.specs.StepsVars.{same_truth, is_over, each_over}

-- ---- places of a base

base_is : (a b : Base) → same_base a b ≡ true → a ≡ b
base_is base.Bool base.Bool h = refl
base_is base.Int base.Int h = refl
base_is (base.Enum e) (base.Enum f) h = ap (λ n. base.Enum n) (eqb-true e f h)
base_is base.SetInt base.SetInt h = refl
base_is (base.SetEnum e) (base.SetEnum f) h = ap (λ n. base.SetEnum n) (eqb-true e f h)
base_is base.SetBottom base.SetBottom h = refl
base_is base.Text base.Text h = refl
base_is base.Bottom base.Bottom h = refl
base_is a b h = absurd (cc)

truth_is : (a b : Bool) → same_truth a b ≡ true → a ≡ b
truth_is true true h = refl
truth_is true false h = absurd (cc)
truth_is false true h = absurd (cc)
truth_is false false h = refl

both_true : (p q : Bool) → (p && q) ≡ true → (p ≡ true) × (q ≡ true)
both_true true q h = (refl, h)
both_true false q h = absurd (cc)

pub all_over : (b : Base) (o : Bool) (fs : List Free) → each_over b o fs ≡ true → AreOver b o (map domain_of fs)
all_over b o [] h = tt
all_over b o (f ∷ fs) h =
    let p = both_true (is_over b o f) (each_over b o fs) h in
    let q = both_true (same_base f.symbol.base b) (same_truth (is_some f.symbol.occurs) o) p.0 in
    ((base_is f.symbol.base b q.0, truth_is (is_some f.symbol.occurs) o q.1), all_over b o fs p.1)

-- ---- variables

occurring : (b : Base) (o : Bool) (fs : List Free) → AreOver b o (map domain_of fs) → AreOccurring o (map place_cell fs)
occurring b o [] h = tt
occurring b o (f ∷ fs) h = (h.0.1, occurring b o fs h.1)

counted : (name : ℕ) (b : Base) (o : Bool) (ix : Option (List Range)) (fs : List Free) (m : ModelVar) → IsVarOver name b o ix fs m → AreOver b o (map domain_of fs) → (o ≡ true → is_subset_sort (sort_of b) ≡ false) → IsIndex ix → IsCounted ix (length fs) → IsModelVar m
counted name b o ix fs m v over allowed index count = record {
  allowed = λ h. subst (λ (c : Base). is_subset_sort (sort_of c) ≡ false) (sym v.base) (allowed (sym v.opt ∙ h));
  index = subst (λ (x : Option (List Range)). IsIndex x) (sym v.index) index;
  count = subst (λ (x : Option (List Range)). IsCounted x (length m.cells)) (sym v.index) (subst (λ (n : ℕ). IsCounted ix n) (sym (ap length v.cells ∙ length-map fs place_cell)) count);
  cells = subst (λ (p : Bool). AreOccurring p m.cells) (sym v.opt) (subst (λ (cs : List VarCell). AreOccurring o cs) (sym v.cells) (occurring b o fs over));
}

pub one_for : VarsMade → (name : ℕ) (b : Base) (o : Bool) (fs : List Free) (f : Free) (m : ModelVar) → fs ≡ f ∷ [] → AreOver b o (map domain_of fs) → (o ≡ true → is_subset_sort (sort_of b) ≡ false) → IsVarOver name b o None fs m → IsVarFor (OnePlace f) m
one_for law name b o fs f m e over allowed v =
    let w = subst (λ (gs : List Free). IsVarOver name b o None gs m) e v in
    let q = subst (λ (gs : List Free). AreOver b o (map domain_of gs)) e over in
    record { made = law name b o f m q w; counted = counted name b o None (f ∷ []) m w q allowed tt refl }

pub many_for : ArraysMade → (name : ℕ) (b : Base) (o : Bool) (ix : List Range) (fs : List Free) (m : ModelVar) → AreOver b o (map domain_of fs) → (o ≡ true → is_subset_sort (sort_of b) ≡ false) → ix ≢ [] → AreIndexRanges ix → length fs ≡ place_count ix → IsVarOver name b o (Some ix) fs m → IsVarFor (ManyPlaces ix fs) m
many_for law name b o ix fs m over allowed some ranges count v = record {
  made = law name b o ix fs m over v;
  counted = counted name b o (Some ix) fs m v over allowed (some, ranges) count;
}
