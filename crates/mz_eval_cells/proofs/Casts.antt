-- One recast of sets after another.
use Rattle.std.proofs.Common.{◌≡◌, ◌∙◌, ℕ, Bool, true, false, List, [], ◌∷◌, map, Option, Some, None, refl, sym, ap}
use Rattle.std.specs.Option.{option_map}
use Rattle.mz_value.specs.Ranges.{Range}
use Rattle.mz_value.specs.Contents.{Content, contents}
use Rattle.mz_value.specs.Contents as values
use Rattle.mz_core.specs.declared.types.Base.{Base}
use Rattle.mz_core.specs.declared.types.Base.TheVariants as base
use Rattle.mz_operations.specs.Views.{items_in}
use Rattle.mz_builtin_arguments.proofs.Views.{items_in_contents}
use Rattle.mz_meaning.specs.Coerced.{recast, recast_all}
use Rattle.mz_eval_cells.specs.StepsCasts.{is_set_cast}

-- a set gets the enum of the base
set_cast : (b : Base) (d e : Option ℕ) (s : List Range) → is_set_cast b ≡ true → recast b (values.set d s) ≡ recast b (values.set e s)
set_cast base.SetInt d e s q = refl
set_cast (base.SetEnum k) d e s q = refl
set_cast base.Bool d e s q = absurd (cc)
set_cast base.Int d e s q = absurd (cc)
set_cast (base.Enum k) d e s q = absurd (cc)
set_cast base.SetBottom d e s q = absurd (cc)
set_cast base.Text d e s q = absurd (cc)
set_cast base.Bottom d e s q = absurd (cc)

one_twice : (a b : Base) (x : Content) → is_set_cast a ≡ true → is_set_cast b ≡ true → recast b (recast a x) ≡ recast b x
one_twice base.SetInt b (values.set d s) p q = set_cast b None d s q
one_twice (base.SetEnum e) b (values.set d s) p q = set_cast b (Some e) d s q
one_twice base.SetInt b x p q = refl
one_twice (base.SetEnum e) b x p q = refl
one_twice base.Bool b x p q = absurd (cc)
one_twice base.Int b x p q = absurd (cc)
one_twice (base.Enum e) b x p q = absurd (cc)
one_twice base.SetBottom b x p q = absurd (cc)
one_twice base.Text b x p q = absurd (cc)
one_twice base.Bottom b x p q = absurd (cc)

items_twice : (a b : Base) (xs : List Content) → is_set_cast a ≡ true → is_set_cast b ≡ true → map (recast b) (map (recast a) xs) ≡ map (recast b) xs
items_twice a b [] p q = refl
items_twice a b (x ∷ xs) p q = ap (λ y. y ∷ map (recast b) (map (recast a) xs)) (one_twice a b x p q) ∙ ap (λ ys. recast b x ∷ ys) (items_twice a b xs p q)

array_twice : (a b : Base) (ix : List Range) (xs : List Content) → is_set_cast a ≡ true → is_set_cast b ≡ true → values.array ix (contents (map (recast b) (items_in (contents (map (recast a) xs))))) ≡ values.array ix (contents (map (recast b) xs))
array_twice a b ix xs p q = ap (λ ys. values.array ix (contents (map (recast b) ys))) (items_in_contents (map (recast a) xs)) ∙ ap (λ ys. values.array ix (contents ys)) (items_twice a b xs p q)

all_twice : (a b : Base) (x : Content) → is_set_cast a ≡ true → is_set_cast b ≡ true → recast_all b (recast_all a x) ≡ recast_all b x
all_twice a b (values.array ix xs) p q = array_twice a b ix (items_in xs) p q
all_twice base.SetInt b (values.set d s) p q = set_cast b None d s q
all_twice (base.SetEnum e) b (values.set d s) p q = set_cast b (Some e) d s q
all_twice base.SetInt b x p q = refl
all_twice (base.SetEnum e) b x p q = refl
all_twice base.Bool b x p q = absurd (cc)
all_twice base.Int b x p q = absurd (cc)
all_twice (base.Enum e) b x p q = absurd (cc)
all_twice base.SetBottom b x p q = absurd (cc)
all_twice base.Text b x p q = absurd (cc)
all_twice base.Bottom b x p q = absurd (cc)

pub cast_twice : (a b : Base) (v : Option Content) → is_set_cast a ≡ true → is_set_cast b ≡ true → option_map (recast_all b) v ≡ option_map (recast_all b) (option_map (recast_all a) v)
cast_twice a b None p q = refl
cast_twice a b (Some x) p q = ap (λ y. Some y) (sym (all_twice a b x p q))
