-- Symbols of what isn't there.
use Rattle.std.proofs.Common.{◌≡◌, ◌∙◌, ℕ, true, false, Option, Some, None, refl, sym, ap, if◌then◌else◌}
use Rattle.mz_value.specs.Contents.{Content}
use Rattle.mz_value.specs.Contents as values
use Rattle.mz_core.specs.declared.types.Base.{Base}
use Rattle.mz_core.specs.declared.types.Base.TheVariants as base
use Rattle.mz_arena.specs.Values.{Term, bit, guard_term, is_true}
use Rattle.mz_meaning.specs.Cells.{is_bool}
use Rattle.mz_symbol.specs.Symbols.{value_by}
use Rattle.mz_symbol.specs.Arguments.{as_argument}
use Rattle.mz_eval_symbols.specs.Steps.{argued}

none_by : (b : Base) → value_by b None ≡ None
none_by base.SetInt = refl
none_by (base.SetEnum e) = refl
none_by b = refl

option_at : (b : Base) (o : ℕ) (v : Option Content) → as_argument b (Some o) v ≡ v
option_at base.Bool o v = refl
option_at b o v = refl

pub option_undefined : (b : Base) (t : ℕ → Term) (o id : ℕ) → bit true ≡ t o → None ≡ t id → argued t (record { base = b; occurs = Some o; term = id }) ≡ None
option_undefined b t o id e f =
    option_at b o (if is_true (t o) then value_by b (t id) else Some values.absent)
    ∙ ap (λ u. if is_true u then value_by b (t id) else Some values.absent) (sym e)
    ∙ ap (value_by b) (sym f)
    ∙ none_by b

plain_none : (b : Base) → is_bool b ≡ false → as_argument b None (value_by b None) ≡ None
plain_none base.Bool h = absurd (cc)
plain_none base.SetInt h = refl
plain_none (base.SetEnum e) h = refl
plain_none b h = refl

pub plain_undefined : (b : Base) (t : ℕ → Term) (id : ℕ) → is_bool b ≡ false → None ≡ t id → argued t (record { base = b; occurs = None; term = id }) ≡ None
plain_undefined b t id h f = ap (λ u. as_argument b None (value_by b u)) (sym f) ∙ plain_none b h

pub guard_none : (x y : Term) → bit false ≡ x → guard_term x y ≡ None
unfolding guard_term
guard_none x y e = ap (λ u. if is_true u then y else None) (sym e)
