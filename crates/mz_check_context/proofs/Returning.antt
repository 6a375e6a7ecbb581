-- The way back from a scope to one with fewer names.
use Rattle.std.proofs.Common.{◌≡◌, ℕ, ◌+◌, ◌-◌, ◌<◌, ◌≤◌, refl, sym, ap, subst, length, arith}
use Rattle.mz_core.specs.Types.{PlainType}
use Rattle.mz_check_meaning.specs.Models.{Env, bind}
use Rattle.mz_check_context.specs.Extending.{Extends, itself, one_more, unbound}

abbrev with_next : Env → ℕ → Env
with_next e next = record { locals = e.locals; next = next; output = e.output }

-- what was bound last is taken back
pub unbound_bind : (n : ℕ) (t : PlainType) (e : Env) → unbound (bind n t e) ≡ e
unbound_bind n t e =
    let before : e.next + 1 - 1 ≡ e.next = omega arith in
    ap (with_next e) before

extends_longer : (env e : Env) → Extends env e → length env.locals ≤ length e.locals
extends_longer env e itself = omega arith
extends_longer env e (one_more {e = f} n t x) = let before : length env.locals ≤ length f.locals = extends_longer env f x in omega (arith, before)

-- one name less is still the other scope with names bound, where it has more names than that
pub extends_back : (env e : Env) → Extends env e → length env.locals < length e.locals → Extends env (unbound e)
extends_back env e itself more = absurd (omega (arith, more))
extends_back env e (one_more {e = f} n t x) more = subst (Extends env) (sym (unbound_bind n t f)) x

-- with no more names it is that scope
pub extends_end : (env e : Env) → Extends env e → length e.locals ≤ length env.locals → e ≡ env
extends_end env e itself none = refl
extends_end env e (one_more {e = f} n t x) none = let before : length env.locals ≤ length f.locals = extends_longer env f x in absurd (omega (arith, before, none))
