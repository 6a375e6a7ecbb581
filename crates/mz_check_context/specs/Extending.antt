-- Scopes with more local names, and the way back.
use Rattle.std.specs.Prelude.{ℕ, ◌-◌, List, [], ◌∷◌}
use Rattle.mz_core.specs.Types.{PlainType}
use Rattle.mz_check_meaning.specs.Models.{Env, Local, bind}

-- a scope is the other one, with some names bound
pub data Extends (env : Env) : Env → Type 0 where
  itself : Extends env env
  one_more : {e : Env} (n : ℕ) (t : PlainType) → Extends env e → Extends env (bind n t e)

abbrev pub unbound_to : Env → List Local → Env
unbound_to env [] = env
unbound_to env (l ∷ ls) = record { locals = ls; next = env.next - 1; output = env.output }

-- without the name that was bound last
abbrev pub unbound : Env → Env
unbound env = unbound_to env env.locals
