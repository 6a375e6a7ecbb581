-- Scopes with more names, and what holds after what ends well.
use Rattle.std.proofs.Common.{◌≡◌, sym, subst}
use Rattle.mz_check_meaning.specs.Models.{Env}
use Rattle.mz_check_context.specs.Extending.{Extends, itself, one_more}

pub extends_on : {a b c : Env} → Extends a b → Extends b c → Extends a c
extends_on p itself = p
extends_on p (one_more n t q) = one_more n t (extends_on p q)

-- a scope that was kept extends what it extended
pub extends_kept : {a b c : Env} → Extends a b → c ≡ b → Extends a c
extends_kept {a} p e = subst (Extends a) (sym e) p
