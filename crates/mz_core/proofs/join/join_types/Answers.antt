use Rattle.std.proofs.Common.{◌≡◌, Result, Ok, Err, Option, IfOk, sym, subst}
use Rattle.std.specs.Option.{option_map}
use Rattle.mz_base.specs.declared.stop.Memory.{Memory}
use Rattle.mz_core.specs.declared.types.TypeInst.{TypeInst}
use Rattle.mz_core.specs.Types.{PlainType, plain_type}
use Rattle.mz_core.specs.Join.{IsJoin, join}
use Rattle.mz_core.proofs.JoinLaws.{join_is}
use Rattle.mz_core.proofs.join.join_types.Goals as goal

least_ok : (t u : PlainType) (r : Result (Option TypeInst) Memory) → IfOk r (λ o. option_map plain_type o ≡ join t u) → IfOk r (λ o. IsJoin t u (option_map plain_type o))
least_ok t u (Ok o) h = subst (λ x. IsJoin t u x) (sym h) (join_is t u)
least_ok t u (Err e) h = h

pub returns-clause-least : goal.returns-clause-least
returns-clause-least c = least_ok (plain_type c.args.t.now) (plain_type c.args.u.now) c.joined.result c.joined.ensures
