use Rattle.std.proofs.Common.{◌≡◌, Result, Ok, Err, IfOk, sym, subst}
use Rattle.std.specs.Prelude.{Vec}
use Rattle.std.specs.Global.{Global}
use Rattle.mz_base.specs.declared.stop.Memory.{Memory}
use Rattle.mz_core.specs.declared.types.Coercion.{Coercion}
use Rattle.mz_core.specs.declared.types.TypeInst.{TypeInst}
use Rattle.mz_core.specs.Types.{PlainType, plain_type}
use Rattle.mz_core.specs.Coercions.{Leads, Below}
use Rattle.mz_core.specs.Paths.{path_links, coercions}
use Rattle.mz_core.proofs.PathLaws.{coercions_lead, Below_test}
use Rattle.mz_core.proofs.paths.coercions.Goals as goal

leads_ok : (t u : PlainType) → Below t u → (r : Result (Vec (Coercion × TypeInst) Global) Memory) → IfOk r (λ v. path_links v.items ≡ coercions t u) → IfOk r (λ v. Leads t (path_links v.items) u)
leads_ok t u b (Ok v) h = subst (λ x. Leads t x u) (sym h) (coercions_lead t u (Below_test b))
leads_ok t u b (Err e) h = h

pub returns-clause-leads : goal.returns-clause-leads
returns-clause-leads c = leads_ok (plain_type c.args.t.now) (plain_type c.args.u.now) c.requires c.links.result c.links.ensures
