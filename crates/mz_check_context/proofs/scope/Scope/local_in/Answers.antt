use Rattle.std.proofs.Common.{List, Some, None, sym, ap, ◌∙◌}
use Rattle.std.specs.Prelude.{slice_get}
use Rattle.std.specs.Option.{option_map}
use Rattle.mz_check_meaning.specs.Models.{Env, local_in}
use Rattle.mz_check_context.specs.Locals.{local}
use Rattle.mz_check_context.specs.declared.scope.LocalName.{LocalName}
use Rattle.mz_check_context.proofs.Hiding.{lent_at, local_found}
use Rattle.mz_check_context.proofs.scope.Scope.local_in.Goals as goal

pub returns-in-Some : goal.returns-in-Some
returns-in-Some c =
    let s = c.self.inside in
    let n = c.args.name in
    lent_at c.get.result c.deref.result.now c.in-Some.place c.get.ensures.lookup
    ∙ ap (λ (xs : List LocalName). option_map local (slice_get xs c.in-Some.place)) c.deref.ensures.value
    ∙ local_found n s.locals.items (Some c.in-Some.place) (sym c.in-Some.is ∙ c.place.ensures ∙ c.self.invariant.1.places n)
    ∙ ap (λ (e : Env). local_in n e.locals) c.self.view_is

pub returns-in-None : goal.returns-in-None
returns-in-None c =
    let s = c.self.inside in
    let n = c.args.name in
    local_found n s.locals.items None (sym c.in-None.is ∙ c.place.ensures ∙ c.self.invariant.1.places n) ∙ ap (λ (e : Env). local_in n e.locals) c.self.view_is
