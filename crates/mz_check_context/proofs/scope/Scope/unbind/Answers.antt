use Rattle.std.proofs.Common.{ℕ, List, ◌-◌, length, take, vec_len, arith, sym, ap, ◌≡◌, ◌∙◌}
use Rattle.std.specs.Prelude.{slice_get}
use Rattle.mz_check_context.specs.declared.scope.LocalName.{LocalName}
use Rattle.mz_check_context.proofs.Hiding.{last_goes}
use Rattle.mz_check_context.proofs.scope.Scope.unbind.Goals as goal

pub invariant_of-self-2 : goal.invariant_of-self-2
invariant_of-self-2 c =
    let s = c.self.inside in
    let last : vec_len s.locals - 1 ≡ length s.locals.items - 1 = omega (arith, s.locals.ok.0) in (
      c.self.invariant.0,
      last_goes s.newest c.put.new.self s.locals.items c.pop-local.new.self.items c.in-Some.l.now c.self.invariant.1
          (ap (λ (xs : List LocalName). slice_get xs (length xs - 1)) (sym c.deref.ensures.value) ∙ sym c.in-Some.ensures.value)
          (c.pop-local.ensures.rest ∙ ap (λ (k : ℕ). take k s.locals.items) last)
          c.in_ok-put.ensures.ok,
    )
