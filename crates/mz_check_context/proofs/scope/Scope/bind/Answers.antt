use Rattle.std.proofs.Common.{ℕ, Some, cond, nat_eq, length, arith, sym, subst, ap, ◌≡◌, ◌∙◌}
use Rattle.mz_check_context.specs.Locals.{AreNewest, newest_of}
use Rattle.mz_check_context.proofs.Hiding.{bound_is_newest}
use Rattle.mz_check_context.proofs.scope.Scope.bind.Goals as goal

pub invariant_of-self-in-Ok : goal.invariant_of-self-in-Ok
invariant_of-self-in-Ok c =
    let s = c.self.inside in
    let last : c.len-place.result ≡ length s.locals.items = omega (arith, c.len-place.ensures, s.locals.ok.0) in (
      c.self.invariant.0,
      subst (AreNewest c.put.new.self) (sym c.in_ok-push.ensures.items)
          (bound_is_newest s.newest c.put.new.self s.locals.items _ c.self.invariant.1 c.place-hidden.ensures (λ n. c.in-Ok.ensures.ok n ∙ ap (λ (k : ℕ). cond (nat_eq c.args.name n) (Some k) (newest_of s.newest n)) last)),
    )
