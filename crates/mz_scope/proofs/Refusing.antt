-- The second solve item.
use Rattle.std.proofs.Common.{◌≡◌, ◌≤◌, List, [], ◌∷◌, Some, refl, length, get_or, arith}
use Rattle.mz_base.specs.declared.fault.Span.{Span}
use Rattle.mz_scope.specs.Tests.{solve_fault}

pub second_there : (end d : Span) (ss : List Span) → 2 ≤ length ss → Some (get_or ss 1 d) ≡ solve_fault end ss
second_there end d [] h = absurd (omega (arith, h))
second_there end d (s ∷ []) h = absurd (omega (arith, h))
second_there end d (s ∷ t ∷ ss) h = refl
