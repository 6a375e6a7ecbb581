-- What a scoped model is refused with, where its sections are.
use Rattle.std.proofs.Common.{◌≡◌, ℕ, List, Result, Ok, Err, sym, subst}
use Rattle.std.specs.Result.{IsErrAnd, IfErr}
use Rattle.mz_base.specs.declared.stop.Stop.{Stop}
use Rattle.mz_base.specs.declared.stop.Stop.TheVariants.{Refused, Memory}
use Rattle.mz_base.specs.Faults.{IfRefused}
use Rattle.mz_scope_order.specs.Scoped.{ScopedTree}
use Rattle.mz_scope_order.specs.Subjects.{IsOrderOf, Subject}
use Rattle.mz_check_meaning.specs.Passes.{Passes}
use Rattle.mz_check_data.specs.WithData.{checked_with_data, IsRefusedWithData}
use Rattle.mz_check.specs.StepsParts.{sections_of}

refused_with : (texts : List (List ℕ)) (s : ScopedTree) (order : List Subject) (stop : Stop) → IsOrderOf s order → Passes sections_of (Err stop) (checked_with_data texts s order) → IfRefused stop (IsRefusedWithData texts s)
refused_with texts s order (Refused f) o h = record { order = order; types = o.types; fault = h }
refused_with texts s order Memory o h = tt

pub refused_by : {R : Type 0} (texts : List (List ℕ)) (s : ScopedTree) (order : List Subject) (r : Result R Stop) (stop : Stop) → IsErrAnd r (λ e. e ≡ stop) → IsOrderOf s order → Passes sections_of (Err stop) (checked_with_data texts s order) → IfErr r (λ e. IfRefused e (IsRefusedWithData texts s))
refused_by texts s order (Ok p) stop is o h = absurd is
refused_by texts s order (Err e) stop is o h = subst (λ (d : Stop). IfRefused d (IsRefusedWithData texts s)) (sym is) (refused_with texts s order stop o h)
