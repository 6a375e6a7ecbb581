use Rattle.std.proofs.Common.{◌∙◌, ℕ, List, map, length, ap, sym, subst}
use Rattle.std.specs.Prelude.{◌<◌, All}
use Rattle.mz_base.specs.declared.fault.Span.{Span}
use Rattle.mz_base.specs.Names.{text_of}
use Rattle.mz_value.specs.Contents.{text_bytes}
use Rattle.mz_scope_order.specs.Scoped.{enum_tree}
use Rattle.mz_check_exprs.specs.NamedModels.{HasNamedCases}
use Rattle.mz_check_exprs.proofs.Named.{named_item}
use Rattle.mz_check.specs.StepsProgram.{case_texts}
use Rattle.mz_check.proofs.Programs.{one_listed}
use Rattle.mz_check.proofs.program.all_cases.Goals as goal

pub cases_of-requires : goal.cases_of-requires
cases_of-requires c =
    subst (λ (cs : List (ℕ × Span)). All (λ x. x.0 < length c.args.names.now) cs) (sym c.as_slice.ensures.value)
    (named_item (HasNamedCases (length c.args.names.now)) enum_tree c.args.enums.now c.loop-e.e-index c.e-item.result c.requires c.loop-e-test.true c.e-item.is)

pub loop-e-preserved : goal.loop-e-preserved
loop-e-preserved c =
    one_listed (case_texts c.args.names.now) enum_tree (λ v. map text_bytes v.items) c.args.enums.now c.loop-e.e-index c.e-item.result _ c.loop-e.all.items c.push.new.self.items c.in_ok-cases.cases
    c.loop-e.invariant c.loop-e-test.true c.e-item.is
    (c.in_ok-cases.ensures ∙ ap (λ (cs : List (ℕ × Span)). map (λ x. text_of c.args.names.now x.0) cs) c.as_slice.ensures.value) c.in_ok-push.ensures.items
