use Rattle.std.proofs.Common.{◌∙◌, ℕ, List, map, ap}
use Rattle.mz_base.specs.Names.{text_of}
use Rattle.mz_core.specs.declared.types.TypeInst.{TypeInst}
use Rattle.mz_core.specs.Types.{PlainType, PlainSignature, plain_type, plain_signature}
use Rattle.mz_check_context.specs.Known.{known}
use Rattle.mz_check_exprs.specs.StepsDuplicates.{is_row_with}
use Rattle.mz_check_exprs.proofs.duplicates.is_row_taken.Goals as goal

pub returns : goal.returns
unfolding plain_signature
returns c =
    c.in_ok-row.ensures
    ∙ ap (λ (t : List ℕ). is_row_with t (map plain_type c.as_slice.result.now)) c.text.ensures
    ∙ ap (λ (ps : List PlainType). is_row_with (text_of (known c.args.context.now).texts c.args.name) ps) (ap (λ (ts : List TypeInst). map plain_type ts) c.as_slice.ensures.value ∙ ap (λ (s : PlainSignature). s.params) c.in_ok-signature.ensures)
