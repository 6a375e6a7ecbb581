use Rattle.std.proofs.Common.{◌∷◌, [], false}
use Rattle.mz_globals.specs.declared.global.Global.TheVariants as global
use Rattle.mz_meaning.specs.Cells.{value_of}
use Rattle.mz_eval_cells.specs.Views.{seen}
use Rattle.mz_eval_global_terms.proofs.CallLaws.{call_is}
use Rattle.mz_eval_global_terms.proofs.ParLaws.{no_letters, no_start, no_states, no_steps}
use Rattle.mz_eval_global_terms.proofs.tables.of_regular.Goals as goal

pub returns-then-is_undefined-clause-call : goal.returns-then-is_undefined-clause-call
returns-then-is_undefined-clause-call c =
    call_is global.Regular (c.args.a.now ∷ c.args.b.now ∷ c.args.c.now ∷ c.args.d.now ∷ c.args.e.now ∷ c.args.f.now ∷ []) _ _ false c.in_ok-id.id c.in_ok-id.ensures.says
    (λ r. no_states _ (value_of (seen r c.args.b.now)) _ _ _ _ (c.is_undefined.ensures c.if-is_undefined.true r))

pub returns-then-is_undefined-2-clause-call : goal.returns-then-is_undefined-2-clause-call
returns-then-is_undefined-2-clause-call c =
    call_is global.Regular (c.args.a.now ∷ c.args.b.now ∷ c.args.c.now ∷ c.args.d.now ∷ c.args.e.now ∷ c.args.f.now ∷ []) _ _ false c.in_ok-id-2.id c.in_ok-id-2.ensures.says
    (λ r. no_letters _ _ (value_of (seen r c.args.c.now)) _ _ _ (c.is_undefined-2.ensures c.if-is_undefined-2.true r))

pub returns-then-is_undefined-3-clause-call : goal.returns-then-is_undefined-3-clause-call
returns-then-is_undefined-3-clause-call c =
    call_is global.Regular (c.args.a.now ∷ c.args.b.now ∷ c.args.c.now ∷ c.args.d.now ∷ c.args.e.now ∷ c.args.f.now ∷ []) _ _ false c.in_ok-id-3.id c.in_ok-id-3.ensures.says
    (λ r. no_steps _ _ _ (value_of (seen r c.args.d.now)) _ _ (c.is_undefined-3.ensures c.if-is_undefined-3.true r))

pub returns-then-is_undefined-4-clause-call : goal.returns-then-is_undefined-4-clause-call
returns-then-is_undefined-4-clause-call c =
    call_is global.Regular (c.args.a.now ∷ c.args.b.now ∷ c.args.c.now ∷ c.args.d.now ∷ c.args.e.now ∷ c.args.f.now ∷ []) _ _ false c.in_ok-id-4.id c.in_ok-id-4.ensures.says
    (λ r. no_start _ _ _ _ (value_of (seen r c.args.e.now)) _ (c.is_undefined-4.ensures c.if-is_undefined-4.true r))
