use Rattle.std.proofs.Common.{◌≡◌, ◌≢◌, List, [], length, map, subst}
use Rattle.mz_value.specs.Ranges.{Range}
use Rattle.mz_operations.specs.Arrays.{place_count}
use Rattle.mz_arena.specs.Instances.{model_var}
use Rattle.mz_instance.specs.Instance.{AreIndexRanges}
use Rattle.mz_symbol.specs.declared.types.Free.{Free}
use Rattle.mz_symbol.specs.Symbols.{domain_of}
use Rattle.mz_model_state.specs.Vars.{AreOver}
use Rattle.mz_model_names.proofs.VarLaws.{many_for}
use Rattle.mz_model_names.proofs.close.variables.many_var.Goals as goal

pub returns : goal.returns
returns c =
    let l = c.args.label in
    let yes = c.if-not-is_index.false in
    many_for c.vars_are_made.ensures.many l.name l.base l.opt c.args.index.items c.args.places.items (model_var c.in_ok-m.m)
    (subst (λ (fs : List Free). AreOver l.base l.opt (map domain_of fs)) c.deref.ensures.value (c.are_over.ensures c.if-not-are_over.false))
    (c.allows.ensures c.if-not-allows.false)
    (subst (λ (ix : List Range). ix ≢ []) c.deref-2.ensures.value (c.is_index.ensures.some yes))
    (subst (λ (ix : List Range). AreIndexRanges ix) c.deref-2.ensures.value (c.is_index.ensures.ranges yes))
    (subst (λ (fs : List Free). length fs ≡ place_count c.args.index.items) c.deref-3.ensures.value (subst (λ (ix : List Range). length c.deref-3.result.now ≡ place_count ix) c.deref-2.ensures.value (c.is_index.ensures.count yes)))
    c.in_ok-m.ensures
