use Rattle.std.proofs.Common.{◌++◌, ap₂, subst}
use Rattle.flat_reif.specs.States.{state}
use Rattle.flat_root.specs.Parts.{AreRootsSplit}
use Rattle.flat_root.specs.Totals.{IsRootPart}
use Rattle.flat_root.proofs.Rooting.{totals_split, parts_in}
use Rattle.flat_root.proofs.Totaling.{all_first, all_second}
use Rattle.flat_root.proofs.posts.all_parts.Goals as goal

pub totals-requires-clause-nothing : goal.totals-requires-clause-nothing
totals-requires-clause-nothing c = ap₂ (λ is js. is ++ js) c.new-defined.ensures.items c.new-terms.ensures.items

pub root_parts-requires-clause-defined : goal.root_parts-requires-clause-defined
root_parts-requires-clause-defined c = parts_in c.totals.new.flat.arena c.arena.result.now c.totals.new.defined.items c.as_slice.result.now c.arena.ensures c.as_slice.ensures.value (all_first (IsRootPart c.totals.new.flat.arena) c.totals.new.defined.items c.totals.new.terms.items c.in-Ok.ensures.totals.each)

pub root_parts-requires-clause-terms : goal.root_parts-requires-clause-terms
root_parts-requires-clause-terms c = parts_in c.totals.new.flat.arena c.arena.result.now c.totals.new.terms.items c.as_slice-2.result.now c.arena.ensures c.as_slice-2.ensures.value (all_second (IsRootPart c.totals.new.flat.arena) c.totals.new.defined.items c.totals.new.terms.items c.in-Ok.ensures.totals.each)

pub returns-clause-totals : goal.returns-clause-totals
returns-clause-totals c =
    totals_split (state c.args.flat.now) (state c.totals.new.flat) c.args.roots.now c.totals.new.defined.items c.totals.new.terms.items c.in-Ok-root_parts.x.items c.in-Ok.ensures.totals
    (subst (λ es. AreRootsSplit es c.totals.new.defined.items c.totals.new.terms.items c.in-Ok-root_parts.x.items) c.arena.ensures
    (subst (λ is. AreRootsSplit c.arena.result.now is c.totals.new.terms.items c.in-Ok-root_parts.x.items) c.as_slice.ensures.value
    (subst (λ is. AreRootsSplit c.arena.result.now c.as_slice.result.now is c.in-Ok-root_parts.x.items) c.as_slice-2.ensures.value c.in-Ok-root_parts.ensures)))
