use Rattle.std.proofs.Common.{length, slice_get, subst, sym, ap, ◌∙◌}
use Rattle.mz_partial.specs.Totals.{CostsWithin}
use Rattle.mz_partial.proofs.Filling.{totaled_both, costs_both, parts_later}
use Rattle.mz_partial.proofs.memo.total.Goals as goal

pub paired-requires : goal.paired-requires
paired-requires c =
    let f = c.in_ok-fill.ensures.filled in
    record { arena = f.arena; part = f.parts c.args.id c.part_at-p.result (ap (λ ps. slice_get ps c.args.id) (sym c.deref.ensures.value) ∙ c.part_at-p.ensures) }

pub returns-clause-totaled : goal.returns-clause-totaled
returns-clause-totaled c = totaled_both c.args.arena.now c.fill.new.arena c.paired.new.arena _ c.fill.new.parts.items c.args.id c.in_ok-pair.pair c.in_ok-fill.ensures.filled c.in_ok-pair.ensures

pub returns-clause-memo : goal.returns-clause-memo
returns-clause-memo c =
    let f = c.in_ok-fill.ensures.filled in
    parts_later c.fill.new.arena c.paired.new.arena c.fill.new.parts.items c.in_ok-pair.ensures.extends.grew f.arena f.parts

pub returns-clause-cost : goal.returns-clause-cost
returns-clause-cost c =
    subst (λ ps. CostsWithin c.args.arena.now c.paired.new.arena (length ps) (length c.fill.new.parts.items)) c.memo.view_is
    (costs_both c.args.arena.now c.fill.new.arena c.paired.new.arena _ c.fill.new.parts.items c.args.id c.in_ok-pair.pair c.in_ok-fill.ensures.filled c.in_ok-pair.ensures)
