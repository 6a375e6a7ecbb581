use Rattle.std.proofs.Common.{refl, arith}
use Rattle.mz_partial.specs.declared.group.Group.TheVariants as group
use Rattle.mz_partial.proofs.Standing.{total_in}
use Rattle.mz_partial.proofs.Taking.{takes_one, may_one}
use Rattle.mz_partial.proofs.Parting.{extreme_never, extreme_node, extreme_parted}
use Rattle.mz_partial.proofs.lists.extreme.Goals as goal

pub part_at-p-requires : goal.part_at-p-requires
part_at-p-requires c = (takes_one c.args.arena.now c.args.memo.now c.args.id c.args.n group.Extreme c.requires refl refl).in_memo

pub never-requires : goal.never-requires
never-requires c = record {
  arena = c.requires.arena;
  never = extreme_never c.args.arena.now c.args.memo.now c.args.id c.args.n c.part_at-p.result c.requires c.part_at-p.ensures c.if-p-eq0.true;
  partial = extreme_node c.args.arena.now c.args.memo.now c.args.id c.args.n c.part_at-p.result c.requires c.part_at-p.ensures c.if-p-eq0.true;
}

pub remake-requires : goal.remake-requires
remake-requires c =
    let p = c.requires.parts c.args.n.a c.part_at-p.result c.part_at-p.ensures in
    may_one c.args.arena.now c.args.id c.args.n group.Extreme c.part_at-p.result.term c.requires.arena c.requires.node c.requires.kind refl refl (total_in c.args.arena.now c.part_at-p.result.term p.kept.total) p.kept.bounds

pub returns : goal.returns
returns c = extreme_parted c.args.arena.now c.remake.new.arena c.args.memo.now c.args.id c.args.n c.part_at-p.result c.in_ok-term.term c.requires c.part_at-p.ensures c.in_ok-term.ensures (omega (arith, c.if-p-eq0.false))
