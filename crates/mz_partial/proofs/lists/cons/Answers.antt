use Rattle.std.proofs.Common.{refl}
use Rattle.mz_partial.specs.declared.group.Group.TheVariants as group
use Rattle.mz_partial.proofs.Standing.{total_in}
use Rattle.mz_partial.proofs.Taking.{takes_two, may_two}
use Rattle.mz_partial.proofs.Readying.{flag_later}
use Rattle.mz_partial.proofs.Parting.{cons_parted}
use Rattle.mz_partial.proofs.lists.cons.Goals as goal

pub part_at-p-requires : goal.part_at-p-requires
part_at-p-requires c = (takes_two c.args.arena.now c.args.memo.now c.args.id c.args.n group.Cons c.requires refl refl).in_memo

pub part_at-q-requires : goal.part_at-q-requires
part_at-q-requires c = (takes_two c.args.arena.now c.args.memo.now c.args.id c.args.n group.Cons c.requires refl refl).next_in_memo

pub remake-requires : goal.remake-requires
remake-requires c =
    let es = c.args.arena.now in
    let p = c.requires.parts c.args.n.a c.part_at-p.result c.part_at-p.ensures in
    let q = c.requires.parts c.args.n.b c.part_at-q.result c.part_at-q.ensures in
    may_two es c.args.id c.args.n group.Cons c.part_at-p.result.term c.part_at-q.result.term c.requires.arena c.requires.node c.requires.kind refl refl (total_in es c.part_at-p.result.term p.kept.total) (total_in es c.part_at-q.result.term q.kept.total) p.kept.bounds q.kept.bounds

pub both-requires : goal.both-requires
both-requires c =
    let p = c.requires.parts c.args.n.a c.part_at-p.result c.part_at-p.ensures in
    let q = c.requires.parts c.args.n.b c.part_at-q.result c.part_at-q.ensures in
    let m = c.in_ok-term.ensures in
    record {
      arena = m.arena;
      f = flag_later c.args.arena.now c.remake.new.arena c.part_at-p.result.flag p.holds m.extends.grew p.flag;
      g = flag_later c.args.arena.now c.remake.new.arena c.part_at-q.result.flag q.holds m.extends.grew q.flag;
    }

pub returns : goal.returns
returns c = cons_parted c.args.arena.now c.remake.new.arena c.both.new.arena c.args.memo.now c.args.id c.args.n c.part_at-p.result c.part_at-q.result c.in_ok-flag.flag c.in_ok-term.term _ c.requires c.part_at-p.ensures c.part_at-q.ensures c.in_ok-term.ensures c.in_ok-flag.ensures refl
