use Rattle.std.proofs.Common.{refl}
use Rattle.mz_partial.specs.declared.group.Group.TheVariants as group
use Rattle.mz_arena.specs.Entries.{children}
use Rattle.mz_arena.proofs.Growing.{grew_same}
use Rattle.mz_partial.proofs.Standing.{node_later}
use Rattle.mz_partial.proofs.Taking.{takes_one, may_one, reading_kid, reading_parted}
use Rattle.mz_partial.proofs.Readying.{read_later}
use Rattle.mz_partial.proofs.reading.reading.Goals as goal

pub part_at-p-requires : goal.part_at-p-requires
part_at-p-requires c = (takes_one c.args.arena.now c.args.memo.now c.args.id c.args.n group.Reading c.requires refl refl).in_memo

pub strict-requires : goal.strict-requires
strict-requires c = record {
  arena = c.requires.arena;
  part = c.requires.parts c.args.n.a c.part_at-p.result c.part_at-p.ensures;
  truth = reading_kid c.args.arena.now c.args.memo.now c.args.id c.args.n c.requires;
}

pub remake-requires : goal.remake-requires
remake-requires c =
    let old = c.args.arena.now in
    let mid = c.strict.new.arena in
    let n = c.args.n in
    let r = c.in_ok-a.ensures in
    let k = takes_one old c.args.memo.now c.args.id n group.Reading c.requires refl refl in
    let s = read_later old mid mid n.a c.part_at-p.result c.in_ok-a.a r c.requires.arena k.first (c.requires.parts n.a c.part_at-p.result c.part_at-p.ensures) (reading_kid old c.args.memo.now c.args.id n c.requires) (grew_same mid) r.arena in
    may_one mid c.args.id n group.Reading c.in_ok-a.a r.arena (node_later old mid c.args.id n.kind (children n) r.extends.grew c.requires.node) c.requires.kind refl refl s.place s.bounds

pub returns : goal.returns
returns c = reading_parted c.args.arena.now c.strict.new.arena c.remake.new.arena c.args.memo.now c.args.id c.args.n c.part_at-p.result c.in_ok-a.a c.in_ok-term.term c.requires c.part_at-p.ensures c.in_ok-a.ensures c.in_ok-term.ensures
