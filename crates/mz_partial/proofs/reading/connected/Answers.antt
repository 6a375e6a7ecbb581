use Rattle.std.proofs.Common.{refl}
use Rattle.mz_partial.specs.declared.group.Group.TheVariants as group
use Rattle.mz_arena.specs.Entries.{children}
use Rattle.mz_arena.proofs.Growing.{grew_same}
use Rattle.mz_partial.proofs.Standing.{node_later, part_later, truth_later, below_later, extends_both}
use Rattle.mz_partial.proofs.Taking.{takes_two, may_two, connective_kids, connective_parted}
use Rattle.mz_partial.proofs.Readying.{read_later}
use Rattle.mz_partial.proofs.reading.connected.Goals as goal

pub part_at-p-requires : goal.part_at-p-requires
part_at-p-requires c = (takes_two c.args.arena.now c.args.memo.now c.args.id c.args.n group.Connective c.requires refl refl).in_memo

pub part_at-q-requires : goal.part_at-q-requires
part_at-q-requires c = (takes_two c.args.arena.now c.args.memo.now c.args.id c.args.n group.Connective c.requires refl refl).next_in_memo

pub strict-requires : goal.strict-requires
strict-requires c = record {
  arena = c.requires.arena;
  part = c.requires.parts c.args.n.a c.part_at-p.result c.part_at-p.ensures;
  truth = (connective_kids c.args.arena.now c.args.memo.now c.args.id c.args.n c.requires).first;
}

pub strict-requires-2 : goal.strict-requires-2
strict-requires-2 c =
    let old = c.args.arena.now in
    let mid = c.strict.new.arena in
    let n = c.args.n in
    let r = c.in_ok-a.ensures in
    let k = takes_two old c.args.memo.now c.args.id n group.Connective c.requires refl refl in
    record {
      arena = r.arena;
      part = part_later old mid n.b c.part_at-q.result r.extends.grew c.requires.arena k.second (c.requires.parts n.b c.part_at-q.result c.part_at-q.ensures);
      truth = truth_later old mid n.b r.extends.grew (connective_kids old c.args.memo.now c.args.id n c.requires).second;
    }

pub remake-requires : goal.remake-requires
remake-requires c =
    let old = c.args.arena.now in
    let m1 = c.strict.new.arena in
    let m2 = c.strict-2.new.arena in
    let n = c.args.n in
    let r = c.in_ok-a.ensures in
    let s = c.in_ok-b.ensures in
    let k = takes_two old c.args.memo.now c.args.id n group.Connective c.requires refl refl in
    let kids = connective_kids old c.args.memo.now c.args.id n c.requires in
    let e = extends_both old m1 m2 r.extends s.extends in
    let x = read_later old m1 m2 n.a c.part_at-p.result c.in_ok-a.a r c.requires.arena k.first (c.requires.parts n.a c.part_at-p.result c.part_at-p.ensures) kids.first s.extends.grew s.arena in
    let y = read_later m1 m2 m2 n.b c.part_at-q.result c.in_ok-b.b s r.arena (below_later old m1 n.b r.extends.grew k.second) (part_later old m1 n.b c.part_at-q.result r.extends.grew c.requires.arena k.second (c.requires.parts n.b c.part_at-q.result c.part_at-q.ensures)) (truth_later old m1 n.b r.extends.grew kids.second) (grew_same m2) s.arena in
    may_two m2 c.args.id n group.Connective c.in_ok-a.a c.in_ok-b.b s.arena (node_later old m2 c.args.id n.kind (children n) e.grew c.requires.node) c.requires.kind refl refl x.place y.place x.bounds y.bounds

pub returns : goal.returns
returns c = connective_parted c.args.arena.now c.strict.new.arena c.strict-2.new.arena c.remake.new.arena c.args.memo.now c.args.id c.args.n c.part_at-p.result c.part_at-q.result c.in_ok-a.a c.in_ok-b.b c.in_ok-term.term c.requires c.part_at-p.ensures c.part_at-q.ensures c.in_ok-a.ensures c.in_ok-b.ensures c.in_ok-term.ensures
