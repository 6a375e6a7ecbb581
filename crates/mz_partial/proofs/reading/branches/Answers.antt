use Rattle.std.proofs.Common.{refl}
use Rattle.mz_partial.specs.declared.group.Group.TheVariants as group
use Rattle.mz_arena.specs.Entries.{children}
use Rattle.mz_arena.proofs.Growing.{grew_same}
use Rattle.mz_partial.proofs.Standing.{node_later, extends_both}
use Rattle.mz_partial.proofs.Taking.{takes_three, may_three, choice_kid, choice_parted}
use Rattle.mz_partial.proofs.Readying.{read_later, kept_later, flag_later}
use Rattle.mz_partial.proofs.reading.branches.Goals as goal

pub part_at-p-requires : goal.part_at-p-requires
part_at-p-requires c = (takes_three c.args.arena.now c.args.memo.now c.args.id c.args.n group.Choice c.requires refl refl).in_memo

pub part_at-q-requires : goal.part_at-q-requires
part_at-q-requires c = (takes_three c.args.arena.now c.args.memo.now c.args.id c.args.n group.Choice c.requires refl refl).next_in_memo

pub part_at-r-requires : goal.part_at-r-requires
part_at-r-requires c = (takes_three c.args.arena.now c.args.memo.now c.args.id c.args.n group.Choice c.requires refl refl).last_in_memo

pub strict-requires : goal.strict-requires
strict-requires c = record {
  arena = c.requires.arena;
  part = c.requires.parts c.args.n.a c.part_at-p.result c.part_at-p.ensures;
  truth = choice_kid c.args.arena.now c.args.memo.now c.args.id c.args.n c.requires;
}

pub remake-requires : goal.remake-requires
remake-requires c =
    let old = c.args.arena.now in
    let mid = c.strict.new.arena in
    let n = c.args.n in
    let r = c.in_ok-c.ensures in
    let g = r.extends.grew in
    let k = takes_three old c.args.memo.now c.args.id n group.Choice c.requires refl refl in
    let x = read_later old mid mid n.a c.part_at-p.result c.in_ok-c.c r c.requires.arena k.first (c.requires.parts n.a c.part_at-p.result c.part_at-p.ensures) (choice_kid old c.args.memo.now c.args.id n c.requires) (grew_same mid) r.arena in
    let y = kept_later old mid n.b c.part_at-q.result g c.requires.arena k.second (c.requires.parts n.b c.part_at-q.result c.part_at-q.ensures) in
    let z = kept_later old mid n.c c.part_at-r.result g c.requires.arena k.third (c.requires.parts n.c c.part_at-r.result c.part_at-r.ensures) in
    may_three mid c.args.id n group.Choice c.in_ok-c.c c.part_at-q.result.term c.part_at-r.result.term r.arena (node_later old mid c.args.id n.kind (children n) g c.requires.node) c.requires.kind refl refl x.place y.place z.place x.bounds y.bounds z.bounds

pub chosen-requires : goal.chosen-requires
chosen-requires c =
    let old = c.args.arena.now in
    let mid = c.strict.new.arena in
    let new = c.remake.new.arena in
    let n = c.args.n in
    let r = c.in_ok-c.ensures in
    let m = c.in_ok-term.ensures in
    let e = extends_both old mid new r.extends m.extends in
    let k = takes_three old c.args.memo.now c.args.id n group.Choice c.requires refl refl in
    let q = c.requires.parts n.b c.part_at-q.result c.part_at-q.ensures in
    let s = c.requires.parts n.c c.part_at-r.result c.part_at-r.ensures in
    let x = read_later old mid new n.a c.part_at-p.result c.in_ok-c.c r c.requires.arena k.first (c.requires.parts n.a c.part_at-p.result c.part_at-p.ensures) (choice_kid old c.args.memo.now c.args.id n c.requires) m.extends.grew m.arena in
    record {
      arena = m.arena;
      c = x.says.truth;
      f = flag_later old new c.part_at-q.result.flag q.holds e.grew q.flag;
      g = flag_later old new c.part_at-r.result.flag s.holds e.grew s.flag;
    }

pub returns : goal.returns
returns c = choice_parted c.args.arena.now c.strict.new.arena c.remake.new.arena c.chosen.new.arena c.args.memo.now c.args.id c.args.n c.part_at-p.result c.part_at-q.result c.part_at-r.result c.in_ok-flag.flag c.in_ok-c.c c.in_ok-term.term c.requires c.part_at-p.ensures c.part_at-q.ensures c.part_at-r.ensures c.in_ok-c.ensures c.in_ok-term.ensures c.in_ok-flag.ensures
