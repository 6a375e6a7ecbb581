use Rattle.std.proofs.Common.{refl}
use Rattle.mz_partial.specs.declared.group.Group.TheVariants as group
use Rattle.std.proofs.Common.{Some, ap, ◌∙◌}
use Rattle.mz_arena.proofs.Growing.{grew_same}
use Rattle.mz_partial.proofs.Standing.{extends_both, below_later}
use Rattle.mz_partial.proofs.Taking.{takes_two, guard_kid, guard_parted, guard_truth_parted, sort_truth}
use Rattle.mz_partial.proofs.Readying.{read_later, kept_later, flag_later}
use Rattle.mz_partial.proofs.reading.guarded.Goals as goal

pub part_at-p-requires : goal.part_at-p-requires
part_at-p-requires c = (takes_two c.args.arena.now c.args.memo.now c.args.id c.args.n group.Guard c.requires refl refl).in_memo

pub part_at-q-requires : goal.part_at-q-requires
part_at-q-requires c = (takes_two c.args.arena.now c.args.memo.now c.args.id c.args.n group.Guard c.requires refl refl).next_in_memo

pub strict-requires : goal.strict-requires
strict-requires c = record {
  arena = c.requires.arena;
  part = c.requires.parts c.args.n.a c.part_at-p.result c.part_at-p.ensures;
  truth = guard_kid c.args.arena.now c.args.memo.now c.args.id c.args.n c.requires;
}

pub both-requires : goal.both-requires
both-requires c =
    let old = c.args.arena.now in
    let mid = c.strict.new.arena in
    let n = c.args.n in
    let r = c.in_ok-c.ensures in
    let k = takes_two old c.args.memo.now c.args.id n group.Guard c.requires refl refl in
    let q = c.requires.parts n.b c.part_at-q.result c.part_at-q.ensures in
    let x = read_later old mid mid n.a c.part_at-p.result c.in_ok-c.c r c.requires.arena k.first (c.requires.parts n.a c.part_at-p.result c.part_at-p.ensures) (guard_kid old c.args.memo.now c.args.id n c.requires) (grew_same mid) r.arena in
    record {
      arena = r.arena;
      f = x.says.truth;
      g = flag_later old mid c.part_at-q.result.flag q.holds r.extends.grew q.flag;
    }

pub sort-requires : goal.sort-requires
sort-requires c =
    let old = c.args.arena.now in
    let r = c.in_ok-c.ensures in
    let e = extends_both old c.strict.new.arena c.both.new.arena r.extends c.in_ok-flag.ensures.extends in
    below_later old c.both.new.arena c.args.n.b e.grew (takes_two old c.args.memo.now c.args.id c.args.n group.Guard c.requires refl refl).second

pub connective-requires : goal.connective-requires
connective-requires c =
    let old = c.args.arena.now in
    let mid = c.strict.new.arena in
    let new = c.both.new.arena in
    let n = c.args.n in
    let r = c.in_ok-c.ensures in
    let j = c.in_ok-flag.ensures in
    let e = extends_both old mid new r.extends j.extends in
    let k = takes_two old c.args.memo.now c.args.id n group.Guard c.requires refl refl in
    let x = read_later old mid new n.a c.part_at-p.result c.in_ok-c.c r c.requires.arena k.first (c.requires.parts n.a c.part_at-p.result c.part_at-p.ensures) (guard_kid old c.args.memo.now c.args.id n c.requires) j.extends.grew j.arena in
    let y = kept_later old new n.b c.part_at-q.result e.grew c.requires.arena k.second (c.requires.parts n.b c.part_at-q.result c.part_at-q.ensures) in
    let t = sort_truth new n.b (c.sort.ensures ∙ ap (λ s. Some s) c.in-Boolean.is) in
    record { arena = j.arena; kind = refl; a = x.says.truth; b = record { ends = t.ends; is = y.bounds ∙ t.is } }

pub returns-in_ok-term-in-Boolean : goal.returns-in_ok-term-in-Boolean
returns-in_ok-term-in-Boolean c = guard_truth_parted c.args.arena.now c.strict.new.arena c.both.new.arena c.connective.new.arena c.args.memo.now c.args.id c.args.n c.part_at-p.result c.part_at-q.result c.in_ok-flag.flag c.in_ok-c.c c.in_ok-term-in-Boolean.term c.requires c.part_at-p.ensures c.part_at-q.ensures c.in_ok-c.ensures c.in_ok-flag.ensures (c.sort.ensures ∙ ap (λ s. Some s) c.in-Boolean.is) c.in_ok-term-in-Boolean.ensures

pub returns-in_default : goal.returns-in_default
returns-in_default c = guard_parted c.args.arena.now c.strict.new.arena c.both.new.arena c.args.memo.now c.args.id c.args.n c.part_at-p.result c.part_at-q.result c.in_ok-flag.flag c.in_ok-c.c c.sort.result c.requires c.part_at-p.ensures c.part_at-q.ensures c.in_ok-c.ensures c.in_ok-flag.ensures c.sort.ensures c.in_default.not-Boolean
