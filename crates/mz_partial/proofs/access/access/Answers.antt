use Rattle.std.proofs.Common.{rules, ◌≡◌, pos, ◌≤ℤ◌, true, refl, sym, ap, subst, ◌∙◌, arith, w64, of_z, to_z}
use Rattle.std.proofs.lemmas.Int.{ints, to_z-of_z, to_z_pos}
use Rattle.mz_interval.specs.Ends.{is_number}
use Rattle.mz_interval.specs.Interval.{ends}
use Rattle.mz_partial.specs.declared.group.Group.TheVariants as group
use Rattle.mz_partial.specs.Told.{AreInside}
use Rattle.mz_partial.specs.Calls.{IsSafe, Tests, IsPlaceIn, is_place}
use Rattle.mz_partial.proofs.Standing.{extends_both}
use Rattle.mz_partial.proofs.Taking.{takes_two}
use Rattle.mz_partial.proofs.Readying.{flag_later, joined_flag}
use Rattle.mz_partial.proofs.Testing.{length_number, is_flag_later, whole_later}
use Rattle.mz_partial.proofs.Parting.{has_ends, index_whole, index_range, access_never, access_node, access_may, access_parted, place_within}
use Rattle.mz_partial.proofs.access.access.Goals as goal

pub part_at-p-requires : goal.part_at-p-requires
part_at-p-requires c = (takes_two c.args.arena.now c.args.memo.now c.args.id c.args.n group.Access c.requires refl refl).in_memo

pub part_at-q-requires : goal.part_at-q-requires
part_at-q-requires c = (takes_two c.args.arena.now c.args.memo.now c.args.id c.args.n group.Access c.requires refl refl).next_in_memo

pub bounds-range-requires : goal.bounds-range-requires
bounds-range-requires c = has_ends c.args.arena.now c.args.n.a c.part_at-p.result (c.requires.parts c.args.n.a c.part_at-p.result c.part_at-p.ensures) (index_whole c.args.arena.now c.args.memo.now c.args.id c.args.n c.requires)

pub never-requires : goal.never-requires
never-requires c =
    let r = index_range c.args.arena.now c.args.memo.now c.args.id c.args.n c.part_at-p.result (ends c.bounds-range.result) c.requires c.part_at-p.ensures c.bounds-range.ensures in
    let zero : c.place-number.result ≡ pos 0 = sym (to_z-of_z w64 c.place-number.result (search rules)) ∙ ap (to_z w64) c.if-number-eq0.true in
    record {
      arena = c.requires.arena;
      never = access_never c.args.arena.now c.args.memo.now c.args.id c.args.n c.part_at-p.result c.part_at-q.result (ends c.bounds-range.result) c.place-number.result c.requires c.part_at-p.ensures c.part_at-q.ensures r.is_whole (subst (λ l. IsPlaceIn (ends c.bounds-range.result) l c.place-number.result) (to_z_pos w64 c.part_at-q.result.len (omega (arith, c.if-q.false))) c.place-number.ensures.place) zero;
      partial = access_node c.args.arena.now c.args.memo.now c.args.id c.args.n c.part_at-q.result (ends c.bounds-range.result) c.place-number.result c.requires c.part_at-q.ensures r.is_whole c.bounds-range.result.ordered (subst (λ l. IsPlaceIn (ends c.bounds-range.result) l c.place-number.result) (to_z_pos w64 c.part_at-q.result.len (omega (arith, c.if-q.false))) c.place-number.ensures.place) zero;
    }

pub inside-requires : goal.inside-requires
inside-requires c =
    let r = index_range c.args.arena.now c.args.memo.now c.args.id c.args.n c.part_at-p.result (ends c.bounds-range.result) c.requires c.part_at-p.ensures c.bounds-range.ensures in
    record { arena = c.requires.arena; whole = r.term; limit = subst (λ l. is_number l ≡ true) (sym (to_z_pos w64 c.part_at-q.result.len (omega (arith, c.if-q.false)))) (length_number c.part_at-q.result.len (omega (arith, c.if-q.false))) }

pub place-number-requires : goal.place-number-requires
place-number-requires c = subst (λ l. pos 0 ≤ℤ l) (sym (to_z_pos w64 c.part_at-q.result.len (omega (arith, c.if-q.false)))) (omega (arith, ints))

pub safe-requires : goal.safe-requires
safe-requires c =
    let r = index_range c.args.arena.now c.args.memo.now c.args.id c.args.n c.part_at-p.result (ends c.bounds-range.result) c.requires c.part_at-p.ensures c.bounds-range.ensures in
    let t = c.in_ok-test.ensures in
    record {
      arena = t.arena;
      whole = record { ends = ends c.bounds-range.result; is = whole_later c.args.arena.now c.inside.new.arena c.part_at-p.result.term (ends c.bounds-range.result) t.extends.grew r.term };
      flag = t.flag;
      limit = subst (λ k. is_number k ≡ true) (sym (to_z-of_z w64 c.place-number.result (search rules))) c.place-number.ensures.limit;
    }

pub remake-requires : goal.remake-requires
remake-requires c =
    let r = index_range c.args.arena.now c.args.memo.now c.args.id c.args.n c.part_at-p.result (ends c.bounds-range.result) c.requires c.part_at-p.ensures c.bounds-range.ensures in
    let s = subst (λ k. IsSafe c.inside.new.arena c.safe.new.arena c.part_at-p.result.term c.in_ok-test.test k c.in_ok-w.w) (to_z-of_z w64 c.place-number.result (search rules)) c.in_ok-w.ensures in
    access_may c.args.arena.now c.inside.new.arena c.safe.new.arena c.args.memo.now c.args.id c.args.n c.part_at-p.result c.part_at-q.result c.in_ok-test.test c.in_ok-w.w c.place-number.result (ends c.bounds-range.result) c.requires c.part_at-p.ensures c.part_at-q.ensures r.is_whole (place_within (ends c.bounds-range.result) (pos c.part_at-q.result.len) c.place-number.result (subst (λ l. IsPlaceIn (ends c.bounds-range.result) l c.place-number.result) (to_z_pos w64 c.part_at-q.result.len (omega (arith, c.if-q.false))) c.place-number.ensures.place) (λ h. c.if-number-eq0.false (ap (of_z w64) h))).within (subst (λ l. Tests 6 (AreInside l (ends c.bounds-range.result)) c.args.arena.now c.inside.new.arena c.part_at-p.result.term (is_place l) c.in_ok-test.test) (to_z_pos w64 c.part_at-q.result.len (omega (arith, c.if-q.false))) c.in_ok-test.ensures) s

pub both-requires : goal.both-requires
both-requires c =
    let old = c.args.arena.now in
    let p = c.requires.parts c.args.n.a c.part_at-p.result c.part_at-p.ensures in
    let q = c.requires.parts c.args.n.b c.part_at-q.result c.part_at-q.ensures in
    let e = extends_both old c.inside.new.arena c.remake.new.arena c.in_ok-test.ensures.extends (extends_both c.inside.new.arena c.safe.new.arena c.remake.new.arena c.in_ok-w.ensures.extends c.in_ok-term.ensures.extends) in
    record {
      arena = c.in_ok-term.ensures.arena;
      f = flag_later old c.remake.new.arena c.part_at-q.result.flag q.holds e.grew q.flag;
      g = flag_later old c.remake.new.arena c.part_at-p.result.flag p.holds e.grew p.flag;
    }

pub both-requires-2 : goal.both-requires-2
both-requires-2 c =
    let old = c.args.arena.now in
    let p = c.requires.parts c.args.n.a c.part_at-p.result c.part_at-p.ensures in
    let q = c.requires.parts c.args.n.b c.part_at-q.result c.part_at-q.ensures in
    let late = extends_both c.inside.new.arena c.safe.new.arena c.remake.new.arena c.in_ok-w.ensures.extends c.in_ok-term.ensures.extends in
    let e = extends_both old c.inside.new.arena c.remake.new.arena c.in_ok-test.ensures.extends late in
    let last = extends_both c.inside.new.arena c.remake.new.arena c.both.new.arena late c.in_ok-parts.ensures.extends in
    record {
      arena = c.in_ok-parts.ensures.arena;
      f = joined_flag old c.remake.new.arena c.both.new.arena c.part_at-q.result.flag c.part_at-p.result.flag c.in_ok-parts.parts q.holds p.holds e.grew c.in_ok-parts.ensures q.flag p.flag;
      g = is_flag_later c.inside.new.arena c.both.new.arena c.in_ok-test.test last.grew c.in_ok-test.ensures.flag;
    }

pub returns : goal.returns
returns c =
    let r = index_range c.args.arena.now c.args.memo.now c.args.id c.args.n c.part_at-p.result (ends c.bounds-range.result) c.requires c.part_at-p.ensures c.bounds-range.ensures in
    let s = subst (λ k. IsSafe c.inside.new.arena c.safe.new.arena c.part_at-p.result.term c.in_ok-test.test k c.in_ok-w.w) (to_z-of_z w64 c.place-number.result (search rules)) c.in_ok-w.ensures in
    access_parted c.args.arena.now c.inside.new.arena c.safe.new.arena c.remake.new.arena c.both.new.arena c.both-2.new.arena c.args.memo.now c.args.id c.args.n c.part_at-p.result c.part_at-q.result c.in_ok-test.test c.in_ok-parts.parts c.in_ok-flag.flag c.in_ok-w.w c.in_ok-term.term c.place-number.result (ends c.bounds-range.result)
    c.requires c.part_at-p.ensures c.part_at-q.ensures r.is_whole (place_within (ends c.bounds-range.result) (pos c.part_at-q.result.len) c.place-number.result (subst (λ l. IsPlaceIn (ends c.bounds-range.result) l c.place-number.result) (to_z_pos w64 c.part_at-q.result.len (omega (arith, c.if-q.false))) c.place-number.ensures.place) (λ h. c.if-number-eq0.false (ap (of_z w64) h))).within (place_within (ends c.bounds-range.result) (pos c.part_at-q.result.len) c.place-number.result (subst (λ l. IsPlaceIn (ends c.bounds-range.result) l c.place-number.result) (to_z_pos w64 c.part_at-q.result.len (omega (arith, c.if-q.false))) c.place-number.ensures.place) (λ h. c.if-number-eq0.false (ap (of_z w64) h))).place
    (subst (λ l. Tests 6 (AreInside l (ends c.bounds-range.result)) c.args.arena.now c.inside.new.arena c.part_at-p.result.term (is_place l) c.in_ok-test.test) (to_z_pos w64 c.part_at-q.result.len (omega (arith, c.if-q.false))) c.in_ok-test.ensures) s c.in_ok-term.ensures c.in_ok-parts.ensures c.in_ok-flag.ensures
