use Rattle.std.proofs.Common.{◌≡◌, sym, ap, ◌∙◌, arith, rules}
use Rattle.std.specs.Prelude.{Some, None}
use Rattle.std.proofs.lemmas.Result.{err_from_is_err_and}
use Rattle.mz_grammar.specs.Tokens.{tok_at}
use Rattle.mz_expr_operands.specs.Levels.{next_level}
use Rattle.mz_expr.proofs.Climbs.{climb_starts, climb_step, climb_stops, climb_end, unit_below, level_within, number_below}
use Rattle.mz_expr.proofs.parser.descent.Descent.level.Goals as goal

pub unit-requires : goal.unit-requires
unit-requires g c = record { calls = c.requires.calls; below = unit_below _ _ c.args.l _ c.requires.below }

pub with_operators-requires : goal.with_operators-requires
with_operators-requires g c =
    let is : next_level c.args.l c.loop-k.done (tok_at c.loop-k.cur.rest.now) ≡ Some c.in-Some.k = ap (next_level c.args.l c.loop-k.done) (sym c.tok.ensures) ∙ sym c.next_level.ensures ∙ c.in-Some.is in
    record { calls = c.requires.calls; below = rw (c.loop-k.invariant.room, c.in_ok-x.ensures.room) (level_within _ _ _ _ _ _ _ is c.requires.below) }

pub loop-k-smaller : goal.loop-k-smaller
loop-k-smaller g c =
    let is : next_level c.args.l c.loop-k.done (tok_at c.loop-k.cur.rest.now) ≡ Some c.in-Some.k = ap (next_level c.args.l c.loop-k.done) (sym c.tok.ensures) ∙ sym c.next_level.ensures ∙ c.in-Some.is in
    rw c.level_number-done.ensures (number_below c.args.l c.loop-k.done c.in-Some.k c.loop-k.cur.rest.now is)

pub loop-k-preserved : goal.loop-k-preserved
loop-k-preserved g c =
    let is : next_level c.args.l c.loop-k.done (tok_at c.loop-k.cur.rest.now) ≡ Some c.in-Some.k = ap (next_level c.args.l c.loop-k.done) (sym c.tok.ensures) ∙ sym c.next_level.ensures ∙ c.in-Some.is in
    let smaller = number_below c.args.l c.loop-k.done c.in-Some.k c.loop-k.cur.rest.now is in
    record {
      reads = rw c.level_number-done.ensures (climb_step c.args.l c.loop-k.done c.in-Some.k _ _ c.loop-k.cur.room c.with_operators.new.cur.room c.loop-k.cur.rest.now c.with_operators.new.cur.rest.now _ c.loop-k.invariant.bound c.loop-k.invariant.reads is c.in_ok-x-2.ensures.reads c.in_ok-x-2.ensures.room);
      bound = omega (arith, smaller, c.level_number-done.ensures, c.loop-k.invariant.bound);
      room = c.in_ok-x-2.ensures.room ∙ c.loop-k.invariant.room;
      end = c.with_operators.ensures.end ∙ c.loop-k.invariant.end;
      shorter = omega (arith, c.in_ok-x-2.ensures.shorter, c.loop-k.invariant.shorter);
    }

pub returns-in_err-x-2 : goal.returns-in_err-x-2
returns-in_err-x-2 g c =
    let is : next_level c.args.l c.loop-k.done (tok_at c.loop-k.cur.rest.now) ≡ Some c.in-Some.k = ap (next_level c.args.l c.loop-k.done) (sym c.tok.ensures) ∙ sym c.next_level.ensures ∙ c.in-Some.is in
    let start = climb_starts c.args.l _ c.args.cur.now.room _ c.args.cur.now.rest.now _ c.in_ok-x.ensures.reads c.in_ok-x.ensures.room in
    let p = err_from_is_err_and c.from_residual-in_err-x-2.result c.from_residual-in_err-x-2.ensures.1 in
    record {
      reads = rw (p.1, p.2) (climb_stops c.args.l c.loop-k.done c.in-Some.k _ c.loop-k.cur.room c.loop-k.cur.rest.now _ c.loop-k.invariant.bound (c.loop-k.invariant.reads ∙ sym start) is c.with_operators.new.cur.end c.with_operators.new.cur.rest.now c.in_err-x-2.field-0.0 c.in_err-x-2.ensures.reads);
      room = rw (p.1) tt;
      end = search rules;
      shorter = rw (p.1) tt;
    }

pub returns : goal.returns
returns g c =
    let none : next_level c.args.l c.loop-k.done (tok_at c.loop-k.cur.rest.now) ≡ None = ap (next_level c.args.l c.loop-k.done) (sym c.tok.ensures) ∙ sym c.next_level.ensures ∙ c.in_default.is in
    record {
      reads = climb_starts c.args.l _ _ _ _ _ c.in_ok-x.ensures.reads c.in_ok-x.ensures.room ∙ climb_end c.args.l c.loop-k.done _ _ _ _ c.loop-k.invariant.bound c.loop-k.invariant.reads none;
      room = search rules;
      end = search rules;
      shorter = search rules;
    }
