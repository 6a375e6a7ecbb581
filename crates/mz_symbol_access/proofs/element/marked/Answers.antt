use Rattle.std.proofs.Common.{◌∙◌, sym, ap}
use Rattle.mz_arena.specs.Values.{access_term}
use Rattle.mz_symbol.specs.declared.types.Symbol.{Symbol}
use Rattle.mz_symbol.proofs.ConstantLaws.{out_value, out_state}
use Rattle.mz_symbol_access.specs.StepsElement.{there_term}
use Rattle.mz_symbol_access.proofs.element.marked.Goals as goal

pub returns-clause-option : goal.returns-clause-option
returns-clause-option c r h =
    let e = c.in_ok-there.ensures.means r h in
    let f = c.in_ok-term.ensures.means r (c.in_ok-there.ensures.goes.back r h) in
    record {
      same = out_state f ∙ out_state e;
      base = ap (λ (s : Symbol). s.base) c.symbol.ensures;
      there = c.in_ok-there.there;
      occurs = ap (λ (s : Symbol). s.occurs) c.symbol.ensures;
      occurs_is = ap (λ v. there_term v (access_term (r.term c.args.place) (r.term c.args.marks))) (out_value f) ∙ out_value e;
      term_is = out_value f ∙ ap (λ (s : Symbol). r.term s.term) (sym c.symbol.ensures);
    }
