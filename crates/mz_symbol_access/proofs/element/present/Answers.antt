use Rattle.std.proofs.Common.{◌∙◌, sym, ap}
use Rattle.mz_symbol.specs.declared.types.Symbol.{Symbol}
use Rattle.mz_symbol.proofs.ConstantLaws.{out_value, out_state}
use Rattle.mz_symbol_access.proofs.element.present.Goals as goal

pub returns-clause-option : goal.returns-clause-option
returns-clause-option c r h =
    let e = c.in_ok-there.ensures.means r h in
    let f = c.in_ok-term.ensures.means r (c.in_ok-there.ensures.goes.back r h) in
    record {
      same = out_state f ∙ out_state e;
      base = ap (λ (s : Symbol). s.base) c.symbol.ensures;
      there = c.in_ok-there.there;
      occurs = ap (λ (s : Symbol). s.occurs) c.symbol.ensures;
      occurs_is = out_value e;
      term_is = out_value f ∙ ap (λ (s : Symbol). r.term s.term) (sym c.symbol.ensures);
    }
