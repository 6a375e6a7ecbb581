use Rattle.std.proofs.Common.{◌∙◌, sym, ap}
use Rattle.mz_symbol.specs.declared.types.Symbol.{Symbol}
use Rattle.mz_symbol.proofs.ConstantLaws.{out_value, out_state}
use Rattle.mz_symbol_access.proofs.element.plain_at.Goals as goal

pub returns-in_ok-term-in-None-clause-plain : goal.returns-in_ok-term-in-None-clause-plain
returns-in_ok-term-in-None-clause-plain c r h =
    let e = c.in_ok-term-in-None.ensures.means r h in
    record {
      same = out_state e;
      base = ap (λ (s : Symbol). s.base) c.symbol.ensures;
      none = c.in-None.is;
      occurs = ap (λ (s : Symbol). s.occurs) c.symbol.ensures;
      term_is = out_value e ∙ ap (λ (s : Symbol). r.term s.term) (sym c.symbol.ensures);
    }
