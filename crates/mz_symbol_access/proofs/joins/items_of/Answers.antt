use Rattle.std.proofs.Common.{◌∙◌, Some, option_map, sym, ap}
use Rattle.mz_symbol.specs.declared.types.Line.{Line}
use Rattle.mz_symbol_access.proofs.joins.items_of.Goals as goal

pub returns : goal.returns
returns c =
    ap (option_map (λ (l : Line). l.items.items)) (sym c.line.ensures.line ∙ ap (option_map (λ l. l.now)) c.in-Some.is)
    ∙ ap Some (sym (c.in_ok-items.ensures.items ∙ c.deref.ensures.value))
