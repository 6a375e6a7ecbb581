-- What reading a model's file answers.
use Rattle.std.specs.Prelude.{◌≡◌, List, map, Vec, Result, Ok, Err, if◌then◌else◌}
use Rattle.mz_base.specs.declared.limit.TheConstants.{OPEN_LIMIT}
use Rattle.mz_base.specs.declared.fault.Span.{Span}
use Rattle.mz_base.specs.declared.fault.Fault.{Fault}
use Rattle.mz_base.specs.declared.stop.Stop.{Stop}
use Rattle.mz_base.specs.declared.stop.Stop.TheVariants.{Refused, Memory}
use Rattle.mz_lexer.specs.declared.token.Token.{Token}
use Rattle.mz_lexer.specs.declared.token.Symbol.TheVariants.{SSemi}
use Rattle.mz_tree.specs.declared.item.Item.{Item}
use Rattle.mz_tree.specs.Items.{ItemTree, item}
use Rattle.mz_grammar.specs.Tokens.{tok_at, behind}
use Rattle.mz_grammar.specs.Look.{is_sym}
use Rattle.mz_grammar.specs.Rules.{syntax}
use Rattle.mz_grammar.specs.RulesReading.{Reader, stuck, on}
use Rattle.mz_grammar.specs.RulesPromise.{IsWithin, IsFault, reason_of, fault_of}
use Rattle.mz_grammar.specs.Parts.{file}
use Rattle.mz_grammar.specs.Model.{rule}

-- these are the items of a file with these tokens, of which at most OPEN_LIMIT are open at once
abbrev pub IsModel : List Token → List ItemTree → Type 0
IsModel tokens items = IsWithin rule file OPEN_LIMIT tokens items

-- the first token with which no file begins, and why
abbrev pub IsRefused : Span → List Token → Fault → Type 0
IsRefused end tokens f = (f ≡ fault_of (reason_of f.kind) f.span) × IsFault rule file OPEN_LIMIT (reason_of f.kind) end tokens f.span

abbrev pub IsItems : {Z : Type 0} → Span → List Token → Result (Vec Item Z) Stop → Type 0
IsItems end tokens (Ok items) = IsModel tokens (map item items.items)
IsItems end tokens (Err (Refused f)) = IsRefused end tokens f
IsItems end tokens (Err Memory) = Unit {0}

-- after an item: its semicolon, or the end of the file
abbrev pub semicolon_at : Reader Unit
semicolon_at ts = on (tok_at ts) (Ok (tt, ts)) (λ t. if is_sym SSemi (tok_at ts) then Ok (tt, behind ts) else stuck syntax ts)
