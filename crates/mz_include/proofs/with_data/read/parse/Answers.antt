use Rattle.std.proofs.Common.{◌∙◌, ap, map, subst}
use Rattle.mz_lexer.specs.Lexemes.{after}
use Rattle.mz_lexer.specs.Lexes.{IsFirstFault}
use Rattle.mz_tree.specs.Data.{given}
use Rattle.mz_dzn.specs.DataFile.{IsRefusedData}
use Rattle.mz_dzn.proofs.Single.{prefix_file}
use Rattle.mz_include.specs.Parsing.{AreTokens}
use Rattle.mz_include.proofs.FaultKinds.{stop_then}
use Rattle.mz_include.specs.DataTexts.{IsUnfitText, by_its_bytes, by_its_tokens}
use Rattle.mz_include.proofs.Numbers.{tokens_in}
use Rattle.mz_include.proofs.Refusals.{refused_data}
use Rattle.mz_include.proofs.with_data.read.parse.Goals as goal

pub returns-in_err-tokens-clause-refused : goal.returns-in_err-tokens-clause-refused
returns-in_err-tokens-clause-refused c =
    stop_then (IsFirstFault c.args.turn c.args.text.now) (IsUnfitText _ c.args.turn c.args.text.now) c.from_residual.result c.in_err-tokens.field-0.0 c.from_residual.ensures.1 (λ f h. by_its_bytes h) c.in_err-tokens.ensures.fault

pub returns-in_err-data-clause-refused : goal.returns-in_err-data-clause-refused
returns-in_err-data-clause-refused c =
    let names = c.tokens.new.names in
    let tokens = c.as_slice.result.now in
    let lexed : AreTokens names c.args.turn c.args.text.now tokens = record { lexes = rw c.as_slice.ensures.value c.in_ok-tokens.ensures.read; known = rw c.as_slice.ensures.value c.in_ok-tokens.ensures.named } in
    stop_then (IsRefusedData names c.after-end.result tokens) (IsUnfitText names c.args.turn c.args.text.now) c.from_residual-in_err-data.result c.in_err-data.field-0.0 c.from_residual-in_err-data.ensures.1
    (λ f h. by_its_tokens tokens lexed (subst (λ e. IsRefusedData names e tokens f) (c.after-end.ensures.place ∙ ap (λ s. after s c.args.text.now) c.start.ensures) h))
    (refused_data names c.after-end.result tokens c.in_err-data.field-0.0 c.in_err-data.ensures.answers c.in_err-data.ensures.syntax)

pub returns-clause-parsed : goal.returns-clause-parsed
returns-clause-parsed c =
    let names = c.tokens.new.names in
    let tokens = c.as_slice.result.now in
    record {
      tokens = tokens;
      lexed = record { lexes = rw c.as_slice.ensures.value c.in_ok-tokens.ensures.read; known = rw c.as_slice.ensures.value c.in_ok-tokens.ensures.named };
      file = prefix_file names tokens (map given c.in_ok-data.data.items.items) c.in_ok-data.ensures.answers;
    }

pub returns-clause-within : goal.returns-clause-within
returns-clause-within c = c.in_ok-data.ensures.named (rw c.as_slice.ensures.value c.in_ok-tokens.ensures.named)

pub returns-clause-placed : goal.returns-clause-placed
returns-clause-placed c =
    let names = c.tokens.new.names in
    c.in_ok-data.ensures.placed c.args.turn
    (tokens_in names c.args.turn c.args.text.now c.as_slice.result.now (record { lexes = rw c.as_slice.ensures.value c.in_ok-tokens.ensures.read; known = rw c.as_slice.ensures.value c.in_ok-tokens.ensures.named }))
