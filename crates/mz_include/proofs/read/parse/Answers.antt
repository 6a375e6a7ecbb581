use Rattle.std.proofs.Common.{ap, map, subst, ◌∙◌, Global}
use Rattle.mz_lexer.specs.Lexemes.{after}
use Rattle.mz_lexer.specs.Lexes.{IsFirstFault}
use Rattle.mz_tree.specs.Items.{item as tree_of}
use Rattle.mz_parser.specs.Model.{IsRefused}
use Rattle.mz_include.specs.Parsing.{IsUnparsed, by_its_bytes, by_its_tokens}
use Rattle.mz_include.proofs.FaultKinds.{stop_then, refused_stop}
use Rattle.mz_include.proofs.KnownItems.{items_of}
use Rattle.mz_include.proofs.KnownFiles.{each_item, end_in}
use Rattle.mz_include.proofs.read.parse.Goals as goal

pub returns-in_err-tokens-clause-refused : goal.returns-in_err-tokens-clause-refused
returns-in_err-tokens-clause-refused c =
    stop_then (IsFirstFault c.args.turn c.args.text.now) (IsUnparsed _ c.args.turn c.args.text.now) c.from_residual.result c.in_err-tokens.field-0.0 c.from_residual.ensures.1 (λ f h. by_its_bytes h) c.in_err-tokens.ensures.fault

pub returns-in_err-items-clause-refused : goal.returns-in_err-items-clause-refused
returns-in_err-items-clause-refused c =
    let tokens = c.in_ok-tokens.tokens.items in
    stop_then (IsRefused c.after-end.result c.as_slice.result.now) (IsUnparsed _ c.args.turn c.args.text.now) c.from_residual-in_err-items.result c.in_err-items.field-0.0 c.from_residual-in_err-items.ensures.1
    (λ f h. by_its_tokens c.as_slice.result.now (record { lexes = rw c.as_slice.ensures.value c.in_ok-tokens.ensures.read; known = rw c.as_slice.ensures.value c.in_ok-tokens.ensures.named })
    (subst (λ e. IsRefused e c.as_slice.result.now f) (c.after-end.ensures.place ∙ ap (λ s. after s c.args.text.now) c.start.ensures) h))
    (refused_stop Global c.after-end.result c.as_slice.result.now c.in_err-items.field-0.0 c.in_err-items.ensures.reads)

pub returns-clause-known : goal.returns-clause-known
returns-clause-known c =
    let names = c.tokens.new.names in
    record {
      name = (c.in_ok-tokens.ensures.grows c.args.name c.requires.name).0;
      items = each_item names c.args.turn c.in_ok-items.items.items (items_of names c.args.turn c.args.text.now c.as_slice.result.now (map tree_of c.in_ok-items.items.items)
          (record { lexes = rw c.as_slice.ensures.value c.in_ok-tokens.ensures.read; known = rw c.as_slice.ensures.value c.in_ok-tokens.ensures.named }) c.in_ok-items.ensures.reads);
      end = end_in c.args.turn c.args.text.now c.start.result c.after-end.result c.start.ensures c.after-end.ensures.place;
    }
