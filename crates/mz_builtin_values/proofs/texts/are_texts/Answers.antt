use Rattle.std.proofs.Common.{◌≡◌, true, false, arith, rules}
use Rattle.std.specs.Prelude.{is_some}
use Rattle.mz_value.specs.Contents.{content}
use Rattle.mz_operations.specs.Views.{as_text}
use Rattle.mz_builtin_values.proofs.AllTexts.{text_stops, text_goes}
use Rattle.mz_builtin_values.proofs.texts.are_texts.Goals as goal

pub returns-then-not-is_text : goal.returns-then-not-is_text
returns-then-not-is_text c =
    let other : is_some (as_text (content c.x-item.result)) ≡ false = search rules in
    text_stops c.args.items.now c.loop-x.x-index c.x-item.result _ (omega arith) c.x-item.is other c.loop-x.invariant

pub loop-x-preserved : goal.loop-x-preserved
loop-x-preserved c =
    let one : is_some (as_text (content c.x-item.result)) ≡ true = search rules in
    text_goes c.args.items.now c.loop-x.x-index c.x-item.result _ (omega arith) c.x-item.is one c.loop-x.invariant
