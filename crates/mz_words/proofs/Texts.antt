-- The text of an argument.
use Rattle.std.proofs.Common.{◌≡◌, [], Option, Some, None, refl}
use Rattle.std.specs.Prelude.{option_map, unwrap_or}
use Rattle.std.specs.Borrow.{Bor}
use Rattle.clap.specs.Walk.{Text}

pub same_text : (o : Option (Bor Text)) (empty : Bor Text) (value : Option Text) → empty.now ≡ [] → option_map (λ v. v.now) o ≡ value
    → (unwrap_or o empty).now ≡ unwrap_or value []
same_text None empty value nothing is = rw (← is) nothing
same_text (Some t) empty value nothing is = rw (← is) refl
