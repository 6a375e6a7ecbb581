-- What is read is seen in one way, and in another that gives the same.
use Rattle.std.proofs.Common.{◌≡◌, List, ap, ◌∙◌, Some, Result}
use Rattle.std.specs.Prelude.{ℕ, Ok, Err}
use Rattle.fz_items.specs.declared.miss.Miss.{Miss}
use Rattle.fz_items.specs.Items.{Read}
use Rattle.fz_items.specs.Gives.{Gives, with_rest}
use denote.Ref.{Bor}

pub seen_so : {V X : Type 0} (r : Result (V × Bor (List ℕ)) Miss) (q : Read X) (f g : V → X) → ((v : V) → f v ≡ g v) → Gives (with_rest f) r q → Gives (with_rest g) r q
seen_so (Ok r) q f g e h = h ∙ ap (λ x. Some (x, (r.1).now)) (e r.0)
seen_so (Err m) q f g e h = h
