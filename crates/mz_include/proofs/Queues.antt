-- The queue of the code, as a list of mentions.
use Rattle.std.proofs.Common.{◌≡◌, ℕ, List, [], ◌∷◌, ◌++◌, map, Bool, true, false, cond, is_some, refl, sym, ap, ◌∙◌, nat_eq}
use Rattle.std.specs.Prelude.{Option, Some, ◌||◌, if◌then◌else◌}
use Rattle.std.specs.List.{list_any}
use Rattle.std.specs.Map.{lookup}
use Rattle.indexmap.specs.IndexMap.{insert_entry}
use Rattle.mz_include.specs.declared.queue.Mention.{Mention}
use Rattle.mz_include.specs.declared.queue.Place.{Place}
use Rattle.mz_include.specs.Views.{with_code_mention}

abbrev entry : ℕ × Place → Mention
entry e = record { name = e.0; span = e.1.span; owner = e.1.owner }

found_in : (b a : Bool) (p : Place) (o : Option Place) → a ≡ is_some o → (b || a) ≡ is_some (cond b (Some p) o)
found_in true a p o h = refl
found_in false a p o h = h

any_found : (k : ℕ) (es : List (ℕ × Place)) → list_any (λ (s : Mention). nat_eq k s.name) (map entry es) ≡ is_some (lookup (nat_eq k) es)
any_found k [] = refl
any_found k (e ∷ es) = found_in (nat_eq k e.0) _ e.1 (lookup (nat_eq k) es) (any_found k es)

-- a name that is there stays where it was
pub stays : (es : List (ℕ × Place)) (m : Mention) → is_some (lookup (nat_eq m.name) es) ≡ true → map entry es ≡ with_code_mention (map entry es) m
unfolding with_code_mention
stays es m there = rw (any_found m.name es ∙ there) refl

put_in : (b : Bool) (e : ℕ × Place) (p : Place) (m : Mention) (es rest : List (ℕ × Place)) (o : Option Place) → is_some (cond b (Some e.1) o) ≡ false → (is_some o ≡ false → map entry rest ≡ map entry es ++ m ∷ []) → map entry (if b then (e.0, p) ∷ es else e ∷ rest) ≡ entry e ∷ (map entry es ++ m ∷ [])
put_in true e p m es rest o none h = cc
put_in false e p m es rest o none h = ap (λ ms. entry e ∷ ms) (h none)

put_last : (k : ℕ) (p : Place) (es : List (ℕ × Place)) → is_some (lookup (nat_eq k) es) ≡ false → map entry (insert_entry nat_eq es k p) ≡ map entry es ++ entry (k, p) ∷ []
put_last k p [] none = refl
put_last k p (e ∷ es) none = put_in (nat_eq k e.0) e p (entry (k, p)) es (insert_entry nat_eq es k p) (lookup (nat_eq k) es) none (put_last k p es)

-- a new name goes last
pub goes_last : (es : List (ℕ × Place)) (m : Mention) → is_some (lookup (nat_eq m.name) es) ≡ false → map entry (insert_entry nat_eq es m.name (record { span = m.span; owner = m.owner })) ≡ with_code_mention (map entry es) m
unfolding with_code_mention
goes_last es m none = put_last m.name _ es none ∙ sym (ap (λ b. cond b (map entry es) (map entry es ++ m ∷ [])) (any_found m.name es ∙ none))
