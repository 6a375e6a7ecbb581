-- Tables of numbered answers.
use Rattle.std.proofs.Common.{◌≡◌, ℕ, Bool, true, false, cond, List, [], ◌∷◌, ◌++◌, Option, Some, None, Result, refl, sym, ap, ◌∙◌}
use Rattle.std.specs.Prelude.{nat_eq}
use Rattle.std.specs.Map.{lookup}
use Rattle.std.specs.Option.{option_map}
use Rattle.std.proofs.lemmas.List.{map-append}
use Rattle.indexmap.specs.IndexMap.{insert_entry}
use Rattle.mz_base.specs.declared.fault.Fault.{Fault}
use Rattle.mz_check_meaning.specs.Tests.{Test}
use Rattle.mz_check_meaning.specs.Models.{entry_of}
use Rattle.mz_check_context.specs.Headings.{tested}
use Rattle.mz_check_context.specs.Known.{answers}
use Rattle.mz_check_context.proofs.Entries.{entry_found, entry_added}

mapped_if : {A B : Type 0} (f : A → B) (b : Bool) (x : A) (o : Option A) → cond b (Some (f x)) (option_map f o) ≡ option_map f (cond b (Some x) o)
mapped_if f true x o = refl
mapped_if f false x o = refl

seen_entry : {A B : Type 0} (see : A → B) (n : ℕ) (es : List (ℕ × Result A Fault)) → entry_of n (answers see es) ≡ option_map (tested see) (entry_of n es)
unfolding entry_of
seen_entry see n [] = refl
seen_entry {A} {B} see n (e ∷ es) =
    ap (λ (o : Option (Test B)). cond (nat_eq e.0 n) (Some (tested see e.1)) o) (seen_entry see n es) ∙ mapped_if (tested see) (nat_eq e.0 n) e.1 (entry_of n es)

-- an answer of the table is what its index finds, seen
pub answer_found : {A B : Type 0} (see : A → B) (n : ℕ) (es : List (ℕ × Result A Fault)) → entry_of n (answers see es) ≡ option_map (tested see) (lookup (nat_eq n) es)
answer_found see n es = seen_entry see n es ∙ ap (option_map (tested see)) (entry_found n es)

none_seen : {A B : Type 0} (f : A → B) (o : Option A) → option_map f o ≡ None → o ≡ None
none_seen f None h = refl
none_seen f (Some x) h = absurd (cc)

-- an answer for a new number goes last
pub answer_added : {A B : Type 0} (see : A → B) (es : List (ℕ × Result A Fault)) (n : ℕ) (r : Result A Fault) → entry_of n (answers see es) ≡ None
    → answers see (insert_entry nat_eq es n r) ≡ answers see es ++ (n, tested see r) ∷ []
answer_added {A} {B} see es n r none =
    ap (answers see) (entry_added es n r (none_seen (tested see) (entry_of n es) (sym (seen_entry see n es) ∙ none)))
    ∙ map-append (λ (e : ℕ × Result A Fault). (e.0, tested see e.1)) es ((n, r) ∷ [])
