-- The cells of top-level names for a solution, the last name first.
use Rattle.std.proofs.Common.{◌≡◌, ◌∙◌, ℕ, zero, suc, ◌+◌, ◌-◌, ◌<◌, ◌≤◌, List, [], ◌∷◌, map, drop, length, get_or, Option, nat_eq, if◌then◌else◌, refl, sym, ap, arith}
use Rattle.std.proofs.lemmas.List.{length-map}
use Rattle.mz_value.specs.Contents.{Content}
use Rattle.mz_meaning.specs.Cells.{Env, undefined, bind}
use Rattle.mz_print.specs.Output.{OutputName, assigned, output_cell, output_env}
use Rattle.mz_print.specs.Lines.{place_of, value_at}
use Rattle.mz_print.proofs.DefaultLines.{assigned_at}
use Rattle.mz_print.specs.declared.names.TopName.{TopName}
use Rattle.mz_print.specs.Names.{top_name, top_names, place_in}

-- no name's cell is set yet
pub env_begins : (slots : List ℕ) (values : List Content) (xs : List TopName) (env : Env) → ((n : ℕ) → env n ≡ undefined) → (n : ℕ) → env n ≡ output_env (assigned slots values) (drop (length xs - 0) (top_names xs)) n
unfolding output_env
env_begins slots values xs env h n = h n ∙ sym (ap (λ ys. output_env (assigned slots values) ys n) (nothing (top_names xs) (length xs - 0) (omega (arith, length-map xs top_name))))
  where
    nothing : (ys : List OutputName) (k : ℕ) → length ys ≤ k → drop k ys ≡ []
    nothing [] zero l = refl
    nothing [] (suc k) l = refl
    nothing (y ∷ ys) zero l = absurd (omega arith)
    nothing (y ∷ ys) (suc k) l = nothing ys k (omega arith)

seen_at : {X Y : Type 0} (f : X → Y) (xs : List X) (k : ℕ) (x : X) (d : Y) → k < length xs → x ≡ get_or xs k x → get_or (map f xs) k d ≡ f x
seen_at f [] k x d l is = absurd (omega arith)
seen_at f (z ∷ zs) zero x d l is = ap f (sym is)
seen_at f (z ∷ zs) (suc k) x d l is = seen_at f zs k x d (omega arith) is

drop_name : (xs : List TopName) (k : ℕ) (x : TopName) → k < length xs → x ≡ get_or xs k x → drop k (top_names xs) ≡ top_name x ∷ drop (suc k) (top_names xs)
drop_name [] k x l is = absurd (omega arith)
drop_name (y ∷ ys) zero x l is = ap (λ z. top_name z ∷ top_names ys) (sym is)
drop_name (y ∷ ys) (suc k) x l is = drop_name ys k x (omega arith) is

places_twice : (slots : List ℕ) (xs : List TopName) → map (place_in slots) (top_names xs) ≡ map (λ x. place_in slots (top_name x)) xs
places_twice slots [] = refl
places_twice slots (x ∷ xs) = ap (λ ps. place_in slots (top_name x) ∷ ps) (places_twice slots xs)

pub env_goes_on : (slots : List ℕ) (values : List Content) (xs : List TopName) (places : List (Option ℕ)) (old new : Env) (turn k : ℕ) (x : TopName) (d : Option ℕ) → turn < length xs → k ≡ length xs - 1 - turn → x ≡ get_or xs k x → places ≡ map (place_in slots) (top_names xs) → ((n : ℕ) → new n ≡ bind x.slot (output_cell (top_name x).fixed (value_at values (get_or places k d))) old n) → ((n : ℕ) → old n ≡ output_env (assigned slots values) (drop (length xs - turn) (top_names xs)) n) → (n : ℕ) → new n ≡ output_env (assigned slots values) (drop (length xs - (turn + 1)) (top_names xs)) n
unfolding output_env
env_goes_on slots values xs places old new turn k x d l at is placed set so_far n =
    let a = assigned slots values in
    let inside : k < length xs = omega (arith, l, at) in
    let place : get_or places k d ≡ place_of x.slot slots = ap (λ ps. get_or ps k d) (placed ∙ places_twice slots xs) ∙ seen_at (λ y. place_in slots (top_name y)) xs k x d inside is in
    let value : value_at values (get_or places k d) ≡ a x.slot = ap (λ o. value_at values o) place ∙ sym (assigned_at slots values x.slot) in
    let after : suc k ≡ length xs - turn = omega (arith, l, at) in
    let before : k ≡ length xs - (turn + 1) = omega (arith, l, at) in
    let whole : drop (length xs - (turn + 1)) (top_names xs) ≡ top_name x ∷ drop (length xs - turn) (top_names xs) =
    ap (λ m. drop m (top_names xs)) (sym before) ∙ (drop_name xs k x inside is ∙ ap (λ m. top_name x ∷ drop m (top_names xs)) after) in
    set n
    ∙ (ap (λ c. if nat_eq n x.slot then c else old n) (ap (λ v. output_cell (top_name x).fixed v) value)
    ∙ (ap (λ c. if nat_eq n x.slot then output_cell (top_name x).fixed (a x.slot) else c) (so_far n)
    ∙ sym (ap (λ ys. output_env a ys n) whole)))

pub env_ends : (slots : List ℕ) (values : List Content) (xs : List TopName) (env : Env) (turn : ℕ) → length xs ≤ turn → ((n : ℕ) → env n ≡ output_env (assigned slots values) (drop (length xs - turn) (top_names xs)) n) → (n : ℕ) → env n ≡ output_env (assigned slots values) (top_names xs) n
env_ends slots values xs env turn l h n =
    let z : length xs - turn ≡ 0 = omega (arith, l) in
    h n ∙ ap (λ m. output_env (assigned slots values) (drop m (top_names xs)) n) z
