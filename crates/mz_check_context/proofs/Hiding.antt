-- Local names that hide others of the same name.
use Rattle.std.proofs.Common.{◌≡◌, ℕ, zero, suc, ◌+◌, ◌-◌, ◌<◌, Bool, true, false, cond, List, [], ◌∷◌, ◌++◌, Option, Some, None, refl, sym, ap, subst, ◌∙◌, map, length, take, reverse, arith}
use Rattle.std.specs.Prelude.{nat_eq, slice_get}
use Rattle.std.specs.Option.{option_map}
use Rattle.std.specs.Borrow.{Bor}
use Rattle.std.specs.Slice.{IsItemAt}
use Rattle.std.proofs.lemmas.Bool.{eqb-true}
use Rattle.std.proofs.lemmas.List.{reverse-append, reverse-reverse, length-reverse, take_more}
use Rattle.std.proofs.lemmas.Option.{slice_get_past, slice_get_within, slice_get-get_or, get_or_from_slice_get}
use Rattle.std.proofs.Math.Seq.{take-length}
use Rattle.mz_core.specs.Types.{plain_type}
use Rattle.mz_check_meaning.specs.Models.{Env, Local, local_in}
use Rattle.mz_check_context.specs.declared.newest.Newest.{Newest}
use Rattle.mz_check_context.specs.declared.scope.LocalName.{LocalName}
use Rattle.mz_check_context.specs.Locals.{local, newest_first, place_or_none, newest_of, place_in, HideOlder, AreNewest}

pub place_after : (b : Bool) (place : Option ℕ) (o : Option (Option ℕ)) → place_or_none (cond b (Some place) o) ≡ cond b place (place_or_none o)
place_after true place o = refl
place_after false place o = refl

pub reverse_push : {A : Type 0} (xs : List A) (x : A) → reverse (xs ++ x ∷ []) ≡ x ∷ reverse xs
reverse_push xs x = reverse-append xs (x ∷ [])

reverse_first : {A : Type 0} (x : A) (xs : List A) → reverse (x ∷ xs) ≡ reverse xs ++ x ∷ []
reverse_first x xs = reverse-append (x ∷ []) xs

-- WHAT IS FOUND

abbrev pub at : {A : Type 0} → Option ℕ → List A → Option A
at None xs = None
at (Some k) xs = slice_get xs k

last_there : {A : Type 0} (xs : List A) (x : A) → slice_get (xs ++ x ∷ []) (length xs) ≡ Some x
last_there [] x = refl
last_there (y ∷ xs) x = last_there xs x

earlier_there : {A : Type 0} (xs : List A) (x : A) (k : ℕ) → k < length xs → slice_get (xs ++ x ∷ []) k ≡ slice_get xs k
earlier_there [] x k h = absurd (omega (arith, h))
earlier_there (y ∷ xs) x zero h = refl
earlier_there (y ∷ xs) x (suc k) h = earlier_there xs x k (omega (arith, h))

at_earlier : {A : Type 0} (o : Option ℕ) (xs : List A) (x : A) → ((k : ℕ) → o ≡ Some k → k < length xs) → at o (xs ++ x ∷ []) ≡ at o xs
at_earlier None xs x within = refl
at_earlier (Some k) xs x within = earlier_there xs x k (within k refl)

within_if : (b : Bool) (k m j : ℕ) (o : Option ℕ) → k < m → ((i : ℕ) → o ≡ Some i → i < m) → cond b (Some k) o ≡ Some j → j < m
within_if true k m j o h rest e = let same : k ≡ j = cc in omega (arith, h, same)
within_if false k m j o h rest e = rest j e

place_within : (n : ℕ) (ls : List LocalName) (k : ℕ) → place_in n ls ≡ Some k → k < length ls
unfolding place_in
place_within n [] k e = absurd (cc)
place_within n (l ∷ ls) k e =
    within_if (nat_eq l.name n) (length ls) (suc (length ls)) k (place_in n ls) (omega arith) (λ i h. let before : i < length ls = place_within n ls i h in omega (arith, before)) e

found_if : (b : Bool) (l : LocalName) (ls : List LocalName) (o : Option ℕ) (rest : Option Local) → ((k : ℕ) → o ≡ Some k → k < length (reverse ls)) → option_map local (at o (reverse ls)) ≡ rest
    → option_map local (at (cond b (Some (length ls)) o) (reverse ls ++ l ∷ [])) ≡ cond b (Some (local l)) rest
found_if true l ls o rest within h =
    ap (λ (k : ℕ). option_map local (slice_get (reverse ls ++ l ∷ []) k)) (sym (length-reverse ls)) ∙ ap (option_map local) (last_there (reverse ls) l)
found_if false l ls o rest within h = ap (option_map local) (at_earlier o (reverse ls) l within) ∙ h

-- what stands at the newest place of a name is the local that it means, in the list from the newest on
newest_found : (n : ℕ) (ls : List LocalName) → option_map local (at (place_in n ls) (reverse ls)) ≡ local_in n (map local ls)
unfolding place_in local_in
newest_found n [] = refl
newest_found n (l ∷ ls) =
    ap (λ (xs : List LocalName). option_map local (at (cond (nat_eq l.name n) (Some (length ls)) (place_in n ls)) xs)) (reverse_first l ls)
    ∙ found_if (nat_eq l.name n) l ls (place_in n ls) (local_in n (map local ls)) (λ k h. let before : k < length ls = place_within n ls k h in omega (arith, before, length-reverse ls)) (newest_found n ls)

pub local_found : (n : ℕ) (ls : List LocalName) (o : Option ℕ) → o ≡ place_in n (reverse ls) → option_map local (at o ls) ≡ local_in n (newest_first ls)
local_found n ls o h =
    ap (λ (p : Option ℕ). option_map local (at p ls)) h
    ∙ ap (λ (xs : List LocalName). option_map local (at (place_in n (reverse ls)) xs)) (sym (reverse-reverse ls))
    ∙ newest_found n (reverse ls)

-- what a slice lends at a place is what it has there
pub lent_at : (r : Option (Bor LocalName)) (xs : List LocalName) (k : ℕ) → IsItemAt xs k r → option_map (λ l. local l.now) r ≡ option_map local (slice_get xs k)
lent_at None xs k item = ap (option_map local) (sym (slice_get_past xs k item.3))
lent_at (Some x) xs k item = ap (option_map local) (ap Some item.1 ∙ sym (slice_get-get_or xs k x.now item.3.0))

-- ONE MORE

same_if : {A : Type 0} (b : Bool) (x y z w : A) → x ≡ y → z ≡ w → cond b x z ≡ cond b y w
same_if true x y z w p q = p
same_if false x y z w p q = q

-- a local that is bound hides the one that was the newest of its name
pub bound_is_newest : (old new : Newest) (ls : List LocalName) (l : LocalName) → AreNewest old ls → l.hidden ≡ newest_of old l.name
    → ((n : ℕ) → newest_of new n ≡ cond (nat_eq l.name n) (Some (length ls)) (newest_of old n)) → AreNewest new (ls ++ l ∷ [])
unfolding place_in HideOlder
bound_is_newest old new ls l before hides put = record {
  places = λ n.
      put n
      ∙ same_if (nat_eq l.name n) (Some (length ls)) (Some (length (reverse ls))) (newest_of old n) (place_in n (reverse ls)) (ap Some (sym (length-reverse ls))) (before.places n)
      ∙ ap (place_in n) (sym (reverse_push ls l));
  hidden = subst HideOlder (sym (reverse_push ls l)) (hides ∙ before.places l.name, before.hidden);
}

-- ONE LESS

back_if : (b : Bool) (n m : ℕ) (ls : List LocalName) (new hidden old : Option ℕ) (k : ℕ) → (b ≡ true → m ≡ n) → new ≡ cond b hidden old → hidden ≡ place_in m ls → old ≡ cond b (Some k) (place_in n ls) → new ≡ place_in n ls
back_if true n m ls new hidden old k same put hides was = put ∙ hides ∙ ap (λ (x : ℕ). place_in x ls) (same refl)
back_if false n m ls new hidden old k same put hides was = put ∙ was

-- where the last one goes, the one that it hid is the newest of its name
pub unbound_is_newest : (old new : Newest) (ls : List LocalName) (l : LocalName) → AreNewest old (ls ++ l ∷ [])
    → ((n : ℕ) → newest_of new n ≡ cond (nat_eq l.name n) l.hidden (newest_of old n)) → AreNewest new ls
unfolding place_in HideOlder
unbound_is_newest old new ls l before put =
    let hides : HideOlder (l ∷ reverse ls) = subst HideOlder (reverse_push ls l) before.hidden in
    record {
      places = λ n.
          back_if (nat_eq l.name n) n l.name (reverse ls) (newest_of new n) l.hidden (newest_of old n) (length (reverse ls)) (eqb-true l.name n) (put n) hides.0
          (before.places n ∙ ap (place_in n) (reverse_push ls l));
      hidden = hides.1;
    }

-- the last one goes
pub last_goes : (old new : Newest) (ls rest : List LocalName) (l : LocalName) → AreNewest old ls → slice_get ls (length ls - 1) ≡ Some l → rest ≡ take (length ls - 1) ls
    → ((n : ℕ) → newest_of new n ≡ cond (nat_eq l.name n) l.hidden (newest_of old n)) → AreNewest new rest
last_goes old new ls rest l before last first put =
    let within : length ls - 1 < length ls = slice_get_within ls (length ls - 1) l last in
    let all : length ls - 1 + 1 ≡ length ls = omega (arith, within) in
    let apart : ls ≡ take (length ls - 1) ls ++ l ∷ [] =
    sym (take-length ls)
    ∙ ap (λ (k : ℕ). take k ls) (sym all)
    ∙ take_more ls (length ls - 1) l within
    ∙ ap (λ (x : LocalName). take (length ls - 1) ls ++ x ∷ []) (get_or_from_slice_get ls (length ls - 1) l l last)
    in
    subst (AreNewest new) (sym first) (unbound_is_newest old new (take (length ls - 1) ls) l (subst (AreNewest old) apart before) put)

pub none_is_newest : (found : Newest) → ((n : ℕ) → newest_of found n ≡ None) → AreNewest found []
unfolding place_in HideOlder
none_is_newest found none = record { places = none; hidden = tt }

-- AS SCOPES

abbrev pub seen : ℕ → Bool → List LocalName → Env
seen declared output ls = record { locals = newest_first ls; next = declared + length ls; output = output }

abbrev with_local : ℕ → Bool → List LocalName → LocalName → ℕ → Env
with_local declared output ls l slot =
    record { locals = record { name = l.name; slot = slot; ty = plain_type l.ty } ∷ newest_first ls; next = declared + length ls + 1; output = output }

abbrev with_next : Bool → List Local → ℕ → Env
with_next output locals next = record { locals = locals; next = next; output = output }
