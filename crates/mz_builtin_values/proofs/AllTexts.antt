-- Elements that are all texts, or not.
use Rattle.std.proofs.lemmas.Bool.{and_parts}
use Rattle.std.proofs.Common.{◌≡◌, ℕ, ◌+◌, ◌<◌, ◌≤◌, List, [], ◌∷◌, ◌++◌, map, length, get_or, drop, Bool, true, false, ◌&&◌, refl, sym, ap, ◌∙◌}
use Rattle.std.proofs.lemmas.List.{at_drop_more, at_drop_all, append_assoc, append-nil}
use Rattle.std.specs.List.{AllByRecursion}
use Rattle.std.specs.Prelude.{Some, None, is_some}
use Rattle.mz_value.specs.declared.value.Value.{Value}
use Rattle.mz_value.specs.Contents.{Content, content, bool, int, case, set, absent, text, array}
use Rattle.mz_value.specs.Shown.{IsText, bytes_of}
use Rattle.mz_operations.specs.Views.{◌>>=◌, as_text}
use Rattle.mz_operations.specs.Arrays.{fold_from}
use Rattle.mz_operations.specs.Values.{and_text}
use Rattle.mz_builtin_values.specs.StepsTexts.{all_texts}

-- ---- one value

text_is : (x : Content) → is_some (as_text x) ≡ true → IsText x × (as_text x ≡ Some (bytes_of x))
unfolding as_text
text_is (bool b) e = cc
text_is (int n) e = cc
text_is (case d k) e = cc
text_is (set d s) e = cc
text_is absent e = cc
text_is (text t) e = (tt, refl)
text_is (array ix xs) e = cc

no_text : (x : Content) → is_some (as_text x) ≡ false → as_text x ≡ None
unfolding as_text
no_text (bool b) e = refl
no_text (int n) e = refl
no_text (case d k) e = refl
no_text (set d s) e = refl
no_text absent e = refl
no_text (text t) e = cc
no_text (array ix xs) e = refl

-- ---- all

pub are_text : (xs : List Content) → all_texts xs ≡ true → AllByRecursion IsText xs
unfolding all_texts
are_text [] e = tt
are_text (x ∷ xs) e = let p = and_parts (is_some (as_text x)) (all_texts xs) e in ((text_is x p.0).0, are_text xs p.1)

fold_more : (acc : List (List ℕ)) (x : Content) (xs : List Content) → fold_from as_text and_text acc (x ∷ xs) ≡ (as_text x >>= λ t. fold_from as_text and_text (acc ++ t ∷ []) xs)
unfolding fold_from
fold_more acc x xs = refl

fold_none : (acc : List (List ℕ)) → fold_from as_text and_text acc [] ≡ Some acc
unfolding fold_from
fold_none acc = refl

texts_from : (acc : List (List ℕ)) (xs : List Content) → all_texts xs ≡ true → fold_from as_text and_text acc xs ≡ Some (acc ++ map bytes_of xs)
unfolding all_texts
texts_from acc [] e = fold_none acc ∙ ap Some (sym (append-nil acc))
texts_from acc (x ∷ xs) e =
    let p = and_parts (is_some (as_text x)) (all_texts xs) e in
    let step : (as_text x >>= λ t. fold_from as_text and_text (acc ++ t ∷ []) xs) ≡ fold_from as_text and_text (acc ++ bytes_of x ∷ []) xs = rw ((text_is x p.0).1) refl in
    fold_more acc x xs ∙ step ∙ texts_from (acc ++ bytes_of x ∷ []) xs p.1 ∙ ap Some (append_assoc acc (bytes_of x ∷ []) (map bytes_of xs))

pub texts_there : (xs : List Content) → all_texts xs ≡ true → fold_from as_text and_text [] xs ≡ Some (map bytes_of xs)
texts_there xs e = texts_from [] xs e

gone_step : (acc : List (List ℕ)) (x : Content) (xs : List Content) (t : Bool) → is_some (as_text x) ≡ t → (t && all_texts xs) ≡ false → ((more : List (List ℕ)) → all_texts xs ≡ false → fold_from as_text and_text more xs ≡ None) → (as_text x >>= λ t. fold_from as_text and_text (acc ++ t ∷ []) xs) ≡ None
gone_step acc x xs true h e ih =
    let step : (as_text x >>= λ t. fold_from as_text and_text (acc ++ t ∷ []) xs) ≡ fold_from as_text and_text (acc ++ bytes_of x ∷ []) xs = rw ((text_is x h).1) refl in
    step ∙ ih (acc ++ bytes_of x ∷ []) e
gone_step acc x xs false h e ih = rw (no_text x h) refl

texts_gone : (acc : List (List ℕ)) (xs : List Content) → all_texts xs ≡ false → fold_from as_text and_text acc xs ≡ None
unfolding all_texts
texts_gone acc [] e = cc
texts_gone acc (x ∷ xs) e = fold_more acc x xs ∙ gone_step acc x xs (is_some (as_text x)) refl e (λ more h. texts_gone more xs h)

pub texts_missing : (xs : List Content) → all_texts xs ≡ false → fold_from as_text and_text [] xs ≡ None
texts_missing xs e = texts_gone [] xs e

-- ---- a loop over elements

abbrev left : List Value → Bool
left xs = all_texts (map content xs)

one_more : (x : Value) (xs : List Value) → left (x ∷ xs) ≡ (is_some (as_text (content x)) && left xs)
unfolding all_texts
one_more x xs = refl

pub text_turn : (xs : List Value) (i : ℕ) (x : Value) → i < length xs → x ≡ get_or xs i x → all_texts (map content (drop i xs)) ≡ (is_some (as_text (content x)) && all_texts (map content (drop (i + 1) xs)))
text_turn xs i x l e = at_drop_more left xs i x l ∙ ap (λ y. left (y ∷ drop (i + 1) xs)) (sym e) ∙ one_more x (drop (i + 1) xs)

none_left : left [] ≡ true
unfolding all_texts
none_left = refl

pub text_end : (xs : List Value) (i : ℕ) → length xs ≤ i → all_texts (map content (drop i xs)) ≡ true
text_end xs i l = at_drop_all left xs i l ∙ none_left

pub text_stops : (xs : List Value) (i : ℕ) (x : Value) (whole : Bool) → i < length xs → x ≡ get_or xs i x → is_some (as_text (content x)) ≡ false → all_texts (map content (drop i xs)) ≡ whole → false ≡ whole
text_stops xs i x whole l e n w =
    let step : (is_some (as_text (content x)) && all_texts (map content (drop (i + 1) xs))) ≡ false = rw n refl in
    sym step ∙ sym (text_turn xs i x l e) ∙ w

pub text_goes : (xs : List Value) (i : ℕ) (x : Value) (whole : Bool) → i < length xs → x ≡ get_or xs i x → is_some (as_text (content x)) ≡ true → all_texts (map content (drop i xs)) ≡ whole → all_texts (map content (drop (i + 1) xs)) ≡ whole
text_goes xs i x whole l e n w =
    let step : (is_some (as_text (content x)) && all_texts (map content (drop (i + 1) xs))) ≡ all_texts (map content (drop (i + 1) xs)) = rw n refl in
    sym step ∙ sym (text_turn xs i x l e) ∙ w
