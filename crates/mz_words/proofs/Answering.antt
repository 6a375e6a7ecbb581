-- From the first word to what was asked for.
use Rattle.std.proofs.Common.{◌≡◌, ◌∙◌, ap, List, [], ◌∷◌, Option, Some, None, refl, sym, subst}
use Rattle.std.specs.Prelude.{Result, String, slice_get, string_bytes}
use Rattle.clap.specs.Walk.{Text}
use Rattle.mz_words.specs.Found.{Answers, text_of}
use Rattle.mz_words.specs.declared.command.error.WordsError.{WordsError}
use Rattle.mz_words.specs.Requests.{Asked, asked, asked_of, request_of}
use Rattle.mz_words.specs.declared.request.Request.{Request}

asked_first : {Z : Type 0} (words : List (String Z)) (word : String Z) → Some word ≡ slice_get words 0
    → asked (text_of words) ≡ asked_of (string_bytes word) (text_of words)
unfolding asked
asked_first [] word first = cc
asked_first {Z = Z} (w ∷ words) word first =
    let same : word ≡ w = cc in
    ap (λ (x : String Z). asked_of (string_bytes x) (text_of (w ∷ words))) (sym same)

pub first_answers : {Z : Type 0} (words : List (String Z)) (word : String Z) (name : Text) (result : Result Request WordsError)
    → Some word ≡ slice_get words 0 → name ≡ string_bytes word → Answers request_of (asked_of name (text_of words)) result
    → Answers request_of (asked (text_of words)) result
first_answers words word name result first same answers =
    subst (λ (o : Option Asked). Answers request_of o result)
    (ap (λ (n : Text). asked_of n (text_of words)) same ∙ sym (asked_first words word first)) answers

pub asked_nothing : {Z : Type 0} (words : List (String Z)) → None ≡ slice_get words 0 → asked (text_of words) ≡ None
unfolding asked
asked_nothing [] first = refl
asked_nothing (w ∷ words) first = cc
