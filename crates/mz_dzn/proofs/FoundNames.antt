-- A name is the one that a table finds for a text exactly where it has the text.
use Rattle.std.proofs.Common.{◌≡◌, ℕ, ◌<◌, ◌≤◌, List, [], true, false, true≢false, nat_eq, length, sym, ap, ◌∙◌, arith}
use Rattle.std.specs.Prelude.{Option, Some, None}
use Rattle.std.specs.Str.{bytes_eq}
use Rattle.std.proofs.lemmas.Bool.Decides.{Decides-eqb, same_from_decides}
use Rattle.std.proofs.lemmas.List.{get_or_past}
use Rattle.std.proofs.lemmas.Slice.Eq.{bytes_eq-Decides}
use Rattle.mz_base.specs.Names.{text_of}

-- every name of the table that has the text is this one
abbrev pub IsOnly : List (List ℕ) → List ℕ → Option ℕ → Type 0
IsOnly texts text found = (n : ℕ) → n < length texts → text_of texts n ≡ text → found ≡ Some n

-- a name with a text of one byte at least is of the table
within : (texts : List (List ℕ)) (text : List ℕ) (n : ℕ) → 0 < length text → text_of texts n ≡ text → n < length texts
within texts text n some e =
    let here : ¬ (length texts ≤ n) = λ past. let none : 0 ≡ length text = ap length (sym (get_or_past texts n [] past) ∙ e) in omega arith in
    omega arith

pub where_found : (texts : List (List ℕ)) (text : List ℕ) (k n : ℕ) → 0 < length text → text_of texts k ≡ text → IsOnly texts text (Some k) → nat_eq n k ≡ bytes_eq (text_of texts n) text
where_found texts text k n some there only =
    let by_name = Decides-eqb n k in
    same_from_decides (nat_eq n k) (bytes_eq (text_of texts n) text)
    (λ e. ap (text_of texts) (by_name.0 e) ∙ there, λ e. by_name.1 (let same : Some k ≡ Some n = only n (within texts text n some e) e in cc))
    (bytes_eq-Decides (text_of texts n) text)

pub where_none : (texts : List (List ℕ)) (text : List ℕ) (n : ℕ) → 0 < length text → IsOnly texts text None → false ≡ bytes_eq (text_of texts n) text
where_none texts text n some only =
    same_from_decides false (bytes_eq (text_of texts n) text)
    (λ e. absurd (true≢false (sym e)), λ e. let same : None ≡ Some n = only n (within texts text n some e) e in absurd (cc))
    (bytes_eq-Decides (text_of texts n) text)
