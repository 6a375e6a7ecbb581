-- The piece of a text by its content.
use Rattle.std.proofs.Common.{◌≡◌, ℕ, ◌≤◌, List, length, take, drop, Bool, true, refl, sym, ap, ◌∙◌, arith, length-take}
use Rattle.std.specs.Prelude.{nat_eq}
use Rattle.std.specs.Str.{IsUtf8}
use Rattle.std.specs.Str.Lossy.{utf8_valid_len}
use Rattle.std.proofs.lemmas.Str.{utf8_valid_len-IsUtf8}
use Rattle.std.proofs.lemmas.Bool.Decides.{nat_tests}
use Rattle.mz_lexer.specs.Texts.{content_len, meaning}
use Rattle.mz_lexer.specs.Steps.{Prefix, piece_end, piece_of, piece_prefix}

pub same_number : (n m : ℕ) → n ≡ m → nat_eq n m ≡ true
same_number n m e = grind (arith, nat_tests)

-- a content that is UTF-8 is read up to its end
pub valid_piece : (later : Bool) (content after : List ℕ) (n : ℕ) → IsUtf8 content → length content ≡ n → piece_of later content n after ≡ piece_end later (meaning content) n after
valid_piece later content after n is len =
    let whole : nat_eq (utf8_valid_len content) n ≡ true = same_number _ _ (utf8_valid_len-IsUtf8 content is ∙ len) in
    rw whole refl

piece_is : (later : Bool) (bs : List ℕ) → piece_prefix later bs ≡ piece_of later (take (content_len bs) bs) (content_len bs) (drop (content_len bs) bs)
unfolding piece_prefix
piece_is later bs = refl

pub whole_piece : (later : Bool) (bs content after : List ℕ) (n : ℕ) → n ≡ content_len bs → n ≤ length bs → content ≡ take n bs → after ≡ drop n bs → IsUtf8 content → piece_end later (meaning content) (length content) after ≡ piece_prefix later bs
whole_piece later bs content after n len le prefix rest is =
    let long : length content ≡ n = ap length prefix ∙ simp length-take (omega arith) in
    let P : ℕ → Prefix = λ k. piece_of later (take k bs) k (drop k bs) in
    let Q : List ℕ → Prefix = λ us. piece_of later us n after in
    let R : List ℕ → Prefix = λ us. piece_of later (take n bs) n us in
    ap (λ k. piece_end later (meaning content) k after) long ∙ sym (valid_piece later content after n is long) ∙ ap Q prefix ∙ ap R rest ∙ ap P len ∙ sym (piece_is later bs)
