-- Words are ASCII, and so UTF-8.
use Rattle.std.proofs.lemmas.Bool.{and_parts}
use Rattle.std.proofs.Common.{◌≡◌, ℕ, ◌<◌, List, [], ◌∷◌, true, arith}
use Rattle.std.specs.List.{list_all}
use Rattle.std.specs.Str.{IsAscii, IsUtf8}
use Rattle.std.proofs.lemmas.Str.{IsUtf8-from_ascii}
use Rattle.std.proofs.lemmas.Str.Ascii.{IsAscii-nil, IsAscii-cons}
use Rattle.std.proofs.lemmas.Bool.Decides.{nat_tests}
use Rattle.mz_base.specs.Words.{is_word_byte}

low_word_byte : (b : ℕ) → is_word_byte b ≡ true → b < 128
low_word_byte b e = grind (arith, nat_tests)

word_ascii : (w : List ℕ) → list_all is_word_byte w ≡ true → IsAscii w
word_ascii [] e = IsAscii-nil
word_ascii (b ∷ bs) e =
    let h = and_parts (is_word_byte b) (list_all is_word_byte bs) e in
    IsAscii-cons b bs (low_word_byte b h.0) (word_ascii bs h.1)

pub word_utf8 : (w : List ℕ) → list_all is_word_byte w ≡ true → IsUtf8 w
word_utf8 w e = IsUtf8-from_ascii w (word_ascii w e)
