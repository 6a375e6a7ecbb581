-- Every identifier that the lexer reads is one of FlatZinc.
use Rattle.std.specs.Prelude.{ℕ, List, [], ◌∷◌, Bool, true, false}
use Rattle.std.proofs.Common.{◌≡◌, refl, sym}
use Rattle.std.specs.List.{list_any}
use Rattle.std.specs.Str.{bytes_eq}
use Rattle.std.proofs.lemmas.Slice.Eq.{bytes_eq-Decides}
use Rattle.mz_base.specs.Words.{is_keyword}
use Rattle.mz_base.specs.Keywords.{keyword_text, all_keywords}
use Rattle.mz_base.specs.declared.keyword.Keyword.{Keyword}
use Rattle.mz_lexer.specs.Lexes.{an_identifier, IdentifiersAreFlat}

abbrev is_text : List ℕ → Keyword → Bool
is_text w k = bytes_eq (keyword_text k) w

other_text : (w : List ℕ) (k : Keyword) → (w ≡ keyword_text k → ⊥) → is_text w k ≡ false
other_text w k other = go (is_text w k) refl
  where
    go : (b : Bool) → is_text w k ≡ b → b ≡ false
    go true e = absurd (other (sym ((bytes_eq-Decides (keyword_text k) w).0 e)))
    go false e = refl

none_is : (w : List ℕ) (ks : List Keyword) → ((k : Keyword) → w ≡ keyword_text k → ⊥) → list_any (is_text w) ks ≡ false
none_is w [] other = refl
none_is w (k ∷ ks) other = rw (other_text w k (other k), none_is w ks other) refl

no_keyword : (w : List ℕ) → ((k : Keyword) → w ≡ keyword_text k → ⊥) → is_keyword w ≡ false
unfolding is_keyword
no_keyword w other = none_is w all_keywords other

pub identifiers_are_flat : IdentifiersAreFlat
identifiers_are_flat later bytes w (an_identifier word other) = rw (word, no_keyword w other) refl
