-- A text is read as a data file in one way: it has one list of items, or one fault, never both.
use Rattle.std.proofs.Common.{◌≡◌, ℕ, List, map, ap, subst}
use Rattle.std.specs.Prelude.{Ok, Err}
use Rattle.mz_base.specs.declared.fault.Fault.{Fault}
use Rattle.mz_base.specs.Names.{AreDistinct}
use Rattle.mz_lexer.specs.Lexemes.{Outcome}
use Rattle.mz_lexer.specs.Views.{lex}
use Rattle.mz_lexer.proofs.Lexing.{determined}
use Rattle.mz_tree.specs.Data.{Given}
use Rattle.mz_dzn.specs.DataFile.{IsDataFile, IsRefusedData}
use Rattle.mz_dzn.proofs.Single.{never_both, one_file, one_refusal}
use Rattle.mz_include.specs.Parsing.{end_of}
use Rattle.mz_include.proofs.OneReading.{one_tokens}
use Rattle.mz_include.specs.DataTexts.{IsDataText, IsUnfitText, by_its_bytes, by_its_tokens}

abbrev fault_or : Fault → Outcome → Fault
fault_or d (Ok ts) = d
fault_or d (Err f) = f

module _ (names : List (List ℕ)) (distinct : AreDistinct names) (turn : ℕ) (text : List ℕ) where
  pub read_or_not : (items : List Given) (f : Fault) → IsDataText names turn text items → IsUnfitText names turn text f → ⊥
  read_or_not items f h (by_its_bytes b) = let e = determined turn text (Ok (map (lex names) h.tokens)) (Err f) h.lexed.lexes b in absurd (cc)
  read_or_not items f h (by_its_tokens tokens lexed r) =
      never_both names tokens (end_of turn text) items f (subst (λ ts. IsDataFile names ts items) (one_tokens names distinct turn text h.tokens tokens h.lexed lexed) h.file) r

  pub one_items : (items others : List Given) → IsDataText names turn text items → IsDataText names turn text others → items ≡ others
  one_items items others h k =
      one_file names h.tokens items others h.file (subst (λ ts. IsDataFile names ts others) (one_tokens names distinct turn text k.tokens h.tokens k.lexed h.lexed) k.file)

  pub one_unfit : (f g : Fault) → IsUnfitText names turn text f → IsUnfitText names turn text g → f ≡ g
  one_unfit f g (by_its_bytes b) (by_its_bytes c) = ap (fault_or f) (determined turn text (Err f) (Err g) b c)
  one_unfit f g (by_its_bytes b) (by_its_tokens tokens lexed r) = let e = determined turn text (Ok (map (lex names) tokens)) (Err f) lexed.lexes b in absurd (cc)
  one_unfit f g (by_its_tokens tokens lexed r) (by_its_bytes b) = let e = determined turn text (Ok (map (lex names) tokens)) (Err g) lexed.lexes b in absurd (cc)
  one_unfit f g (by_its_tokens tokens lexed r) (by_its_tokens others lexed' r') =
      one_refusal names tokens (end_of turn text) f g r (subst (λ ts. IsRefusedData names (end_of turn text) ts g) (one_tokens names distinct turn text others tokens lexed' lexed) r')
