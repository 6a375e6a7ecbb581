-- What is read stays read, and a first failure stays one, where the table of names has grown.
use Rattle.std.proofs.Common.{ℕ, suc, List, length, sym, subst}
use Rattle.mz_base.specs.declared.fault.Fault.{Fault}
use Rattle.mz_base.specs.Names.{Grows}
use Rattle.mz_io.specs.Files.{Texts}
use Rattle.mz_lexer.specs.declared.token.Token.{Token}
use Rattle.mz_lexer.specs.Lexes.{Lexes}
use Rattle.mz_lexer.proofs.Steps.{all_named_later, all_seen_later}
use Rattle.mz_tree.specs.Data.{Given}
use Rattle.mz_dzn.proofs.Single.{file_later, refused_later}
use Rattle.mz_include.specs.Naming.{File}
use Rattle.mz_include.specs.Parsing.{AreTokens, end_of}
use Rattle.mz_include.proofs.Later as Model
use Rattle.mz_include.specs.DataTexts.{IsDataText, IsUnfitText, by_its_bytes, by_its_tokens}
use Rattle.mz_include.specs.DataFiles.{IsDataReading, AreDataRead, no_more, one_more, FailsAsData, missing, too_long, unfit, FailsFirst, here, later}
use Rattle.mz_include.specs.WithData.{IsSourcesWithData, FailsWithData, in_the_model, in_the_data}

-- where the table has grown from old to new
module _ (old new : List (List ℕ)) (grows : Grows old new) where
  tokens_later : (turn : ℕ) (text : List ℕ) (tokens : List Token) → AreTokens old turn text tokens → AreTokens new turn text tokens
  tokens_later turn text tokens lexed = record {
    lexes = subst (Lexes turn text) (sym (all_seen_later old new grows tokens lexed.known)) lexed.lexes;
    known = all_named_later old new grows tokens lexed.known;
  }

  text_later : (turn : ℕ) (text : List ℕ) (items : List Given) → IsDataText old turn text items → IsDataText new turn text items
  text_later turn text items h = record { tokens = h.tokens; lexed = tokens_later turn text h.tokens h.lexed; file = file_later old new grows h.tokens h.lexed.known items h.file }

  unfit_later : (turn : ℕ) (text : List ℕ) (f : Fault) → IsUnfitText old turn text f → IsUnfitText new turn text f
  unfit_later turn text _ (by_its_bytes h) = by_its_bytes h
  unfit_later turn text _ (by_its_tokens {f = f} tokens lexed h) = by_its_tokens tokens (tokens_later turn text tokens lexed) (refused_later old new grows tokens lexed.known (end_of turn text) f h)

  module _ (texts : Texts) where
    pub reading_later : (turn : ℕ) (name : List ℕ) (items : List Given) → IsDataReading old texts turn name items → IsDataReading new texts turn name items
    reading_later turn name items h = record { text = h.text; fetched = h.fetched; parsed = text_later turn h.text items h.parsed }

    fails_later : (turn : ℕ) (name : List ℕ) (f : Fault) → FailsAsData old texts turn name f → FailsAsData new texts turn name f
    fails_later turn name _ (missing h) = missing h
    fails_later turn name _ (too_long h) = too_long h
    fails_later turn name _ (unfit {f = f} text fetched h) = unfit text fetched (unfit_later turn text f h)

    pub data_later : (turn : ℕ) (given : List (List ℕ)) (items : List Given) → AreDataRead old texts turn given items → AreDataRead new texts turn given items
    data_later turn _ _ no_more = no_more
    data_later turn _ _ (one_more {name = name} {rest = rest} {items = items} {more = more} r all) = one_more (reading_later turn name items r) (data_later (suc turn) rest more all)

    first_later : (turn : ℕ) (given : List (List ℕ)) (f : Fault) (owner : List ℕ) → FailsFirst old texts turn given f owner → FailsFirst new texts turn given f owner
    first_later turn _ f _ (here {name = name} h) = here (fails_later turn name f h)
    first_later turn _ f owner (later {name = name} {rest = rest} {items = items} r h) = later (reading_later turn name items r) (first_later (suc turn) rest f owner h)

    module _ (first : List ℕ) (given : List (List ℕ)) where
      pub sources_later : (files : List File) (items : List Given) → IsSourcesWithData old texts first given files items → IsSourcesWithData new texts first given files items
      sources_later files items s = record { model = Model.sources_later old new grows texts first files s.model; data_files = data_later (length files) given items s.data_files }

      pub failure_later : (f : Fault) (owner : List ℕ) → FailsWithData old texts first given f owner → FailsWithData new texts first given f owner
      failure_later f owner (in_the_model h) = in_the_model (Model.first_failure_later old new grows texts first f owner h)
      failure_later f owner (in_the_data files model h) = in_the_data files (Model.sources_later old new grows texts first files model) (first_later (length files) given f owner h)
