-- The tokens of a data file have one reading or one fault, and keep it where the table of their names grows.
use Rattle.std.proofs.Common.{◌≡◌, ℕ, List, [], refl, sym, ap, ◌∙◌, append-nil, subst, arith}
use Rattle.std.specs.Prelude.{Ok, Err, All}
use Rattle.mz_base.specs.declared.fault.Fault.{Fault}
use Rattle.mz_base.specs.declared.fault.Span.{Span}
use Rattle.mz_base.specs.declared.kind.Kind.TheVariants.{Syntax}
use Rattle.mz_base.specs.declared.stop.Stop.TheVariants.{Refused}
use Rattle.mz_base.specs.Faults.{fault_at}
use Rattle.mz_base.specs.Names.{Grows}
use Rattle.mz_lexer.specs.declared.token.Token.{Token}
use Rattle.mz_lexer.specs.Views.{HasName}
use Rattle.mz_tree.specs.Data.{Given}
use Rattle.mz_grammar.specs.Tokens.{place_or}
use Rattle.mz_grammar.specs.Rules.{syntax}
use Rattle.mz_grammar.specs.RulesReading.{Read, stuck}
use Rattle.mz_grammar.specs.RulesPromise.{IsUnfit, IsLongestPrefix}
use Rattle.mz_grammar.proofs.Laws as Laws
use Rattle.mz_grammar.specs.Data.{rule, rank, width, reads, dimensions_of, file}
use Rattle.mz_grammar.proofs.DataFacts.{low, falls}
use Rattle.mz_grammar.proofs.DataViable.{answers}
use Rattle.mz_dzn.specs.DataFile.{IsDataFile, IsRefusedData}
use Rattle.mz_dzn.proofs.Answer.{Outcome, outcome}
use Rattle.mz_dzn.proofs.Tables.{reads_later}

-- what was read of tokens with no others after them
read_whole : {items : List Given} {o : Read (List Given)} → Laws.Reaches rule rank width low falls 120 120 items [] o → o ≡ Ok (items, [])
read_whole (Laws.reached p) = p
read_whole (Laws.too_much r p less) = absurd (omega arith)

abbrev rest_or : Read (List Given) → List Token
rest_or (Ok x) = []
rest_or (Err s) = s.rest

abbrev items_or : Read (List Given) → List Given
items_or (Ok x) = x.0
items_or (Err s) = []

module _ (names : List (List ℕ)) (tokens : List Token) where
  pub file_reads : (items : List Given) → IsDataFile names tokens items → reads (file (dimensions_of names)) 120 tokens ≡ Ok (items, [])
  unfolding reads
  file_reads items h =
      read_whole (subst (λ ts. Laws.Reaches rule rank width low falls 120 120 items [] (reads (file (dimensions_of names)) 120 ts)) (append-nil tokens)
      (Laws.read_reaches rule rank width low falls (file (dimensions_of names)) 120 120 tokens [] items h))

  file_of : (items : List Given) (o : Read (List Given)) → Outcome (file (dimensions_of names)) 120 tokens o → o ≡ Ok (items, []) → IsDataFile names tokens items
  file_of items o out e = go (subst (Outcome (file (dimensions_of names)) 120 tokens) e out)
    where
      go : Outcome (file (dimensions_of names)) 120 tokens (Ok (items, [])) → IsDataFile names tokens items
      go h = subst (λ ts. IsDataFile names ts items) (sym (h.1 ∙ append-nil h.0)) h.2

  -- what is read so is a data file
  pub read_file : (items : List Given) → reads (file (dimensions_of names)) 120 tokens ≡ Ok (items, []) → IsDataFile names tokens items
  read_file items e = file_of items _ (outcome (file (dimensions_of names)) 120 tokens _ refl) e

  -- the same of the longest prefix that is one, with no token after it
  pub prefix_file : (items : List Given) → IsLongestPrefix rule (file (dimensions_of names)) 120 tokens [] items → IsDataFile names tokens items
  prefix_file items h = subst (λ ts. IsDataFile names ts items) (sym (h.split ∙ append-nil h.prefix)) h.reads

  pub unfit_reads : (end at : Span) (h : IsUnfit rule (file (dimensions_of names)) 120 syntax end tokens at) → reads (file (dimensions_of names)) 120 tokens ≡ stuck syntax h.rest
  unfolding reads
  unfit_reads end at h = ap (reads (file (dimensions_of names)) 120) h.split ∙ Laws.read_refuses rule rank width low falls (file (dimensions_of names)) 120 h.prefix h.rest syntax h.named

  -- what stops so is refused there
  stuck_unfit : (end : Span) (rest : List Token) → reads (file (dimensions_of names)) 120 tokens ≡ stuck syntax rest → IsUnfit rule (file (dimensions_of names)) 120 syntax end tokens (place_or end rest)
  stuck_unfit end rest e = (answers {X = List Given} (file (dimensions_of names)) (λ items. items) 120 end tokens rest (Err (Refused (fault_at Syntax (place_or end rest)))) refl (e, refl)).1

  -- tokens are one data file
  pub one_file : (items others : List Given) → IsDataFile names tokens items → IsDataFile names tokens others → items ≡ others
  one_file items others h g = ap items_or (sym (file_reads items h) ∙ file_reads others g)

  -- tokens that are a data file aren't refused
  pub never_both : (end : Span) (items : List Given) (f : Fault) → IsDataFile names tokens items → IsRefusedData names end tokens f → ⊥
  never_both end items f h g = let e = sym (file_reads items h) ∙ unfit_reads end f.span g.place in absurd (cc)

  one_place : (end at other : Span) → IsUnfit rule (file (dimensions_of names)) 120 syntax end tokens at → IsUnfit rule (file (dimensions_of names)) 120 syntax end tokens other → at ≡ other
  one_place end at other h g =
      let e : stuck {A = List Given} syntax h.rest ≡ stuck syntax g.rest = sym (unfit_reads end at h) ∙ unfit_reads end other g in
      h.place ∙ ap (λ ts. place_or end ts) (ap rest_or e) ∙ sym g.place

  -- tokens have one fault
  pub one_refusal : (end : Span) (f g : Fault) → IsRefusedData names end tokens f → IsRefusedData names end tokens g → f ≡ g
  one_refusal end f g h k = h.kind ∙ ap (fault_at Syntax) (one_place end f.span g.span h.place k.place) ∙ sym k.kind

-- where the table of the tokens' names has grown
module _ (old new : List (List ℕ)) (grows : Grows old new) (tokens : List Token) (known : All (HasName old) tokens) where
  pub file_later : (items : List Given) → IsDataFile old tokens items → IsDataFile new tokens items
  file_later items h = read_file new tokens items (sym (reads_later old new grows 120 tokens known) ∙ file_reads old tokens items h)

  unfit_later : (end at : Span) → IsUnfit rule (file (dimensions_of old)) 120 syntax end tokens at → IsUnfit rule (file (dimensions_of new)) 120 syntax end tokens at
  unfit_later end at h =
      subst (IsUnfit rule (file (dimensions_of new)) 120 syntax end tokens) (sym h.place)
      (stuck_unfit new tokens end h.rest (sym (reads_later old new grows 120 tokens known) ∙ unfit_reads old tokens end at h))

  pub refused_later : (end : Span) (f : Fault) → IsRefusedData old end tokens f → IsRefusedData new end tokens f
  refused_later end f h = record { kind = h.kind; place = unfit_later end f.span h.place }
