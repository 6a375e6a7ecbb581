-- A text is read in one way: it has one list of tokens, these one list of items, or it has one fault.
use Rattle.std.proofs.Common.{◌≡◌, ◌<◌, ℕ, zero, suc, List, [], ◌∷◌, ◌++◌, length, map, true, false, Bool, refl, sym, ap, subst, ◌∙◌, arith, append-nil}
use Rattle.std.specs.Prelude.{Ok, Err, All, if◌then◌else◌}
use Rattle.std.specs.Str.{bytes_eq}
use Rattle.std.proofs.lemmas.List.Elements.{All-head, All-tail}
use Rattle.std.proofs.lemmas.Slice.Eq.{bytes_eq-Decides}
use Rattle.mz_base.specs.declared.fault.Fault.{Fault}
use Rattle.mz_base.specs.declared.fault.Span.{Span}
use Rattle.mz_base.specs.Names.{text_of, AreDistinct}
use Rattle.mz_lexer.specs.declared.token.Token.{Token}
use Rattle.mz_lexer.specs.declared.token.Tok.{Tok}
use Rattle.mz_lexer.specs.declared.token.Tok.TheVariants as tok
use Rattle.mz_lexer.specs.Lexemes.{Lexeme, word, sym as symbol, ident, int, text, text_head, text_mid, text_tail, Lex, Outcome}
use Rattle.mz_lexer.specs.Views.{lexeme, lex, IsNamed, HasName}
use Rattle.mz_lexer.proofs.Lexing.{determined}
use Rattle.mz_tree.specs.Items.{ItemTree}
use Rattle.mz_grammar.specs.Tokens.{tok_at, place_or}
use Rattle.mz_grammar.specs.Rules.{Reason, syntax, left_out, too_deep, Refuses}
use Rattle.mz_grammar.specs.RulesReading.{Read, stuck}
use Rattle.mz_grammar.specs.RulesPromise.{IsFault, reason_of, fault_of}
use Rattle.mz_grammar.proofs.Laws as Laws
use Rattle.mz_grammar.specs.Parts.{file}
use Rattle.mz_grammar.specs.Model.{rule}
use Rattle.mz_grammar.specs.Reading.{rank, width, reads}
use Rattle.mz_grammar.proofs.Facts.{low, falls}
use Rattle.mz_parser.specs.Model.{IsModel, IsRefused}
use Rattle.mz_include.specs.Naming.{File}
use Rattle.mz_include.specs.Parsing.{AreTokens, IsParsed, IsUnparsed, by_its_bytes, by_its_tokens, end_of}

-- the name of a text in a table
place_of : List (List ℕ) → List ℕ → ℕ
place_of [] t = 0
place_of (x ∷ xs) t = if bytes_eq x t then 0 else suc (place_of xs t)

stands : (xs : List (List ℕ)) (t : List ℕ) (n : ℕ) → n < length xs → text_of xs n ≡ t → (place_of xs t < length xs) × (text_of xs (place_of xs t) ≡ t)
unfolding place_of
stands [] t n below is = absurd (omega arith)
stands (x ∷ xs) t n below is = go (bytes_eq x t) refl (λ k l e. stands xs t k l e) n below is
  where
    go : (b : Bool) → bytes_eq x t ≡ b → ((n : ℕ) → n < length xs → text_of xs n ≡ t → (place_of xs t < length xs) × (text_of xs (place_of xs t) ≡ t)) → (n : ℕ) → n < length (x ∷ xs) → text_of (x ∷ xs) n ≡ t → ((if b then 0 else suc (place_of xs t)) < length (x ∷ xs)) × (text_of (x ∷ xs) (if b then 0 else suc (place_of xs t)) ≡ t)
    go true e rest n below is = (omega arith, (bytes_eq-Decides x t).0 e)
    go false e rest zero below is = let found : bytes_eq x t ≡ true = (bytes_eq-Decides x t).1 is in cc
    go false e rest (suc n) below is = let h = rest n (omega arith) is in (omega (arith, h.0), h.1)

-- where each text of the table has one name, a token's text tells its name
module _ (names : List (List ℕ)) (distinct : AreDistinct names) where
  name_back : (n : ℕ) → n < length names → place_of names (text_of names n) ≡ n
  name_back n below = let h = stands names (text_of names n) n below refl in distinct (place_of names (text_of names n)) n h.0 below h.1

  tok_of : Lexeme → Tok
  tok_of (word k) = tok.Word k
  tok_of (symbol s) = tok.Sym s
  tok_of (ident t) = tok.Ident (place_of names t)
  tok_of (int z) = tok.Int z
  tok_of (text t) = tok.Text (place_of names t)
  tok_of (text_head t) = tok.TextHead (place_of names t)
  tok_of (text_mid t) = tok.TextMid (place_of names t)
  tok_of (text_tail t) = tok.TextTail (place_of names t)

  tok_back : (t : Tok) → IsNamed names t → tok_of (lexeme names t) ≡ t
  unfolding tok_of
  tok_back (tok.Word k) h = refl
  tok_back (tok.Sym s) h = refl
  tok_back (tok.Ident n) h = ap (λ k. tok.Ident k) (name_back n h)
  tok_back (tok.Int z) h = refl
  tok_back (tok.Text n) h = ap (λ k. tok.Text k) (name_back n h)
  tok_back (tok.TextHead n) h = ap (λ k. tok.TextHead k) (name_back n h)
  tok_back (tok.TextMid n) h = ap (λ k. tok.TextMid k) (name_back n h)
  tok_back (tok.TextTail n) h = ap (λ k. tok.TextTail k) (name_back n h)

  token_of : Lex → Token
  token_of l = record { tok = tok_of l.lexeme; span = l.span; len = l.len }

  tokens_back : (ts : List Token) → All (HasName names) ts → map token_of (map (lex names) ts) ≡ ts
  unfolding token_of
  tokens_back [] all = refl
  tokens_back (t ∷ ts) all =
      ap (λ k. (let u : Token = record { tok = k; span = t.span; len = t.len } in u) ∷ map token_of (map (lex names) ts)) (tok_back t.tok (All-head (HasName names) t ts all))
      ∙ ap (λ us. t ∷ us) (tokens_back ts (All-tail (HasName names) t ts all))

  abbrev lexes_or : Outcome → List Lex
  lexes_or (Ok ts) = ts
  lexes_or (Err f) = []

  -- a text has one list of tokens
  pub one_tokens : (turn : ℕ) (bytes : List ℕ) (tokens others : List Token) → AreTokens names turn bytes tokens → AreTokens names turn bytes others → tokens ≡ others
  one_tokens turn bytes tokens others h g =
      sym (tokens_back tokens h.known)
      ∙ ap (λ out. map token_of (lexes_or out)) (determined turn bytes (Ok (map (lex names) tokens)) (Ok (map (lex names) others)) h.lexes g.lexes)
      ∙ tokens_back others g.known

-- tokens have one list of items
pub one_items : (tokens : List Token) (items others : List ItemTree) → IsModel tokens items → IsModel tokens others → items ≡ others
one_items tokens items others p q = Laws.one_value rule rank width low falls file 120 120 tokens [] items others p q

-- what the grammar reads where tokens are refused
record Stops (end : Span) (tokens : List Token) (why : Reason) (at : Span) : Type 0 where
  rest : List Token
  stops : reads file 120 tokens ≡ stuck why rest
  place : at ≡ place_or end rest

stopped : (end : Span) (tokens prefix rest : List Token) (why : Reason) (at : Span) → tokens ≡ prefix ++ rest → Refuses rule file 120 (rule file) prefix why (tok_at rest) → at ≡ place_or end rest → Stops end tokens why at
stopped end tokens prefix rest why at split h place = record {
  rest = rest;
  stops = ap (reads file 120) split ∙ Laws.read_refuses rule rank width low falls file 120 prefix rest why h;
  place = place;
}

fault_stops : (end : Span) (tokens : List Token) (why : Reason) (at : Span) → IsFault rule file 120 why end tokens at → Stops end tokens why at
fault_stops end tokens syntax at h = stopped end tokens h.prefix h.rest syntax at h.split h.named h.place
fault_stops end tokens left_out at h = stopped end tokens h.prefix h.rest left_out at h.split h.named h.place
fault_stops end tokens too_deep at h = stopped end tokens h.prefix (h.token ∷ h.rest) too_deep at h.split h.named h.place

-- tokens that are read aren't refused
unread : {items : List ItemTree} {why : Reason} {rest : List Token} {o : Read (List ItemTree)} → Laws.Reaches rule rank width low falls 120 120 items [] o → o ≡ stuck why rest → ⊥
unread (Laws.reached p) q = absurd (cc)
unread (Laws.too_much r p l) q = absurd (omega arith)

pub never_both : (end : Span) (tokens : List Token) (items : List ItemTree) (f : Fault) → IsModel tokens items → IsRefused end tokens f → ⊥
never_both end tokens items f model refused =
    let s = fault_stops end tokens (reason_of f.kind) f.span refused.1 in
    unread (subst (λ ts. Laws.Reaches rule rank width low falls 120 120 items [] (reads file 120 ts)) (append-nil tokens) (Laws.read_reaches rule rank width low falls file 120 120 tokens [] items model)) s.stops

abbrev why_or : {A : Type 0} → Read A → Reason
why_or (Ok x) = syntax
why_or (Err e) = e.why

abbrev rest_or : {A : Type 0} → Read A → List Token
rest_or (Ok x) = []
rest_or (Err e) = e.rest

-- tokens have one fault
pub one_refusal : (end : Span) (tokens : List Token) (f g : Fault) → IsRefused end tokens f → IsRefused end tokens g → f ≡ g
one_refusal end tokens f g h k =
    let s = fault_stops end tokens (reason_of f.kind) f.span h.1 in
    let t = fault_stops end tokens (reason_of g.kind) g.span k.1 in
    let same : stuck (reason_of f.kind) s.rest ≡ stuck (reason_of g.kind) t.rest = sym s.stops ∙ t.stops in
    h.0 ∙ ap (λ why. fault_of why f.span) (ap why_or same)
    ∙ ap (fault_of (reason_of g.kind)) (s.place ∙ ap (λ us. place_or end us) (ap rest_or same) ∙ sym t.place)
    ∙ sym k.0

module _ (names : List (List ℕ)) (distinct : AreDistinct names) (turn : ℕ) (bytes : List ℕ) where
  -- a text isn't both read and refused
  pub parsed_or_not : (f : File) (g : Fault) → IsParsed names turn bytes f → IsUnparsed names turn bytes g → ⊥
  parsed_or_not f g h (by_its_bytes b) = let e = determined turn bytes (Ok (map (lex names) h.tokens)) (Err g) h.lexed.lexes b in absurd (cc)
  parsed_or_not f g h (by_its_tokens tokens lexed r) =
      never_both (end_of turn bytes) tokens f.items g (subst (λ ts. IsModel ts f.items) (one_tokens names distinct turn bytes h.tokens tokens h.lexed lexed) h.model) r

  pub one_parsing : (f g : File) → IsParsed names turn bytes f → IsParsed names turn bytes g → (f.items ≡ g.items) × (f.end ≡ g.end)
  one_parsing f g h k =
      (one_items h.tokens f.items g.items h.model (subst (λ ts. IsModel ts g.items) (one_tokens names distinct turn bytes k.tokens h.tokens k.lexed h.lexed) k.model), h.end ∙ sym k.end)

  abbrev fault_or : Fault → Outcome → Fault
  fault_or d (Ok ts) = d
  fault_or d (Err f) = f

  pub one_unparsed : (f g : Fault) → IsUnparsed names turn bytes f → IsUnparsed names turn bytes g → f ≡ g
  one_unparsed f g (by_its_bytes b) (by_its_bytes c) = ap (fault_or f) (determined turn bytes (Err f) (Err g) b c)
  one_unparsed f g (by_its_bytes b) (by_its_tokens tokens lexed r) = let e = determined turn bytes (Ok (map (lex names) tokens)) (Err f) lexed.lexes b in absurd (cc)
  one_unparsed f g (by_its_tokens tokens lexed r) (by_its_bytes b) = let e = determined turn bytes (Ok (map (lex names) tokens)) (Err g) lexed.lexes b in absurd (cc)
  one_unparsed f g (by_its_tokens tokens lexed r) (by_its_tokens others lexed' r') =
      one_refusal (end_of turn bytes) tokens f g r (subst (λ ts. IsRefused (end_of turn bytes) ts g) (one_tokens names distinct turn bytes others tokens lexed' lexed) r')
