-- The outcome of some bytes, by what comes first.
use Rattle.std.proofs.Common.{◌≡◌, ℕ, zero, suc, ◌-◌, ◌<◌, List, [], ◌∷◌, ◌++◌, length, take, drop, map, refl, sym, ap, ◌∙◌, arith, append_assoc, append-nil, sub-one}
use Rattle.std.specs.Prelude.{Ok, Err, All}
use Rattle.std.proofs.lemmas.List.{map_push}
use Rattle.std.proofs.lemmas.List.Elements.{All-head, All-tail, All-weaker}
use Rattle.mz_base.specs.declared.fault.Span.{Span}
use Rattle.mz_base.specs.declared.kind.Kind.{Kind}
use Rattle.mz_base.specs.Names.{Grows}
use Rattle.mz_lexer.specs.declared.opening.Opening.{Opening}
use Rattle.mz_lexer.specs.declared.token.Tok.{Tok}
use Rattle.mz_lexer.specs.declared.token.Tok.TheVariants as tok
use Rattle.mz_lexer.specs.declared.token.Token.{Token}
use Rattle.mz_lexer.specs.Lexemes.{fault, Lexeme, ident, text, text_head, text_mid, text_tail, Lex, begins_piece, passed, after, opens_behind, Outcome, with_token}
use Rattle.mz_lexer.specs.Steps.{gap, token, refusal, prefix_of, prefix_then, outcome_behind, outcome_at, outcome_of}
use Rattle.mz_base.specs.Faults.{start_of}
use Rattle.mz_lexer.specs.Views.{lexeme, lex, IsNamed, HasName}

pub outcome_end : (opens : List Opening) (at : Span) → outcome_at opens at [] ≡ Ok []
unfolding outcome_at outcome_behind
outcome_end opens at = refl

behind_end : (n : ℕ) (opens : List Opening) (at : Span) → outcome_behind n opens at [] ≡ Ok []
unfolding outcome_behind
behind_end n opens at = refl

behind_more : (n : ℕ) (opens : List Opening) (at : Span) (b : ℕ) (bs : List ℕ) → outcome_behind (suc n) opens at (b ∷ bs) ≡ outcome_behind n opens (passed at b) bs
unfolding outcome_behind
behind_more n opens at b bs = refl

at_is : (opens : List Opening) (at : Span) (bs : List ℕ) → outcome_at opens at bs ≡ outcome_behind 0 opens at bs
unfolding outcome_at
at_is opens at bs = refl

pub behind_drop : (n : ℕ) (opens : List Opening) (at : Span) (bs : List ℕ) → outcome_behind n opens at bs ≡ outcome_at opens (after at (take n bs)) (drop n bs)
behind_drop zero opens at bs = sym (at_is opens at bs)
behind_drop (suc n) opens at [] = behind_end (suc n) opens at ∙ sym (outcome_end opens at)
behind_drop (suc n) opens at (b ∷ bs) = behind_more n opens at b bs ∙ behind_drop n opens (passed at b) bs

at_prefix : (opens : List Opening) (at : Span) (b : ℕ) (bs : List ℕ) → outcome_at opens at (b ∷ bs) ≡ prefix_then opens at (b ∷ bs) (prefix_of (begins_piece opens) (b ∷ bs)) (λ more os. outcome_behind more os (passed at b) bs)
unfolding outcome_at outcome_behind
at_prefix opens at b bs = refl

less_one : (n : ℕ) (opens : List Opening) (at : Span) (b : ℕ) (bs : List ℕ) → 0 < n → outcome_behind (n - 1) opens (passed at b) bs ≡ outcome_at opens (after at (take n (b ∷ bs))) (drop n (b ∷ bs))
less_one zero opens at b bs some = absurd (omega arith)
less_one (suc n) opens at b bs some = rw sub-one (behind_drop n opens (passed at b) bs)

-- a blank or a comment comes first
pub step_gap : (opens : List Opening) (at : Span) (bs : List ℕ) (n : ℕ) → 0 < length bs → 0 < n → prefix_of (begins_piece opens) bs ≡ gap n → outcome_at opens at bs ≡ outcome_at opens (after at (take n bs)) (drop n bs)
step_gap opens at [] n some long is = absurd (omega arith)
step_gap opens at (b ∷ bs) n some long is =
    at_prefix opens at b bs ∙ ap (λ f. prefix_then opens at (b ∷ bs) f (λ more os. outcome_behind more os (passed at b) bs)) is ∙ less_one n opens at b bs long

-- a token comes first
pub step_token : (opens : List Opening) (at : Span) (bs : List ℕ) (x : Lexeme) (n : ℕ) → 0 < length bs → 0 < n → prefix_of (begins_piece opens) bs ≡ token x n → outcome_at opens at bs ≡ with_token (record { lexeme = x; span = at; len = n }) (outcome_at (opens_behind x opens) (after at (take n bs)) (drop n bs))
step_token opens at [] x n some long is = absurd (omega arith)
step_token opens at (b ∷ bs) x n some long is =
    at_prefix opens at b bs ∙ ap (λ f. prefix_then opens at (b ∷ bs) f (λ more os. outcome_behind more os (passed at b) bs)) is
    ∙ ap (with_token (record { lexeme = x; span = at; len = n })) (less_one n (opens_behind x opens) at b bs long)

-- a fault comes first
pub step_fault : (opens : List Opening) (at : Span) (bs : List ℕ) (kind : Kind) (n : ℕ) → 0 < length bs → prefix_of (begins_piece opens) bs ≡ refusal kind n → outcome_at opens at bs ≡ Err (fault kind (after at (take n bs)))
step_fault opens at [] kind n some is = absurd (omega arith)
step_fault opens at (b ∷ bs) kind n some is =
    at_prefix opens at b bs ∙ ap (λ f. prefix_then opens at (b ∷ bs) f (λ more os. outcome_behind more os (passed at b) bs)) is

-- tokens before an outcome
abbrev pub with_tokens : List Lex → Outcome → Outcome
with_tokens ts (Ok us) = Ok (ts ++ us)
with_tokens ts (Err f) = Err f

pub pushed : (ts : List Lex) (t : Lex) (o : Outcome) → with_tokens (ts ++ t ∷ []) o ≡ with_tokens ts (with_token t o)
pushed ts t (Ok us) = ap Ok (append_assoc ts (t ∷ []) us)
pushed ts t (Err f) = refl

pub no_tokens : (o : Outcome) → with_tokens [] o ≡ o
no_tokens (Ok us) = refl
no_tokens (Err f) = refl

-- names of a table are names of a later one
named_later : (before now : List (List ℕ)) → Grows before now → (t : Tok) → IsNamed before t → IsNamed now t
named_later before now grows (tok.Word k) h = tt
named_later before now grows (tok.Sym s) h = tt
named_later before now grows (tok.Ident n) h = (grows n h).0
named_later before now grows (tok.Int z) h = tt
named_later before now grows (tok.Text n) h = (grows n h).0
named_later before now grows (tok.TextHead n) h = (grows n h).0
named_later before now grows (tok.TextMid n) h = (grows n h).0
named_later before now grows (tok.TextTail n) h = (grows n h).0

seen_later : (before now : List (List ℕ)) → Grows before now → (t : Tok) → IsNamed before t → lexeme now t ≡ lexeme before t
seen_later before now grows (tok.Word k) h = refl
seen_later before now grows (tok.Sym s) h = refl
seen_later before now grows (tok.Ident n) h = ap ident (grows n h).1
seen_later before now grows (tok.Int z) h = refl
seen_later before now grows (tok.Text n) h = ap text (grows n h).1
seen_later before now grows (tok.TextHead n) h = ap text_head (grows n h).1
seen_later before now grows (tok.TextMid n) h = ap text_mid (grows n h).1
seen_later before now grows (tok.TextTail n) h = ap text_tail (grows n h).1

pub all_named_later : (before now : List (List ℕ)) → Grows before now → (ts : List Token) → All (HasName before) ts → All (HasName now) ts
all_named_later before now grows ts all = All-weaker (HasName before) (HasName now) (λ t h. named_later before now grows t.tok h) ts all

pub all_seen_later : (before now : List (List ℕ)) → Grows before now → (ts : List Token) → All (HasName before) ts → map (lex now) ts ≡ map (lex before) ts
all_seen_later before now grows [] all = refl
all_seen_later before now grows (t ∷ ts) all =
    let same : lex now t ≡ lex before t = ap (λ (x : Lexeme). let l : Lex = record { lexeme = x; span = t.span; len = t.len } in l) (seen_later before now grows t.tok (All-head (HasName before) t ts all)) in
    let P : Lex → List Lex → List Lex = λ l ls. l ∷ ls in
    ap (λ l. P l (map (lex now) ts)) same ∙ ap (P (lex before t)) (all_seen_later before now grows ts (All-tail (HasName before) t ts all))

pub of_is : (file : ℕ) (bytes : List ℕ) → outcome_of file bytes ≡ outcome_at [] (start_of file) bytes
unfolding outcome_of
of_is file bytes = refl

-- nothing is read yet
pub reads_start : (file : ℕ) (bytes : List ℕ) → with_tokens [] (outcome_at [] (start_of file) bytes) ≡ outcome_of file bytes
reads_start file bytes = no_tokens _ ∙ sym (of_is file bytes)

module _ (before now : List (List ℕ)) (ts : List Token) (opens : List Opening) (at : Span) (bs : List ℕ) (whole : Outcome)
    (grows : Grows before now) (named : All (HasName before) ts) (some : 0 < length bs) (reads : with_tokens (map (lex before) ts) (outcome_at opens at bs) ≡ whole) where
  seen_now : with_tokens (map (lex now) ts) (outcome_at opens at bs) ≡ whole
  seen_now = ap (λ ls. with_tokens ls (outcome_at opens at bs)) (all_seen_later before now grows ts named) ∙ reads

  pub reads_gap : (n : ℕ) → 0 < n → prefix_of (begins_piece opens) bs ≡ gap n → with_tokens (map (lex now) ts) (outcome_at opens (after at (take n bs)) (drop n bs)) ≡ whole
  reads_gap n long is = ap (with_tokens (map (lex now) ts)) (sym (step_gap opens at bs n some long is)) ∙ seen_now

  pub reads_token : (t : Token) (n : ℕ) → t.span ≡ at → t.len ≡ n → 0 < n → prefix_of (begins_piece opens) bs ≡ token (lexeme now t.tok) n → with_tokens (map (lex now) (ts ++ t ∷ [])) (outcome_at (opens_behind (lexeme now t.tok) opens) (after at (take n bs)) (drop n bs)) ≡ whole
  reads_token t n span len long is =
      let rest : Outcome = outcome_at (opens_behind (lexeme now t.tok) opens) (after at (take n bs)) (drop n bs) in
      let l : Lex = record { lexeme = lexeme now t.tok; span = at; len = n } in
      let same : lex now t ≡ l = cc in
      ap (λ ls. with_tokens ls rest) (map_push (lex now) ts t) ∙ pushed (map (lex now) ts) (lex now t) rest
      ∙ ap (λ x. with_tokens (map (lex now) ts) (with_token x rest)) same
      ∙ ap (with_tokens (map (lex now) ts)) (sym (step_token opens at bs (lexeme now t.tok) n some long is)) ∙ seen_now

  pub reads_fault : (kind : Kind) (n : ℕ) → prefix_of (begins_piece opens) bs ≡ refusal kind n → Err (fault kind (after at (take n bs))) ≡ whole
  reads_fault kind n is = ap (with_tokens (map (lex now) ts)) (sym (step_fault opens at bs kind n some is)) ∙ seen_now

-- everything is read
pub reads_end : (names : List (List ℕ)) (ts : List Token) (opens : List Opening) (at : Span) (bs : List ℕ) (whole : Outcome) → length bs ≡ 0 → with_tokens (map (lex names) ts) (outcome_at opens at bs) ≡ whole → whole ≡ Ok (map (lex names) ts)
reads_end names ts opens at [] whole none reads = sym (ap (with_tokens (map (lex names) ts)) (sym (outcome_end opens at)) ∙ reads) ∙ ap Ok (append-nil _)
reads_end names ts opens at (b ∷ bs) whole none reads = absurd (omega arith)
