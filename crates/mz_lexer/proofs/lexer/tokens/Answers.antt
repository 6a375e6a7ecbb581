use Rattle.std.proofs.Common.{◌≡◌, ◌<◌, List, ℕ, [], ◌∷◌, ◌++◌, length, sym, ap, subst, ◌∙◌, arith, refl}
use Rattle.std.specs.Prelude.{Err, ◌==◌, true, false}
use Rattle.std.proofs.lemmas.List.Elements.{All-push, All-nil, All-same}
use Rattle.std.proofs.lemmas.Bool.Decides.{nat_tests}
use Rattle.mz_lexer.specs.declared.token.Token.{Token}
use Rattle.mz_lexer.specs.declared.found.Prefix.TheVariants as shown
use Rattle.mz_base.proofs.Tables.{grows_on}
use Rattle.mz_lexer.specs.Steps.{gap, token, refusal, prefix_of, outcome_of}
use Rattle.mz_lexer.specs.Lexemes.{begins_piece, opens_behind}
use Rattle.mz_base.specs.Faults.{start_of}
use Rattle.mz_lexer.specs.Views.{lexeme, prefix, Fits, HasName, IsNamed, IsPrefixNamed}
use Rattle.mz_lexer.specs.Lexes.{Lexed}
use Rattle.mz_lexer.proofs.Lexing.{sound}
use Rattle.mz_lexer.proofs.Steps.{reads_start, reads_gap, reads_token, reads_fault, reads_end, all_named_later}
use Rattle.mz_lexer.proofs.lexer.tokens.Goals as goal

some_left : (bs : List ℕ) → (length bs == 0) ≡ false → 0 < length bs
some_left [] e = cc
some_left (b ∷ bs) e = omega arith

none_left : (bs : List ℕ) → (length bs == 0) ≡ true → length bs ≡ 0
none_left [] e = refl
none_left (b ∷ bs) e = grind (arith, nat_tests)

pub loop-cursor-init : goal.loop-cursor-init
loop-cursor-init c = record {
  reads = rw (c.start.ensures, c.new-tokens.ensures.items, c.new-opens.ensures) (reads_start c.args.file c.args.bytes.now);
  named = All-same (HasName c.args.names.now) _ [] c.new-tokens.ensures.items (All-nil (HasName c.args.names.now));
  grows = λ n below. (below, refl);
}

pub returns-in-Refusal-clause-fault : goal.returns-in-Refusal-clause-fault
returns-in-Refusal-clause-fault c =
    let bs = c.loop-cursor.cursor.rest.now in
    let opens = c.loop-cursor.opens in
    let some : 0 < length bs = some_left bs (sym c.is_empty.ensures ∙ c.loop-cursor-test.true) in
    let is : prefix_of (begins_piece opens) bs ≡ refusal c.in-Refusal.kind c.in-Refusal.len = ap (λ t. prefix_of t bs) (sym c.begins_piece-later.ensures) ∙ sym c.in_ok-kind.ensures.shown ∙ ap (prefix c.prefix_of.new.names) c.in-Refusal.is in
    let same = reads_fault c.loop-cursor.names c.prefix_of.new.names c.loop-cursor.tokens.items opens c.loop-cursor.cursor.at bs (outcome_of c.args.file c.args.bytes.now) c.prefix_of.ensures.grows c.loop-cursor.invariant.named some c.loop-cursor.invariant.reads c.in-Refusal.kind c.in-Refusal.len is in
    subst (Lexed [] (start_of c.args.file) c.args.bytes.now) (sym same ∙ ap Err (sym c.fault-fault.ensures)) (sound c.args.file c.args.bytes.now)

pub loop-cursor-preserved-in-Gap : goal.loop-cursor-preserved-in-Gap
loop-cursor-preserved-in-Gap c =
    let bs = c.loop-cursor.cursor.rest.now in
    let opens = c.loop-cursor.opens in
    let now = c.prefix_of.new.names in
    let some : 0 < length bs = some_left bs (sym c.is_empty.ensures ∙ c.loop-cursor-test.true) in
    let is : prefix_of (begins_piece opens) bs ≡ gap c.in-Gap.len = ap (λ t. prefix_of t bs) (sym c.begins_piece-later.ensures) ∙ sym c.in_ok-kind.ensures.shown ∙ ap (prefix now) c.in-Gap.is in
    let fits : Fits (length bs) (shown.Gap c.in-Gap.len) = subst (Fits (length bs)) c.in-Gap.is c.in_ok-kind.ensures.fits in
    record {
      reads = rw (c.pass.ensures.at, c.pass.ensures.rest) (reads_gap c.loop-cursor.names now c.loop-cursor.tokens.items opens c.loop-cursor.cursor.at bs (outcome_of c.args.file c.args.bytes.now) c.prefix_of.ensures.grows c.loop-cursor.invariant.named some c.loop-cursor.invariant.reads c.in-Gap.len fits.0 is);
      named = all_named_later c.loop-cursor.names now c.prefix_of.ensures.grows c.loop-cursor.tokens.items c.loop-cursor.invariant.named;
      grows = grows_on c.args.names.now c.loop-cursor.names now c.loop-cursor.invariant.grows c.prefix_of.ensures.grows;
    }

pub loop-cursor-preserved : goal.loop-cursor-preserved
loop-cursor-preserved c =
    let bs = c.loop-cursor.cursor.rest.now in
    let opens = c.loop-cursor.opens in
    let now = c.prefix_of.new.names in
    let n = c.in-Token.len in
    let t : Token = record { tok = c.in-Token.tok; span = c.loop-cursor.cursor.at; len = n } in
    let some : 0 < length bs = some_left bs (sym c.is_empty.ensures ∙ c.loop-cursor-test.true) in
    let is : prefix_of (begins_piece opens) bs ≡ token (lexeme now t.tok) n = ap (λ b. prefix_of b bs) (sym c.begins_piece-later.ensures) ∙ sym c.in_ok-kind.ensures.shown ∙ ap (prefix now) c.in-Token.is in
    let fits : Fits (length bs) (shown.Token c.in-Token.tok n) = subst (Fits (length bs)) c.in-Token.is c.in_ok-kind.ensures.fits in
    let named : IsNamed now c.in-Token.tok = subst (IsPrefixNamed now) c.in-Token.is c.in_ok-kind.ensures.named in
    let pushed : c.push.new.self.items ≡ c.loop-cursor.tokens.items ++ t ∷ [] = c.in_ok-push-in-Token.ensures.items in
    let opened : c.pass-in-Token.new.self ≡ opens_behind (lexeme now t.tok) opens = c.in_ok-pass-in-Token.ensures now in
    let reads = reads_token c.loop-cursor.names now c.loop-cursor.tokens.items opens c.loop-cursor.cursor.at bs (outcome_of c.args.file c.args.bytes.now) c.prefix_of.ensures.grows c.loop-cursor.invariant.named some c.loop-cursor.invariant.reads t n refl refl fits.0 is in
    record {
      reads = rw (pushed, opened, c.pass-in-Token-2.ensures.at, c.pass-in-Token-2.ensures.rest) reads;
      named = All-same (HasName now) _ _ pushed (All-push (HasName now) c.loop-cursor.tokens.items t (all_named_later c.loop-cursor.names now c.prefix_of.ensures.grows c.loop-cursor.tokens.items c.loop-cursor.invariant.named) named);
      grows = grows_on c.args.names.now c.loop-cursor.names now c.loop-cursor.invariant.grows c.prefix_of.ensures.grows;
    }

pub returns-clause-read : goal.returns-clause-read
returns-clause-read c =
    let read = reads_end c.loop-cursor.names c.loop-cursor.tokens.items c.loop-cursor.opens c.loop-cursor.cursor.at c.loop-cursor.cursor.rest.now _ (none_left _ (sym c.is_empty.ensures ∙ c.loop-cursor-test.false)) c.loop-cursor.invariant.reads in
    subst (Lexed [] (start_of c.args.file) c.args.bytes.now) read (sound c.args.file c.args.bytes.now)
