-- Lists that are read in a loop: one step, and the end.
use Rattle.std.proofs.Common.{◌≡◌, ℕ, List, [], ◌∷◌, ◌++◌, map, Bool, true, false, Option, refl, sym, ap, ◌∙◌, append-nil}
use Rattle.std.specs.Prelude.{Ok, Some, None, if◌then◌else◌, is_some}
use Rattle.std.proofs.lemmas.List.{map-append}
use Rattle.mz_lexer.specs.declared.token.Token.{Token}
use Rattle.mz_lexer.specs.declared.token.Tok.{Tok}
use Rattle.mz_lexer.specs.declared.token.Symbol.TheVariants.{SRParen, SRBrace, SSemi}
use Rattle.mz_tree.specs.Tree.{Declaration}
use Rattle.mz_tree.specs.Items.{ItemTree}
use Rattle.mz_grammar.specs.Tokens.{tok_at, behind}
use Rattle.mz_grammar.specs.Look.{is_sym}
use Rattle.mz_grammar.specs.Rules.{syntax}
use Rattle.mz_grammar.specs.RulesReading.{Read, Reader, on, stuck, listed, with_prefix, ◌>>=◌}
use Rattle.mz_grammar.proofs.Steps.{same_on, same_then, prefix_prefix}
use Rattle.mz_grammar.specs.declared.list.Closing.TheVariants.{Paren}
use Rattle.mz_grammar.specs.Parts
use Rattle.mz_grammar.specs.Reading.{reads}
use Rattle.mz_grammar.specs.Steps.{separator_at}
use Rattle.mz_grammar.proofs.ItemEquations.{param_list_reads, case_names_reads, file_reads, more_items_reads}
use Rattle.mz_parser.specs.Model.{semicolon_at}

-- A test, a token and a reading that came out so.

passed : {A : Type 0} (b : Bool) (p q : A) → b ≡ true → (if b then p else q) ≡ p
passed true p q e = refl
passed false p q e = absurd (cc)

failed : {A : Type 0} (b : Bool) (p q : A) → b ≡ false → (if b then p else q) ≡ q
failed true p q e = absurd (cc)
failed false p q e = refl

found : {A B : Type 0} (o : Option A) (p q : B) → is_some o ≡ true → on o p (λ x. q) ≡ q
found None p q e = absurd (cc)
found (Some x) p q e = refl

missing : {A B : Type 0} (o : Option A) {p : B} (f : A → B) → is_some o ≡ false → on o p f ≡ p
missing None f e = refl
missing (Some x) f e = absurd (cc)

read_then : {A B : Type 0} (o : Read A) (x : A) (ts : List Token) (f : A × List Token → Read B) → o ≡ Ok (x, ts) → (o >>= f) ≡ f (x, ts)
read_then o x ts f e = ap (λ r. r >>= f) e

-- what was read before, with one more element
pub more_prefix : {A B : Type 0} (f : B → A) (xs ys : List B) (x : B) (o p : Read (List A)) → ys ≡ xs ++ (x ∷ []) → p ≡ with_prefix (f x ∷ []) o → with_prefix (map f ys) o ≡ with_prefix (map f xs) p
more_prefix f xs ys x o p e h = ap (λ l. with_prefix l o) (ap (map f) e ∙ map-append f xs (x ∷ [])) ∙ sym (prefix_prefix (map f xs) (f x ∷ []) o) ∙ ap (λ r. with_prefix (map f xs) r) (sym h)

-- it is the last one
pub last_prefix : {A B : Type 0} (f : B → A) (xs ys : List B) (x : B) (ts : List Token) (p : Read (List A)) → ys ≡ xs ++ (x ∷ []) → p ≡ Ok (f x ∷ [], ts) → with_prefix (map f xs) p ≡ Ok (map f ys, ts)
last_prefix f xs ys x ts p e h = ap (λ r. with_prefix (map f xs) r) h ∙ ap (λ l. Ok (l, ts)) (sym (ap (map f) e ∙ map-append f xs (x ∷ [])))

-- nothing more follows
pub prefix_alone : {A : Type 0} (xs : List A) (ts : List Token) (p : Read (List A)) → p ≡ Ok ([], ts) → with_prefix xs p ≡ Ok (xs, ts)
prefix_alone xs ts p h = ap (λ r. with_prefix xs r) h ∙ ap (λ l. Ok (l, ts)) (append-nil xs)

-- after an element, by what its separator says
goes_on : {A : Type 0} (separator : Reader Bool) (next : Reader (List A)) (x : A) (ts us : List Token) (more : Bool) → separator ts ≡ Ok (more, us) → more ≡ true → listed separator next x ts ≡ with_prefix (x ∷ []) (next us)
goes_on separator next x ts us more e h = read_then (separator ts) more us _ e ∙ passed more _ _ h

ends : {A : Type 0} (separator : Reader Bool) (next : Reader (List A)) (x : A) (ts us : List Token) (more : Bool) → separator ts ≡ Ok (more, us) → more ≡ false → listed separator next x ts ≡ Ok (x ∷ [], us)
ends separator next x ts us more e h = read_then (separator ts) more us _ e ∙ failed more _ _ h

-- Parameters

param_then : (room : ℕ) (ts us : List Token) (o : Option Tok) (closed : Bool) (d : Declaration) → o ≡ tok_at ts → closed ≡ is_sym SRParen o → closed ≡ false → reads Parts.param room ts ≡ Ok (d, us)
    → reads Parts.param_list room ts ≡ listed (separator_at Paren) (reads Parts.param_list room) d us
param_then room ts us o closed d at test e h = param_list_reads room ts ∙ failed (is_sym SRParen (tok_at ts)) _ _ (sym (ap (is_sym SRParen) at) ∙ sym test ∙ e) ∙ read_then (reads Parts.param room ts) d us _ h

pub param_more : (room r : ℕ) (ts us vs : List Token) (o : Option Tok) (closed more : Bool) (d : Declaration) → r ≡ room → o ≡ tok_at ts → closed ≡ is_sym SRParen o → closed ≡ false → reads Parts.param room ts ≡ Ok (d, us) → separator_at Paren us ≡ Ok (more, vs) → more ≡ true
    → reads Parts.param_list room ts ≡ with_prefix (d ∷ []) (reads Parts.param_list r vs)
param_more room r ts us vs o closed more d same at test e h s m = param_then room ts us o closed d at test e h
    ∙ goes_on (separator_at Paren) (reads Parts.param_list room) d us vs more s m ∙ ap (λ q. with_prefix (d ∷ []) (reads Parts.param_list q vs)) (sym same)

pub param_last : (room : ℕ) (ts us vs : List Token) (o : Option Tok) (closed more : Bool) (d : Declaration) → o ≡ tok_at ts → closed ≡ is_sym SRParen o → closed ≡ false → reads Parts.param room ts ≡ Ok (d, us) → separator_at Paren us ≡ Ok (more, vs) → more ≡ false
    → reads Parts.param_list room ts ≡ Ok (d ∷ [], vs)
param_last room ts us vs o closed more d at test e h s m = param_then room ts us o closed d at test e h ∙ ends (separator_at Paren) (reads Parts.param_list room) d us vs more s m

pub no_param : (room : ℕ) (ts vs : List Token) (o : Option Tok) (closed : Bool) → o ≡ tok_at ts → closed ≡ is_sym SRParen o → closed ≡ true → vs ≡ behind ts → reads Parts.param_list room ts ≡ Ok ([], vs)
no_param room ts vs o closed at test e rest = param_list_reads room ts ∙ passed (is_sym SRParen (tok_at ts)) _ _ (sym (ap (is_sym SRParen) at) ∙ sym test ∙ e) ∙ ap (λ l. Ok ([], l)) (sym rest)

-- The names of cases

pub no_case : (room : ℕ) (ts vs : List Token) (o : Option Tok) (closed : Bool) → o ≡ tok_at ts → closed ≡ is_sym SRBrace o → closed ≡ true → vs ≡ behind ts → reads Parts.case_names room ts ≡ Ok ([], vs)
no_case room ts vs o closed at test e rest = case_names_reads room ts ∙ passed (is_sym SRBrace (tok_at ts)) _ _ (sym (ap (is_sym SRBrace) at) ∙ sym test ∙ e) ∙ ap (λ l. Ok ([], l)) (sym rest)

-- The items of a file, each with the semicolon after it

-- the items after one
behind_item : (i : ItemTree) (room : ℕ) (ts : List Token) → with_prefix (i ∷ []) (reads Parts.more_items room ts) ≡ (semicolon_at ts >>= λ u. with_prefix (i ∷ []) (reads Parts.file room u.1))
behind_item i room [] = ap (λ o. with_prefix (i ∷ []) o) (more_items_reads room [] ∙ sym (file_reads room []))
behind_item i room (t ∷ us) = ap (λ o. with_prefix (i ∷ []) o) (more_items_reads room (t ∷ us)) ∙ by_symbol (is_sym SSemi (tok_at (t ∷ us)))
  where
    by_symbol : (b : Bool) → with_prefix (i ∷ []) (if b then reads Parts.file room us else stuck syntax (t ∷ us))
        ≡ ((if b then Ok (tt, us) else stuck {A = Unit {0}} syntax (t ∷ us)) >>= λ u. with_prefix (i ∷ []) (reads Parts.file room u.1))
    by_symbol true = refl
    by_symbol false = refl

-- a file is empty, or an item with its semicolon and a file
pub items_reads : (room : ℕ) (ts : List Token) → reads Parts.file room ts ≡ on (tok_at ts) (Ok ([], ts)) (λ t. reads Parts.item room ts >>= λ i. semicolon_at i.1 >>= λ u. with_prefix (i.0 ∷ []) (reads Parts.file room u.1))
items_reads room ts = file_reads room ts ∙ same_on (tok_at ts) _ _ refl (λ t. same_then (reads Parts.item room ts) _ _ (λ i. behind_item i.0 room i.1))

pub item_more : (room r : ℕ) (ts us vs : List Token) (o : Option Tok) (some : Bool) (i : ItemTree) → r ≡ room → o ≡ tok_at ts → some ≡ is_some o → some ≡ true → reads Parts.item room ts ≡ Ok (i, us) → semicolon_at us ≡ Ok (tt, vs)
    → reads Parts.file room ts ≡ with_prefix (i ∷ []) (reads Parts.file r vs)
item_more room r ts us vs o some i same at test e h s = items_reads room ts ∙ found (tok_at ts) _ _ (sym (ap is_some at) ∙ sym test ∙ e) ∙ read_then (reads Parts.item room ts) i us _ h
    ∙ read_then (semicolon_at us) tt vs _ s ∙ ap (λ q. with_prefix (i ∷ []) (reads Parts.file q vs)) (sym same)

pub no_item : (room : ℕ) (ts : List Token) (o : Option Tok) (some : Bool) → o ≡ tok_at ts → some ≡ is_some o → some ≡ false → reads Parts.file room ts ≡ Ok ([], ts)
no_item room ts o some at test e = items_reads room ts ∙ missing (tok_at ts) _ (sym (ap is_some at) ∙ sym test ∙ e)
