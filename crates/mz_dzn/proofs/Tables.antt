-- A data file is read alike by a table of names and by one that it grew to.
use Rattle.std.proofs.Common.{◌≡◌, ℕ, zero, suc, ◌≤◌, ◌<◌, List, [], ◌∷◌, ◌++◌, length, Option, refl, sym, ap, ◌∙◌, subst, arith}
use Rattle.std.specs.Prelude.{Ok, Err, Some, None, All, if◌then◌else◌}
use Rattle.std.proofs.lemmas.List.{length-append}
use Rattle.std.proofs.lemmas.List.Elements.{All-head, All-tail, All-weaker}
use Rattle.mz_base.specs.Names.{Grows}
use Rattle.mz_lexer.specs.declared.token.Token.{Token}
use Rattle.mz_lexer.specs.declared.token.Tok.{Tok}
use Rattle.mz_lexer.specs.declared.token.Tok.TheVariants as tok
use Rattle.mz_lexer.specs.declared.token.Symbol.TheVariants.{SLBrack, SLRows, SEq, SSemi}
use Rattle.mz_lexer.specs.Views.{IsNamed, HasName}
use Rattle.mz_tree.specs.Tree.{Name}
use Rattle.mz_tree.specs.Data.{Given}
use Rattle.mz_grammar.specs.Tokens.{tok_at, behind, place}
use Rattle.mz_grammar.specs.Look.{is_sym, is_symbol}
use Rattle.mz_grammar.specs.Rules.{syntax}
use Rattle.mz_grammar.specs.RulesReading.{Read, stuck, ◌>>=◌, on, mapped, with_prefix, step}
use Rattle.mz_grammar.proofs.Steps.{same_if, same_on}
use Rattle.mz_grammar.specs.Tests.{ident_in, ident_of, is_end}
use Rattle.mz_grammar.specs.Data.{Dimensions, Placed, rule, dimensions_in, dimensions_of, reads, file, item, datum, named}
use Rattle.mz_dzn.proofs.Equations.{by_rule, datum_reads, item_reads}
use Rattle.mz_dzn.proofs.Answer.{Outcome, outcome}

-- what holds of each element holds of those after a prefix
all_behind : {A : Type 0} (P : A → Type 0) (prefix rest : List A) → All P (prefix ++ rest) → All P rest
all_behind P [] rest all = all
all_behind P (x ∷ prefix) rest all = all_behind P prefix rest (All-tail P x (prefix ++ rest) all)

-- the same, where the one that is told makes it so
same_told : {A B : Type 0} (o : Option A) (p : B) (f g : A → B) → ((x : A) → o ≡ Some x → f x ≡ g x) → on o p f ≡ on o p g
same_told None p f g h = refl
same_told (Some x) p f g h = h x refl

-- what two tables mean by the names of the tokens is the same
module _ (d e : Dimensions) where
  abbrev Agree : Token → Type 0
  Agree t = (n : Name) → ident_of (Some t.tok) ≡ Some n → d n ≡ e n

  behind_agree : (ts : List Token) → All Agree ts → All Agree (behind ts)
  behind_agree [] all = all
  behind_agree (t ∷ ts) all = All-tail Agree t ts all

  datum_same : (room : ℕ) (ts : List Token) → All Agree ts → reads (datum d) room ts ≡ reads (datum e) room ts
  datum_same room [] all = datum_reads d room [] ∙ sym (datum_reads e room [])
  datum_same room (t ∷ ts) all = datum_reads d room (t ∷ ts)
      ∙ same_if (is_symbol SLBrack t.tok) refl (same_if (is_symbol SLRows t.tok) refl
      (same_told (ident_in t.tok) _ _ _ (λ n is. ap (λ o. mapped {B = Placed} (λ v. (t.span, v)) (reads (named o n) room ts)) (All-head Agree t ts all n is))))
      ∙ sym (datum_reads e room (t ∷ ts))

  item_same : (room : ℕ) (ts : List Token) → All Agree ts → reads (item d) room ts ≡ reads (item e) room ts
  item_same room ts all = item_reads d room ts
      ∙ same_on (ident_of (tok_at ts)) _ _ refl (λ n. same_if (is_sym SEq (tok_at (behind ts)))
      (ap (λ o. mapped {B = Given} (λ v. record { name = n; span = place ts; at = v.0; value = v.1 }) o) (datum_same room (behind (behind ts)) (behind_agree (behind ts) (behind_agree ts all)))) refl)
      ∙ sym (item_reads e room ts)

  -- what is read after an item
  abbrev rest : Dimensions → ℕ → Given × List Token → Read (List Given)
  rest d room i = if is_end (tok_at i.1) then Ok (i.0 ∷ [], i.1) else (if is_sym SSemi (tok_at i.1) then with_prefix (i.0 ∷ []) (reads (file d) room (behind i.1)) else stuck syntax i.1)

  abbrev Again : ℕ → ℕ → Type 0
  Again k room = (vs : List Token) → length vs ≤ k → All Agree vs → reads (file d) room vs ≡ reads (file e) room vs

  rest_same : (k room : ℕ) (i : Given) (us : List Token) → Again k room → length us ≤ suc k → All Agree us → rest d room (i, us) ≡ rest e room (i, us)
  rest_same k room i [] again below all = refl
  rest_same k room i (u ∷ us) again below all = same_if (is_symbol SSemi u.tok) (ap (with_prefix (i ∷ [])) (again us (omega arith) (All-tail Agree u us all))) refl

  items_same : (k room : ℕ) (ts : List Token) (o : Read Given) → Outcome (item e) room ts o → Again k room → length ts ≤ suc k → All Agree ts → (o >>= rest d room) ≡ (o >>= rest e room)
  items_same k room ts (Ok i) out again below all =
      let split : ts ≡ out.0 ++ i.1 = out.1 in
      let sum = length-append out.0 i.1 in
      let same : length ts ≡ length (out.0 ++ i.1) = ap length split in
      rest_same k room i.0 i.1 again (omega arith) (all_behind Agree out.0 i.1 (subst (All Agree) split all))
  items_same k room ts (Err s) out again below all = refl

  file_same : (k room : ℕ) → Again k room
  unfolding step rule
  file_same k room [] below all = by_rule (file d) room [] ∙ sym (by_rule (file e) room [])
  file_same zero room (t ∷ ts) below all = absurd (omega arith)
  file_same (suc k) room (t ∷ ts) below all = by_rule (file d) room (t ∷ ts)
      ∙ ap (λ o. o >>= rest d room) (item_same room (t ∷ ts) all)
      ∙ items_same k room (t ∷ ts) (reads (item e) room (t ∷ ts)) (outcome (item e) room (t ∷ ts) _ refl) (file_same k room) below all
      ∙ sym (by_rule (file e) room (t ∷ ts))

-- a table that grew means the same by each name that it had
module _ (old new : List (List ℕ)) (grows : Grows old new) where
  same_dimensions : (n : Name) → n < length old → dimensions_of old n ≡ dimensions_of new n
  unfolding dimensions_of
  same_dimensions n below = ap dimensions_in (sym (grows n below).1)

  agree : (t : Tok) → IsNamed old t → (n : Name) → ident_of (Some t) ≡ Some n → dimensions_of old n ≡ dimensions_of new n
  agree (tok.Ident m) h n is = let same : m ≡ n = cc in subst (λ k. dimensions_of old k ≡ dimensions_of new k) same (same_dimensions m h)
  agree _ h n is = absurd (cc)

  pub reads_later : (room : ℕ) (tokens : List Token) → All (HasName old) tokens → reads (file (dimensions_of old)) room tokens ≡ reads (file (dimensions_of new)) room tokens
  reads_later room tokens all = file_same (dimensions_of old) (dimensions_of new) (length tokens) room tokens (omega arith)
      (All-weaker (HasName old) (Agree (dimensions_of old) (dimensions_of new)) (λ t h. agree t.tok h) tokens all)
