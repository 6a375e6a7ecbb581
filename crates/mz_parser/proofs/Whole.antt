-- What a whole file is read to, from what its reader gives.
use Rattle.std.proofs.Common.{◌≡◌, ℕ, List, [], ◌∷◌, ◌++◌, map, ◌≤◌, refl, sym, ap, ◌∙◌, append-nil, subst, arith}
use Rattle.std.specs.Prelude.{Ok, Err, Result, Vec, OnOk, IfOk, All}
use Rattle.std.proofs.Math.Nat.{max-le}
use Rattle.std.proofs.lemmas.List.Elements.{All-head, All-tail}
use Rattle.mz_base.specs.declared.limit.TheConstants.{OPEN_LIMIT}
use Rattle.mz_tree.specs.declared.height.TheConstants.{HEIGHT_LIMIT}
use Rattle.mz_base.specs.declared.fault.Span.{Span}
use Rattle.mz_base.specs.declared.stop.Stop.{Stop}
use Rattle.mz_base.specs.declared.stop.Stop.TheVariants.{Refused, Memory}
use Rattle.mz_lexer.specs.declared.token.Token.{Token}
use Rattle.mz_tree.specs.declared.item.Item.{Item}
use Rattle.mz_tree.specs.Height.{most, most_in_a_file}
use Rattle.mz_tree.specs.Items.{ItemTree, item, item_height, items_height}
use Rattle.mz_grammar.specs.RulesPromise.{Gives, IsLongestPrefix}
use Rattle.mz_grammar.specs.Model.{rule}
use Rattle.mz_grammar.specs.Parts
use Rattle.mz_grammar.specs.Reading.{reads}
use Rattle.mz_grammar.proofs.Viability.{answers}
use Rattle.mz_grammar_ebnf.specs.ModelSyntax.{DerivesModel}
use Rattle.mz_grammar_ebnf.proofs.ModelMeans.{models_derived}
use Rattle.mz_grammar_ebnf.proofs.Heights.{items_are_high}
use Rattle.mz_parser.specs.Model.{IsModel, IsItems}

-- a prefix that nothing follows is the whole file
all_tokens : (tokens new : List Token) (is : List ItemTree) → new ≡ [] → IsLongestPrefix rule Parts.file OPEN_LIMIT tokens new is → IsModel tokens is
all_tokens tokens new is e f = subst (λ ts. IsModel ts is) (sym (f.split ∙ ap (λ l. f.prefix ++ l) e ∙ append-nil f.prefix)) f.reads

-- the items that lie in memory
abbrev trees : {Z : Type 0} → Vec Item Z → List ItemTree
trees v = map item v.items

answered : {Z : Type 0} (end : Span) (tokens new : List Token) (result : Result (Vec Item Z) Stop) → OnOk result (new ≡ []) → Gives trees end new result (reads Parts.file OPEN_LIMIT tokens) → IsItems end tokens result
answered {Z = Z} end tokens new (Ok items) e g = all_tokens tokens new (map item items.items) e (answers {X = Vec Item Z} Parts.file trees OPEN_LIMIT end tokens new (Ok items) refl g)
answered {Z = Z} end tokens new (Err (Refused f)) e g = answers {X = Vec Item Z} Parts.file trees OPEN_LIMIT end tokens new (Err (Refused f)) refl g
answered {Z = Z} end tokens new (Err Memory) e g = tt

-- from the cursor before the first token
pub whole : {Z : Type 0} (end at : Span) (tokens ts new : List Token) (room : ℕ) (result : Result (Vec Item Z) Stop) → at ≡ end → ts ≡ tokens → room ≡ OPEN_LIMIT → OnOk result (new ≡ []) → Gives trees at new result (reads Parts.file room ts) → IsItems end tokens result
whole end at tokens ts new room result ea et er e g = answered end tokens new result e
    (subst (λ r. Gives trees end new result (reads Parts.file r tokens)) er
    (subst (λ l. Gives trees end new result (reads Parts.file room l)) et
    (subst (λ a. Gives trees a new result (reads Parts.file room ts)) ea g)))

-- the lines of the EBNF derive the items of a file
pub derived : {Z : Type 0} (end : Span) (tokens : List Token) (result : Result (Vec Item Z) Stop) → IsItems end tokens result → IfOk result (λ items. DerivesModel OPEN_LIMIT tokens (map item items.items))
derived end tokens (Ok items) r = models_derived OPEN_LIMIT tokens (map item items.items) r
derived end tokens (Err s) r = tt

-- the items that lie in memory are at most so high
items_high : (b : ℕ) (is : List Item) → All (λ i. item_height i ≤ b) (map item is) → items_height is ≤ b
items_high b [] h = omega arith
items_high b (i ∷ is) h = max-le (All-head (λ i. item_height i ≤ b) (item i) (map item is) h) (items_high b is (All-tail (λ i. item_height i ≤ b) (item i) (map item is) h))

pub bounded : {Z : Type 0} (tokens : List Token) (result : Result (Vec Item Z) Stop) → IfOk result (λ items. DerivesModel OPEN_LIMIT tokens (map item items.items)) → IfOk result (λ items. items_height items.items ≤ HEIGHT_LIMIT)
bounded tokens (Ok items) d = rw most_in_a_file at (items_high (most OPEN_LIMIT) items.items (items_are_high OPEN_LIMIT tokens (map item items.items) d))
bounded tokens (Err s) d = tt
