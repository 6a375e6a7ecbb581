-- The names and the places of tokens, and those of a data item.
use Rattle.std.specs.Prelude.{◌≡◌, List, Option, Some, None, All, Contains}
use Rattle.mz_base.specs.declared.fault.Span.{Span}
use Rattle.mz_lexer.specs.declared.token.Token.{Token}
use Rattle.mz_lexer.specs.declared.token.Tok.{Tok}
use Rattle.mz_lexer.specs.declared.token.Tok.TheVariants.{Ident, Text, TextHead, TextMid, TextTail}
use Rattle.mz_tree.specs.Tree.{Name, Declaration, declaration}
use Rattle.mz_tree.specs.Items.{ItemTree, declare}
use Rattle.mz_tree.specs.Data.{Given}
use Rattle.mz_tree.specs.Named.{names_in}

abbrev pub name_of : Tok → Option Name
name_of (Ident n) = Some n
name_of (Text n) = Some n
name_of (TextHead n) = Some n
name_of (TextMid n) = Some n
name_of (TextTail n) = Some n
name_of _ = None

-- one of the tokens has this name
abbrev pub IsNameOf : List Token → Name → Type 0
IsNameOf tokens n = (t : Token) × Contains tokens t × (name_of t.tok ≡ Some n)

-- one of the tokens is an identifier with this name
abbrev pub IsIdentifierOf : List Token → Name → Type 0
IsIdentifierOf tokens n = (t : Token) × Contains tokens t × (t.tok ≡ Ident n)

abbrev pub declared_name : Declaration → Name
declared_name (declaration t n s e) = n

-- so it is of the name that the item declares, where it is a declaration
abbrev pub DeclaresIdentifier : List Token → ItemTree → Type 0
DeclaresIdentifier tokens (declare d) = IsIdentifierOf tokens (declared_name d)
DeclaresIdentifier tokens _ = Unit {0}

-- one of the tokens is at this place
abbrev pub IsPlaceOf : List Token → Span → Type 0
IsPlaceOf tokens s = (t : Token) × Contains tokens t × (t.span ≡ s)

-- every name and every place in a data item is of a kind
abbrev pub OfGiven : (Name → Type 0) → (Span → Type 0) → Given → Type 0
OfGiven Named Placed g = Named g.name × Placed g.span × Placed g.at × All Named (names_in g.value)
