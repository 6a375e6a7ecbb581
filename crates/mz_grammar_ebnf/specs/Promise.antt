-- What holds of the grammars and of the lines of their EBNF.
use Rattle.std.specs.Prelude.{◌≡◌, ◌<◌, ◌≤◌, ℕ, suc, Bool, List, [], Some, All}
use Rattle.mz_base.specs.declared.fault.Span.{Span}
use Rattle.mz_lexer.specs.declared.token.Token.{Token}
use Rattle.mz_tree.specs.Tree.{Name, Tree, Declaration, Written}
use Rattle.mz_tree.specs.Data.{Given}
use Rattle.mz_grammar.specs.Tokens.{place_or}
use Rattle.mz_grammar.specs.Rules.{Reason, left_out}
use Rattle.mz_grammar.specs.RulesPromise.{IsWithin, IsLongestPrefix, IsFault}
use Rattle.mz_grammar.specs.Data.{Dimensions, dimensions_of, rule, file}
use Rattle.mz_tree.specs.Items.{ItemTree, item_height}
use Rattle.mz_tree.specs.Height.{most}
use Rattle.mz_tree.specs.Kinds.{OfItem}
use Rattle.mz_grammar.specs.Parts as model_part
use Rattle.mz_grammar.specs.Model as model
use Rattle.mz_grammar_ebnf.specs.DataSyntax.{DerivesFile}
use Rattle.mz_grammar_ebnf.specs.ModelSyntax.{Ending, Derives, DerivesModel, expr, decl, type, marks, anns}
use Rattle.mz_grammar_ebnf.specs.LeftOut.{IsLeftOut}
use Rattle.mz_grammar_ebnf.specs.TokenParts.{IsNameOf, IsPlaceOf, DeclaresIdentifier, OfGiven}

-- an array call has a dimension at least
abbrev pub ArePositive : Dimensions → Type 0
ArePositive dimensions = (n : Name) (m : ℕ) → dimensions n ≡ Some m → 0 < m

-- What the rules take of a data file, where this many tokens may be open at once, the EBNF derives with no more open.
abbrev pub DataFilesAreDerived : Type 0
DataFilesAreDerived = (names : List (List ℕ)) (room : ℕ) (tokens : List Token) (items : List Given) → IsWithin rule (file (dimensions_of names)) room tokens items → DerivesFile (dimensions_of names) room tokens items

-- So it is where a whole file is read.
abbrev pub DataItemsAreDerived : Type 0
DataItemsAreDerived = (names : List (List ℕ)) (room : ℕ) (tokens : List Token) (items : List Given) → IsLongestPrefix rule (file (dimensions_of names)) room tokens [] items → DerivesFile (dimensions_of names) room tokens items

-- The rules take all that the EBNF derives.
abbrev pub DerivedDataFilesAreTaken : Type 0
DerivedDataFilesAreTaken = (names : List (List ℕ)) (room : ℕ) (tokens : List Token) (items : List Given) → DerivesFile (dimensions_of names) room tokens items → IsWithin rule (file (dimensions_of names)) room tokens items

-- So no file that the EBNF derives is refused.
abbrev pub NoDerivedDataFileIsRefused : Type 0
NoDerivedDataFileIsRefused = (names : List (List ℕ)) (room : ℕ) (tokens : List Token) (items : List Given) (why : Reason) (end at : Span) → DerivesFile (dimensions_of names) room tokens items → IsFault rule (file (dimensions_of names)) room why end tokens at → ⊥

-- And a list of tokens is at most one data file by these lines.
abbrev pub DerivesOneDataFile : Type 0
DerivesOneDataFile = (names : List (List ℕ)) (k m : ℕ) (tokens : List Token) (items others : List Given) → DerivesFile (dimensions_of names) k tokens items → DerivesFile (dimensions_of names) m tokens others → items ≡ others

-- What is derived with this many tokens open at once is derived where more may be open.
abbrev pub MoreMayBeOpenInData : Type 0
MoreMayBeOpenInData = (names : List (List ℕ)) (k : ℕ) (tokens : List Token) (items : List Given) → DerivesFile (dimensions_of names) k tokens items → DerivesFile (dimensions_of names) (suc k) tokens items

abbrev pub MoreMayBeOpen : Type 0
MoreMayBeOpen = (k : ℕ) (tokens : List Token) (items : List ItemTree) → DerivesModel k tokens items → DerivesModel (suc k) tokens items

-- Every name and every place in what is derived of a list of tokens is that of one of them.
abbrev pub ModelsHaveTokenParts : Type 0
ModelsHaveTokenParts = (k : ℕ) (tokens : List Token) (items : List ItemTree) → DerivesModel k tokens items → All (OfItem (IsNameOf tokens) (IsPlaceOf tokens)) items

abbrev pub DataFilesHaveTokenParts : Type 0
DataFilesHaveTokenParts = (dimensions : Dimensions) (k : ℕ) (tokens : List Token) (items : List Given) → DerivesFile dimensions k tokens items → All (OfGiven (IsNameOf tokens) (IsPlaceOf tokens)) items

-- The name of every declaration at top level in what is derived of a model is that of an identifier.
abbrev pub DeclarationsHaveIdentifiers : Type 0
DeclarationsHaveIdentifiers = (k : ℕ) (tokens : List Token) (items : List ItemTree) → DerivesModel k tokens items → All (DeclaresIdentifier tokens) items

-- What is derived of a model where this many tokens may be open at once is at most so high.
abbrev pub ModelsAreBounded : Type 0
ModelsAreBounded = (k : ℕ) (tokens : List Token) (items : List ItemTree) → DerivesModel k tokens items → All (λ i. item_height i ≤ most k) items

-- What the rules take of a model, where this many tokens may be open at once, the EBNF derives with no more open.
abbrev pub ModelsAreDerived : Type 0
ModelsAreDerived = (room : ℕ) (tokens : List Token) (items : List ItemTree) → IsWithin model.rule model_part.file room tokens items → DerivesModel room tokens items

-- So it is of the parts that are read by themselves.
abbrev pub ExpressionsAreDerived : Type 0
ExpressionsAreDerived = (room : ℕ) (tokens : List Token) (e : Tree) → IsWithin model.rule model_part.expr room tokens e → Derives room expr tokens e []

abbrev pub DeclarationsAreDerived : Type 0
DeclarationsAreDerived = (room : ℕ) (tokens : List Token) (d : Declaration) → IsWithin model.rule model_part.declaration room tokens d → Derives room decl tokens d []

abbrev pub TypesAreDerived : Type 0
TypesAreDerived = (room : ℕ) (tokens : List Token) (t : Written) → IsWithin model.rule model_part.type room tokens t → Derives room type tokens t []

abbrev pub MarksAreDerived : Type 0
MarksAreDerived = (room : ℕ) (tokens : List Token) (m : Unit {0}) → IsWithin model.rule model_part.marks room tokens m → Derives room marks tokens tt []

abbrev pub AnnotationsAreDerived : Type 0
AnnotationsAreDerived = (room : ℕ) (tokens : List Token) (annotated : Bool) → IsWithin model.rule model_part.annotations room tokens annotated → (e : Ending) × Derives room (anns e) tokens tt []

-- Where a model is refused as left out, a form that is left out stands at that token.
abbrev pub LeftOutIsAForm : Type 0
LeftOutIsAForm = (room : ℕ) (tokens : List Token) (end at : Span) → IsFault model.rule model_part.file room left_out end tokens at → (rest : List Token) × (at ≡ place_or end rest) × IsLeftOut tokens rest
