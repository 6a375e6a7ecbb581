-- How a refusal line shows a kind.
use Rattle.std.specs.Prelude.{ℕ, List, Bool, true, false, codes}
use Rattle.mz_base.specs.declared.kind.Kind.{Kind}
use Rattle.mz_base.specs.declared.kind.Kind.TheVariants.{Lexical, Syntax, TooDeep, TooLong, MissingFile, UnknownName, DuplicateName, TypeMismatch, NoOverload, Ambiguous, LeftOut, Cyclic, MissingData, DataForm, Bounds, Budget, Depth, ParUndefined, AssertFailed, FreeInContext, UnboundedSet, IndexMismatch, ReservedName, SolveItems, BadSolution, OutputUndefined, NegativeArgument}

-- the variant's own name
abbrev pub name_of : Kind → List ℕ
name_of Lexical = codes "Lexical"
name_of Syntax = codes "Syntax"
name_of TooDeep = codes "TooDeep"
name_of TooLong = codes "TooLong"
name_of MissingFile = codes "MissingFile"
name_of UnknownName = codes "UnknownName"
name_of DuplicateName = codes "DuplicateName"
name_of TypeMismatch = codes "TypeMismatch"
name_of NoOverload = codes "NoOverload"
name_of Ambiguous = codes "Ambiguous"
name_of LeftOut = codes "LeftOut"
name_of Cyclic = codes "Cyclic"
name_of MissingData = codes "MissingData"
name_of DataForm = codes "DataForm"
name_of Bounds = codes "Bounds"
name_of Budget = codes "Budget"
name_of Depth = codes "Depth"
name_of ParUndefined = codes "ParUndefined"
name_of AssertFailed = codes "AssertFailed"
name_of FreeInContext = codes "FreeInContext"
name_of UnboundedSet = codes "UnboundedSet"
name_of IndexMismatch = codes "IndexMismatch"
name_of ReservedName = codes "ReservedName"
name_of SolveItems = codes "SolveItems"
name_of BadSolution = codes "BadSolution"
name_of OutputUndefined = codes "OutputUndefined"
name_of NegativeArgument = codes "NegativeArgument"

-- the kinds whose line ends with the fault's number
abbrev pub shows_number : Kind → Bool
shows_number Bounds = true
shows_number Budget = true
shows_number Depth = true
shows_number OutputUndefined = true
shows_number NegativeArgument = true
shows_number _ = false
