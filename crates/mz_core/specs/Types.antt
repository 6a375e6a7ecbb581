-- Types and signatures, without where they lie in memory.
use Rattle.std.specs.Prelude.{Bool, true, false, not, ◌&&◌, ◌||◌, List, map}
use Rattle.mz_core.specs.declared.types.TypeInst.{TypeInst}
use Rattle.mz_core.specs.declared.types.Signature.{Signature}
use Rattle.mz_core.specs.declared.types.Base.{Base}
use Rattle.mz_core.specs.declared.types.Base.TheVariants as base
use Rattle.mz_core.specs.declared.types.Ix.{Ix}

-- a type: the marks and the base of a scalar or of an array's elements, and the index types
pub record PlainType : Type 0 where
  pub var : Bool
  pub opt : Bool
  pub base : Base
  pub dims : List Ix

-- what the code's type stands for
unfoldable pub plain_type : TypeInst → PlainType
plain_type t = record { var = t.var; opt = t.opt; base = t.base; dims = t.dims.items }

pub record PlainSignature : Type 0 where
  pub params : List PlainType
  pub result : PlainType

-- what the code's signature stands for
unfoldable pub plain_signature : Signature → PlainSignature
plain_signature s = record { params = map plain_type s.params.items; result = plain_type s.result }

abbrev pub is_set : Base → Bool
is_set base.SetInt = true
is_set (base.SetEnum e) = true
is_set base.SetBottom = true
is_set b = false

abbrev pub is_text : Base → Bool
is_text base.Text = true
is_text b = false

-- no option of a set or of a text, and no var text
abbrev pub is_allowed : PlainType → Bool
is_allowed t = not (t.opt && (is_set t.base || is_text t.base)) && not (t.var && is_text t.base)
