-- The keywords of forms that are left out.
use Rattle.std.specs.Prelude.{Bool, true, false}
use Rattle.mz_base.specs.declared.keyword.Keyword.{Keyword}
use Rattle.mz_base.specs.declared.keyword.Keyword.TheVariants.{KAnn, KAny, KCase, KDefault, KFloat, KOp, KRecord, KString, KTuple, KType}

-- the keywords of forms that are left out
abbrev pub is_left_out_keyword : Keyword → Bool
is_left_out_keyword KAnn = true
is_left_out_keyword KAny = true
is_left_out_keyword KCase = true
is_left_out_keyword KDefault = true
is_left_out_keyword KFloat = true
is_left_out_keyword KOp = true
is_left_out_keyword KRecord = true
is_left_out_keyword KString = true
is_left_out_keyword KTuple = true
is_left_out_keyword KType = true
is_left_out_keyword _ = false
