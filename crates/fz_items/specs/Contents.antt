-- What an element stands for.
use Rattle.std.specs.Prelude.{List, map}
use Rattle.mz_value.specs.Contents.{Content, bool, int, case, set}
use Rattle.fz_items.specs.declared.element.Element.{Element}
use Rattle.fz_items.specs.declared.element.Element.TheVariants.{Truth, Number, Case, Set}

abbrev pub content_of : Element → Content
content_of (Truth b) = bool b
content_of (Number x) = int x
content_of (Case e x) = case e x
content_of (Set of s) = set of s

abbrev pub contents_of : List Element → List Content
contents_of xs = map content_of xs
