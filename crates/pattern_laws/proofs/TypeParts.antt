-- Equal simple types have equal parts.
use Rattle.std.specs.Prelude.{◌≡◌}
use Rattle.clf_syntax.specs.declared.tree.Mode.{Mode}
use Rattle.clf_syntax.specs.TypeTree.{SimpleType, arrow, simple_with}

pub from_type : {m k : Mode} {d c e f : SimpleType} → arrow m d c ≡ arrow k e f → e ≡ d
from_type h = cc

pub to_type : {m k : Mode} {d c e f : SimpleType} → arrow m d c ≡ arrow k e f → f ≡ c
to_type h = cc

pub first_type : {a b c d : SimpleType} → simple_with a b ≡ simple_with c d → c ≡ a
first_type h = cc

pub second_type : {a b c d : SimpleType} → simple_with a b ≡ simple_with c d → d ≡ b
second_type h = cc
