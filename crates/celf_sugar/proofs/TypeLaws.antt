-- The plain types of declared types just made.
use Rattle.std.specs.Prelude.{ℕ, ◌≡◌, Bool, List, map, Option}
use Rattle.std.proofs.Common.{ap, ◌∙◌}
use Rattle.clf_syntax.specs.declared.tree.Mode.{Mode}
use Rattle.celf_surface.specs.declared.surface.Span.{Span}
use Rattle.celf_sugar.specs.declared.plain.PObj.{PObj}
use Rattle.celf_sugar.specs.declared.plain.PTyForm.{Family, Fun, With, Top, Monad}
use Rattle.celf_sugar.specs.declared.plain.PEntry.{PEntry}
use Rattle.celf_sugar.specs.declared.plain.PTele.{roll-PTele}
use Rattle.celf_sugar.specs.declared.plain.PTy.{PTy, roll-PTy}
use Rattle.celf_sugar.specs.PlainTree.{DesugaredObject, family, function, both, top, monad, telescope_of}
use Rattle.celf_sugar.specs.Plain.{desugared_object, desugared_entry, desugared_type, type-made, type-Family, type-Fun, type-With, type-Top, type-Monad, telescope-made}

pub function-made : (s : Span) (m : Mode) (n : Option (List ℕ)) (a b : PTy) → desugared_type (roll-PTy (record { span = s; form = Fun m n a b })) ≡ function s m n (desugared_type a) (desugared_type b)
function-made s m n a b = type-made (Fun m n a b) s ∙ type-Fun m n a b s

pub both-made : (s : Span) (a b : PTy) → desugared_type (roll-PTy (record { span = s; form = With a b })) ≡ both s (desugared_type a) (desugared_type b)
both-made s a b = type-made (With a b) s ∙ type-With a b s

pub family-made : (s at : Span) (n m : List ℕ) (d : Bool) (is : List PObj) (os : List DesugaredObject) → m ≡ n → map desugared_object is ≡ os → desugared_type (roll-PTy (record { span = s; form = Family (record { name = m; dollar = d; span = at }) is })) ≡ family s (record { name = n; dollar = d; span = at }) os
family-made s at n m d is os p q = type-made (Family (record { name = m; dollar = d; span = at }) is) s ∙ type-Family (record { name = m; dollar = d; span = at }) is s ∙ ap (λ (x : List ℕ). family s (record { name = x; dollar = d; span = at }) (map desugared_object is)) p ∙ ap (family s (record { name = n; dollar = d; span = at })) q

pub monad-made : (s : Span) (es : List PEntry) → desugared_type (roll-PTy (record { span = s; form = Monad (roll-PTele (record { entries = es })) })) ≡ monad s (telescope_of (map desugared_entry es))
monad-made s es = type-made (Monad (roll-PTele (record { entries = es }))) s ∙ type-Monad (roll-PTele (record { entries = es })) s ∙ ap (monad s) (telescope-made es)

pub top-made : (s : Span) → desugared_type (roll-PTy (record { span = s; form = Top })) ≡ top s
top-made s = type-made Top s ∙ type-Top s
