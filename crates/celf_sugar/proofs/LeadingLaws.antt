-- A kind begins with as many arguments as it has.
use Rattle.std.specs.Prelude.{◌+◌, ◌≡◌, Bool, true, false, List, [], ◌∷◌, length, map, refl}
use Rattle.std.proofs.Common.{ap, ◌∙◌, add-one}
use Rattle.std.proofs.lemmas.List.{length-map}
use Rattle.celf_surface.specs.declared.surface.Arrow.TheVariants.{To, Back, Lolli, BackLolli, Affine}
use Rattle.celf_surface.specs.Surface.{WrittenType, pi, exists, arrow, tensor, marked, both, type_word, family, top, one, braced}
use Rattle.celf_sugar.specs.declared.plain.PTele.{PTele, out-PTele}
use Rattle.celf_sugar.specs.Plain.{desugared_entry, desugared_telescope, telescope-of}
use Rattle.celf_sugar.specs.PlainTree.{DesugaredEntry, telescope_of}
use Rattle.celf_sugar.specs.Faults.{leading}
use Rattle.celf_sugar.specs.Sugar.{reading, is_kind, kind_arguments, class_by, class}
use Rattle.celf_sugar.specs.ClassLeading.{telescope_length, class_leading}

pub telescope-length : (es : List DesugaredEntry) → telescope_length (telescope_of es) ≡ length es
telescope-length [] = refl
telescope-length (e ∷ es) = ap (λ n. n + 1) (telescope-length es) ∙ add-one (length es)

kind-leads : (t : WrittenType) → is_kind t ≡ true → telescope_length (telescope_of (kind_arguments t)) ≡ leading (reading t).as_type
kind-leads (pi s n d r) h = ap (λ n. n + 1) (kind-leads r h)
kind-leads (exists s n d r) h = cc
kind-leads (arrow s To l r) h = ap (λ n. n + 1) (kind-leads r h)
kind-leads (arrow s Back l r) h = ap (λ n. n + 1) (kind-leads l h)
kind-leads (arrow s Lolli l r) h = cc
kind-leads (arrow s BackLolli l r) h = cc
kind-leads (arrow s Affine l r) h = cc
kind-leads (tensor s l r) h = cc
kind-leads (marked s m b) h = cc
kind-leads (both s l r) h = cc
kind-leads (type_word s) h = refl
kind-leads (family s n d a is) h = cc
kind-leads (top s) h = cc
kind-leads (one s) h = cc
kind-leads (braced s b) h = cc

leads-by : (b : Bool) (t : WrittenType) → is_kind t ≡ b → class_leading (class_by b t) ≡ leading (reading t).as_type
leads-by true t h = kind-leads t h
leads-by false t h = refl

pub class-leads : (t : WrittenType) → class_leading (class t) ≡ leading (reading t).as_type
class-leads t = leads-by (is_kind t) t refl

pub family-leads : (t : PTele) → telescope_length (desugared_telescope t) ≡ length (out-PTele t).entries
family-leads t = ap telescope_length (telescope-of t) ∙ telescope-length (map desugared_entry (out-PTele t).entries) ∙ length-map (out-PTele t).entries desugared_entry

pub ruleset leading_laws = (telescope-length, class-leads, family-leads)
