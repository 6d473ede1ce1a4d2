-- The plain tree of a declared tree: one fold for objects and one for types, with an equation for each form.
use Rattle.std.specs.Prelude.{ℕ, ◌≡◌, List, map, Option}
use Rattle.std.proofs.Common.{ap}
use Rattle.clf_syntax.specs.declared.tree.Mode.{Mode}
use Rattle.celf_surface.specs.declared.surface.SMode.{SMode}
use Rattle.celf_surface.specs.declared.surface.Span.{Span}
use Rattle.celf_sugar.specs.declared.plain.PName.{PName}
use Rattle.celf_sugar.specs.declared.plain.PBinder.{PBinder}
use Rattle.celf_sugar.specs.declared.plain.PElim.{PElim, Arg, First, Second, fold-PElim, fold-roll-PElim}
use Rattle.celf_sugar.specs.declared.plain.PObjForm.{PObjForm, Lam, Pair, Unit as UnitForm, Mon, At, Hole, fold-PObjForm, fold-roll-PObjForm}
use Rattle.celf_sugar.specs.declared.plain.PExpr.{PExpr, out-PExpr, roll-PExpr, fold-PExpr, fold-roll-PExpr, fold_out-PExpr}
use Rattle.celf_sugar.specs.declared.plain.PMarked.{PMarked, out-PMarked, fold-PMarked, fold_out-PMarked}
use Rattle.celf_sugar.specs.declared.plain.PObj.{PObj, out-PObj, fold-PObj, fold_out-PObj}
use Rattle.celf_sugar.specs.declared.plain.PStep.{PStep, out-PStep, fold-PStep, fold_out-PStep}
use Rattle.celf_sugar.specs.declared.plain.PElim.TheOpen as layer
use Rattle.celf_sugar.specs.declared.plain.PElim.TheViews.{roll-PElim, roll-PObjForm}
use Rattle.celf_sugar.specs.declared.plain.PTyForm.{PTyForm, Family, Fun, With, Top, Monad, fold-PTyForm, fold-roll-PTyForm, roll-PTyForm}
use Rattle.celf_sugar.specs.declared.plain.PEntry.{PEntry, out-PEntry, fold-PEntry, fold_out-PEntry}
use Rattle.celf_sugar.specs.declared.plain.PTele.{PTele, out-PTele, roll-PTele, fold-PTele, fold-roll-PTele, fold_out-PTele}
use Rattle.celf_sugar.specs.declared.plain.PTy.{PTy, out-PTy, roll-PTy, fold-PTy, fold-roll-PTy, fold_out-PTy}
use Rattle.celf_sugar.specs.declared.plain.PTyForm.TheOpen as type_layer
use Rattle.celf_sugar.specs.declared.plain.PClass.{PClass}
use Rattle.celf_sugar.specs.declared.plain.PClass.TheVariants.{Family as FamilyClass, Constant}
use Rattle.celf_sugar.specs.declared.plain.PlainBody.{PlainBody as DeclaredBody}
use Rattle.celf_sugar.specs.declared.plain.PlainBody.TheVariants.{Declare, Query, Trace, Equal, Check}
use Rattle.celf_sugar.specs.declared.plain.Plain.{Plain}
use Rattle.celf_sugar.specs.PlainTree.{DesugaredObject, lam, pair, unit, monadic, atomic, hole, DesugaredSpine, DesugaredAct, argument, first, second, DesugaredSteps, DesugaredTuple, spine_of, steps_of, tuple_of, DesugaredType, family, function, both, top, monad, DesugaredTelescope, DesugaredEntry, telescope_of, DesugaredClass, of_family, of_constant, DesugaredBody, declare, query, trace, equal, check, DesugaredItem}
use denote.Hole.Carrier.{roll}

abbrev pub on_elim : layer.PElim-F DesugaredAct (Span → DesugaredObject) (DesugaredSteps × DesugaredTuple) (SMode × DesugaredObject) DesugaredObject (List PBinder × PName × DesugaredSpine) → DesugaredAct
on_elim (layer.Arg m o) = argument m o
on_elim layer.First = first
on_elim layer.Second = second

abbrev pub on_form : layer.PObjForm-F DesugaredAct (Span → DesugaredObject) (DesugaredSteps × DesugaredTuple) (SMode × DesugaredObject) DesugaredObject (List PBinder × PName × DesugaredSpine) → Span → DesugaredObject
on_form (layer.Lam m n b) s = lam s m n b
on_form (layer.Pair l r) s = pair s l r
on_form layer.Unit s = unit s
on_form (layer.Mon e) s = monadic s e.0 e.1
on_form (layer.At h as_) s = atomic s h (spine_of as_)
on_form layer.Hole s = hole s

abbrev pub on_expression : layer.PExpr-F DesugaredAct (Span → DesugaredObject) (DesugaredSteps × DesugaredTuple) (SMode × DesugaredObject) DesugaredObject (List PBinder × PName × DesugaredSpine) → DesugaredSteps × DesugaredTuple
on_expression e = (steps_of e.steps, tuple_of e.result)

abbrev pub on_marked : layer.PMarked-F DesugaredAct (Span → DesugaredObject) (DesugaredSteps × DesugaredTuple) (SMode × DesugaredObject) DesugaredObject (List PBinder × PName × DesugaredSpine) → SMode × DesugaredObject
on_marked e = (e.mode, e.obj)

abbrev pub on_object : layer.PObj-F DesugaredAct (Span → DesugaredObject) (DesugaredSteps × DesugaredTuple) (SMode × DesugaredObject) DesugaredObject (List PBinder × PName × DesugaredSpine) → DesugaredObject
on_object o = o.form o.span

abbrev pub on_step : layer.PStep-F DesugaredAct (Span → DesugaredObject) (DesugaredSteps × DesugaredTuple) (SMode × DesugaredObject) DesugaredObject (List PBinder × PName × DesugaredSpine) → List PBinder × PName × DesugaredSpine
on_step s = (s.pattern, s.head, spine_of s.spine)

unfoldable pub desugared_elim : PElim → DesugaredAct
desugared_elim = fold-PElim DesugaredAct (Span → DesugaredObject) (DesugaredSteps × DesugaredTuple) (SMode × DesugaredObject) DesugaredObject (List PBinder × PName × DesugaredSpine) on_elim on_form on_expression on_marked on_object on_step

unfoldable pub desugared_form : PObjForm → Span → DesugaredObject
desugared_form = fold-PObjForm DesugaredAct (Span → DesugaredObject) (DesugaredSteps × DesugaredTuple) (SMode × DesugaredObject) DesugaredObject (List PBinder × PName × DesugaredSpine) on_elim on_form on_expression on_marked on_object on_step

unfoldable pub desugared_expression : PExpr → DesugaredSteps × DesugaredTuple
desugared_expression = fold-PExpr DesugaredAct (Span → DesugaredObject) (DesugaredSteps × DesugaredTuple) (SMode × DesugaredObject) DesugaredObject (List PBinder × PName × DesugaredSpine) on_elim on_form on_expression on_marked on_object on_step

unfoldable pub desugared_marked : PMarked → SMode × DesugaredObject
desugared_marked = fold-PMarked DesugaredAct (Span → DesugaredObject) (DesugaredSteps × DesugaredTuple) (SMode × DesugaredObject) DesugaredObject (List PBinder × PName × DesugaredSpine) on_elim on_form on_expression on_marked on_object on_step

unfoldable pub desugared_object : PObj → DesugaredObject
desugared_object = fold-PObj DesugaredAct (Span → DesugaredObject) (DesugaredSteps × DesugaredTuple) (SMode × DesugaredObject) DesugaredObject (List PBinder × PName × DesugaredSpine) on_elim on_form on_expression on_marked on_object on_step

unfoldable pub desugared_step : PStep → List PBinder × PName × DesugaredSpine
desugared_step = fold-PStep DesugaredAct (Span → DesugaredObject) (DesugaredSteps × DesugaredTuple) (SMode × DesugaredObject) DesugaredObject (List PBinder × PName × DesugaredSpine) on_elim on_form on_expression on_marked on_object on_step

abbrev pub on_type_form : type_layer.PTyForm-F (Span → DesugaredType) DesugaredEntry DesugaredTelescope DesugaredType → Span → DesugaredType
on_type_form (type_layer.Family h is) s = family s h (map desugared_object is)
on_type_form (type_layer.Fun m n a b) s = function s m n a b
on_type_form (type_layer.With a b) s = both s a b
on_type_form type_layer.Top s = top s
on_type_form (type_layer.Monad t) s = monad s t

abbrev pub on_entry : type_layer.PEntry-F (Span → DesugaredType) DesugaredEntry DesugaredTelescope DesugaredType → DesugaredEntry
on_entry e = (e.mode, e.name, e.ty)

abbrev pub on_telescope : type_layer.PTele-F (Span → DesugaredType) DesugaredEntry DesugaredTelescope DesugaredType → DesugaredTelescope
on_telescope t = telescope_of t.entries

abbrev pub on_type : type_layer.PTy-F (Span → DesugaredType) DesugaredEntry DesugaredTelescope DesugaredType → DesugaredType
on_type t = t.form t.span

unfoldable pub desugared_type_form : PTyForm → Span → DesugaredType
desugared_type_form = fold-PTyForm (Span → DesugaredType) DesugaredEntry DesugaredTelescope DesugaredType on_type_form on_entry on_telescope on_type

unfoldable pub desugared_entry : PEntry → DesugaredEntry
desugared_entry = fold-PEntry (Span → DesugaredType) DesugaredEntry DesugaredTelescope DesugaredType on_type_form on_entry on_telescope on_type

unfoldable pub desugared_telescope : PTele → DesugaredTelescope
desugared_telescope = fold-PTele (Span → DesugaredType) DesugaredEntry DesugaredTelescope DesugaredType on_type_form on_entry on_telescope on_type

unfoldable pub desugared_type : PTy → DesugaredType
desugared_type = fold-PTy (Span → DesugaredType) DesugaredEntry DesugaredTelescope DesugaredType on_type_form on_entry on_telescope on_type

pub elim-Arg : (m : SMode) (o : PObj) → desugared_elim (Arg m o) ≡ argument m (desugared_object o)
unfolding desugared_elim desugared_form desugared_expression desugared_marked desugared_object desugared_step roll-PElim roll-PObjForm roll
elim-Arg m o = fold-roll-PElim _ _ _ _ _ _ on_elim on_form on_expression on_marked on_object on_step (layer.Arg m o)

pub elim-First : desugared_elim First ≡ first
unfolding desugared_elim desugared_form desugared_expression desugared_marked desugared_object desugared_step roll-PElim roll-PObjForm roll
elim-First = fold-roll-PElim _ _ _ _ _ _ on_elim on_form on_expression on_marked on_object on_step layer.First

pub elim-Second : desugared_elim Second ≡ second
unfolding desugared_elim desugared_form desugared_expression desugared_marked desugared_object desugared_step roll-PElim roll-PObjForm roll
elim-Second = fold-roll-PElim _ _ _ _ _ _ on_elim on_form on_expression on_marked on_object on_step layer.Second

pub form-Lam : (m : SMode) (n : Option (List ℕ)) (b : PObj) (s : Span) → desugared_form (Lam m n b) s ≡ lam s m n (desugared_object b)
unfolding desugared_elim desugared_form desugared_expression desugared_marked desugared_object desugared_step roll-PElim roll-PObjForm roll
form-Lam m n b s = ap (λ (f : Span → DesugaredObject). f s) (fold-roll-PObjForm _ _ _ _ _ _ on_elim on_form on_expression on_marked on_object on_step (layer.Lam m n b))

pub form-Pair : (l : PObj) (r : PObj) (s : Span) → desugared_form (Pair l r) s ≡ pair s (desugared_object l) (desugared_object r)
unfolding desugared_elim desugared_form desugared_expression desugared_marked desugared_object desugared_step roll-PElim roll-PObjForm roll
form-Pair l r s = ap (λ (f : Span → DesugaredObject). f s) (fold-roll-PObjForm _ _ _ _ _ _ on_elim on_form on_expression on_marked on_object on_step (layer.Pair l r))

pub form-Unit : (s : Span) → desugared_form UnitForm s ≡ unit s
unfolding desugared_elim desugared_form desugared_expression desugared_marked desugared_object desugared_step roll-PElim roll-PObjForm roll
form-Unit s = ap (λ (f : Span → DesugaredObject). f s) (fold-roll-PObjForm _ _ _ _ _ _ on_elim on_form on_expression on_marked on_object on_step layer.Unit)

pub form-Mon : (e : PExpr) (s : Span) → desugared_form (Mon e) s ≡ monadic s (desugared_expression e).0 (desugared_expression e).1
unfolding desugared_elim desugared_form desugared_expression desugared_marked desugared_object desugared_step roll-PElim roll-PObjForm roll
form-Mon e s = ap (λ (f : Span → DesugaredObject). f s) (fold-roll-PObjForm _ _ _ _ _ _ on_elim on_form on_expression on_marked on_object on_step (layer.Mon e))

pub form-At : (h : PName) (as_ : List PElim) (s : Span) → desugared_form (At h as_) s ≡ atomic s h (spine_of (map desugared_elim as_))
unfolding desugared_elim desugared_form desugared_expression desugared_marked desugared_object desugared_step roll-PElim roll-PObjForm roll
form-At h as_ s = ap (λ (f : Span → DesugaredObject). f s) (fold-roll-PObjForm _ _ _ _ _ _ on_elim on_form on_expression on_marked on_object on_step (layer.At h as_))

pub form-Hole : (s : Span) → desugared_form Hole s ≡ hole s
unfolding desugared_elim desugared_form desugared_expression desugared_marked desugared_object desugared_step roll-PElim roll-PObjForm roll
form-Hole s = ap (λ (f : Span → DesugaredObject). f s) (fold-roll-PObjForm _ _ _ _ _ _ on_elim on_form on_expression on_marked on_object on_step layer.Hole)

pub expression-of : (e : PExpr) → desugared_expression e ≡ (steps_of (map desugared_step (out-PExpr e).steps), tuple_of (map desugared_marked (out-PExpr e).result))
unfolding desugared_elim desugared_form desugared_expression desugared_marked desugared_object desugared_step roll-PElim roll-PObjForm roll
expression-of e = fold_out-PExpr _ _ _ _ _ _ on_elim on_form on_expression on_marked on_object on_step e

pub expression-made : (steps : List PStep) (result : List PMarked) → desugared_expression (roll-PExpr (record { steps = steps; result = result })) ≡ (steps_of (map desugared_step steps), tuple_of (map desugared_marked result))
unfolding desugared_elim desugared_form desugared_expression desugared_marked desugared_object desugared_step
expression-made steps result = fold-roll-PExpr _ _ _ _ _ _ on_elim on_form on_expression on_marked on_object on_step (record { steps = steps; result = result })

pub marked-of : (e : PMarked) → desugared_marked e ≡ ((out-PMarked e).mode, desugared_object (out-PMarked e).obj)
unfolding desugared_elim desugared_form desugared_expression desugared_marked desugared_object desugared_step roll-PElim roll-PObjForm roll
marked-of e = fold_out-PMarked _ _ _ _ _ _ on_elim on_form on_expression on_marked on_object on_step e

pub object-of : (o : PObj) → desugared_object o ≡ desugared_form (out-PObj o).form (out-PObj o).span
unfolding desugared_elim desugared_form desugared_expression desugared_marked desugared_object desugared_step roll-PElim roll-PObjForm roll
object-of o = fold_out-PObj _ _ _ _ _ _ on_elim on_form on_expression on_marked on_object on_step o

pub step-of : (s : PStep) → desugared_step s ≡ ((out-PStep s).pattern, (out-PStep s).head, spine_of (map desugared_elim (out-PStep s).spine))
unfolding desugared_elim desugared_form desugared_expression desugared_marked desugared_object desugared_step roll-PElim roll-PObjForm roll
step-of s = fold_out-PStep _ _ _ _ _ _ on_elim on_form on_expression on_marked on_object on_step s

pub type-Family : (h : PName) (is : List PObj) (s : Span) → desugared_type_form (Family h is) s ≡ family s h (map desugared_object is)
unfolding desugared_type_form desugared_entry desugared_telescope desugared_type roll-PTyForm roll
type-Family h is s = ap (λ (f : Span → DesugaredType). f s) (fold-roll-PTyForm _ _ _ _ on_type_form on_entry on_telescope on_type (type_layer.Family h is))

pub type-Fun : (m : Mode) (n : Option (List ℕ)) (a : PTy) (b : PTy) (s : Span) → desugared_type_form (Fun m n a b) s ≡ function s m n (desugared_type a) (desugared_type b)
unfolding desugared_type_form desugared_entry desugared_telescope desugared_type roll-PTyForm roll
type-Fun m n a b s = ap (λ (f : Span → DesugaredType). f s) (fold-roll-PTyForm _ _ _ _ on_type_form on_entry on_telescope on_type (type_layer.Fun m n a b))

pub type-With : (a : PTy) (b : PTy) (s : Span) → desugared_type_form (With a b) s ≡ both s (desugared_type a) (desugared_type b)
unfolding desugared_type_form desugared_entry desugared_telescope desugared_type roll-PTyForm roll
type-With a b s = ap (λ (f : Span → DesugaredType). f s) (fold-roll-PTyForm _ _ _ _ on_type_form on_entry on_telescope on_type (type_layer.With a b))

pub type-Top : (s : Span) → desugared_type_form Top s ≡ top s
unfolding desugared_type_form desugared_entry desugared_telescope desugared_type roll-PTyForm roll
type-Top s = ap (λ (f : Span → DesugaredType). f s) (fold-roll-PTyForm _ _ _ _ on_type_form on_entry on_telescope on_type type_layer.Top)

pub type-Monad : (t : PTele) (s : Span) → desugared_type_form (Monad t) s ≡ monad s (desugared_telescope t)
unfolding desugared_type_form desugared_entry desugared_telescope desugared_type roll-PTyForm roll
type-Monad t s = ap (λ (f : Span → DesugaredType). f s) (fold-roll-PTyForm _ _ _ _ on_type_form on_entry on_telescope on_type (type_layer.Monad t))

pub entry-of : (e : PEntry) → desugared_entry e ≡ ((out-PEntry e).mode, (out-PEntry e).name, desugared_type (out-PEntry e).ty)
unfolding desugared_type_form desugared_entry desugared_telescope desugared_type roll-PTyForm roll
entry-of e = fold_out-PEntry _ _ _ _ on_type_form on_entry on_telescope on_type e

pub telescope-of : (t : PTele) → desugared_telescope t ≡ telescope_of (map desugared_entry (out-PTele t).entries)
unfolding desugared_type_form desugared_entry desugared_telescope desugared_type roll-PTyForm roll
telescope-of t = fold_out-PTele _ _ _ _ on_type_form on_entry on_telescope on_type t

pub telescope-made : (entries : List PEntry) → desugared_telescope (roll-PTele (record { entries = entries })) ≡ telescope_of (map desugared_entry entries)
unfolding desugared_type_form desugared_entry desugared_telescope desugared_type
telescope-made entries = fold-roll-PTele _ _ _ _ on_type_form on_entry on_telescope on_type (record { entries = entries })

pub type-of : (t : PTy) → desugared_type t ≡ desugared_type_form (out-PTy t).form (out-PTy t).span
unfolding desugared_type_form desugared_entry desugared_telescope desugared_type roll-PTyForm roll
type-of t = fold_out-PTy _ _ _ _ on_type_form on_entry on_telescope on_type t

pub type-made : (f : PTyForm) (s : Span) → desugared_type (roll-PTy (record { span = s; form = f })) ≡ desugared_type_form f s
unfolding desugared_type_form desugared_entry desugared_telescope desugared_type
type-made f s = fold-roll-PTy _ _ _ _ on_type_form on_entry on_telescope on_type (record { span = s; form = f })

pub ruleset plain_laws = (elim-Arg, elim-First, elim-Second, form-Lam, form-Pair, form-Unit, form-Mon, form-At, form-Hole, expression-of, expression-made, marked-of, object-of, step-of, type-Family, type-Fun, type-With, type-Top, type-Monad, entry-of, telescope-of, telescope-made, type-of)

-- the laws of one kind of tree alone, which are sooner tried than all
pub ruleset elim_laws = (elim-Arg, elim-First, elim-Second)

pub ruleset form_laws = (form-Lam, form-Pair, form-Unit, form-Mon, form-At, form-Hole)

pub ruleset expression_laws = (expression-of, expression-made)

pub ruleset marked_laws = (marked-of)

pub ruleset object_laws = (object-of)

pub ruleset step_laws = (step-of)

pub ruleset entry_laws = (entry-of)

pub ruleset telescope_laws = (telescope-of, telescope-made)

abbrev pub class_of : PClass → DesugaredClass
class_of (FamilyClass t) = of_family (desugared_telescope t)
class_of (Constant t) = of_constant (desugared_type t)

abbrev pub body_of : DeclaredBody → DesugaredBody
body_of (Declare n i c) = declare n i (class_of c)
body_of (Query d e l a t) = query d e l a (desugared_type t)
body_of (Trace n t) = trace n (desugared_telescope t)
body_of (Equal l r t) = equal (desugared_object l) (desugared_object r) (desugared_type t)
body_of (Check o t) = check (desugared_object o) (desugared_type t)

abbrev pub desugared_item : Plain → DesugaredItem
desugared_item i = record { span = i.span; body = body_of i.body }
