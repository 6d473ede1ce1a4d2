-- Plain surface trees: what contracts see of the trees of this crate. One fold gives them, and there is an equation for each form.
use Rattle.std.specs.Prelude.{ℕ, ◌≡◌, Bool, true, false, List, [], ◌∷◌, map, Option, refl}
use Rattle.std.proofs.Common.{ap, ◌∙◌}
use Rattle.clf_syntax.specs.declared.tree.Mode.{Mode}
use Rattle.celf_surface.specs.declared.surface.Arrow.{Arrow}
use Rattle.celf_surface.specs.declared.surface.Bound.{Bound}
use Rattle.celf_surface.specs.declared.surface.SMode.{SMode}
use Rattle.celf_surface.specs.declared.surface.Span.{Span}
use Rattle.celf_surface.specs.declared.surface.SPat.{SPat, One as OnePat, Entry, List as ListPat, fold-SPat, fold-roll-SPat, roll-SPat}
use Rattle.celf_surface.specs.declared.surface.SPat.TheOpen as pat_layer
use Rattle.celf_surface.specs.declared.surface.SObjForm.{SObjForm, Lam, App, Named, Hole, Unit as UnitForm, Pair, Braces, First, Second, fold-SObjForm, fold-roll-SObjForm}
use Rattle.celf_surface.specs.declared.surface.SObj.{SObj, out-SObj, roll-SObj, fold-SObj, fold-roll-SObj, fold_out-SObj}
use Rattle.celf_surface.specs.declared.surface.SArg.{SArg, out-SArg, roll-SArg, fold-SArg, fold-roll-SArg, fold_out-SArg}
use Rattle.celf_surface.specs.declared.surface.SExpr.{SExpr, out-SExpr, roll-SExpr, fold-SExpr, fold-roll-SExpr, fold_out-SExpr}
use Rattle.celf_surface.specs.declared.surface.SStep.{SStep, out-SStep, roll-SStep, fold-SStep, fold-roll-SStep, fold_out-SStep}
use Rattle.celf_surface.specs.declared.surface.STuple.{STuple, One as OneTuple, List as ListTuple, Marked as MarkedTuple, Bare, fold-STuple, fold-roll-STuple}
use Rattle.celf_surface.specs.declared.surface.SObjForm.TheOpen as layer
use Rattle.celf_surface.specs.declared.surface.SObjForm.TheViews.{roll-SObjForm, roll-STuple}
use Rattle.celf_surface.specs.declared.surface.STypeForm.{STypeForm, Pi, Exists, Arrow as ArrowForm, Tensor, Marked, With, TypeWord, Family, Top, One, Braces as BracesType, fold-STypeForm, fold-roll-STypeForm, roll-STypeForm}
use Rattle.celf_surface.specs.declared.surface.SType.{SType, out-SType, roll-SType, fold-SType, fold-roll-SType, fold_out-SType}
use Rattle.celf_surface.specs.declared.surface.STypeForm.TheOpen as type_layer
use Rattle.celf_surface.specs.declared.surface.Item.{Item}
use Rattle.celf_surface.specs.declared.surface.ItemBody.{ItemBody}
use Rattle.celf_surface.specs.declared.surface.ItemBody.TheVariants.{Declare, Query, Trace, Equal, Check}
use denote.Hole.Carrier.{roll}

-- what a let binds; a name None is _
mutual
  pub data WrittenPattern : Type 0 where
    pattern_one : WrittenPattern
    pattern_entry : SMode → Option (List ℕ) → WrittenPattern
    pattern_list : WrittenPatterns → WrittenPattern

  pub data WrittenPatterns : Type 0 where
    no_patterns : WrittenPatterns
    patterns_and : WrittenPattern → WrittenPatterns → WrittenPatterns

-- Objects, each with the bytes that it covers. A name None is _, and the Bool of a name tells that it is written $c.
mutual
  pub data WrittenObject : Type 0 where
    lam : Span → SMode → Option (List ℕ) → WrittenObject → WrittenObject
    app : Span → WrittenObject → WrittenArguments → WrittenObject
    named : Span → List ℕ → Bool → WrittenObject
    hole : Span → WrittenObject
    unit : Span → WrittenObject
    pair : Span → WrittenObject → WrittenObject → WrittenObject
    braces : Span → WrittenSteps → WrittenTuple → WrittenObject
    first : Span → WrittenObject → WrittenObject
    second : Span → WrittenObject → WrittenObject

  pub data WrittenArguments : Type 0 where
    no_arguments : WrittenArguments
    argument : SMode → WrittenObject → WrittenArguments → WrittenArguments

  -- let {pattern} = object in
  pub data WrittenSteps : Type 0 where
    no_steps : WrittenSteps
    step : WrittenPattern → WrittenObject → WrittenSteps → WrittenSteps

  pub data WrittenTuple : Type 0 where
    tuple_one : WrittenTuple
    tuple_list : WrittenTuples → WrittenTuple
    tuple_marked : Mode → WrittenObject → WrittenTuple
    tuple_bare : WrittenObject → WrittenTuple

  pub data WrittenTuples : Type 0 where
    no_tuples : WrittenTuples
    tuples_and : WrittenTuple → WrittenTuples → WrittenTuples

-- Types, each with the bytes that it covers. The second span of a family is that of its name, with its $.
pub data WrittenType : Type 0 where
  pi : Span → List ℕ → WrittenType → WrittenType → WrittenType
  exists : Span → List ℕ → WrittenType → WrittenType → WrittenType
  arrow : Span → Arrow → WrittenType → WrittenType → WrittenType
  tensor : Span → WrittenType → WrittenType → WrittenType
  marked : Span → Mode → WrittenType → WrittenType
  both : Span → WrittenType → WrittenType → WrittenType
  type_word : Span → WrittenType
  family : Span → List ℕ → Bool → Span → List WrittenObject → WrittenType
  top : Span → WrittenType
  one : Span → WrittenType
  braced : Span → WrittenType → WrittenType

-- lists as parts of a tree
abbrev pub patterns_of : List WrittenPattern → WrittenPatterns
patterns_of [] = no_patterns
patterns_of (p ∷ ps) = patterns_and p (patterns_of ps)

abbrev pub arguments_of : List (SMode × WrittenObject) → WrittenArguments
arguments_of [] = no_arguments
arguments_of (a ∷ as_) = argument a.0 a.1 (arguments_of as_)

abbrev pub steps_of : List (WrittenPattern × WrittenObject) → WrittenSteps
steps_of [] = no_steps
steps_of (s ∷ ss) = step s.0 s.1 (steps_of ss)

abbrev pub tuples_of : List WrittenTuple → WrittenTuples
tuples_of [] = no_tuples
tuples_of (t ∷ ts) = tuples_and t (tuples_of ts)

abbrev pub on_pattern : pat_layer.SPat-F WrittenPattern → WrittenPattern
on_pattern pat_layer.One = pattern_one
on_pattern (pat_layer.Entry m n) = pattern_entry m n
on_pattern (pat_layer.List ps) = pattern_list (patterns_of ps)

unfoldable pub pattern_tree : SPat → WrittenPattern
pattern_tree = fold-SPat WrittenPattern on_pattern

abbrev pub on_form : layer.SObjForm-F (Span → WrittenObject) WrittenTuple (SMode × WrittenObject) (WrittenSteps × WrittenTuple) WrittenObject (WrittenPattern × WrittenObject) → Span → WrittenObject
on_form (layer.Lam m n b) s = lam s m n b
on_form (layer.App h as_) s = app s h (arguments_of as_)
on_form (layer.Named n d) s = named s n d
on_form layer.Hole s = hole s
on_form layer.Unit s = unit s
on_form (layer.Pair l r) s = pair s l r
on_form (layer.Braces e) s = braces s e.0 e.1
on_form (layer.First b) s = first s b
on_form (layer.Second b) s = second s b

abbrev pub on_tuple : layer.STuple-F (Span → WrittenObject) WrittenTuple (SMode × WrittenObject) (WrittenSteps × WrittenTuple) WrittenObject (WrittenPattern × WrittenObject) → WrittenTuple
on_tuple layer.One = tuple_one
on_tuple (layer.List ts) = tuple_list (tuples_of ts)
on_tuple (layer.Marked m o) = tuple_marked m o
on_tuple (layer.Bare o) = tuple_bare o

abbrev pub on_argument : layer.SArg-F (Span → WrittenObject) WrittenTuple (SMode × WrittenObject) (WrittenSteps × WrittenTuple) WrittenObject (WrittenPattern × WrittenObject) → SMode × WrittenObject
on_argument a = (a.mode, a.obj)

abbrev pub on_expression : layer.SExpr-F (Span → WrittenObject) WrittenTuple (SMode × WrittenObject) (WrittenSteps × WrittenTuple) WrittenObject (WrittenPattern × WrittenObject) → WrittenSteps × WrittenTuple
on_expression e = (steps_of e.steps, e.result)

abbrev pub on_object : layer.SObj-F (Span → WrittenObject) WrittenTuple (SMode × WrittenObject) (WrittenSteps × WrittenTuple) WrittenObject (WrittenPattern × WrittenObject) → WrittenObject
on_object o = o.form o.span

abbrev pub on_step : layer.SStep-F (Span → WrittenObject) WrittenTuple (SMode × WrittenObject) (WrittenSteps × WrittenTuple) WrittenObject (WrittenPattern × WrittenObject) → WrittenPattern × WrittenObject
on_step s = (pattern_tree s.pattern, s.rhs)

unfoldable pub form_tree : SObjForm → Span → WrittenObject
form_tree = fold-SObjForm (Span → WrittenObject) WrittenTuple (SMode × WrittenObject) (WrittenSteps × WrittenTuple) WrittenObject (WrittenPattern × WrittenObject) on_form on_tuple on_argument on_expression on_object on_step

unfoldable pub tuple_tree : STuple → WrittenTuple
tuple_tree = fold-STuple (Span → WrittenObject) WrittenTuple (SMode × WrittenObject) (WrittenSteps × WrittenTuple) WrittenObject (WrittenPattern × WrittenObject) on_form on_tuple on_argument on_expression on_object on_step

unfoldable pub argument_tree : SArg → SMode × WrittenObject
argument_tree = fold-SArg (Span → WrittenObject) WrittenTuple (SMode × WrittenObject) (WrittenSteps × WrittenTuple) WrittenObject (WrittenPattern × WrittenObject) on_form on_tuple on_argument on_expression on_object on_step

unfoldable pub expression_tree : SExpr → WrittenSteps × WrittenTuple
expression_tree = fold-SExpr (Span → WrittenObject) WrittenTuple (SMode × WrittenObject) (WrittenSteps × WrittenTuple) WrittenObject (WrittenPattern × WrittenObject) on_form on_tuple on_argument on_expression on_object on_step

unfoldable pub object_tree : SObj → WrittenObject
object_tree = fold-SObj (Span → WrittenObject) WrittenTuple (SMode × WrittenObject) (WrittenSteps × WrittenTuple) WrittenObject (WrittenPattern × WrittenObject) on_form on_tuple on_argument on_expression on_object on_step

unfoldable pub step_tree : SStep → WrittenPattern × WrittenObject
step_tree = fold-SStep (Span → WrittenObject) WrittenTuple (SMode × WrittenObject) (WrittenSteps × WrittenTuple) WrittenObject (WrittenPattern × WrittenObject) on_form on_tuple on_argument on_expression on_object on_step

abbrev pub on_type_form : type_layer.STypeForm-F (Span → WrittenType) WrittenType → Span → WrittenType
on_type_form (type_layer.Pi n d r) s = pi s n d r
on_type_form (type_layer.Exists n d r) s = exists s n d r
on_type_form (type_layer.Arrow k l r) s = arrow s k l r
on_type_form (type_layer.Tensor l r) s = tensor s l r
on_type_form (type_layer.Marked m b) s = marked s m b
on_type_form (type_layer.With l r) s = both s l r
on_type_form type_layer.TypeWord s = type_word s
on_type_form (type_layer.Family n d a is) s = family s n d a (map object_tree is)
on_type_form type_layer.Top s = top s
on_type_form type_layer.One s = one s
on_type_form (type_layer.Braces b) s = braced s b

abbrev pub on_type : type_layer.SType-F (Span → WrittenType) WrittenType → WrittenType
on_type t = t.form t.span

unfoldable pub type_form_tree : STypeForm → Span → WrittenType
type_form_tree = fold-STypeForm (Span → WrittenType) WrittenType on_type_form on_type

unfoldable pub surface : SType → WrittenType
surface = fold-SType (Span → WrittenType) WrittenType on_type_form on_type

pub form-Lam : (m : SMode) (n : Option (List ℕ)) (b : SObj) (s : Span) → form_tree (Lam m n b) s ≡ lam s m n (object_tree b)
unfolding form_tree tuple_tree argument_tree expression_tree object_tree step_tree roll-SObjForm roll-STuple roll
form-Lam m n b s = ap (λ (f : Span → WrittenObject). f s) (fold-roll-SObjForm _ _ _ _ _ _ on_form on_tuple on_argument on_expression on_object on_step (layer.Lam m n b))

pub form-App : (h : SObj) (as_ : List SArg) (s : Span) → form_tree (App h as_) s ≡ app s (object_tree h) (arguments_of (map argument_tree as_))
unfolding form_tree tuple_tree argument_tree expression_tree object_tree step_tree roll-SObjForm roll-STuple roll
form-App h as_ s = ap (λ (f : Span → WrittenObject). f s) (fold-roll-SObjForm _ _ _ _ _ _ on_form on_tuple on_argument on_expression on_object on_step (layer.App h as_))

pub form-Named : (n : List ℕ) (d : Bool) (s : Span) → form_tree (Named n d) s ≡ named s n d
unfolding form_tree tuple_tree argument_tree expression_tree object_tree step_tree roll-SObjForm roll-STuple roll
form-Named n d s = ap (λ (f : Span → WrittenObject). f s) (fold-roll-SObjForm _ _ _ _ _ _ on_form on_tuple on_argument on_expression on_object on_step (layer.Named n d))

pub form-Hole : (s : Span) → form_tree Hole s ≡ hole s
unfolding form_tree tuple_tree argument_tree expression_tree object_tree step_tree roll-SObjForm roll-STuple roll
form-Hole s = ap (λ (f : Span → WrittenObject). f s) (fold-roll-SObjForm _ _ _ _ _ _ on_form on_tuple on_argument on_expression on_object on_step (layer.Hole))

pub form-Unit : (s : Span) → form_tree UnitForm s ≡ unit s
unfolding form_tree tuple_tree argument_tree expression_tree object_tree step_tree roll-SObjForm roll-STuple roll
form-Unit s = ap (λ (f : Span → WrittenObject). f s) (fold-roll-SObjForm _ _ _ _ _ _ on_form on_tuple on_argument on_expression on_object on_step (layer.Unit))

pub form-Pair : (l : SObj) (r : SObj) (s : Span) → form_tree (Pair l r) s ≡ pair s (object_tree l) (object_tree r)
unfolding form_tree tuple_tree argument_tree expression_tree object_tree step_tree roll-SObjForm roll-STuple roll
form-Pair l r s = ap (λ (f : Span → WrittenObject). f s) (fold-roll-SObjForm _ _ _ _ _ _ on_form on_tuple on_argument on_expression on_object on_step (layer.Pair l r))

pub form-Braces : (e : SExpr) (s : Span) → form_tree (Braces e) s ≡ braces s (expression_tree e).0 (expression_tree e).1
unfolding form_tree tuple_tree argument_tree expression_tree object_tree step_tree roll-SObjForm roll-STuple roll
form-Braces e s = ap (λ (f : Span → WrittenObject). f s) (fold-roll-SObjForm _ _ _ _ _ _ on_form on_tuple on_argument on_expression on_object on_step (layer.Braces e))

pub form-First : (b : SObj) (s : Span) → form_tree (First b) s ≡ first s (object_tree b)
unfolding form_tree tuple_tree argument_tree expression_tree object_tree step_tree roll-SObjForm roll-STuple roll
form-First b s = ap (λ (f : Span → WrittenObject). f s) (fold-roll-SObjForm _ _ _ _ _ _ on_form on_tuple on_argument on_expression on_object on_step (layer.First b))

pub form-Second : (b : SObj) (s : Span) → form_tree (Second b) s ≡ second s (object_tree b)
unfolding form_tree tuple_tree argument_tree expression_tree object_tree step_tree roll-SObjForm roll-STuple roll
form-Second b s = ap (λ (f : Span → WrittenObject). f s) (fold-roll-SObjForm _ _ _ _ _ _ on_form on_tuple on_argument on_expression on_object on_step (layer.Second b))

pub object-of : (o : SObj) → object_tree o ≡ form_tree (out-SObj o).form (out-SObj o).span
unfolding form_tree tuple_tree argument_tree expression_tree object_tree step_tree roll-SObjForm roll-STuple roll
object-of o = fold_out-SObj _ _ _ _ _ _ on_form on_tuple on_argument on_expression on_object on_step o

pub argument-of : (a : SArg) → argument_tree a ≡ ((out-SArg a).mode, object_tree (out-SArg a).obj)
unfolding form_tree tuple_tree argument_tree expression_tree object_tree step_tree roll-SObjForm roll-STuple roll
argument-of a = fold_out-SArg _ _ _ _ _ _ on_form on_tuple on_argument on_expression on_object on_step a

pub expression-of : (e : SExpr) → expression_tree e ≡ (steps_of (map step_tree (out-SExpr e).steps), tuple_tree (out-SExpr e).result)
unfolding form_tree tuple_tree argument_tree expression_tree object_tree step_tree roll-SObjForm roll-STuple roll
expression-of e = fold_out-SExpr _ _ _ _ _ _ on_form on_tuple on_argument on_expression on_object on_step e

pub step-of : (s : SStep) → step_tree s ≡ (pattern_tree (out-SStep s).pattern, object_tree (out-SStep s).rhs)
unfolding form_tree tuple_tree argument_tree expression_tree object_tree step_tree roll-SObjForm roll-STuple roll
step-of s = fold_out-SStep _ _ _ _ _ _ on_form on_tuple on_argument on_expression on_object on_step s

pub tuple-One : tuple_tree OneTuple ≡ tuple_one
unfolding form_tree tuple_tree argument_tree expression_tree object_tree step_tree roll-SObjForm roll-STuple roll
tuple-One = fold-roll-STuple _ _ _ _ _ _ on_form on_tuple on_argument on_expression on_object on_step layer.One

pub tuple-List : (ts : List STuple) → tuple_tree (ListTuple ts) ≡ tuple_list (tuples_of (map tuple_tree ts))
unfolding form_tree tuple_tree argument_tree expression_tree object_tree step_tree roll-SObjForm roll-STuple roll
tuple-List ts = fold-roll-STuple _ _ _ _ _ _ on_form on_tuple on_argument on_expression on_object on_step (layer.List ts)

pub tuple-Marked : (m : Mode) (o : SObj) → tuple_tree (MarkedTuple m o) ≡ tuple_marked m (object_tree o)
unfolding form_tree tuple_tree argument_tree expression_tree object_tree step_tree roll-SObjForm roll-STuple roll
tuple-Marked m o = fold-roll-STuple _ _ _ _ _ _ on_form on_tuple on_argument on_expression on_object on_step (layer.Marked m o)

pub tuple-Bare : (o : SObj) → tuple_tree (Bare o) ≡ tuple_bare (object_tree o)
unfolding form_tree tuple_tree argument_tree expression_tree object_tree step_tree roll-SObjForm roll-STuple roll
tuple-Bare o = fold-roll-STuple _ _ _ _ _ _ on_form on_tuple on_argument on_expression on_object on_step (layer.Bare o)

pub pattern-One : pattern_tree OnePat ≡ pattern_one
unfolding pattern_tree roll-SPat roll
pattern-One = fold-roll-SPat _ on_pattern (pat_layer.One)

pub pattern-Entry : (m : SMode) (n : Option (List ℕ)) → pattern_tree (Entry m n) ≡ pattern_entry m n
unfolding pattern_tree roll-SPat roll
pattern-Entry m n = fold-roll-SPat _ on_pattern (pat_layer.Entry m n)

pub pattern-List : (ps : List SPat) → pattern_tree (ListPat ps) ≡ pattern_list (patterns_of (map pattern_tree ps))
unfolding pattern_tree roll-SPat roll
pattern-List ps = fold-roll-SPat _ on_pattern (pat_layer.List ps)

pub type-Pi : (n : List ℕ) (d : SType) (r : SType) (s : Span) → type_form_tree (Pi n d r) s ≡ pi s n (surface d) (surface r)
unfolding surface type_form_tree roll-STypeForm roll
type-Pi n d r s = ap (λ (f : Span → WrittenType). f s) (fold-roll-STypeForm _ _ on_type_form on_type (type_layer.Pi n d r))

pub type-Exists : (n : List ℕ) (d : SType) (r : SType) (s : Span) → type_form_tree (Exists n d r) s ≡ exists s n (surface d) (surface r)
unfolding surface type_form_tree roll-STypeForm roll
type-Exists n d r s = ap (λ (f : Span → WrittenType). f s) (fold-roll-STypeForm _ _ on_type_form on_type (type_layer.Exists n d r))

pub type-Arrow : (k : Arrow) (l : SType) (r : SType) (s : Span) → type_form_tree (ArrowForm k l r) s ≡ arrow s k (surface l) (surface r)
unfolding surface type_form_tree roll-STypeForm roll
type-Arrow k l r s = ap (λ (f : Span → WrittenType). f s) (fold-roll-STypeForm _ _ on_type_form on_type (type_layer.Arrow k l r))

pub type-Tensor : (l : SType) (r : SType) (s : Span) → type_form_tree (Tensor l r) s ≡ tensor s (surface l) (surface r)
unfolding surface type_form_tree roll-STypeForm roll
type-Tensor l r s = ap (λ (f : Span → WrittenType). f s) (fold-roll-STypeForm _ _ on_type_form on_type (type_layer.Tensor l r))

pub type-Marked : (m : Mode) (b : SType) (s : Span) → type_form_tree (Marked m b) s ≡ marked s m (surface b)
unfolding surface type_form_tree roll-STypeForm roll
type-Marked m b s = ap (λ (f : Span → WrittenType). f s) (fold-roll-STypeForm _ _ on_type_form on_type (type_layer.Marked m b))

pub type-With : (l : SType) (r : SType) (s : Span) → type_form_tree (With l r) s ≡ both s (surface l) (surface r)
unfolding surface type_form_tree roll-STypeForm roll
type-With l r s = ap (λ (f : Span → WrittenType). f s) (fold-roll-STypeForm _ _ on_type_form on_type (type_layer.With l r))

pub type-TypeWord : (s : Span) → type_form_tree TypeWord s ≡ type_word s
unfolding surface type_form_tree roll-STypeForm roll
type-TypeWord s = ap (λ (f : Span → WrittenType). f s) (fold-roll-STypeForm _ _ on_type_form on_type (type_layer.TypeWord))

pub type-Family : (n : List ℕ) (d : Bool) (a : Span) (is : List SObj) (s : Span) → type_form_tree (Family n d a is) s ≡ family s n d a (map object_tree is)
unfolding surface type_form_tree roll-STypeForm roll
type-Family n d a is s = ap (λ (f : Span → WrittenType). f s) (fold-roll-STypeForm _ _ on_type_form on_type (type_layer.Family n d a is))

pub type-Top : (s : Span) → type_form_tree Top s ≡ top s
unfolding surface type_form_tree roll-STypeForm roll
type-Top s = ap (λ (f : Span → WrittenType). f s) (fold-roll-STypeForm _ _ on_type_form on_type (type_layer.Top))

pub type-One : (s : Span) → type_form_tree One s ≡ one s
unfolding surface type_form_tree roll-STypeForm roll
type-One s = ap (λ (f : Span → WrittenType). f s) (fold-roll-STypeForm _ _ on_type_form on_type (type_layer.One))

pub type-Braces : (b : SType) (s : Span) → type_form_tree (BracesType b) s ≡ braced s (surface b)
unfolding surface type_form_tree roll-STypeForm roll
type-Braces b s = ap (λ (f : Span → WrittenType). f s) (fold-roll-STypeForm _ _ on_type_form on_type (type_layer.Braces b))

pub type-of : (t : SType) → surface t ≡ type_form_tree (out-SType t).form (out-SType t).span
unfolding surface type_form_tree roll-STypeForm roll
type-of t = fold_out-SType _ _ on_type_form on_type t

pub ruleset surface_laws = (form-Lam, form-App, form-Named, form-Hole, form-Unit, form-Pair, form-Braces, form-First, form-Second, object-of, argument-of, expression-of, step-of, tuple-One, tuple-List, tuple-Marked, tuple-Bare, pattern-One, pattern-Entry, pattern-List, type-Pi, type-Exists, type-Arrow, type-Tensor, type-Marked, type-With, type-TypeWord, type-Family, type-Top, type-One, type-Braces, type-of)

-- What an item says.
pub data WrittenBody : Type 0 where
  declare : List ℕ → Option Bound → WrittenType → WrittenBody
  query : Bound → Bound → Bound → Bound → WrittenType → WrittenBody
  trace : Bound → WrittenType → WrittenBody
  equal : WrittenObject → WrittenObject → WrittenType → WrittenBody
  check : WrittenObject → WrittenType → WrittenBody

-- an item, with the bytes that it covers
pub record WrittenItem : Type 0 where
  pub span : Span
  pub body : WrittenBody

abbrev pub body_of : ItemBody → WrittenBody
body_of (Declare n i t) = declare n i (surface t)
body_of (Query d e l a t) = query d e l a (surface t)
body_of (Trace n t) = trace n (surface t)
body_of (Equal l r t) = equal (object_tree l) (object_tree r) (surface t)
body_of (Check o t) = check (object_tree o) (surface t)

abbrev pub written_item : Item → WrittenItem
written_item i = record { span = i.span; body = body_of i.body }
