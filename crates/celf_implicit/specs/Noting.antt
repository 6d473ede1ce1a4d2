-- Inner: what is noted of occurrences one after the other, and of the parts of lists.
use Rattle.std.specs.Prelude.{ℕ, ◌≡◌, ◌<◌, Bool, true, false, length, take, get_or, if◌then◌else◌, List, [], ◌∷◌, ◌++◌, map, nat_lt, Option, Some, None, option_copied, option_map, refl}
use Rattle.std.specs.List.{fold}
use Rattle.std.proofs.Common.{ap, ◌∙◌}
use Rattle.clf_syntax.specs.declared.tree.Mode.{Mode}
use Rattle.clf_syntax.specs.TypeTree.{SimpleType}
use Rattle.clf_sig.specs.Entry.{PlainSignature}
use Rattle.celf_surface.specs.declared.surface.SMode.{SMode}
use Rattle.celf_sugar.specs.Earliest.{sooner}
use Rattle.celf_sugar.specs.declared.plain.PName.{PName}
use Rattle.celf_sugar.specs.declared.plain.PBinder.{PBinder}
use Rattle.celf_sugar.specs.PlainTree.{DesugaredObject, DesugaredAct, DesugaredSpine, DesugaredEntry, spine_of, steps_of, tuple_of, telescope_of}
use Rattle.celf_places.specs.Locals.{Declared, plain_place, plain_locals}
use Rattle.celf_places.specs.Heads.{local_from}
use Rattle.celf_places.specs.Places.{Place, next_part, behind_act}
use Rattle.celf_places.specs.Combined.{combined}
use Rattle.celf_places.specs.Along.{read_along, stateless, left_along}
use Rattle.celf_places.specs.SimpleTypes.{local_of}
use Rattle.celf_implicit.specs.declared.variable.Implicit.{Implicit}
use Rattle.celf_implicit.specs.declared.variable.Variable.{Variable}
use Rattle.celf_implicit.specs.declared.notes.Notes.{Notes}
use Rattle.celf_implicit.specs.declared.applied.AppliedLocal.{AppliedLocal as DeclaredLocal}
use Rattle.celf_implicit.specs.Scopes.{Binders, Scope, under}
use Rattle.celf_implicit.specs.Variables.{PlainImplicit, has_name, is_among, head_place}
use Rattle.celf_implicit.specs.Occurrences.{AppliedLocal, applied_local, local_argument, locals_applied_to, Occurrence, inside, at_head, after_step, after_steps, in_object, in_spine, in_act, in_steps, in_tuple, in_indices, in_type, in_telescope}
use Rattle.celf_implicit.specs.Rounds.{begins, standing, argument_of, from_locals, determined_by}
use Rattle.celf_implicit.specs.Answers.{plain_implicit}

-- the variables that a round determines so far, the first one that is not among those before it, and where each such one first appears
pub record PlainNotes : Type 0 where
  pub determined : List PlainImplicit
  pub open_one : Option Variable
  pub appeared : List PlainImplicit

abbrev pub nothing_noted : PlainNotes
nothing_noted = record { determined = []; open_one = None; appeared = [] }

abbrev pub plain_notes : Notes → PlainNotes
plain_notes ns = record { determined = map plain_implicit ns.determined; open_one = ns.open_one; appeared = map plain_implicit ns.appeared }

-- The earlier one of a variable stays.
abbrev pub earlier : PlainImplicit → PlainImplicit → PlainImplicit
earlier y x = if nat_lt x.start y.start then x else y

abbrev pub with_one : List PlainImplicit → PlainImplicit → List PlainImplicit
with_one [] x = x ∷ []
with_one (y ∷ ys) x = if has_name x.name y then earlier y x ∷ ys else y ∷ with_one ys x

abbrev pub with_any : List PlainImplicit → Option PlainImplicit → List PlainImplicit
with_any ys None = ys
with_any ys (Some x) = with_one ys x

-- an occurrence of which only its name and its byte are of interest
abbrev pub appearing : PName → PlainImplicit
appearing n = record { name = n.name; start = n.span.start; arguments = []; place = None }

-- an occurrence of a variable that is not among xs
abbrev pub note_open : PlainNotes → Occurrence → PlainNotes
note_open ns o = record {
  determined = with_any ns.determined (determined_by o);
  open_one = sooner begins ns.open_one (Some (standing o));
  appeared = with_one ns.appeared (appearing o.name);
}

abbrev pub note : List PlainImplicit → PlainNotes → Occurrence → PlainNotes
note xs ns o = if is_among xs o.name.name then ns else note_open ns o

abbrev pub noted : List PlainImplicit → PlainNotes → List Occurrence → PlainNotes
noted xs ns os = fold (note xs) ns os

-- the place of the first one of a name
abbrev pub IsPlaceOf : List ℕ → List Implicit → Option ℕ → Type 0
IsPlaceOf n xs None = is_among (map plain_implicit xs) n ≡ false
IsPlaceOf n xs (Some i) = (i < length xs) × (is_among (map plain_implicit (take i xs)) n ≡ false) × ((x : Implicit) → x ≡ get_or xs i x → has_name n (plain_implicit x) ≡ true)

-- ---- applied locals

abbrev pub plain_applied : DeclaredLocal → AppliedLocal
plain_applied a = record { mode = a.mode; number = a.number; place = plain_place (option_copied a.place) }

-- a name as an argument, in a mode that is written
abbrev pub local_written : Binders → SMode → PName → Option AppliedLocal
local_written bs m n = if n.dollar then None else option_map (applied_local bs.modes m) (local_from 0 n.name bs.locals)

-- an argument, read along a spine without a state
abbrev pub local_along : Binders → Unit {0} → DesugaredAct → Option AppliedLocal
local_along bs u a = local_argument bs a

pub locals-along : (bs : Binders) (u : Unit {0}) (as_ : List DesugaredAct) → locals_applied_to bs (spine_of as_) ≡ read_along (local_along bs) stateless u as_
locals-along bs u [] = refl
locals-along bs u (a ∷ as_) = ap (combined (◌∷◌) (local_argument bs a)) (locals-along bs u as_)

-- what a name says of its variable where it is applied to these locals
abbrev pub determined_name : PName → List AppliedLocal → Place → PlainImplicit
determined_name n as_ t = record { name = n.name; start = n.span.start; arguments = map argument_of as_; place = from_locals as_ t }

-- ---- scopes

-- what contracts see of binders, and what these stand for
abbrev pub DeclaredBinders : Type 0
DeclaredBinders = List Declared × List Mode

abbrev pub plain_binders : DeclaredBinders → Binders
plain_binders bs = record { locals = plain_locals bs.0; modes = bs.1 }

abbrev pub plain_scope : DeclaredBinders → Bool → Scope
plain_scope bs checked = record { binders = plain_binders bs; checked = checked }

-- ---- lists: what is noted of the parts so far, with the state that they leave

abbrev pub PlainStep : Type 0
PlainStep = List PBinder × PName × DesugaredSpine

module _ (sig : PlainSignature) (xs : List PlainImplicit) where
  abbrev pub after_act : Scope → PlainNotes × Place → DesugaredAct → PlainNotes × Place
  after_act s v a = (noted xs v.0 (in_act sig xs s v.1 a), behind_act v.1 a)

  abbrev pub in_step : Scope → PlainStep → List Occurrence
  in_step s w = at_head sig xs s None None w.1 ++ in_spine sig xs (inside sig xs s w.1) (head_place sig xs s.binders.locals w.1) w.2

  abbrev pub after_one_step : PlainNotes × Scope → PlainStep → PlainNotes × Scope
  after_one_step v w = (noted xs v.0 (in_step v.1 w), after_step sig xs v.1 w.0 w.1 w.2)

  abbrev pub after_marked : Scope → PlainNotes × List (Mode × SimpleType) → SMode × DesugaredObject → PlainNotes × List (Mode × SimpleType)
  after_marked s v e = (noted xs v.0 (in_object sig xs s (next_part v.1).place e.1), (next_part v.1).later)

  abbrev pub after_index : Scope → PlainNotes × List (Mode × SimpleType) → DesugaredObject → PlainNotes × List (Mode × SimpleType)
  after_index s v o = (noted xs v.0 (in_object sig xs s (next_part v.1).place o), (next_part v.1).later)

  abbrev pub after_entry : PlainNotes × Scope → DesugaredEntry → PlainNotes × Scope
  after_entry v e = (noted xs v.0 (in_type sig xs v.1 e.2), under e.0 (local_of sig e.1 e.2) v.1)

pub noted-append : (xs : List PlainImplicit) (ns : PlainNotes) (as_ bs : List Occurrence) → noted xs ns (as_ ++ bs) ≡ noted xs (noted xs ns as_) bs
noted-append xs ns [] bs = refl
noted-append xs ns (a ∷ as_) bs = noted-append xs (note xs ns a) as_ bs

module _ (sig : PlainSignature) (xs : List PlainImplicit) where
  pub spine-noted : (s : Scope) (t : Place) (ns : PlainNotes) (as_ : List DesugaredAct) → noted xs ns (in_spine sig xs s t (spine_of as_)) ≡ (left_along (after_act sig xs s) (ns, t) as_).0
  spine-noted s t ns [] = refl
  spine-noted s t ns (a ∷ as_) = noted-append xs ns (in_act sig xs s t a) (in_spine sig xs s (behind_act t a) (spine_of as_)) ∙ spine-noted s (behind_act t a) (noted xs ns (in_act sig xs s t a)) as_

  pub steps-noted : (s : Scope) (ns : PlainNotes) (ss : List PlainStep) → noted xs ns (in_steps sig xs s (steps_of ss)) ≡ (left_along (after_one_step sig xs) (ns, s) ss).0
  steps-noted s ns [] = refl
  steps-noted s ns (w ∷ ss) = noted-append xs ns (in_step sig xs s w) (in_steps sig xs (after_step sig xs s w.0 w.1 w.2) (steps_of ss)) ∙ steps-noted (after_step sig xs s w.0 w.1 w.2) (noted xs ns (in_step sig xs s w)) ss

  pub steps-after : (s : Scope) (ns : PlainNotes) (ss : List PlainStep) → after_steps sig xs s (steps_of ss) ≡ (left_along (after_one_step sig xs) (ns, s) ss).1
  steps-after s ns [] = refl
  steps-after s ns (w ∷ ss) = steps-after (after_step sig xs s w.0 w.1 w.2) (noted xs ns (in_step sig xs s w)) ss

  pub tuple-noted : (s : Scope) (ps : List (Mode × SimpleType)) (ns : PlainNotes) (es : List (SMode × DesugaredObject)) → noted xs ns (in_tuple sig xs s ps (tuple_of es)) ≡ (left_along (after_marked sig xs s) (ns, ps) es).0
  tuple-noted s ps ns [] = refl
  tuple-noted s ps ns (e ∷ es) = noted-append xs ns (in_object sig xs s (next_part ps).place e.1) (in_tuple sig xs s (next_part ps).later (tuple_of es)) ∙ tuple-noted s (next_part ps).later (noted xs ns (in_object sig xs s (next_part ps).place e.1)) es

  pub indices-noted : (s : Scope) (ps : List (Mode × SimpleType)) (ns : PlainNotes) (os : List DesugaredObject) → noted xs ns (in_indices sig xs s ps os) ≡ (left_along (after_index sig xs s) (ns, ps) os).0
  indices-noted s ps ns [] = refl
  indices-noted s ps ns (o ∷ os) = noted-append xs ns (in_object sig xs s (next_part ps).place o) (in_indices sig xs s (next_part ps).later os) ∙ indices-noted s (next_part ps).later (noted xs ns (in_object sig xs s (next_part ps).place o)) os

  pub telescope-noted : (s : Scope) (ns : PlainNotes) (es : List DesugaredEntry) → noted xs ns (in_telescope sig xs s (telescope_of es)) ≡ (left_along (after_entry sig xs) (ns, s) es).0
  telescope-noted s ns [] = refl
  telescope-noted s ns (e ∷ es) = noted-append xs ns (in_type sig xs s e.2) (in_telescope sig xs (under e.0 (local_of sig e.1 e.2) s) (telescope_of es)) ∙ telescope-noted (under e.0 (local_of sig e.1 e.2) s) (noted xs ns (in_type sig xs s e.2)) es

pub ruleset noted_laws = (noted-append)

pub ruleset spine_noted_laws = (noted-append, spine-noted)

pub ruleset expression_noted_laws = (noted-append, steps-noted, steps-after, tuple-noted)

pub ruleset index_noted_laws = (indices-noted)

pub ruleset telescope_noted_laws = (telescope-noted)
