-- A monadic object is read by its steps, and then its tuple.
use Rattle.std.specs.Prelude.{◌≡◌, List, Option, None, Some, option_map, Result, Ok, Err, IfOk, refl}
use Rattle.std.proofs.Common.{◌∙◌}
use Rattle.clf_syntax.specs.declared.tree.Mode.{Mode}
use Rattle.clf_syntax.specs.Tree.{PlainObject, PlainNeutral}
use Rattle.clf_syntax.specs.TypeTree.{SimpleType}
use Rattle.clf_sig.specs.Entry.{PlainSignature}
use Rattle.celf_surface.specs.declared.surface.SMode.{SMode}
use Rattle.celf_sugar.specs.PlainTree.{DesugaredObject, DesugaredSteps, DesugaredTuple, steps_of, tuple_of}
use Rattle.celf_places.specs.Heads.{Local}
use Rattle.celf_places.specs.Combined.{combined}
use Rattle.celf_explicit.specs.Objects.{expression_of, with_steps, read_steps, read_tuple}
use Rattle.celf_explicit.specs.Lists.{PlainStep, later_parts, read_marked, read_step, behind_step, steps-along, locals-along, tuple-along}
use Rattle.celf_places.specs.Along.{read_along, left_along}

-- what an answer is, if there is one, by an equation
pub ok_along : {T E P : Type 0} (f : T → P) (r : Result T E) (a b : P) → IfOk r (λ o. f o ≡ a) → a ≡ b → IfOk r (λ o. f o ≡ b)
ok_along f (Ok o) a b h e = h ∙ e
ok_along f (Err x) a b h e = tt

module _ (sig : PlainSignature) (ls : List Local) (ps : List (Mode × SimpleType)) (x : DesugaredSteps × DesugaredTuple) (ss : List PlainStep) (us : List (SMode × DesugaredObject)) where
  -- a step is not read
  pub no_steps_read : x ≡ (steps_of ss, tuple_of us) → None ≡ read_along (read_step sig) (behind_step sig) ls ss
      → None ≡ combined expression_of (read_steps sig ls x.0) (read_tuple sig (with_steps sig ls x.0) ps x.1)
  no_steps_read e n = rw (e, steps-along sig ls ss, ← n) refl

  pub expression_read : (inner : List Local) (steps : List (List Mode × PlainNeutral)) (tuple : Option (List (Mode × PlainObject))) (o : Option PlainObject) → x ≡ (steps_of ss, tuple_of us)
      → Some steps ≡ read_along (read_step sig) (behind_step sig) ls ss → inner ≡ left_along (behind_step sig) ls ss → tuple ≡ read_along (read_marked sig inner) later_parts ps us
      → o ≡ option_map (expression_of steps) tuple → o ≡ combined expression_of (read_steps sig ls x.0) (read_tuple sig (with_steps sig ls x.0) ps x.1)
  expression_read inner steps tuple o e n b t m =
      rw (e, steps-along sig ls ss, ← n, locals-along sig ls ss, ← b, tuple-along sig inner ps us, ← t) (m ∙ joined-steps steps tuple)
    where
      joined-steps : (steps : List (List Mode × PlainNeutral)) (tuple : Option (List (Mode × PlainObject))) → option_map (expression_of steps) tuple ≡ combined expression_of (Some steps) tuple
      joined-steps steps None = refl
      joined-steps steps (Some t) = refl
