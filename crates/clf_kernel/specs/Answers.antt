-- What the calls of the kernel answer, in plain form.
use Rattle.clf_syntax.specs.TypeTree.{PlainType}
use Rattle.clf_syntax.specs.Plain.{plain_obj}
use Rattle.clf_syntax.specs.PlainTypes.{plain_ty}
use Rattle.use_contexts.specs.declared.join.Left.{Left}
use Rattle.use_contexts.specs.Marks.{marks}
use Rattle.clf_kernel.specs.declared.refusal.Cause.{Cause as DeclaredCause}
use Rattle.clf_kernel.specs.declared.refusal.Cause.TheVariants.{NotFunction, NotPair, NotTop, NotMonad, NotAtomic, NotClosed, ModeDiffers, Width, NotHeld, Unused, PairsDiffer, FamilyDiffers, IndexDiffers, FamilyArity, UnknownHead}
use Rattle.clf_kernel.specs.declared.refusal.AtType.{AtType}
use Rattle.clf_kernel.specs.declared.refusal.AtType.TheVariants.{NotFunction as NoFunction, NotPair as NoPair, NotTop as NoTop, NotMonad as NoMonad, NotAtomic as NoFamily}
use Rattle.clf_kernel.specs.declared.refusal.Inferred.{Inferred}
use Rattle.clf_rules.specs.Refusal.{Cause, not_function, not_pair, not_top, not_monad, not_atomic, not_closed, mode_differs, width, not_held, unused, pairs_differ, family_differs, index_differs, family_arity, unknown_head}
use Rattle.use_contexts.specs.Rows.{Leftover}

abbrev pub plain_cause : DeclaredCause → Cause
plain_cause (NotFunction a) = not_function (plain_ty a)
plain_cause (NotPair a) = not_pair (plain_ty a)
plain_cause (NotTop a) = not_top (plain_ty a)
plain_cause (NotMonad a) = not_monad (plain_ty a)
plain_cause (NotAtomic a) = not_atomic (plain_ty a)
plain_cause NotClosed = not_closed
plain_cause (ModeDiffers wanted found) = mode_differs wanted found
plain_cause (Width wanted found) = width wanted found
plain_cause (NotHeld level) = not_held level
plain_cause (Unused level) = unused level
plain_cause (PairsDiffer level) = pairs_differ level
plain_cause (FamilyDiffers found wanted) = family_differs found wanted
plain_cause (IndexDiffers scope found wanted) = index_differs scope (plain_obj found) (plain_obj wanted)
plain_cause (FamilyArity wanted found) = family_arity wanted found
plain_cause (UnknownHead head) = unknown_head head

-- the cause that keeps a type
abbrev pub at_type : AtType → PlainType → Cause
at_type NoFunction a = not_function a
at_type NoPair a = not_pair a
at_type NoTop a = not_top a
at_type NoMonad a = not_monad a
at_type NoFamily a = not_atomic a

abbrev pub plain_left : Left → Leftover
plain_left l = (marks l.row, l.slack)

abbrev pub plain_inferred : Inferred → PlainType × Leftover
plain_inferred i = (plain_ty i.ty, plain_left i.left)
