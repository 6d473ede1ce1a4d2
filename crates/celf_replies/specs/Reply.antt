-- Replies to items, and why an item is refused, as plain data.
use Rattle.std.specs.Prelude.{ℕ, Bool, true, false, List, Option, map}
use Rattle.clf_syntax.specs.Plain.{plain_obj}
use Rattle.clf_syntax.specs.PlainTypes.{plain_ty}
use Rattle.clf_syntax.specs.Tree.{PlainObject}
use Rattle.clf_syntax.specs.TypeTree.{PlainType}
use Rattle.clf_rules.specs.Refusal.{Cause}
use Rattle.clf_kernel.specs.Answers.{plain_cause}
use Rattle.celf_replies.specs.declared.reply.Sides.{Sides}
use Rattle.celf_replies.specs.declared.reply.Mismatch.{Mismatch}
use Rattle.celf_replies.specs.declared.reply.Mismatch.TheVariants.{NotFunction, NotPair, NotTop, NotMonad, NotAtomic, NotClosed, ModeDiffers, Width, FamilyDiffers, UnknownHead, FamilyArity, IndexDiffers}
use Rattle.celf_replies.specs.declared.reply.Why.{Why}
use Rattle.celf_replies.specs.declared.reply.Why.TheVariants.{BadByte, LongName, Unexpected, Directive, TooDeep, KindPlace, NotAsync, Redex, OutOfRange, BadImplicit, Duplicate, Full, UnknownName, Kernel, Undetermined, IllTyped, Unresolved, Loose, Circular, Rejected, NotYet}
use Rattle.celf_replies.specs.declared.reply.Reply.{Reply}
use Rattle.celf_replies.specs.declared.reply.Reply.TheVariants.{Entry, Checked, Equal, Different, Refused}

-- the two sides of an equation, under so many variables
pub record PlainSides : Type 0 where
  pub under : ℕ
  pub left : PlainObject
  pub right : PlainObject

-- What does not go together in an item, whatever is put for that of it which is not written: as the rules' causes, with as
-- much of them as is told.
pub data PlainMismatch : Type 0 where
  not_function : PlainMismatch
  not_pair : PlainMismatch
  not_top : PlainMismatch
  not_monad : PlainMismatch
  not_atomic : PlainMismatch
  not_closed : PlainMismatch
  mode_differs : PlainMismatch
  width : PlainMismatch
  -- the families that are found and wanted
  family_differs : ℕ → ℕ → PlainMismatch
  unknown_head : PlainMismatch
  family_arity : PlainMismatch
  index_differs : PlainSides → PlainMismatch

pub data PlainWhy : Type 0 where
  bad_byte : PlainWhy
  long_name : PlainWhy
  -- no item goes on with the token there; true where it is the end of the file
  unexpected : Bool → PlainWhy
  directive : PlainWhy
  too_deep : PlainWhy
  kind_place : PlainWhy
  not_async : PlainWhy
  redex : PlainWhy
  out_of_range : PlainWhy
  bad_implicit : PlainWhy
  -- the declared name
  duplicate : List ℕ → PlainWhy
  full : PlainWhy
  -- the name without a meaning
  unknown_name : List ℕ → PlainWhy
  -- the numbers of the parts from the item to the one that the rules refuse, and the cause
  kernel : List ℕ → Cause → PlainWhy
  -- the implicit variable
  undetermined : List ℕ → PlainWhy
  ill_typed : PlainMismatch → PlainWhy
  -- the equations that are left
  unresolved : List PlainSides → PlainWhy
  -- how many metavariables are left
  loose : ℕ → PlainWhy
  -- the names of those that have one
  circular : List (Option (List ℕ)) → PlainWhy
  -- as by the rules, of the item with all found that was not written
  rejected : List ℕ → Cause → PlainWhy
  not_yet : PlainWhy

-- a refusal: the byte of the file, and why
pub record PlainRefusal : Type 0 where
  pub at : ℕ
  pub why : PlainWhy

pub data PlainReply : Type 0 where
  -- the place of the new entry
  entry : ℕ → PlainReply
  -- an object and its type
  checked : PlainObject → PlainType → PlainReply
  -- two objects of one type are joined, or not
  equal : PlainReply
  different : PlainReply
  refused : PlainRefusal → PlainReply

abbrev pub is_refusal : PlainReply → Bool
is_refusal (entry k) = false
is_refusal (checked n a) = false
is_refusal equal = false
is_refusal different = false
is_refusal (refused r) = true

abbrev pub plain_sides : Sides → PlainSides
plain_sides s = record { under = s.under; left = plain_obj s.left; right = plain_obj s.right }

abbrev pub plain_mismatch : Mismatch → PlainMismatch
plain_mismatch NotFunction = not_function
plain_mismatch NotPair = not_pair
plain_mismatch NotTop = not_top
plain_mismatch NotMonad = not_monad
plain_mismatch NotAtomic = not_atomic
plain_mismatch NotClosed = not_closed
plain_mismatch ModeDiffers = mode_differs
plain_mismatch Width = width
plain_mismatch (FamilyDiffers found wanted) = family_differs found wanted
plain_mismatch UnknownHead = unknown_head
plain_mismatch FamilyArity = family_arity
plain_mismatch (IndexDiffers sides) = index_differs (plain_sides sides)

abbrev pub plain_why : Why → PlainWhy
plain_why BadByte = bad_byte
plain_why LongName = long_name
plain_why (Unexpected end) = unexpected end
plain_why Directive = directive
plain_why TooDeep = too_deep
plain_why KindPlace = kind_place
plain_why NotAsync = not_async
plain_why Redex = redex
plain_why OutOfRange = out_of_range
plain_why BadImplicit = bad_implicit
plain_why (Duplicate name) = duplicate name
plain_why Full = full
plain_why (UnknownName name) = unknown_name name
plain_why (Kernel r) = kernel r.path.items (plain_cause r.cause)
plain_why (Undetermined name) = undetermined name
plain_why (IllTyped m) = ill_typed (plain_mismatch m)
plain_why (Unresolved equations) = unresolved (map plain_sides equations.items)
plain_why (Loose count) = loose count
plain_why (Circular names) = circular names.items
plain_why (Rejected r) = rejected r.path.items (plain_cause r.cause)
plain_why NotYet = not_yet

abbrev pub plain_reply : Reply → PlainReply
plain_reply (Entry k) = entry k
plain_reply (Checked obj ty) = checked (plain_obj obj) (plain_ty ty)
plain_reply Equal = equal
plain_reply Different = different
plain_reply (Refused at why) = refused (record { at = at; why = plain_why why })
