-- What a step of unification rests on: an equation, and what it says of a metavariable.
use Rattle.std.specs.Prelude.{ℕ, Bool, true, false, ◌+◌, ◌≡◌, ◌<◌, ◌⊎◌, ◌++◌, List, [], ◌∷◌, length, Some}
use Rattle.clf_syntax.specs.declared.tree.Head.TheVariants.{Meta}
use Rattle.clf_syntax.specs.Tree.{PlainObject, atomic, PlainNeutral, head_alone}
use Rattle.clf_syntax.specs.TypeTree.{SimpleType}
use Rattle.store_laws.specs.Additions.{Addition, new, solved, meta_types}
use Rattle.store_laws.specs.Mentions.{mentions}
use Rattle.pattern_laws.specs.Instantiations.{Types, closed}
use Rattle.pattern_laws.specs.Equations.{Locals, scoped, Equation}
use Rattle.pattern_laws.specs.Patterns.{IsFinal, Place, on, lams, arrows, local_at, OnDistinct, OnLocals, LacksMisfits, Covers, inverted, SameTypes, Foreign, Ends, masked, mask_at}
use Rattle.unify_laws.specs.Rigid.{Stands}

-- the equation with its sides changed about
abbrev pub flipped : Equation → Equation
flipped e = record { locals = e.locals; left = e.right; right = e.left; type = e.type }

-- The left side is metavariable m on distinct locals, and o is the right side, inverted.
pub record Assigns (constants metas : Types) (e : Equation) (m : ℕ) (o : PlainObject) : Type 0 where
  pub neutral : PlainNeutral
  pub places : List Place
  pub own : List Place
  pub is_left : e.left ≡ atomic neutral
  pub on_locals : OnLocals (scoped e.locals (closed constants metas)) neutral m places own e.type
  pub lacks : LacksMisfits places own e.right
  pub unmentioned : mentions m e.right ≡ false
  pub covers : Covers places e.right
  pub solution : o ≡ inverted (length e.locals) places e.right

-- The left side is a metavariable on distinct locals. At a rigid place of the right side metavariable k stands on distinct locals, the places zs; each that the mask leaves out is foreign.
pub record Prunes (constants metas : Types) (e : Equation) (k : ℕ) (mask : List Bool) (zs : List Place) (c : SimpleType) : Type 0 where
  pub neutral : PlainNeutral
  pub meta : ℕ
  pub places : List Place
  pub own : List Place
  pub is_left : e.left ≡ atomic neutral
  pub on_locals : OnLocals (scoped e.locals (closed constants metas)) neutral meta places own e.type
  pub lacks : LacksMisfits places own e.right
  pub inner : Locals
  pub depth : ℕ
  pub pruned : PlainNeutral
  pub deeper : length inner ≡ length e.locals + depth
  pub on_distinct : OnDistinct (scoped inner (closed constants metas)) pruned k zs c
  pub stands : Stands depth pruned e.right
  pub foreign : (u w : ℕ) → local_at zs u ≡ Some w → Foreign (length e.locals) places depth w ⊎ (mask_at mask u ≡ true)

-- Both sides are metavariable k on distinct locals, the places zs on the left. From each place that the mask leaves out the way comes to an end.
pub record Aligns (constants metas : Types) (e : Equation) (k : ℕ) (mask : List Bool) (zs : List Place) : Type 0 where
  pub neutral : PlainNeutral
  pub own : List Place
  pub other : PlainNeutral
  pub other_places : List Place
  pub other_own : List Place
  pub is_left : e.left ≡ atomic neutral
  pub is_right : e.right ≡ atomic other
  pub on_left : OnLocals (scoped e.locals (closed constants metas)) neutral k zs own e.type
  pub on_right : OnLocals (scoped e.locals (closed constants metas)) other k other_places other_own e.type
  pub lacks_left : LacksMisfits zs own e.right
  pub lacks_right : LacksMisfits other_places other_own e.left
  pub same : SameTypes zs other_places
  pub ended : (u w : ℕ) → local_at zs u ≡ Some w → Ends zs other_places u ⊎ (mask_at mask u ≡ true)

-- Metavariable k, with the places zs and the result c, keeps the arguments of the mask alone, and at least one goes.
pub record Narrows (constants metas : Types) (e : Equation) (k : ℕ) (mask : List Bool) (zs : List Place) (c : SimpleType) : Type 0 where
  pub type : metas k ≡ Some (arrows zs c)
  pub final : IsFinal c
  pub fewer : length (masked 0 mask zs) < length zs
  pub why : Prunes constants metas e k mask zs c ⊎ (Aligns constants metas e k mask zs × (c ≡ e.type))

-- One of the sides, left or right, is the metavariable.
abbrev pub AssignsEither : Types → Types → Equation → ℕ → PlainObject → Type 0
AssignsEither constants metas e m o = Assigns constants metas e m o ⊎ Assigns constants metas (flipped e) m o

abbrev pub NarrowsEither : Types → Types → Equation → ℕ → List Bool → List Place → SimpleType → Type 0
NarrowsEither constants metas e k mask zs c = Narrows constants metas e k mask zs c ⊎ Narrows constants metas (flipped e) k mask zs c

-- what a step adds: a solution; or a new metavariable, numbered n, on the arguments that are kept, as the solution of k
abbrev pub assigned_more : List Addition → ℕ → PlainObject → List Addition
assigned_more zs m o = zs ++ solved m o ∷ []

abbrev pub narrowed_more : List Addition → ℕ → List Bool → List Place → SimpleType → List Addition
narrowed_more zs k mask ps c = (zs ++ new (arrows (masked 0 mask ps) c) ∷ []) ++ solved k (lams ps (atomic (on (masked 0 mask ps) (head_alone (Meta (length (meta_types zs))))))) ∷ []
