-- The shape in which nothing is passed over is made of the simple type alone, so that neither renumbering nor putting changes it.
use Rattle.std.proofs.Common.{◌≡◌, false, List, ◌∷◌, map, refl, sym, ap, ◌∙◌}
use Rattle.clf_syntax.specs.TypeTree.{PlainType, family, function, both, top, monad, PlainTelescope, end, binding, SimpleType, base, arrow, simple_with, simple_top, lax, SimpleTelescope, simple_end, simple_binding}
use Rattle.clf_syntax.specs.Simple.{erase, erase_telescope}
use Rattle.clf_syntax.specs.Renaming.{Renumbering, ren_type, ren_telescope}
use Rattle.use_contexts.specs.Context.{Context, with_entries}
use Rattle.hered_subst.specs.Substitution.{Environment, SubstitutedType, SubstitutedTelescope}
use Rattle.subst_laws.proofs.Renamed.{erase_renamed, erase_renamed_telescope}
use Rattle.typing_laws.proofs.Erased.{put_type, put_telescope}
use Rattle.gathering.specs.Shape.{Shape, at_family, at_function, at_both, at_top, at_monad, EntryShapes, no_entry, an_entry, unmarked_shape, unmarked_entries, with_shapes}

abbrev mutual
  shape_of : SimpleType → Shape
  shape_of (base f) = at_family f
  shape_of (arrow m d c) = at_function false (shape_of d) (shape_of c)
  shape_of (simple_with c d) = at_both (shape_of c) (shape_of d)
  shape_of simple_top = at_top
  shape_of (lax s) = at_monad (entries_of s)

  entries_of : SimpleTelescope → EntryShapes
  entries_of simple_end = no_entry
  entries_of (simple_binding m d s) = an_entry false (shape_of d) (entries_of s)

functions : {u v x y : Shape} → u ≡ v → x ≡ y → at_function false u x ≡ at_function false v y
functions e f = cc

pairs : {u v x y : Shape} → u ≡ v → x ≡ y → at_both u x ≡ at_both v y
pairs e f = cc

entries : {u v : Shape} {x y : EntryShapes} → u ≡ v → x ≡ y → an_entry false u x ≡ an_entry false v y
entries e f = cc

mutual
  by_erasure : (a : PlainType) → unmarked_shape a ≡ shape_of (erase a)
  by_erasure (family f ns) = refl
  by_erasure (function m a b) = functions (by_erasure a) (by_erasure b)
  by_erasure (both a b) = pairs (by_erasure a) (by_erasure b)
  by_erasure top = refl
  by_erasure (monad s) = ap at_monad (entries_by_erasure s)

  entries_by_erasure : (s : PlainTelescope) → unmarked_entries s ≡ entries_of (erase_telescope s)
  entries_by_erasure end = refl
  entries_by_erasure (binding m a s) = entries (by_erasure a) (entries_by_erasure s)

same_shape : (a b : PlainType) → erase a ≡ erase b → unmarked_shape a ≡ unmarked_shape b
same_shape a b e = by_erasure a ∙ ap shape_of e ∙ sym (by_erasure b)

same_entries : (s t : PlainTelescope) → erase_telescope s ≡ erase_telescope t → unmarked_entries s ≡ unmarked_entries t
same_entries s t e = entries_by_erasure s ∙ ap entries_of e ∙ sym (entries_by_erasure t)

pub renumbered_shape : (r : Renumbering) (a : PlainType) → unmarked_shape (ren_type r a) ≡ unmarked_shape a
renumbered_shape r a = same_shape (ren_type r a) a (erase_renamed r a)

pub renumbered_entries : (r : Renumbering) (s : PlainTelescope) → unmarked_entries (ren_telescope r s) ≡ unmarked_entries s
renumbered_entries r s = same_entries (ren_telescope r s) s (erase_renamed_telescope r s)

pub put_shape : {s : Environment} (a b : PlainType) → SubstitutedType s a b → unmarked_shape b ≡ unmarked_shape a
put_shape a b p = same_shape b a (put_type p)

pub put_entries : {s : Environment} (t u : PlainTelescope) → SubstitutedTelescope s t u → unmarked_entries u ≡ unmarked_entries t
put_entries t u p = same_entries u t (put_telescope p)

-- the shapes of the variables of a context
abbrev pub shapes_of : Context → List Shape
shapes_of g = map (λ e. unmarked_shape e.1) g

pub entered_shapes : (u : PlainTelescope) (g : Context) → with_shapes (unmarked_entries u) (shapes_of g) ≡ shapes_of (with_entries u g)
entered_shapes end g = refl
entered_shapes (binding m a u) g = entered_shapes u ((m, a) ∷ g)
